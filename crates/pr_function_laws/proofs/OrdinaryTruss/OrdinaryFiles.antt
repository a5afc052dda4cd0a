use Rattle.std.proofs.Common.{◌≡◌, ◌≢◌, ◌⊎◌, ◌==◌, ◌++◌, ℕ, Bool, true, false, cond, Option, Some, None, List, [], ◌∷◌, refl, sym, subst, ap, ◌∙◌, inl, inr}
use Rattle.std.proofs.lemmas.Bool.{false≢true}
use Rattle.std.proofs.lemmas.Option.{none-some, same_Some}
use Rattle.std.specs.List.{cons_option}
use Rattle.pr_line.specs.declared.options.Options.{Options}
use Rattle.pr_model.specs.Calls.{Answer, answer_to}
use Rattle.pr_model.specs.Handles.{handle_of}
use Rattle.pr_model.specs.Lawful.{IsLawful}
use Rattle.pr_model.specs.Legal.{IsLegal, IsLegalEntry, after, after_call, state_after}
use Rattle.pr_model.specs.State.{Places, TracedState}
use Rattle.pr_model.specs.declared.calls.Call.{Call}
use Rattle.pr_model.specs.declared.calls.Call.TheVariants as call
use Rattle.pr_model.specs.declared.calls.File.{File}
use Rattle.pr_model.specs.declared.calls.Mode.{Mode}
use Rattle.pr_model.specs.declared.calls.Reply.{Reply}
use Rattle.pr_model.specs.declared.calls.Reply.TheVariants as reply
use Rattle.pr_model.specs.declared.events.Act.{Act}
use Rattle.pr_model.specs.declared.events.Act.TheVariants as act
use Rattle.pr_model.specs.declared.events.Actor.{Actor}
use Rattle.pr_model.specs.declared.events.Actor.TheVariants.{Controller, Lwp, Clock}
use Rattle.pr_model.specs.declared.events.Entry.{Entry}
use Rattle.pr_num.specs.declared.errnos.Errno.{Errno}
use Rattle.pr_num.specs.declared.errnos.Errno.TheVariants.{Noent}
use Rattle.pr_report_laws.proofs.Files.FedFiles.{fed-keeps}
use Rattle.pr_report_laws.proofs.Files.FileLaws.{FileOf, HasFiles, each-has, has-each, same-files, stands-once}
use Rattle.pr_report_laws.proofs.Files.FileSteps.{MakesNext, calm-call, entry-lawful}
use Rattle.pr_report_laws.proofs.Files.KeepLemmas as keep
use Rattle.pr_report_laws.proofs.Files.KeepLemmas.{Grants, Keeps, can_wait}
use Rattle.pr_report_laws.proofs.Files.WatchHistories.{Reaches, answered-calm, cons-exchanges, entry-reaches, exchange-answered, first-reaches, no-exchanges}
use Rattle.pr_report_laws.specs.Watching.{with_exchange}
use Rattle.pr_truss.specs.Feeding.{fed}
use Rattle.pr_truss.specs.FunctionCalls.{next_function_call_of}
use Rattle.pr_truss.specs.FunctionFeeding.{fed_functions}
use Rattle.pr_truss.specs.Marks.{has_functions}
use Rattle.pr_truss.specs.NextCalls.{call_of, next_call_of, opening_call}
use Rattle.pr_truss.specs.Replies.{answer_of}
use Rattle.pr_truss.specs.Trusses.{TrussState, first_truss}
use Rattle.pr_truss.specs.declared.replies.Answer.{Answer as Answered}
use Rattle.pr_truss.specs.declared.replies.Answer.TheVariants.{Accepted, Interrupted}
use Rattle.pr_truss.specs.declared.stages.OpeningStep.TheVariants as opening
use Rattle.pr_truss.specs.declared.stages.Stage.{Stage}
use Rattle.pr_truss.specs.declared.stages.Stage.TheVariants.{Opening, ReadingText, Running, ReadingLwps}
use Rattle.pr_truss_laws.proofs.Replies.FedLemmas.{Changes, fed-changes}
use Rattle.pr_truss_laws.proofs.Replies.FitLemmas.{fed-fits}
use Rattle.pr_truss_laws.proofs.Files.HeldLemmas.{held}
use Rattle.pr_truss_laws.proofs.Files.OpensLemmas.{keeps_handles, plain-leaves}
use Rattle.pr_truss_laws.proofs.Files.OwnLemmas.{Owns, owned}
use Rattle.pr_truss_laws.specs.Exchanges.{Exchange, exchange_in, exchange_of, exchanges}
use Rattle.pr_truss_laws.specs.Sent.{sends}
use Rattle.pr_function_laws.proofs.OrdinaryTruss.OrdinaryCalls.{sees-sends}
use Rattle.pr_function_laws.proofs.OrdinaryTruss.OrdinaryExchanges.{IsFit, Turn, first-fit, goes_on, goes_out, next-fit, turn}
use Rattle.pr_function_laws.proofs.OrdinaryTruss.OrdinaryReplies.{first-ordinary}
use Rattle.pr_function_laws.specs.Opened.{IsFunctionRun}
use Rattle.pr_function_laws.specs.Ordinary.{IsLike, IsTakenUp, PlantsAtFirst, SeesTo, StandsFor, common, entries, exits, faults, in_place, leaves, ordinary, own_fault, plants_at_first, reads_code, refused, runs, same, signals, waits}
use Rattle.pr_function_laws.specs.Runs.{MakesFunctionCalls, functions_after}
use Rattle.pr_function_laws.specs.Soon.{IsCalm, may_wait}

-- Truss with calls of functions along a history: without its breakpoints it has just the files open that it remembers,
-- each as what it opened it for.

-- ---- the exchange of an entry

-- truss after an entry
abbrev pub with_own : TrussState → Option Exchange → TrussState
with_own t None = t
with_own t (Some x) = fed_functions t x.reply

-- the exchange of an entry, if it has one, is of the call that truss makes next
abbrev pub MakesOwn : TrussState → Option Exchange → Type 0
MakesOwn t None = Unit {0}
MakesOwn t (Some x) = next_function_call_of t ≡ Some x.call

own-first : (t : TrussState) (x : Option Exchange) (xs : List Exchange) → MakesFunctionCalls t (cons_option x xs)
    → MakesOwn t x × MakesFunctionCalls (with_own t x) xs
own-first t None xs makes = (tt, makes)
own-first t (Some x) xs makes = makes

pub own-next : (k : ℕ) (t : TrussState) (e : Entry) (h : List Entry) → MakesFunctionCalls t (exchanges k (e ∷ h))
    → MakesOwn t (exchange_of k e) × MakesFunctionCalls (with_own t (exchange_of k e)) (exchanges k h)
own-next k t e h makes =
    own-first t (exchange_of k e) (exchanges k h) (subst (MakesFunctionCalls t) (cons-exchanges k e h) makes)

own-after : (t : TrussState) (x : Option Exchange) (xs : List Exchange)
    → functions_after t (cons_option x xs) ≡ functions_after (with_own t x) xs
own-after t None xs = refl
own-after t (Some x) xs = refl

pub after-own : (k : ℕ) (t : TrussState) (e : Entry) (h : List Entry)
    → functions_after t (exchanges k (e ∷ h)) ≡ functions_after (with_own t (exchange_of k e)) (exchanges k h)
after-own k t e h = ap (functions_after t) (cons-exchanges k e h) ∙ own-after t (exchange_of k e) (exchanges k h)

-- only a call that waits is interrupted in a legal history
waits-alike : (c : Call) → may_wait c ≡ false → can_wait c ≡ false
waits-alike (call.Until moment) is = is
waits-alike (call.Poll handles) is = is
waits-alike (call.CtlWait handle until bytes) is = is
waits-alike _ is = refl

pub entry-calm : (n k : ℕ) (s : TracedState) (e : Entry) (x : Exchange) → IsLegalEntry n s e
    → exchange_of k e ≡ Some x → IsCalm x
unfolding answer_of
entry-calm n k s e x legal own =
    record { waits = λ interrupted. by (may_wait x.call) refl (ap answer_of interrupted) }
  where
    by : (waits : Bool) → may_wait x.call ≡ waits → answer_of x.reply ≡ Interrupted → may_wait x.call ≡ true
    by true is interrupted = is
    by false is interrupted =
        absurd (answered-calm k s x (exchange-answered n k s e x legal own) (waits-alike x.call is) interrupted)

-- a call that neither opens nor closes leaves the handles
acted-leaves : (n k : ℕ) (s : TracedState) (actor : Actor) (did : Act) (x : Exchange)
    → IsLegalEntry n s (record { actor = actor; act = did }) → exchange_in k actor did ≡ Some x
    → keeps_handles x.call ≡ true → (after s (record { actor = actor; act = did })).opens ≡ s.opens
unfolding IsLegalEntry after
acted-leaves n k s (Controller by) (act.Call c r) x legal own keeps = mine (by == k) own
  where
    mine : (b : Bool) → cond {A = Option Exchange} b (Some (record { call = c; reply = r })) None ≡ Some x
        → (after_call s (answer_to s by c)).opens ≡ s.opens
    mine true is =
        let a : Answer = record { state = legal.1.0; reply = r } in
        let called : c ≡ x.call = ap (λ (y : Exchange). y.call) (same_Some _ x is) in
        ap (λ y. (after_call s y).opens) legal.1.1
        ∙ plain-leaves s by c a (subst (λ d. keeps_handles d ≡ true) (sym called) keeps) legal.1.1
    mine false is = absurd (none-some x is)
acted-leaves n k s (Controller by) (act.Turn did) x legal own keeps = absurd (none-some x own)
acted-leaves n k s (Controller by) (act.Tick moment) x legal own keeps = absurd (none-some x own)
acted-leaves n k s (Lwp p l) did x legal own keeps = absurd (none-some x own)
acted-leaves n k s Clock did x legal own keeps = absurd (none-some x own)

entry-leaves : (n k : ℕ) (s : TracedState) (e : Entry) (x : Exchange) → IsLegalEntry n s e
    → exchange_of k e ≡ Some x → keeps_handles x.call ≡ true → (after s e).opens ≡ s.opens
entry-leaves n k s e x legal own keeps = acted-leaves n k s e.actor e.act x legal own keeps

sent-keeps : (c : Call) → sends c ≡ true → keeps_handles c ≡ true
sent-keeps (call.Ctl handle bytes) sent = refl
sent-keeps (call.CtlWait handle until bytes) sent = refl
sent-keeps _ sent = absurd (false≢true sent)

-- ---- a reply to a call that neither opens nor closes

kept-count : (t : TrussState) (pid h : ℕ) (r : Reply) (c : Call) (n m : ℕ) → keeps_handles c ≡ true
    → Changes t pid h r (Some c) n m → m ≡ n
kept-count t pid h r (call.Open of id f mode) n m keeps changes = absurd (false≢true keeps)
kept-count t pid h r (call.Close number) n m keeps changes = absurd (false≢true keeps)
kept-count t pid h r _ n m keeps changes = changes

grants-nothing : (P : ℕ → File → Mode → ℕ → Type 0) (a : Answered) (r : Reply) (c : Call) → keeps_handles c ≡ true
    → Grants P a r (Some c)
grants-nothing P Accepted r (call.Open pid id f mode) keeps = absurd (false≢true keeps)
grants-nothing P _ r c keeps = tt

module _ (k : ℕ) (u : TrussState) (s : TracedState) (g : Reaches k u s) (y : Exchange)
    (next : next_call_of u ≡ Some y.call) (keeps : keeps_handles y.call ≡ true)
    (calm : keep.IsCalm (answer_of y.reply) (Some y.call)) where
  fed-owns : Owns k (fed u y.reply) s
  fed-owns =
      let owns : Owns k u s = g.owns in
      record {
        fits = fed-fits u y.reply owns.fits;
        counts = λ pid h.
            kept-count u pid h y.reply y.call (held pid h u) (held pid h (fed u y.reply)) keeps
            (subst (λ c. Changes u pid h y.reply c (held pid h u) (held pid h (fed u y.reply))) next
            (fed-changes pid h y.reply u owns.fits))
            ∙ owns.counts pid h;
        modes = owns.modes;
      }

  fed-files : HasFiles k (fed u y.reply) s
  fed-files =
      let owns : Owns k u s = g.owns in
      let files : HasFiles k u s = g.files in
      let lawful : IsLawful s = g.lawful in
      let kept : Keeps (FileOf k s) (fed u y.reply) =
      fed-keeps (FileOf k s) u y.reply owns.fits (has-each k u s files) files.stands files.freed
      (subst (Grants (FileOf k s) (answer_of y.reply) y.reply) (sym next)
      (grants-nothing (FileOf k s) (answer_of y.reply) y.reply y.call keeps))
      (subst (keep.IsCalm (answer_of y.reply)) (sym next) calm) in
      each-has k (fed u y.reply) s kept.files
      (stands-once k (fed u y.reply) s fed-owns lawful.exclusive kept.files) kept.stands kept.freed

-- ---- one entry

-- how both calls stand to the handles, where the exchange is not the same
record IsQuiet (x y : Exchange) : Type 0 where
  before : keeps_handles x.call ≡ true
  now : keeps_handles y.call ≡ true
  calm : keep.IsCalm (answer_of y.reply) (Some y.call)

stands-quiet : {o : Options} {c d : Call} (r : Reply) → StandsFor o c d
    → (can_wait c ≡ false → answer_of r ≢ Interrupted)
    → IsQuiet (record { call = c; reply = r }) (record { call = d; reply = r })
stands-quiet r (common m is) calm =
    record { before = refl; now = refl; calm = calm-call (answer_of r) _ (λ still. calm refl) }
stands-quiet r waits calm =
    record { before = refl; now = refl; calm = calm-call (answer_of r) _ (λ still. calm still) }
stands-quiet r signals calm =
    record { before = refl; now = refl; calm = calm-call (answer_of r) _ (λ still. calm refl) }
stands-quiet r faults calm =
    record { before = refl; now = refl; calm = calm-call (answer_of r) _ (λ still. calm refl) }
stands-quiet r entries calm =
    record { before = refl; now = refl; calm = calm-call (answer_of r) _ (λ still. calm refl) }
stands-quiet r exits calm =
    record { before = refl; now = refl; calm = calm-call (answer_of r) _ (λ still. calm refl) }
stands-quiet r (runs flags step) calm =
    record { before = refl; now = refl; calm = calm-call (answer_of r) _ (λ still. calm refl) }
stands-quiet r leaves calm =
    record { before = refl; now = refl; calm = calm-call (answer_of r) _ (λ still. calm refl) }

-- a call at first does not wait
first-still : {o : Options} {control : ℕ} {c : Call} → PlantsAtFirst o control c → can_wait c ≡ false
first-still (reads_code below) = refl
first-still (plants_at_first below) = refl

-- the call that was not made
module _ (s : TrussState) (c d : Call) (errno : Errno) where
  abbrev AreQuiet : Type 0
  AreQuiet =
      IsQuiet (record { call = c; reply = reply.Fail errno }) (record { call = d; reply = reply.Fail errno })

  gone-quiet : sends c ≡ true → keeps_handles d ≡ true → errno ≡ Noent → AreQuiet
  unfolding answer_of
  gone-quiet sent now gone = record {
    before = sent-keeps c sent;
    now = now;
    calm = subst (λ e. keep.IsCalm (answer_of (reply.Fail e)) (Some d)) (sym gone) tt;
  }

  taken-quiet : (stage : Stage) → SeesTo s stage c → IsTakenUp stage errno → call_of s stage ≡ Some d
      → (can_wait c ≡ false → answer_of (reply.Fail errno) ≢ Interrupted) → AreQuiet
  unfolding call_of opening_call
  taken-quiet (Opening place opening.Start) sees may is calm = record {
    before = sent-keeps c (sees-sends s (Opening place opening.Start) c sees);
    now = ap keeps_handles (sym (same_Some _ d is));
    calm = calm-call (answer_of (reply.Fail errno)) d (λ still. calm (first-still sees));
  }
  taken-quiet (Running place) sees may is calm =
      gone-quiet (sees-sends s (Running place) c sees) (ap keeps_handles (sym (same_Some _ d is))) may
  taken-quiet (ReadingText place l from len) sees may is calm =
      gone-quiet (sees-sends s (ReadingText place l from len) c sees) (ap keeps_handles (sym (same_Some _ d is))) may
  taken-quiet ReadingLwps sees may is calm =
      gone-quiet (sees-sends s ReadingLwps c sees) (ap keeps_handles (sym (same_Some _ d is))) may
  taken-quiet _ sees may is calm = absurd may

like-quiet : {s : TrussState} {x y : Exchange} → IsLike s x y
    → (can_wait x.call ≡ false → answer_of x.reply ≢ Interrupted) → (x ≡ y) ⊎ IsQuiet x y
unfolding answer_of next_call_of
like-quiet (same unsent none_own) calm = inl refl
like-quiet (in_place {r = r} stands) calm = inr (stands-quiet r stands calm)
like-quiet {s} (refused {c = c} {d = d} {errno = errno} sees may is) calm =
    inr (taken-quiet s c d errno s.stage sees may is calm)
like-quiet (own_fault own) calm = inr (record { before = refl; now = refl; calm = tt })

pub record Follows (k : ℕ) (o : Options) (t : TrussState) (s : TracedState) : Type 0 where
  pub reaches : Reaches k (ordinary t) s
  pub fit : IsFit o t

module _ (o : Options) (has : has_functions o ≡ true) (off : o.follow ≡ false) (n k : ℕ) (t : TrussState)
    (s : TracedState) (e : Entry) (f : Follows k o t s) (legal : IsLegalEntry n s e) where
  reached : Reaches k (ordinary t) s
  reached = f.reaches

  -- the handles are as they were
  moved : (u : TrussState) → (after s e).opens ≡ s.opens → Owns k u s → HasFiles k u s → Reaches k u (after s e)
  moved u same_opens owns files =
      let handles : (m : ℕ) → handle_of (after s e).opens k m ≡ handle_of s.opens k m =
      λ m. ap (λ (p : Places). handle_of p k m) same_opens in
      record {
        lawful = entry-lawful n s e (let g = reached in g.lawful) legal;
        owns = record {
          fits = owns.fits;
          counts = λ pid h. owns.counts pid h ∙ ap (owned pid) (sym (handles h));
          modes = λ m held is. owns.modes m held (sym (handles m) ∙ is);
        };
        files = same-files k u s (after s e) handles files;
      }

  others-reach : exchange_of k e ≡ None → Reaches k (ordinary t) (after s e)
  others-reach none =
      subst (λ u. Reaches k u (after s e)) (ap (with_exchange (ordinary t)) none)
      (entry-reaches n k (ordinary t) s e reached legal (subst (MakesNext (ordinary t)) (sym none) tt))

  module _ (x : Exchange) (own : exchange_of k e ≡ Some x) where
    same-reach : next_call_of (ordinary t) ≡ Some x.call → Reaches k (fed (ordinary t) x.reply) (after s e)
    same-reach next =
        subst (λ u. Reaches k u (after s e)) (ap (with_exchange (ordinary t)) own)
        (entry-reaches n k (ordinary t) s e reached legal (subst (MakesNext (ordinary t)) (sym own) next))

    quiet-reach : (y : Exchange) → next_call_of (ordinary t) ≡ Some y.call → IsQuiet x y
        → Reaches k (fed (ordinary t) y.reply) (after s e)
    quiet-reach y next q =
        moved (fed (ordinary t) y.reply) (entry-leaves n k s e x legal own q.before)
        (fed-owns k (ordinary t) s reached y next q.now q.calm)
        (fed-files k (ordinary t) s reached y next q.now q.calm)

    like-reach : (y : Exchange) → next_call_of (ordinary t) ≡ Some y.call → (x ≡ y) ⊎ IsQuiet x y
        → Reaches k (fed (ordinary t) y.reply) (after s e)
    like-reach y next (inl is) =
        subst (λ (z : Exchange). Reaches k (fed (ordinary t) z.reply) (after s e)) is
        (same-reach (subst (λ (z : Exchange). next_call_of (ordinary t) ≡ Some z.call) (sym is) next))
    like-reach y next (inr quiet) = quiet-reach y next quiet

    turn-reach : Turn t x → Reaches k (ordinary (fed_functions t x.reply)) (after s e)
    turn-reach (goes_out sees over stay) =
        let g = reached in
        let sent : sends x.call ≡ true = sees-sends t t.stage x.call sees in
        subst (λ u. Reaches k u (after s e)) (sym stay)
        (moved (ordinary t) (entry-leaves n k s e x legal own (sent-keeps x.call sent)) g.owns g.files)
    turn-reach (goes_on y like next now) =
        subst (λ u. Reaches k u (after s e)) (sym now)
        (like-reach y next (like-quiet like (answered-calm k s x (exchange-answered n k s e x legal own))))

  pub entry-follows : (x : Option Exchange) → exchange_of k e ≡ x → MakesOwn t x
      → Follows k o (with_own t x) (after s e)
  entry-follows None none next = record { reaches = others-reach none; fit = f.fit }
  entry-follows (Some x) own next =
      let calm = entry-calm n k s e x legal own in
      record {
        reaches = turn-reach x own (turn o has off t x f.fit next calm);
        fit = next-fit o has off t x f.fit next calm;
      }

-- ---- histories

-- truss halfway in a history
pub record Halfway (n k : ℕ) (o : Options) (t : TrussState) (s : TracedState) (before later : List Entry) : Type 0 where
  pub follows : Follows k o (functions_after t (exchanges k before)) (state_after s before)
  pub legal : IsLegal n (state_after s before) later
  pub makes : MakesFunctionCalls (functions_after t (exchanges k before)) (exchanges k later)

pub halfway : (before later : List Entry) (n k : ℕ) (o : Options) (t : TrussState) (s : TracedState)
    → has_functions o ≡ true → o.follow ≡ false → Follows k o t s → IsLegal n s (before ++ later)
    → MakesFunctionCalls t (exchanges k (before ++ later)) → Halfway n k o t s before later
halfway [] later n k o t s has off f legal makes =
    let none : t ≡ functions_after t (exchanges k []) = ap (functions_after t) (sym (no-exchanges k)) in
    record {
      follows = subst (λ (u : TrussState). Follows k o u s) none f;
      legal = legal;
      makes = subst (λ (u : TrussState). MakesFunctionCalls u (exchanges k later)) none makes;
    }
halfway (e ∷ before) later n k o t s has off f legal makes =
    let m = own-next k t e (before ++ later) makes in
    let here = entry-follows o has off n k t s e f legal.0 (exchange_of k e) refl m.0 in
    let rest =
    halfway before later n k o (with_own t (exchange_of k e)) (after s e) has off here legal.1 m.1 in
    let is = sym (after-own k t e before) in
    record {
      follows = subst (λ (u : TrussState). Follows k o u (state_after (after s e) before)) is rest.follows;
      legal = rest.legal;
      makes = subst (λ (u : TrussState). MakesFunctionCalls u (exchanges k later)) is rest.makes;
    }

pub run-halfway : (n k : ℕ) (o : Options) (s : TracedState) (before later : List Entry)
    → IsFunctionRun n k o s (before ++ later) → Halfway n k o (first_truss o) s before later
run-halfway n k o s before later run =
    halfway before later n k o (first_truss o) s run.has run.follows_none
    (record {
      reaches =
          subst (λ (u : TrussState). Reaches k u s) (sym (first-ordinary o))
          (first-reaches k o s run.lawful run.nothing_open);
      fit = first-fit o run.has run.follows_none;
    }) run.legal run.makes
