use Rattle.std.proofs.Common.{◌≡◌, ◌<◌, ◌≤◌, ◌++◌, ℕ, zero, suc, Bool, true, false, Option, Some, None, List, [], ◌∷◌, length, map, position, refl, sym, subst, ap, ◌∙◌, append_assoc, arith, inl, inr}
use Rattle.std.proofs.lemmas.Bool.{false≢true}
use Rattle.std.proofs.lemmas.Option.{none-some, same_Some}
use Rattle.std.specs.List.{cons_option, slice_get}
use Rattle.pr_line.specs.declared.options.Options.{Options}
use Rattle.pr_model.specs.Handles.{handle_of}
use Rattle.pr_model.specs.Legal.{IsLegal, IsLegalEntry, after, state_after}
use Rattle.pr_model.specs.Replies.{number_of}
use Rattle.pr_model.specs.State.{TracedState}
use Rattle.pr_model.specs.declared.calls.Call.{Call}
use Rattle.pr_model.specs.declared.calls.Call.TheVariants as call
use Rattle.pr_model.specs.declared.calls.File.{File}
use Rattle.pr_model.specs.declared.calls.File.TheVariants as file
use Rattle.pr_model.specs.declared.calls.Mode.{Mode}
use Rattle.pr_model.specs.declared.calls.Mode.TheVariants.{WriteExcl}
use Rattle.pr_model.specs.declared.calls.Reply.TheVariants as reply
use Rattle.pr_model.specs.declared.events.Entry.{Entry}
use Rattle.pr_model.specs.declared.handles.Held.{Held}
use Rattle.pr_num.specs.Limits.{read_limit}
use Rattle.pr_truss.specs.Feeding.{fed}
use Rattle.pr_truss.specs.NextCalls.{call_of, child_call, freeing_call, next_call_of, opening_call}
use Rattle.pr_truss.specs.Stops.{has_control}
use Rattle.pr_truss.specs.Trusses.{TrussState, traced_at, with_stage}
use Rattle.pr_truss.specs.declared.processes.Traced.{Traced}
use Rattle.pr_truss.specs.declared.stages.AfterClosing.TheVariants.{GoOn, RunParent}
use Rattle.pr_truss.specs.declared.stages.ChildStep.{ChildStep}
use Rattle.pr_truss.specs.declared.stages.ChildStep.TheVariants as child
use Rattle.pr_truss.specs.declared.stages.FreeingStep.{FreeingStep}
use Rattle.pr_truss.specs.declared.stages.FreeingStep.TheVariants as freeing
use Rattle.pr_truss.specs.declared.stages.OpeningStep.{OpeningStep}
use Rattle.pr_truss.specs.declared.stages.OpeningStep.TheVariants as opening
use Rattle.pr_truss.specs.declared.stages.Stage.{Stage}
use Rattle.pr_truss.specs.declared.stages.Stage.TheVariants.{Spawning, Opening, Polling, ReadingStatus, ReadingText, OpeningChildControl, OpeningChild, Running, Closing, FreeingChild}
use Rattle.pr_truss_laws.proofs.Files.HeldLemmas.{at_place}
use Rattle.pr_truss_laws.proofs.Files.OwnLemmas.{Owns}
use Rattle.pr_truss_laws.proofs.Soon.LeavingLemmas as leaving
use Rattle.pr_truss_laws.proofs.Soon.PolledLemmas.{Near, Nears, fed-near, leaves, named-near, named-read, nearer}
use Rattle.pr_truss_laws.specs.Exchanges.{Exchange, Makes, exchange_of, exchanges, truss_after, truss_at}
use Rattle.pr_truss_laws.specs.Polled.{IsNoEndOf, PollNames}
use Rattle.pr_truss_laws.specs.Runs.{IsTrussRun}
use Rattle.pr_report_laws.proofs.Files.FileLaws.{HasFiles, IsFileOf}
use Rattle.pr_report_laws.proofs.Files.FileSteps.{MakesNext, makes-next}
use Rattle.pr_report_laws.proofs.Files.FileUses.{polled-place, standing, status-read}
use Rattle.pr_report_laws.proofs.Files.KeepLemmas.{can_wait}
use Rattle.pr_report_laws.proofs.Files.WatchHistories.{IsAnswered, Reaches, after-cons, answered-calm, cons-exchanges, entry-reaches, exchange-answered, no-exchanges, run-reaches}
use Rattle.pr_report_laws.proofs.Invariant.StandLemmas.{Stands}
use Rattle.pr_report_laws.proofs.Machine.PollLaws.{poll-named}
use Rattle.pr_report_laws.proofs.Memory.WatchMemory.{reached-comes}
use Rattle.pr_report_laws.proofs.Watching.BeginsOnlyLaws.{child-waits}
use Rattle.pr_report_laws.proofs.Watching.HistoryParts.{front-run, rest-legal, rest-makes, truss_at-both}
use Rattle.pr_report_laws.specs.Named.{IsNamedIn, IsRunOrClosedIn, IsSoonDone, IsWaitedFor, LooksAtWhatIsNamed, ReadsStatusFirst, RunsBeforeItPolls, closes, runs}
use Rattle.pr_report_laws.specs.Watching.{fed_by_entry, with_exchange}

-- In a legal history truss makes at most twelve calls between a poll that named a process and the end of its look at
-- it: no call that comes between waits, so none is interrupted.

-- ---- the calls of the look

-- none of them waits
near-calm : (t : TrussState) (k n : ℕ) (stage : Stage) (c : Call) → Nears t.traced k n stage
    → call_of t stage ≡ Some c → can_wait c ≡ false
unfolding call_of
near-calm t k n (ReadingStatus place) c near is = ap can_wait (sym (same_Some _ c is))
near-calm t k n (ReadingText place lwp at len) c near is = ap can_wait (sym (same_Some _ c is))
near-calm t k n (OpeningChildControl parent pid) c near is = ap can_wait (sym (same_Some _ c is))
near-calm t k n (OpeningChild parent place step) c near is =
    ap can_wait (sym (same_Some _ c is)) ∙ child-waits (traced_at t place) step
near-calm t k n (Running place) c near is = ap can_wait (sym (same_Some _ c is))
near-calm t k n (Closing place (RunParent parent)) c near is = ap can_wait (sym (same_Some _ c is))
near-calm t k n (Closing place GoOn) c near is = ap can_wait (sym (same_Some _ c is))
near-calm t k n _ c near is = absurd near

next-calm : (t : TrussState) (k n : ℕ) (c : Call) → Nears t.traced k n t.stage → next_call_of t ≡ Some c
    → can_wait c ≡ false
unfolding next_call_of
next-calm t k n c near is = near-calm t k n t.stage c near is

-- ---- along the entries

module _ (n k pid : ℕ) (p : Traced) (own : p.pid ≡ pid) (place : ℕ) where
  -- a call that neither runs the process nor closes a file of it, in the words of the machine and in those of truss
  pub no-end : (t : TrussState) (s : TracedState) (e : Entry) (x : Exchange) → HasFiles k t s → leaving.Stands p t place
      → exchange_of k e ≡ Some x → (IsRunOrClosedIn k pid p.control s e → ⊥) → IsNoEndOf p x
  no-end t s e x files here its none = record {
    not_run = λ is. none (runs x.reply (its ∙ ap (λ (c : Call). Some (record { call = c; reply = x.reply })) is));
    not_closed = λ handle is. record {
      control =
          λ same. closed handle is
          (subst (λ m. IsFileOf k s (traced_at t place).pid m file.Ctl WriteExcl) (here.same.control ∙ same)
          (files.control place here.within));
      status = λ same. closed handle is (files.status place handle here.within (here.same.status ∙ same));
      lstatus = λ same. closed handle is (files.lstatus place handle here.within (here.same.lstatus ∙ same));
      memory = λ same. closed handle is (files.memory place handle here.within (here.same.memory ∙ same));
    };
  }
    where
      closed : {f : File} {mode : Mode} (handle : ℕ) → x.call ≡ call.Close handle
          → IsFileOf k s (traced_at t place).pid handle f mode → ⊥
      closed handle is file =
          none
          (closes handle x.reply _ (its ∙ ap (λ (c : Call). Some (record { call = c; reply = x.reply })) is) file.is
          (here.same.pid ∙ own))

  -- one call of truss
  pub nearer-by : (t : TrussState) (s : TracedState) (e : Entry) (x : Exchange) (m : ℕ) → Reaches k t s
      → Near p place m t → IsLegalEntry n s e → exchange_of k e ≡ Some x → next_call_of t ≡ Some x.call
      → IsNoEndOf p x → (left : ℕ) × ((left < m) × Near p place left (fed t x.reply))
  nearer-by t s e x m g near legal its next none =
      elim (fed-near p place x t m near next none) [
        | nearer left less it ↦ (left, (less, it))
        | leaves left less way ↦
            let c = reached-comes k t s x.reply g in
            elim (c.leaves way.leaves) [
              | inl before ↦ absurd (false≢true (sym near.stays ∙ before))
              | inr interrupted ↦ absurd
                  (answered-calm k s x (exchange-answered n k s e x legal its)
                  (next-calm t place m x.call near.soon next) interrupted)
            ]
      ]

  pub later-waits : (s : TracedState) (e : Entry) (h : List Entry) → IsWaitedFor k pid p.control s (e ∷ h)
      → IsWaitedFor k pid p.control (after s e) h
  later-waits s e h w = record {
    none = λ before later f is done. w.none (e ∷ before) later f (ap (λ (es : List Entry). e ∷ es) is) done;
  }

  entries-soon : (h : List Entry) (t : TrussState) (s : TracedState) (m : ℕ) → Reaches k t s → Near p place m t
      → IsLegal n s h → Makes t (exchanges k h) → IsWaitedFor k pid p.control s h → length (exchanges k h) ≤ m
  entries-soon [] t s m g near legal makes waits = omega (arith, ap length (no-exchanges k))
  entries-soon (e ∷ h) t s m g near legal makes waits =
      let first = makes-next k t e h makes in
      subst (λ (xs : List Exchange). length xs ≤ m) (sym (cons-exchanges k e h))
      (by (exchange_of k e) refl first.0 (entry-reaches n k t s e g legal.0 first.0) first.1
      (λ u left later near rest. entries-soon h u (after s e) left later near legal.1 rest (later-waits s e h waits)))
    where
      by : (x : Option Exchange) → exchange_of k e ≡ x → MakesNext t x → Reaches k (with_exchange t x) (after s e)
          → Makes (with_exchange t x) (exchanges k h)
          → ((u : TrussState) (left : ℕ) → Reaches k u (after s e) → Near p place left u → Makes u (exchanges k h)
          → length (exchanges k h) ≤ left)
          → length (cons_option x (exchanges k h)) ≤ m
      by None its next later rest others = others t m later near rest
      by (Some x) its next later rest others =
          let one =
          nearer-by t s e x m g near legal.0 its next
          (no-end t s e x g.files near.here its (waits.none [] h e refl)) in
          omega (arith, others (fed t x.reply) one.0 later one.1.1 rest, one.1.0)

  -- Each call of truss among these entries, wherever the look at the process has come to, ends it not.
  pub record EndsNowhere (t : TrussState) (s : TracedState) (h : List Entry) : Type 0 where
    pub none : (before later : List Entry) (e : Entry) (x : Exchange) (m : ℕ) → h ≡ before ++ e ∷ later
        → exchange_of k e ≡ Some x
        → let u = truss_after t (exchanges k before) in
        Near p place m u → Reaches k u (state_after s before) → next_call_of u ≡ Some x.call → IsNoEndOf p x

  pub after-entry : (t : TrussState) (e : Entry) (before : List Entry)
      → truss_after t (exchanges k (e ∷ before)) ≡ truss_after (fed_by_entry k t e) (exchanges k before)
  after-entry t e before =
      ap (truss_after t) (cons-exchanges k e before) ∙ after-cons t (exchange_of k e) (exchanges k before)

  later-ends : (t : TrussState) (s : TracedState) (e : Entry) (h : List Entry) → EndsNowhere t s (e ∷ h)
      → EndsNowhere (fed_by_entry k t e) (after s e) h
  later-ends t s e h w = record {
    none = λ before later f x m is own near reached next.
        let same = sym (after-entry t e before) in
        w.none (e ∷ before) later f x m (ap (λ (es : List Entry). e ∷ es) is) own
        (subst (Near p place m) same near)
        (subst (λ (u : TrussState). Reaches k u (state_after (after s e) before)) same reached)
        (subst (λ (u : TrussState). next_call_of u ≡ Some x.call) same next);
  }

  -- where the process is waited for
  pub waited-ends : (t : TrussState) (s : TracedState) (h : List Entry) → IsWaitedFor k pid p.control s h
      → EndsNowhere t s h
  waited-ends t s h w = record {
    none = λ before later e x m is its near reaches next.
        no-end _ _ e x reaches.files near.here its (w.none before later e is);
  }

  first-none : (t : TrussState) → truss_after t (exchanges k []) ≡ t
  first-none t = ap (truss_after t) (no-exchanges k)

  -- it comes nearer with each of these calls
  pub near-on : (h : List Entry) (t : TrussState) (s : TracedState) (m : ℕ) → Reaches k t s → Near p place m t
      → IsLegal n s h → Makes t (exchanges k h) → EndsNowhere t s h
      → (left : ℕ) × ((left ≤ m) × Near p place left (truss_after t (exchanges k h)))
  near-on [] t s m g near legal makes ends =
      (m, (omega arith, subst (λ xs. Near p place m (truss_after t xs)) (sym (no-exchanges k)) near))
  near-on (e ∷ h) t s m g near legal makes ends =
      let first = makes-next k t e h makes in
      let it =
      by (exchange_of k e) refl first.0 (entry-reaches n k t s e g legal.0 first.0) first.1
      (λ left later near rest. near-on h (fed_by_entry k t e) (after s e) left later near legal.1 rest
      (later-ends t s e h ends)) in (
        it.0,
        (
          it.1.0,
          subst (Near p place it.0) (sym (after-entry t e h)) it.1.1,
        ),
      )
    where
      by : (x : Option Exchange) → exchange_of k e ≡ x → MakesNext t x
          → Reaches k (fed_by_entry k t e) (after s e) → Makes (fed_by_entry k t e) (exchanges k h)
          → ((left : ℕ) → Reaches k (fed_by_entry k t e) (after s e) → Near p place left (fed_by_entry k t e)
          → Makes (fed_by_entry k t e) (exchanges k h)
          → (low : ℕ) × ((low ≤ left) × Near p place low (truss_after (fed_by_entry k t e) (exchanges k h))))
          → (low : ℕ) × ((low ≤ m) × Near p place low (truss_after (fed_by_entry k t e) (exchanges k h)))
      by None its next later rest others =
          others m later (subst (Near p place m) (sym (ap (with_exchange t) its)) near) rest
      by (Some x) its next later rest others =
          let same = sym (first-none t) in
          let none : IsNoEndOf p x =
          ends.none [] h e x m refl its (subst (Near p place m) same near)
          (subst (λ (u : TrussState). Reaches k u s) same g)
          (subst (λ (u : TrussState). next_call_of u ≡ Some x.call) same next) in
          let one = nearer-by t s e x m g near legal.0 its next none in
          let on =
          others one.0 later (subst (Near p place one.0) (sym (ap (with_exchange t) its)) one.1.1) rest in
          (on.0, (omega (arith, on.1.0, one.1.0), on.1.1))

-- ---- the poll

abbrev is_poll : Call → Bool
is_poll (call.Poll handles) = true
is_poll _ = false

opening-polls : (o : Options) (u : Traced) (step : OpeningStep) → is_poll (opening_call o u step) ≡ false
unfolding opening_call
opening-polls o u opening.OpenStatus = refl
opening-polls o u _ = refl

child-polls : (u : Traced) (step : ChildStep) → is_poll (child_call u step) ≡ false
unfolding child_call
child-polls u child.SetRelease = refl
child-polls u _ = refl

freeing-polls : (pid : ℕ) (step : FreeingStep) → is_poll (freeing_call pid step) ≡ false
unfolding freeing_call
freeing-polls pid freeing.OpenControl = refl
freeing-polls pid _ = refl

-- truss polls at one stage alone
module _ (t : TrussState) (handles : List ℕ) where
  other-call : {A : Type 0} (c : Call) → is_poll c ≡ false → Some c ≡ Some (call.Poll handles) → A
  other-call c not is = absurd (false≢true (sym not ∙ ap is_poll (same_Some c (call.Poll handles) is)))

  pub poll-stage : (stage : Stage) → call_of t stage ≡ Some (call.Poll handles)
      → (stage ≡ Polling) × (map (λ (u : Traced). u.control) t.traced ≡ handles)
  unfolding call_of
  poll-stage Polling is = (refl, cc)
  poll-stage (Opening place step) is =
      other-call (opening_call t.options (traced_at t place) step)
      (opening-polls t.options (traced_at t place) step) is
  poll-stage (OpeningChild parent place step) is =
      other-call (child_call (traced_at t place) step) (child-polls (traced_at t place) step) is
  poll-stage (FreeingChild of step) is = other-call (freeing_call of step) (freeing-polls of step) is
  poll-stage (Spawning program) is = cc
  poll-stage _ is = cc

  next-polls : next_call_of t ≡ Some (call.Poll handles)
      → (t.stage ≡ Polling) × (map (λ (u : Traced). u.control) t.traced ≡ handles)
  unfolding next_call_of
  next-polls is = poll-stage t.stage is

-- the handle at a place of those that a poll names is that of the process there
pub control-at : (ts : List Traced) (place handle : ℕ)
    → slice_get (map (λ (u : Traced). u.control) ts) place ≡ Some handle
    → (place < length ts) × ((at_place ts place).control ≡ handle)
control-at [] place handle is = absurd (none-some handle is)
control-at (u ∷ ts) zero handle is = (omega arith, same_Some u.control handle is)
control-at (u ∷ ts) (suc place) handle is =
    let rest = control-at ts place handle is in
    (omega (arith, rest.0), rest.1)

-- ---- the law

module _ (n k : ℕ) (o : Options) (pid handle : ℕ) (s : TracedState) (before between : List Entry) (e : Entry)
    (run : IsTrussRun n k o s (before ++ e ∷ between)) (names : IsNamedIn k pid handle (state_after s before) e)
    (waits : IsWaitedFor k pid handle (after (state_after s before) e) between) where
  t : TrussState
  t = truss_at k o before

  now : TracedState
  now = state_after s before

  reached : Reaches k t now
  unfolding t now
  reached = run-reaches n k o s before (front-run n k o s before (e ∷ between) run)

  abbrev polled : Exchange
  polled = record { call = call.Poll names.handles; reply = reply.Ready handle }

  legal : IsLegal n now (e ∷ between)
  unfolding now
  legal = rest-legal n k o s before (e ∷ between) run

  makes : MakesNext t (exchange_of k e) × Makes (fed_by_entry k t e) (exchanges k between)
  unfolding t
  makes = makes-next k (truss_at k o before) e between (rest-makes n k o s before (e ∷ between) run)

  next : next_call_of t ≡ Some (call.Poll names.handles)
  next = subst (MakesNext t) names.is makes.0

  polls : (t.stage ≡ Polling) × (map (λ (u : Traced). u.control) t.traced ≡ names.handles)
  polls = next-polls t names.handles next

  -- the handle is that of the process at this place
  at : (place : ℕ) × ((place < length t.traced) × ((traced_at t place).control ≡ handle))
  at =
      let g = reached in
      let y : IsAnswered k now polled = exchange-answered n k now e polled legal.0 names.is in
      let it = poll-named now k names.handles y.answer handle y.is y.reply in (
        it.place,
        control-at t.traced it.place handle (ap (λ (ms : List ℕ). slice_get ms it.place) polls.1 ∙ it.named),
      )

  abbrev place : ℕ
  place = at.0

  own : (traced_at t place).pid ≡ pid
  unfolding now
  own =
      let g = reached in
      let files : HasFiles k t now = g.files in
      let file : IsFileOf k now (traced_at t place).pid (traced_at t place).control file.Ctl WriteExcl =
      files.control place at.1.0 in
      let there : handle_of now.opens k handle ≡ Some names.held = names.there in
      ap (λ (h : Held). h.pid) (same_Some _ names.held (sym file.is
      ∙ ap (λ m. handle_of now.opens k m) at.1.1 ∙ there)) ∙ names.of

  stays : t.leaving ≡ false
  stays =
      let g = reached in
      let w : Stands t.traced t.leaving Polling = standing k t now Polling g.files polls.0 in
      w.leaves

  named : PollNames t (reply.Ready handle) place
  named =
      let g = reached in
      record {
        polls = polls.0;
        handle = handle;
        ready = refl;
        there =
            subst (λ m. position (has_control m) t.traced ≡ Some place) at.1.1
            (polled-place k t now g.files place at.1.0);
      }

  reads : fed_by_entry k t e ≡ with_stage t (ReadingStatus place)
  reads = ap (with_exchange t) names.is ∙ named-read t (reply.Ready handle) place named

  -- the call that comes next reads the status of the process
  looked : (xs : List Exchange) → Makes (fed_by_entry k t e) xs → ReadsStatusFirst k pid (after now e) xs
  unfolding next_call_of call_of
  looked [] made = tt
  looked (x ∷ xs) made =
      let u : TrussState = with_stage t (ReadingStatus place) in
      let later : Reaches k u (after now e) =
      subst (λ (v : TrussState). Reaches k v (after now e)) reads (entry-reaches n k t now e reached legal.0 makes.0) in
      let files : HasFiles k u (after now e) = later.files in
      let owns : Owns k u (after now e) = later.owns in
      let its = status-read k u (after now e) files owns.fits place refl in
      let called : next_call_of u ≡ Some x.call = subst (λ v. next_call_of v ≡ Some x.call) reads made.0 in (
        number_of (traced_at t place).status,
        (
          record { held = _; there = its.is; of = own; file = refl },
          sym (same_Some (call.Read (number_of (traced_at t place).status) 0 read_limit) x.call called),
        ),
      )

  pub named-looks : (xs : List Exchange) → Makes (fed_by_entry k (truss_at k o before) e) xs
      → ReadsStatusFirst k pid (after (state_after s before) e) xs
  unfolding t now
  named-looks xs made = looked xs made

  pub named-soon : length (exchanges k between) ≤ 12
  unfolding now
  named-soon =
      let u : TrussState = with_stage t (ReadingStatus place) in
      let later : Reaches k u (after (state_after s before) e) =
      subst (λ (v : TrussState). Reaches k v (after (state_after s before) e)) reads
      (entry-reaches n k t (state_after s before) e reached legal.0 makes.0) in
      entries-soon n k pid (traced_at t place) own place between u (after (state_after s before) e) 12 later
      (named-near t place at.1.0 stays) legal.1
      (subst (λ (v : TrussState). Makes v (exchanges k between)) reads makes.1)
      (subst (λ m. IsWaitedFor k pid m (after (state_after s before) e) between) (sym at.1.1) waits)

  -- so long as the process is waited for truss does not poll
  no-poll-then : (handles : List ℕ) → next_call_of (truss_at k o (before ++ e ∷ between)) ≡ Some (call.Poll handles)
      → ⊥
  unfolding t now next_call_of
  no-poll-then handles is =
      let u : TrussState = with_stage t (ReadingStatus place) in
      let later : Reaches k u (after (state_after s before) e) =
      subst (λ (v : TrussState). Reaches k v (after (state_after s before) e)) reads
      (entry-reaches n k t (state_after s before) e reached legal.0 makes.0) in
      let p : Traced = traced_at t place in
      let near =
      near-on n k pid p own place between u (after (state_after s before) e) 12 later
      (named-near t place at.1.0 stays) legal.1
      (subst (λ (v : TrussState). Makes v (exchanges k between)) reads makes.1)
      (waited-ends n k pid p own place u (after (state_after s before) e) between
      (subst (λ m. IsWaitedFor k pid m (after (state_after s before) e) between) (sym at.1.1) waits)) in
      let end : truss_after u (exchanges k between) ≡ truss_at k o (before ++ e ∷ between) =
      ap (λ (v : TrussState). truss_after v (exchanges k between)) (sym reads)
      ∙ sym (truss_at-both k o before (e ∷ between) ∙ after-entry n k pid p own place t e between) in
      let there : Near p place near.0 (truss_at k o (before ++ e ∷ between)) =
      subst (Near p place near.0) end near.1.1 in
      let v : TrussState = truss_at k o (before ++ e ∷ between) in
      let polls = poll-stage v handles v.stage is in
      subst (Nears v.traced place near.0) polls.0 there.soon

pub soon-done : (n k : ℕ) (o : Options) (s : TracedState) (h : List Entry) → IsTrussRun n k o s h → IsSoonDone k s h
soon-done n k o s h run = record {
  soon = λ before between later e pid handle is names waits.
      named-soon n k o pid handle s before between e
      (front-run n k o s (before ++ e ∷ between) later
      (subst (IsTrussRun n k o s) (is ∙ sym (append_assoc before (e ∷ between) later)) run)) names waits;
}

no-split : (xs ys : List Entry) (e : Entry) → [] ≡ xs ++ e ∷ ys → ⊥
no-split [] ys e is = cc
no-split (x ∷ xs) ys e is = cc

pub looks-at-named : (n k : ℕ) (o : Options) (s : TracedState) (h : List Entry) → IsTrussRun n k o s h
    → LooksAtWhatIsNamed k s h
looks-at-named n k o s h run = record {
  each = λ before later e pid handle is names.
      let all : IsTrussRun n k o s (before ++ e ∷ later) = subst (IsTrussRun n k o s) is run in
      let one : IsTrussRun n k o s (before ++ e ∷ []) =
      front-run n k o s (before ++ e ∷ []) later
      (subst (IsTrussRun n k o s) (sym (append_assoc before (e ∷ []) later)) all) in
      let m = makes-next k (truss_at k o before) e later (rest-makes n k o s before (e ∷ later) all) in
      named-looks n k o pid handle s before [] e one names
      (record { none = λ first rest f none done. no-split first rest f none }) (exchanges k later) m.1;
}

pub runs-before-polls : (n k : ℕ) (o : Options) (s : TracedState) (h : List Entry) → IsTrussRun n k o s h
    → RunsBeforeItPolls k s h
runs-before-polls n k o s h run = record {
  each = λ before between later e f pid handle handles r is names waits polls.
      let same : before ++ e ∷ (between ++ f ∷ later) ≡ (before ++ e ∷ between) ++ f ∷ later =
      sym (append_assoc before (e ∷ between) (f ∷ later)) in
      let all : IsTrussRun n k o s ((before ++ e ∷ between) ++ f ∷ later) =
      subst (IsTrussRun n k o s) (is ∙ same) run in
      let front : IsTrussRun n k o s (before ++ e ∷ between) =
      front-run n k o s (before ++ e ∷ between) (f ∷ later) all in
      let u : TrussState = truss_at k o (before ++ e ∷ between) in
      let m = makes-next k u f later (rest-makes n k o s (before ++ e ∷ between) (f ∷ later) all) in
      no-poll-then n k o pid handle s before between e front names waits handles (subst (MakesNext u) polls m.0);
}

pub ruleset soon = (soon-done, looks-at-named, runs-before-polls)
