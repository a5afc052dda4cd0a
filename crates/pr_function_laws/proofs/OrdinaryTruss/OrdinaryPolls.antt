use Rattle.std.proofs.Common.{◌≡◌, ◌⊎◌, ◌++◌, ℕ, Bool, true, false, Option, Some, None, List, [], ◌∷◌, refl, sym, subst, ap, ◌∙◌, inl, inr}
use Rattle.std.proofs.lemmas.Bool.{false≢true}
use Rattle.std.proofs.lemmas.Option.{same_Some}
use Rattle.std.specs.List.{cons_option}
use Rattle.pr_line.specs.declared.options.Options.{Options}
use Rattle.pr_model.specs.Legal.{IsLegal, IsLegalEntry, after, state_after}
use Rattle.pr_model.specs.State.{TracedState}
use Rattle.pr_model.specs.declared.calls.Call.{Call}
use Rattle.pr_model.specs.declared.calls.Call.TheVariants as call
use Rattle.pr_model.specs.declared.events.Entry.{Entry}
use Rattle.pr_num.specs.declared.errnos.Errno.{Errno}
use Rattle.pr_report_laws.proofs.Files.WatchHistories.{Reaches, cons-exchanges, first-reaches, no-exchanges}
use Rattle.pr_report_laws.proofs.OwnFiles.CalledFiles.{poll-once}
use Rattle.pr_report_laws.proofs.OwnFiles.OrderedPolls.{HasControls, PollFrom, first-controls, in-order, keeps_controls, kept-then, next-controls, next-polled}
use Rattle.pr_report_laws.specs.OwnFiles.{PollsEachOnce}
use Rattle.pr_report_laws.specs.PollOrder.{PollsInOrder, controls_then}
use Rattle.pr_truss.specs.Feeding.{fed}
use Rattle.pr_truss.specs.FunctionFeeding.{fed_functions}
use Rattle.pr_truss.specs.Marks.{has_functions}
use Rattle.pr_truss.specs.NextCalls.{call_of, next_call_of, opening_call}
use Rattle.pr_truss.specs.Trusses.{TrussState, first_truss}
use Rattle.pr_truss.specs.declared.stages.OpeningStep.TheVariants as opening
use Rattle.pr_truss.specs.declared.stages.Stage.{Stage}
use Rattle.pr_truss.specs.declared.stages.Stage.TheVariants.{Opening, ReadingText, Running, ReadingLwps}
use Rattle.pr_truss_laws.specs.Exchanges.{Exchange, exchange_of, exchanges}
use Rattle.pr_truss_laws.specs.Sent.{sends}
use Rattle.pr_function_laws.proofs.OrdinaryTruss.OrdinaryCalls.{sees-sends, stands-sends}
use Rattle.pr_function_laws.proofs.OrdinaryTruss.OrdinaryExchanges.{Turn, first-fit, goes_on, goes_out, turn}
use Rattle.pr_function_laws.proofs.OrdinaryTruss.OrdinaryFiles.{Follows, MakesOwn, entry-calm, entry-follows, own-next, run-halfway, with_own}
use Rattle.pr_function_laws.proofs.OrdinaryTruss.OrdinaryLaws.{plain-next}
use Rattle.pr_function_laws.proofs.OrdinaryTruss.OrdinaryReplies.{first-ordinary}
use Rattle.pr_function_laws.specs.Opened.{IsFunctionRun, functions_at}
use Rattle.pr_function_laws.specs.Ordinary.{IsLike, IsTakenUp, in_place, ordinary, own_fault, refused, same}
use Rattle.pr_function_laws.specs.Runs.{MakesFunctionCalls}

-- Truss with calls of functions polls its processes in the order in which it opened them, as any truss does: what it
-- does about breakpoints neither opens nor closes, and is no poll.

-- ---- calls that neither open, close nor poll

abbrev is_still : Call → Bool
is_still (call.Poll handles) = false
is_still c = keeps_controls c

still-keeps : (c : Call) → is_still c ≡ true → keeps_controls c ≡ true
still-keeps (call.Poll handles) still = refl
still-keeps c still = still

sent-still : (c : Call) → sends c ≡ true → is_still c ≡ true
sent-still (call.Ctl handle bytes) sent = refl
sent-still (call.CtlWait handle until bytes) sent = refl
sent-still _ sent = absurd (false≢true sent)

record AreStill (x y : Exchange) : Type 0 where
  one : is_still x.call ≡ true
  other : is_still y.call ≡ true

-- the call that was not made
taken-still : (s : TrussState) (stage : Stage) (d : Call) (errno : Errno) → IsTakenUp stage errno
    → call_of s stage ≡ Some d → is_still d ≡ true
unfolding call_of opening_call
taken-still s (Opening place opening.Start) d errno may is = ap is_still (sym (same_Some _ d is))
taken-still s (Running place) d errno may is = ap is_still (sym (same_Some _ d is))
taken-still s (ReadingText place l from len) d errno may is = ap is_still (sym (same_Some _ d is))
taken-still s ReadingLwps d errno may is = ap is_still (sym (same_Some _ d is))
taken-still s _ d errno may is = absurd may

-- an exchange that is like one of a truss is the same, or both are such calls
like-still : {s : TrussState} {x y : Exchange} → IsLike s x y → (x ≡ y) ⊎ AreStill x y
unfolding next_call_of
like-still (same unsent none_own) = inl refl
like-still (in_place {c = c} {d = d} stands) =
    let sent = stands-sends stands in inr (record { one = sent-still c sent.0; other = sent-still d sent.1 })
like-still {s} (refused {c = c} {d = d} {errno = errno} sees may is) =
    inr (record { one = sent-still c (sees-sends s s.stage c sees); other = taken-still s s.stage d errno may is })
like-still (own_fault own) = inr (record { one = refl; other = refl })

-- ---- one exchange

module _ (k : ℕ) (o : Options) (t : TrussState) (v : TracedState) (f : Follows k o t v) (handles : List ℕ)
    (has : HasControls (ordinary t) handles) (x : Exchange) where
  reached : Reaches k (ordinary t) v
  reached = f.reaches

  abbrev left : List ℕ
  left = controls_then handles x.call x.reply

  kept : is_still x.call ≡ true → left ≡ handles
  kept still = kept-then handles x.call x.reply (still-keeps x.call still)

  same-left : (y : Exchange) → (x ≡ y) ⊎ AreStill x y → controls_then handles y.call y.reply ≡ left
  same-left y (inl is) = ap (λ (z : Exchange). controls_then handles z.call z.reply) (sym is)
  same-left y (inr w) = kept-then handles y.call y.reply (still-keeps y.call w.other) ∙ sym (kept w.one)

  own-controls : Turn t x → HasControls (ordinary (fed_functions t x.reply)) left
  own-controls (goes_out sees over stay) =
      subst (λ u. HasControls u left) (sym stay)
      (subst (HasControls (ordinary t)) (sym (kept (sent-still x.call (sees-sends t t.stage x.call sees)))) has)
  own-controls (goes_on y like next now) =
      subst (λ u. HasControls u left) (sym now)
      (subst (HasControls (fed (ordinary t) y.reply)) (same-left y (like-still like))
      (next-controls k (ordinary t) v reached handles has y.call next y.reply))

  own-polled : Turn t x → (hs : List ℕ) → x.call ≡ call.Poll hs → hs ≡ handles
  own-polled (goes_out sees over stay) hs is =
      absurd (false≢true (ap sends (sym is) ∙ sees-sends t t.stage x.call sees))
  own-polled (goes_on y like next now) hs is = by (like-still like)
    where
      by : (x ≡ y) ⊎ AreStill x y → hs ≡ handles
      by (inl one) =
          next-polled k (ordinary t) v reached handles has y.call next hs
          (ap (λ (z : Exchange). z.call) (sym one) ∙ is)
      by (inr w) = absurd (false≢true (ap is_still (sym is) ∙ w.one))

-- ---- all exchanges

own-one : (n k : ℕ) (o : Options) → has_functions o ≡ true → o.follow ≡ false → (t : TrussState) (v : TracedState)
    → Follows k o t v → (handles : List ℕ) → HasControls (ordinary t) handles → (e : Entry) → IsLegalEntry n v e
    → (x : Option Exchange) (xs : List Exchange) → exchange_of k e ≡ x → MakesOwn t x
    → ((hs : List ℕ) → HasControls (ordinary (with_own t x)) hs → PollFrom hs xs)
    → PollFrom handles (cons_option x xs)
own-one n k o full off t v f handles has e legal None xs own next rest = rest handles has
own-one n k o full off t v f handles has e legal (Some x) xs own next rest =
    let turns = turn o full off t x f.fit next (entry-calm n k v e x legal own) in (
      own-polled k o t v f handles has x turns,
      rest (controls_then handles x.call x.reply) (own-controls k o t v f handles has x turns),
    )

along : (h : List Entry) (n k : ℕ) (o : Options) → has_functions o ≡ true → o.follow ≡ false → (t : TrussState)
    (v : TracedState) → Follows k o t v → (handles : List ℕ) → HasControls (ordinary t) handles → IsLegal n v h
    → MakesFunctionCalls t (exchanges k h) → PollFrom handles (exchanges k h)
along [] n k o full off t v f handles has legal makes = subst (PollFrom handles) (sym (no-exchanges k)) tt
along (e ∷ h) n k o full off t v f handles has legal makes =
    let m = own-next k t e h makes in
    let next = entry-follows o full off n k t v e f legal.0 (exchange_of k e) refl m.0 in
    subst (PollFrom handles) (sym (cons-exchanges k e h))
    (own-one n k o full off t v f handles has e legal.0 (exchange_of k e) (exchanges k h) refl m.0
    (λ hs then. along h n k o full off (with_own t (exchange_of k e)) (after v e) next hs then legal.1 m.1))

pub polls-in-order : (n k : ℕ) (o : Options) (s : TracedState) (h : List Entry) → IsFunctionRun n k o s h
    → PollsInOrder (exchanges k h)
polls-in-order n k o s h run =
    in-order (exchanges k h)
    (along h n k o run.has run.follows_none (first_truss o) s
    (record {
      reaches =
          subst (λ (u : TrussState). Reaches k u s) (sym (first-ordinary o))
          (first-reaches k o s run.lawful run.nothing_open);
      fit = first-fit o run.has run.follows_none;
    })
    [] (subst (λ u. HasControls u []) (sym (first-ordinary o)) (first-controls o)) run.legal run.makes)

-- no poll lists a file twice
pub polls-once : (n k : ℕ) (o : Options) (s : TracedState) (h : List Entry) → IsFunctionRun n k o s h
    → PollsEachOnce k h
polls-once n k o s h run = record {
  each = λ before later e handles r one two handle is own at again.
      let all : IsFunctionRun n k o s (before ++ e ∷ later) = subst (IsFunctionRun n k o s) is run in
      let half = run-halfway n k o s before (e ∷ later) all in
      let f = half.follows in
      let x : Exchange = record { call = call.Poll handles; reply = r } in
      poll-once k (ordinary (functions_at k o before)) (state_after s before) f.reaches handle handles
      (plain-next n k o s before later e x all own refl) one two at again;
}

pub ruleset ordered = (polls-in-order, polls-once)
