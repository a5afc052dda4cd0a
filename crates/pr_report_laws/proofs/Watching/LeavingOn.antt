use Rattle.std.proofs.Common.{◌≡◌, ℕ, Bool, true, false, Option, Some, List, [], ◌∷◌, refl, sym, subst, ap, ◌∙◌, inl, inr}
use Rattle.std.proofs.lemmas.Bool.{cases_Bool, false≢true}
use Rattle.std.proofs.lemmas.Option.{none-some, same_Some}
use Rattle.pr_line.specs.declared.options.Options.{Options}
use Rattle.pr_model.specs.State.{TracedState}
use Rattle.pr_model.specs.declared.calls.Call.{Call}
use Rattle.pr_model.specs.declared.calls.Reply.{Reply}
use Rattle.pr_model.specs.declared.calls.Reply.TheVariants as reply
use Rattle.pr_model.specs.declared.events.Entry.{Entry}
use Rattle.pr_num.specs.declared.errnos.Errno.TheVariants.{Intr}
use Rattle.pr_truss.specs.Closings.{with_interrupt}
use Rattle.pr_truss.specs.Feeding.{fed, with_reply}
use Rattle.pr_truss.specs.NextCalls.{call_of, child_call, freeing_call, next_call_of}
use Rattle.pr_truss.specs.Openings.{with_step_answered, with_stop_seen}
use Rattle.pr_truss.specs.Replies.{answer_of}
use Rattle.pr_truss.specs.Stops.{with_poll_answered}
use Rattle.pr_truss.specs.Trusses.{TrussState, first_truss, traced_at}
use Rattle.pr_truss.specs.declared.replies.Answer.TheVariants.{Interrupted}
use Rattle.pr_truss.specs.declared.stages.AfterClosing.{AfterClosing}
use Rattle.pr_truss.specs.declared.stages.FreeingStep.{FreeingStep}
use Rattle.pr_truss.specs.declared.stages.FreeingStep.TheVariants as freeing
use Rattle.pr_truss.specs.declared.stages.OpeningStep.{OpeningStep}
use Rattle.pr_truss.specs.declared.stages.Stage.{Stage}
use Rattle.pr_truss.specs.declared.stages.Stage.TheVariants.{Opening, OpeningChild, Polling, FreeingChild, Finished}
use Rattle.pr_truss_laws.proofs.Replies.FedSteps.{fed-step, interrupt-on}
use Rattle.pr_truss_laws.proofs.Replies.ReplySteps as step
use Rattle.pr_truss_laws.proofs.Replies.ReplySteps.{Closes, Looks, ReplyStep, Returns, Settles, leaving_now, on-staged, over-staged}
use Rattle.pr_truss_laws.specs.Exchanges.{Exchange, Makes, truss_after, truss_at}
use Rattle.pr_truss_laws.specs.Runs.{IsTrussRun}
use Rattle.pr_report_laws.proofs.Files.KeepLemmas.{can_wait}
use Rattle.pr_report_laws.proofs.Files.WatchHistories.{after-append, makes-rest}
use Rattle.pr_report_laws.proofs.FollowedChildren.FollowCalm.{calm-exchanges}
use Rattle.pr_report_laws.proofs.Watching.BeginsOnlyLaws.{child-waits}
use Rattle.pr_report_laws.specs.Attachments.{WasInterrupted}

-- Truss that leaves its processes does so to its end; and it leaves them once a call of it was interrupted.

-- ---- it goes on leaving

module _ (t : TrussState) (r : Reply) (on : t.leaving ≡ true) where
  settled-leaves : (stage : Stage) (given : Bool) (u : TrussState) → Settles t r stage given u → u.leaving ≡ true
  settled-leaves stage given u (step.interrupts_start is) = refl
  settled-leaves stage given u (step.interrupts_control is) = refl
  settled-leaves stage given u (step.interrupts_poll is) = refl
  settled-leaves stage given u (step.interrupts_status is) = refl
  settled-leaves stage given u (step.interrupts_opening is) = refl
  settled-leaves stage given u (step.interrupts_text is off) = refl
  settled-leaves stage given u (step.interrupts_child_control is) = refl
  settled-leaves stage given u (step.interrupts_child is) = refl
  settled-leaves stage given u (step.interrupts_run is) = refl
  settled-leaves stage given u (step.refuses_start errno is) = on
  settled-leaves stage given u _ = on

  looked-leaves : (stage : Stage) (place : ℕ) (pid : Option ℕ) (u : TrussState) → Looks t r stage place pid u
      → u.leaving ≡ true
  looked-leaves stage place pid u (step.passes w) = on
  looked-leaves stage place pid u _ = on

  closed-leaves : (stage : Stage) (place : ℕ) (next : AfterClosing) (u : TrussState) → Closes t r stage place next u
      → u.leaving ≡ true
  closed-leaves stage place next u (step.status_ended is) = on
  closed-leaves stage place next u _ = on

  returned-leaves : (stage : Stage) (parent : ℕ) (u : TrussState) → Returns t r stage parent u → u.leaving ≡ true
  returned-leaves stage parent u (step.child_runs is) = on
  returned-leaves stage parent u _ = on

  step-leaves : (stage : Stage) (v : TrussState) → ReplyStep t r stage v → v.leaving ≡ true
  step-leaves stage v (step.settles w goes) = (on-staged goes).leaving ∙ settled-leaves stage _ _ w
  step-leaves stage v (step.looks w over) = (over-staged over).leaving ∙ looked-leaves stage _ _ _ w
  step-leaves stage v (step.asks reads new selected range) = on
  step-leaves stage v (step.closes w) = closed-leaves stage _ _ _ w
  step-leaves stage v (step.loses is) = on
  step-leaves stage v (step.opens accepted w) = on
  step-leaves stage v (step.learns accepted w) = on
  step-leaves stage v (step.returns w) = returned-leaves stage _ _ w
  step-leaves stage v (step.turns w) = on

  pub fed-leaves : (fed t r).leaving ≡ true
  fed-leaves = step-leaves t.stage (fed t r) (fed-step t r)

pub after-leaves : (xs : List Exchange) (t : TrussState) → t.leaving ≡ true → (truss_after t xs).leaving ≡ true
after-leaves [] t on = on
after-leaves (x ∷ xs) t on = after-leaves xs (fed t x.reply) (fed-leaves t x.reply on)

-- ---- an interrupt

-- the stages at which truss makes a call that waits
data Waiting (stage : Stage) : Type 0 where
  polls : stage ≡ Polling → Waiting stage
  opens : (place : ℕ) (now : OpeningStep) → stage ≡ Opening place now → Waiting stage

freeing-waits : (pid : ℕ) (now : FreeingStep) → can_wait (freeing_call pid now) ≡ false
unfolding freeing_call
freeing-waits pid freeing.OpenControl = refl
freeing-waits pid _ = refl

module _ (t : TrussState) (c : Call) (waits : can_wait c ≡ true) where
  calm-call : {A : Type 0} (d : Call) → can_wait d ≡ false → Some d ≡ Some c → A
  calm-call d not is = absurd (false≢true (sym not ∙ ap can_wait (same_Some d c is) ∙ waits))

  stage-waits : (stage : Stage) → call_of t stage ≡ Some c → Waiting stage
  unfolding call_of
  stage-waits Polling is = polls refl
  stage-waits (Opening place now) is = opens place now refl
  stage-waits (OpeningChild parent place now) is =
      calm-call (child_call (traced_at t place) now) (child-waits (traced_at t place) now) is
  stage-waits (FreeingChild pid now) is = calm-call (freeing_call pid now) (freeing-waits pid now) is
  stage-waits Finished is = absurd (none-some c is)
  stage-waits _ is = calm-call _ refl is

  next-waits : next_call_of t ≡ Some c → Waiting t.stage
  unfolding next_call_of
  next-waits is = stage-waits t.stage is

interrupt-leaves : (t : TrussState) → (with_interrupt t).leaving ≡ true
interrupt-leaves t = (on-staged (interrupt-on t)).leaving

waited-leaves : (t : TrussState) (r : Reply) → answer_of r ≡ Interrupted → Waiting t.stage → (fed t r).leaving ≡ true
unfolding fed with_reply with_poll_answered with_step_answered
waited-leaves t r is (polls stage) =
    ap (λ (u : TrussState). u.leaving) (ap (with_reply t r) stage ∙ ap (with_poll_answered t r) is)
    ∙ interrupt-leaves t
waited-leaves t r is (opens place now stage) =
    ap (λ (u : TrussState). u.leaving) (ap (with_reply t r) stage ∙ ap (with_step_answered t place now r) is)
    ∙ interrupt-leaves (with_stop_seen t place)

-- In a legal history truss leaves its processes when it was interrupted.
pub interrupted-leaves : (n k : ℕ) (o : Options) (s : TracedState) (h : List Entry) → IsTrussRun n k o s h
    → WasInterrupted k h → (truss_at k o h).leaving ≡ true
unfolding answer_of
interrupted-leaves n k o s h run w =
    let y : Exchange = record { call = w.call; reply = reply.Fail Intr } in
    let t : TrussState = truss_after (first_truss o) w.before in
    let makes : Makes t (y ∷ w.later) =
    makes-rest (first_truss o) w.before (y ∷ w.later) (subst (Makes (first_truss o)) w.is run.makes) in
    let waits : can_wait w.call ≡ true =
    elim (cases_Bool (can_wait w.call)) [
      | inl on ↦ on
      | inr off ↦ absurd (calm-exchanges h n k s w.before w.later y run.legal w.is off refl)
    ] in
    ap (λ (u : TrussState). u.leaving) (ap (truss_after (first_truss o)) w.is
    ∙ after-append (first_truss o) w.before (y ∷ w.later))
    ∙ after-leaves w.later (fed t y.reply) (waited-leaves t y.reply refl (next-waits t w.call waits makes.0))
