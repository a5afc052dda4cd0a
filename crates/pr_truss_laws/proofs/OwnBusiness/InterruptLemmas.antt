use Rattle.std.proofs.Common.{◌≡◌, ℕ, Bool, true, false, Option, Some, None, List, [], ◌∷◌, ◌++◌, refl, sym, subst, ap, ◌∙◌, append_assoc}
use Rattle.std.proofs.lemmas.Bool.{false≢true}
use Rattle.std.proofs.lemmas.Option.{none-some, same_Some}
use Rattle.pr_line.specs.declared.options.Options.{Options}
use Rattle.pr_model.specs.declared.calls.Call.{Call}
use Rattle.pr_model.specs.declared.calls.Reply.{Reply}
use Rattle.pr_model.specs.declared.calls.Reply.TheVariants as reply
use Rattle.pr_num.specs.declared.errnos.Errno.TheVariants.{Intr}
use Rattle.pr_truss.specs.Closings.{with_interrupt}
use Rattle.pr_truss.specs.Feeding.{fed, with_reply}
use Rattle.pr_truss.specs.NextCalls.{call_of, child_call, freeing_call, next_call_of}
use Rattle.pr_truss.specs.Openings.{with_step_answered, with_stop_seen}
use Rattle.pr_truss.specs.Replies.{answer_of}
use Rattle.pr_truss.specs.Stops.{with_poll_answered}
use Rattle.pr_truss.specs.Trusses.{TrussState, first_truss}
use Rattle.pr_truss.specs.declared.stages.AfterClosing.{AfterClosing}
use Rattle.pr_truss.specs.declared.stages.AfterClosing.TheVariants.{GoOn}
use Rattle.pr_truss.specs.declared.stages.ChildStep.{ChildStep}
use Rattle.pr_truss.specs.declared.stages.ChildStep.TheVariants as child
use Rattle.pr_truss.specs.declared.stages.FreeingStep.{FreeingStep}
use Rattle.pr_truss.specs.declared.stages.FreeingStep.TheVariants as freeing
use Rattle.pr_truss.specs.declared.stages.Stage.{Stage}
use Rattle.pr_truss.specs.declared.stages.Stage.TheVariants.{Opening, Polling, ReadingText, OpeningChild, Closing, Unfollowing, ReadingLwps, FreeingChild, Finished}
use Rattle.pr_truss_laws.proofs.Replies.ExchangeLemmas.{after-append, makes-front, makes-rest}
use Rattle.pr_truss_laws.proofs.Replies.FedSteps.{fed-step, interrupt-on, seen-on}
use Rattle.pr_truss_laws.proofs.OwnBusiness.KnownLemmas.{Knows, KnowsStage, after-knows, first-knows}
use Rattle.pr_truss_laws.proofs.Replies.ReplySteps as step
use Rattle.pr_truss_laws.proofs.Replies.ReplySteps.{Closes, GoesOn, Looks, ReplyStep, Settles, StopOver, Turns}
use Rattle.pr_truss_laws.specs.Business.{Leaves, LeavesOnInterrupt, closes, frees, is_wait, looks, releases, unfollows}
use Rattle.pr_truss_laws.specs.Exchanges.{Exchange, Makes, truss_after}

-- After a wait that was interrupted truss does nothing but leave its processes.

-- ---- the steps by which it leaves

abbrev leaves_next : AfterClosing → Bool
leaves_next GoOn = true
leaves_next _ = false

abbrev is_left : Stage → Bool
is_left (ReadingText place l from len) = true
is_left (Closing place next) = leaves_next next
is_left Unfollowing = true
is_left ReadingLwps = true
is_left (FreeingChild child now) = true
is_left Finished = true
is_left _ = false

record IsLeft (s : TrussState) : Type 0 where
  leaving : s.leaving ≡ true
  stage : is_left s.stage ≡ true

-- where it leaves, and does not
never : {A : Type 0} (b : Bool) → b ≡ false → b ≡ true → A
never b off on = absurd (false≢true (sym off ∙ on))

on-left : (u v : TrussState) (given : Bool) → given ≡ false → u.leaving ≡ true → GoesOn u given v → IsLeft v
on-left u v given goes on (step.finishes _) = record { leaving = on; stage = refl }
on-left u v given goes on (step.polls off _) = never u.leaving off on
on-left u v given goes on (step.unfollows _ _ _) = record { leaving = on; stage = refl }
on-left u v given goes on (step.closes_first _ _ _) = record { leaving = on; stage = refl }
on-left u v given goes on (step.opens_next _) = absurd (false≢true (sym goes))

over-left : (u v : TrussState) (place : ℕ) (pid : Option ℕ) → u.leaving ≡ true → StopOver u place pid v → IsLeft v
over-left u v place pid on (step.runs off) = never u.leaving off on
over-left u v place pid on (step.leaves _) = record { leaving = on; stage = refl }
over-left u v place pid on (step.opens_child off) = never u.leaving off on
over-left u v place pid on (step.frees_child _) = record { leaving = on; stage = refl }

module _ (s : TrussState) (r : Reply) (on : s.leaving ≡ true) where
  settles-left : (stage : Stage) (given : Bool) (u : TrussState) → is_left stage ≡ true → Settles s r stage given u
      → (given ≡ false) × (u.leaving ≡ true)
  settles-left stage given u is (step.interrupts_text _ off) = never s.leaving off on
  settles-left stage given u is (step.closed _) = (refl, on)
  settles-left stage given u is (step.closed_next _) = absurd (false≢true is)
  settles-left stage given u is _ = absurd (false≢true is)

  looks-left : (stage : Stage) (place : ℕ) (pid : Option ℕ) (u : TrussState) → Looks s r stage place pid u
      → u.leaving ≡ true
  looks-left stage place pid u (step.passes _) = on
  looks-left stage place pid u _ = on

  closes-left : (stage : Stage) (place : ℕ) (next : AfterClosing) (u : TrussState) → is_left stage ≡ true
      → Closes s r stage place next u → (leaves_next next ≡ true) × (u.leaving ≡ true)
  closes-left stage place next u is (step.refuses_opening _ _) = absurd (false≢true is)
  closes-left stage place next u is (step.refuses_child _ _) = absurd (false≢true is)
  closes-left stage place next u is (step.child_ended _) = absurd (false≢true is)
  closes-left stage place next u is _ = (refl, on)

  turns-left : (stage next : Stage) → is_left stage ≡ true → Turns s r stage next → is_left next ≡ true
  turns-left stage next is step.unfollowed = refl
  turns-left stage next is (step.frees _) = refl
  turns-left stage next is step.frees_on = refl
  turns-left stage next is step.has_finished = refl
  turns-left stage next is _ = absurd (false≢true is)

  step-left : (stage : Stage) (v : TrussState) → is_left stage ≡ true → ReplyStep s r stage v → IsLeft v
  step-left stage v is (step.settles {given = given} {u = u} w goes) =
      let it = settles-left stage given u is w in on-left u v given it.0 it.1 goes
  step-left stage v is (step.looks {u = u} w over) = over-left u v _ _ (looks-left stage _ _ u w) over
  step-left stage v is (step.asks _ _ _ _) = record { leaving = on; stage = refl }
  step-left stage v is (step.closes {u = u} w) =
      let it = closes-left stage _ _ u is w in record { leaving = it.1; stage = it.0 }
  step-left stage v is (step.loses _) = record { leaving = on; stage = is }
  step-left stage v is (step.opens _ step.new_given) = absurd (false≢true is)
  step-left stage v is (step.opens _ step.new_child) = absurd (false≢true is)
  step-left stage v is (step.learns _ (step.opening_goes _)) = absurd (false≢true is)
  step-left stage v is (step.learns _ (step.child_goes _)) = absurd (false≢true is)
  step-left stage v is (step.returns (step.refuses_child_control _ _)) = absurd (false≢true is)
  step-left stage v is (step.returns (step.child_runs _)) = absurd (false≢true is)
  step-left stage v is (step.returns (step.child_closed _)) = absurd (false≢true is)
  step-left stage v is (step.turns w) = record { leaving = on; stage = turns-left stage _ is w }

stays-left : (xs : List Exchange) (s : TrussState) → IsLeft s → IsLeft (truss_after s xs)
stays-left [] s l = l
stays-left (x ∷ xs) s l =
    stays-left xs (fed s x.reply) (step-left s x.reply l.leaving s.stage (fed s x.reply) l.stage (fed-step s x.reply))

-- ---- the interrupt

abbrev waits : Option Call → Bool
waits (Some c) = is_wait c
waits None = false

child-waits : (s : TrussState) (parent place : ℕ) (now : ChildStep)
    → waits (call_of s (OpeningChild parent place now)) ≡ false
unfolding call_of child_call
child-waits s parent place child.OpenStatus = refl
child-waits s parent place _ = refl

freeing-waits : (s : TrussState) (pid : ℕ) (now : FreeingStep) → waits (call_of s (FreeingChild pid now)) ≡ false
unfolding call_of freeing_call
freeing-waits s pid freeing.OpenControl = refl
freeing-waits s pid _ = refl

wait-left : (s : TrussState) (stage : Stage) → s.stage ≡ stage → waits (call_of s stage) ≡ true
    → IsLeft (fed s (reply.Fail Intr))
unfolding call_of fed with_reply answer_of with_step_answered with_poll_answered
wait-left s (Opening place now) at waiting =
    let is : fed s (reply.Fail Intr) ≡ with_interrupt (with_stop_seen s place) =
    ap (with_reply s (reply.Fail Intr)) at in
    subst IsLeft (sym is) (on-left _ _ false refl refl (seen-on s place))
wait-left s Polling at waiting =
    let is : fed s (reply.Fail Intr) ≡ with_interrupt s = ap (with_reply s (reply.Fail Intr)) at in
    subst IsLeft (sym is) (on-left _ _ false refl refl (interrupt-on s))
wait-left s (OpeningChild parent place now) at waiting =
    absurd (false≢true (sym (child-waits s parent place now) ∙ waiting))
wait-left s (FreeingChild pid now) at waiting = absurd (false≢true (sym (freeing-waits s pid now) ∙ waiting))
wait-left s _ at waiting = absurd (false≢true waiting)

interrupted-left : (s : TrussState) (c : Call) → next_call_of s ≡ Some c → is_wait c ≡ true
    → IsLeft (fed s (reply.Fail Intr))
unfolding next_call_of
interrupted-left s c is waiting = wait-left s s.stage refl (ap waits is ∙ waiting)

-- ---- the calls then

stage-leaves : (o : Options) (xs : List Exchange) (s : TrussState) (stage : Stage) (c : Call) → is_left stage ≡ true
    → KnowsStage o xs s.traced stage → call_of s stage ≡ Some c → Leaves xs c
unfolding call_of freeing_call
stage-leaves o xs s (ReadingText place l from len) c left k is = subst (Leaves xs) (same_Some _ c is) looks
stage-leaves o xs s (Closing place next) c left k is = subst (Leaves xs) (same_Some _ c is) closes
stage-leaves o xs s Unfollowing c left k is = subst (Leaves xs) (same_Some _ c is) unfollows
stage-leaves o xs s ReadingLwps c left k is = subst (Leaves xs) (same_Some _ c is) looks
stage-leaves o xs s (FreeingChild pid freeing.OpenControl) c left k is =
    subst (Leaves xs) (same_Some _ c is) (frees k.was_told)
stage-leaves o xs s (FreeingChild pid (freeing.SetRelease control)) c left k is =
    subst (Leaves xs) (same_Some _ c is) releases
stage-leaves o xs s (FreeingChild pid (freeing.Close control)) c left k is =
    subst (Leaves xs) (same_Some _ c is) closes
stage-leaves o xs s Finished c left k is = absurd (none-some c is)
stage-leaves o xs s _ c left k is = absurd (false≢true left)

next-leaves : (o : Options) (xs : List Exchange) (s : TrussState) (c : Call) → IsLeft s → Knows o xs s
    → next_call_of s ≡ Some c → Leaves xs c
unfolding next_call_of
next-leaves o xs s c left k is = stage-leaves o xs s s.stage c left.stage k.stage is

pub leaves-interrupted : (o : Options) (xs : List Exchange) → Makes (first_truss o) xs → LeavesOnInterrupt xs
leaves-interrupted o xs makes = record {
  each = λ before between after c x is waiting.
      let y : Exchange = record { call = c; reply = reply.Fail Intr } in
      let s : TrussState = truss_after (first_truss o) before in
      let parts : xs ≡ (before ++ y ∷ between) ++ x ∷ after =
      is ∙ sym (append_assoc before (y ∷ between) (x ∷ after)) in
      let made : Makes (first_truss o) ((before ++ y ∷ between) ++ x ∷ after) =
      subst (Makes (first_truss o)) parts makes in
      let front = makes-front (first_truss o) (before ++ y ∷ between) (x ∷ after) made in
      let at : Makes s (y ∷ between) = makes-rest (first_truss o) before (y ∷ between) front in
      let here : truss_after (first_truss o) (before ++ y ∷ between) ≡ truss_after s (y ∷ between) =
      after-append (first_truss o) before (y ∷ between) in
      let left = stays-left between (fed s (reply.Fail Intr)) (interrupted-left s c at.0 waiting) in
      next-leaves o (before ++ y ∷ between) (truss_after (first_truss o) (before ++ y ∷ between)) x.call
      (subst IsLeft (sym here) left) (after-knows o (before ++ y ∷ between) [] (first_truss o) (first-knows o) front)
      (makes-rest (first_truss o) (before ++ y ∷ between) (x ∷ after) made).0;
}
