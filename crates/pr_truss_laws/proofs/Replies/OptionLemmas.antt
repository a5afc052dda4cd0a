use Rattle.std.proofs.Common.{◌≡◌, ℕ, Bool, Option, refl, ◌∙◌}
use Rattle.pr_model.specs.declared.calls.Reply.{Reply}
use Rattle.pr_truss.specs.Feeding.{fed}
use Rattle.pr_truss.specs.Trusses.{TrussState}
use Rattle.pr_truss.specs.declared.stages.AfterClosing.{AfterClosing}
use Rattle.pr_truss.specs.declared.stages.Stage.{Stage}
use Rattle.pr_truss_laws.proofs.Replies.ReplySteps as step
use Rattle.pr_truss_laws.proofs.Replies.ReplySteps.{Closes, Looks, ReplyStep, Returns, Settles, on-staged, over-staged}
use Rattle.pr_truss_laws.proofs.Replies.FedSteps.{fed-step}

-- Truss keeps its options, whatever it is replied.

module _ (s : TrussState) (r : Reply) where
  pub settles-options : (stage : Stage) (given : Bool) (u : TrussState) → Settles s r stage given u
      → u.options ≡ s.options
  settles-options stage given u step.ran = refl
  settles-options stage given u _ = refl

  looks-options : (stage : Stage) (place : ℕ) (pid : Option ℕ) (u : TrussState) → Looks s r stage place pid u
      → u.options ≡ s.options
  looks-options stage place pid u (step.passes _) = refl
  looks-options stage place pid u _ = refl

  closes-options : (stage : Stage) (place : ℕ) (next : AfterClosing) (u : TrussState) → Closes s r stage place next u
      → u.options ≡ s.options
  closes-options stage place next u (step.looked_last _) = refl
  closes-options stage place next u _ = refl

  returns-options : (stage : Stage) (parent : ℕ) (u : TrussState) → Returns s r stage parent u → u.options ≡ s.options
  returns-options stage parent u (step.child_runs _) = refl
  returns-options stage parent u _ = refl

  step-options : (stage : Stage) (v : TrussState) → ReplyStep s r stage v → v.options ≡ s.options
  step-options stage v (step.settles w on) = let same = on-staged on in same.options ∙ settles-options stage _ _ w
  step-options stage v (step.looks w over) = let same = over-staged over in same.options ∙ looks-options stage _ _ _ w
  step-options stage v (step.closes w) = closes-options stage _ _ _ w
  step-options stage v (step.returns w) = returns-options stage _ _ w
  step-options stage v _ = refl

pub fed-options : (s : TrussState) (r : Reply) → (fed s r).options ≡ s.options
fed-options s r = step-options s r s.stage (fed s r) (fed-step s r)
