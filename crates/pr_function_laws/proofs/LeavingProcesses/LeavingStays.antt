use Rattle.std.proofs.Common.{◌≡◌, ℕ, Bool, true, Option, refl, ◌∙◌}
use Rattle.pr_model.specs.declared.calls.Reply.{Reply}
use Rattle.pr_truss.specs.Feeding.{fed}
use Rattle.pr_truss.specs.Trusses.{TrussState}
use Rattle.pr_truss.specs.declared.stages.AfterClosing.{AfterClosing}
use Rattle.pr_truss.specs.declared.stages.Stage.{Stage}
use Rattle.pr_truss_laws.proofs.Replies.FedSteps.{fed-step}
use Rattle.pr_truss_laws.proofs.Replies.ReplySteps as step
use Rattle.pr_truss_laws.proofs.Replies.ReplySteps.{Closes, Looks, ReplyStep, Returns, Settles, on-staged, over-staged}

-- A truss that leaves its processes goes on to leave them, whatever it is replied.

module _ (s : TrussState) (r : Reply) (on : s.leaving ≡ true) where
  settles-leaves : (stage : Stage) (given : Bool) (u : TrussState) → Settles s r stage given u → u.leaving ≡ true
  settles-leaves stage given u (step.refuses_start _ _) = on
  settles-leaves stage given u (step.refuses_control _ _) = on
  settles-leaves stage given u (step.ends_opening _ _) = on
  settles-leaves stage given u step.ran = on
  settles-leaves stage given u (step.closed_next _) = on
  settles-leaves stage given u (step.closed _) = on
  settles-leaves stage given u _ = refl

  looks-leaves : (stage : Stage) (place : ℕ) (pid : Option ℕ) (u : TrussState) → Looks s r stage place pid u
      → u.leaving ≡ true
  looks-leaves stage place pid u (step.passes _) = on
  looks-leaves stage place pid u _ = on

  closes-leaves : (stage : Stage) (place : ℕ) (next : AfterClosing) (u : TrussState) → Closes s r stage place next u
      → u.leaving ≡ true
  closes-leaves stage place next u (step.looked_last _) = on
  closes-leaves stage place next u _ = on

  returns-leaves : (stage : Stage) (parent : ℕ) (u : TrussState) → Returns s r stage parent u → u.leaving ≡ true
  returns-leaves stage parent u (step.child_runs _) = on
  returns-leaves stage parent u _ = on

  step-leaves : (stage : Stage) (v : TrussState) → ReplyStep s r stage v → v.leaving ≡ true
  step-leaves stage v (step.settles w goes) =
      let same = on-staged goes in same.leaving ∙ settles-leaves stage _ _ w
  step-leaves stage v (step.looks w over) = let same = over-staged over in same.leaving ∙ looks-leaves stage _ _ _ w
  step-leaves stage v (step.closes w) = closes-leaves stage _ _ _ w
  step-leaves stage v (step.returns w) = returns-leaves stage _ _ w
  step-leaves stage v _ = on

  pub fed-leaves : (fed s r).leaving ≡ true
  fed-leaves = step-leaves s.stage (fed s r) (fed-step s r)
