use Rattle.std.proofs.Common.{◌≡◌, ℕ, true, List, Option, None, Some, refl, ap, sym, ◌∙◌}
use Rattle.pr_model.specs.declared.lwps.LwpControl.{LwpControl}
use Rattle.pr_model.specs.declared.lwps.LwpOf as lwp
use Rattle.pr_model.specs.declared.lwps.Phase.{Phase}
use Rattle.pr_lwp.specs.Plain.{came_to, tells_fault}
use Rattle.pr_lwp.specs.Steps.{ran, stepped, with_regs}
use Rattle.pr_lwp.specs.declared.executing.Outcome.{Outcome}
use Rattle.pr_lwp.specs.declared.executing.Outcome.TheVariants.{Runs, Calls, Faults, RunsIntoWatch}

-- What an instruction makes of an lwp whose registers it may have changed already.

module _ {P : Type 0} (regs : List ℕ) (l : lwp.LwpOf P Phase LwpControl) where
  ran-again : ran regs (with_regs regs l) ≡ stepped (Runs regs) l
  unfolding stepped ran
  ran-again = refl

  -- one that tells which registers it leaves, or faults and has not changed them
  stepped-again : (o : Outcome) → (tells_fault (Some o) ≡ true → regs ≡ l.regs)
      → stepped o (with_regs regs l) ≡ stepped o l
  unfolding stepped ran
  stepped-again (Runs new) kept = refl
  stepped-again (Calls call new) kept = refl
  stepped-again (Faults f address) kept =
      ap (λ (r : List ℕ). stepped (Faults f address) (with_regs r l)) (kept refl)
  stepped-again (RunsIntoWatch address new) kept = refl

  module _ (o : Option Outcome) (e : Outcome) (is : came_to o regs ≡ e) where
    pub none-stepped : o ≡ None → ran regs (with_regs regs l) ≡ stepped e l
    none-stepped none =
        ran-again ∙ ap (λ (x : Outcome). stepped x l) (ap (λ (t : Option Outcome). came_to t regs) (sym none) ∙ is)

    pub some-stepped : (outcome : Outcome) → o ≡ Some outcome → (tells_fault o ≡ true → regs ≡ l.regs)
        → stepped outcome (with_regs regs l) ≡ stepped e l
    some-stepped outcome some kept =
        stepped-again outcome (λ fault. kept (ap tells_fault some ∙ fault))
        ∙ ap (λ (x : Outcome). stepped x l) (ap (λ (t : Option Outcome). came_to t regs) (sym some) ∙ is)
