use Rattle.std.proofs.Common.{◌≡◌, ℕ, Option, Some, None, refl, ap}
use Rattle.pr_model.specs.Lives.{Birth, by_fork, by_vfork, lent_to, with_lent, with_lender_of, with_loan_back, with_loans_passed}
use Rattle.pr_model.specs.Readers.{space_seen, space_shown}
use Rattle.pr_model.specs.State.{TracedProcess, TracedSystem, with_process, with_process_if}

-- Lent memory (vfork(2)): what is kept where one process is changed so, is kept where memory is lent and goes back.

module _ (S : TracedSystem → Type 0) where
  pub process_if-keeps : (o : Option ℕ) (f : TracedProcess → TracedProcess)
      → ((other : ℕ) (s : TracedSystem) → S s → S (with_process other f s))
      → (s : TracedSystem) → S s → S (with_process_if o f s)
  process_if-keeps None f keeps s h = h
  process_if-keeps (Some other) f keeps s h = keeps other s h

  pub lent-keeps : (birth : Birth) (pid child : ℕ)
      → ((s : TracedSystem) → S s → S (with_process pid (lent_to child) s))
      → (s : TracedSystem) → S s → S (with_lent birth pid child s)
  lent-keeps by_fork pid child keeps s h = h
  lent-keeps by_vfork pid child keeps s h = keeps s h

  pub loans_passed-keep : (pid : ℕ) (p : TracedProcess)
      → ((other : ℕ) (s : TracedSystem) → S s → S (with_process other (with_loan_back pid p) s))
      → ((other : ℕ) (s : TracedSystem) → S s → S (with_process other (with_lender_of pid p) s))
      → (s : TracedSystem) → S s → S (with_loans_passed pid p s)
  unfolding with_loans_passed
  loans_passed-keep pid p back on s h =
      process_if-keeps p.lender (with_loan_back pid p) back _
      (process_if-keeps p.borrower (with_lender_of pid p) on s h)

-- a process that has lent its memory to nobody shows its own
pub own-space : (s : TracedSystem) (p : TracedProcess) → p.borrower ≡ None → space_seen s p ≡ p.space
own-space s p own = ap (λ (o : Option ℕ). space_shown s s.made o p.space) own

-- to lend memory gives out no id
pub lent-made : (birth : Birth) (pid child : ℕ) (s : TracedSystem) → (with_lent birth pid child s).made ≡ s.made
unfolding with_process
lent-made by_fork pid child s = refl
lent-made by_vfork pid child s = refl
