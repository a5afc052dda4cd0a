use Rattle.std.proofs.Common.{◌≡◌, ◌⊎◌, ◌==◌, ℕ, Bool, true, false, not, sym, subst, inl, inr, refl}
use Rattle.std.proofs.lemmas.Bool.{eqb-true, false≢true}
use Rattle.pr_function_hides.proofs.Replies.ClosingWalk.{ClosesSo, StageSo}
use Rattle.pr_function_laws.specs.Opened.{is_opened}
use Rattle.pr_truss.specs.Trusses.{TrussState, traced_at}
use Rattle.pr_truss.specs.declared.stages.AfterClosing.TheVariants.{OpenNext}
use Rattle.pr_truss.specs.declared.stages.OpeningStep.{OpeningStep}
use Rattle.pr_truss.specs.declared.stages.Stage.{Stage}
use Rattle.pr_truss.specs.declared.stages.Stage.TheVariants.{Closing, Opening}

-- What is so before each step of an opening, and where an opening was refused, is so of each process that truss has not
-- opened whole, unless it has ended.

negated : (b : Bool) → not b ≡ false → b ≡ true
negated true is = refl
negated false is = absurd (false≢true (sym is))

module _ (Over : ℕ → Type 0) (Opens : OpeningStep → ℕ → Type 0) (Leaves Clean : ℕ → Type 0)
    (opens : (step : OpeningStep) (pid : ℕ) → Opens step pid → Clean pid)
    (leaves : (pid : ℕ) → Leaves pid → Clean pid) (t : TrussState) where
  abbrev So : ℕ → Type 0
  So i = Clean (traced_at t i).pid ⊎ Over (traced_at t i).pid

  here : (q i : ℕ) → not (q == i) ≡ false → So q → So i
  here q i shut it = subst (λ m. So m) (eqb-true q i (negated (q == i) shut)) it

  at-stage : (stage : Stage) (i : ℕ) → is_opened stage i ≡ false → StageSo Over Opens Leaves t stage → So i
  at-stage (Opening q step) i shut w = here q i shut (inl (opens step (traced_at t q).pid w))
  at-stage (Closing q OpenNext) i shut (inl over) = here q i shut (inr over)
  at-stage (Closing q OpenNext) i shut (inr it) = here q i shut (inl (leaves (traced_at t q).pid it.0))
  at-stage (Closing q next) i shut w = here q i shut (inr w)
  at-stage _ i shut w = absurd (false≢true (sym shut))

  pub unopened-clean : ClosesSo Over Opens Leaves t → (i : ℕ) → is_opened t.stage i ≡ false → So i
  unopened-clean closes i shut = at-stage t.stage i shut closes.stage
