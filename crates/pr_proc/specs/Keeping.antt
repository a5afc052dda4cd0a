use Rattle.std.specs.Prelude.{ℕ, List}
use Rattle.pr_model.specs.State.{TracedProcess}
use Rattle.pr_proc.specs.Marks.{AreMarkedBut, any_process, has_ended}
use Rattle.pr_proc.specs.Totals.{IsTotal}

-- What is kept beside the processes: how many bytes all but one have mapped, and where the children of each stand, and
-- those that have ended, but for that one.
pub record AreTallied (others out : ℕ) (all ended : List ℕ) (es : List (ℕ × TracedProcess)) : Type 0 where
  pub total : IsTotal others out es
  pub children : AreMarkedBut any_process out all es
  pub zombies : AreMarkedBut has_ended out ended es
