use Rattle.std.specs.Prelude.{◌≡◌, ℕ, false}
use Rattle.std.specs.List.{All}
use Rattle.pr_model.specs.State.{TracedLwp, TracedProcess, TracedSystem}

-- No lwp is to incur FLTTRACE: none has the mark that PRSTEP sets.

pub record IsUnsteppedLwp (e : ℕ × TracedLwp) : Type 0 where
  pub no_step : e.1.control.step ≡ false

pub record IsUnsteppedProcess (e : ℕ × TracedProcess) : Type 0 where
  pub lwps : All IsUnsteppedLwp e.1.lwps

pub record IsUnstepped (s : TracedSystem) : Type 0 where
  pub processes : All IsUnsteppedProcess s.processes

-- ---- of some processes alone

-- what stands in a system has no step mark, if it stands under one of these ids
pub record IsUnmarkedAt (Which : ℕ → Type 0) (e : ℕ × TracedProcess) : Type 0 where
  pub lwps : Which e.0 → All IsUnsteppedLwp e.1.lwps

-- no lwp of the processes of these ids has one
pub record AreUnmarked (Which : ℕ → Type 0) (s : TracedSystem) : Type 0 where
  pub processes : All (IsUnmarkedAt Which) s.processes
