use Rattle.std.specs.Prelude.{◌≤◌, ℕ}
use Rattle.std.specs.List.{All}
use Rattle.pr_model.specs.State.{TracedProcess, TracedSystem}
use Rattle.pr_model.specs.declared.processes.Usage.{Usage}

-- What processes have used has no limit in the definition of a turn, which counts up. It is bounded by how many entries
-- a history has.

-- each count is at most this
pub record IsUsedWithin (most : ℕ) (u : Usage) : Type 0 where
  pub calls : u.calls ≤ most
  pub signals : u.signals ≤ most
  pub faults : u.faults ≤ most
  pub instructions : u.instructions ≤ most

-- no process has used more than this of anything
pub record HaveUsed (most : ℕ) (s : TracedSystem) : Type 0 where
  pub processes : All (λ (e : ℕ × TracedProcess). IsUsedWithin most e.1.control.usage) s.processes
