use Rattle.std.specs.Prelude.{ℕ, ◌<◌, ◌≤◌}
use Rattle.std.specs.List.{All}
use Rattle.pr_model.specs.State.{TracedSystem, TracedProcess}
use Rattle.pr_model.specs.declared.processes.Usage.{Usage}

-- What processes have used is counted in words that must not wrap. A turn adds at most 1 to each count, so that a count
-- is never more than the number of turns.

-- nothing of what was used was used more than n times
pub record UsedAtMost (n : ℕ) (u : Usage) : Type 0 where
  pub calls : u.calls ≤ n
  pub signals : u.signals ≤ n
  pub faults : u.faults ≤ n
  pub instructions : u.instructions ≤ n

-- that is so of a process, and of every process
abbrev pub HasUsedAtMost : ℕ → ℕ × TracedProcess → Type 0
HasUsedAtMost n e = UsedAtMost n e.1.control.usage

pub record AllUsedAtMost (n : ℕ) (s : TracedSystem) : Type 0 where
  pub each : All (HasUsedAtMost n) s.processes

-- Ids are given out one after another: no process has the next one, or one beyond it.
pub record IsNumbered (s : TracedSystem) : Type 0 where
  pub each : All (λ e. e.0 < s.made) s.processes
