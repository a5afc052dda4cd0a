use Rattle.std.specs.Prelude.{◌≡◌, ◌==◌, ℕ, false, []}
use Rattle.std.specs.List.{All}
use Rattle.pr_num.specs.Agents.{agent_id}
use Rattle.pr_num.specs.Control.{has_flags, klc_mode}
use Rattle.pr_model.specs.State.{TracedSystem, TracedProcess, TracedLwp}

-- What controllers of a passive history leave alone: nothing that they could set to change what a program does is set.

-- an lwp that is not to incur FLTTRACE, whose call is not aborted, and that is not the agent
pub record IsUntouchedLwp (e : ℕ × TracedLwp) : Type 0 where
  pub no_step : e.1.control.step ≡ false
  pub no_abort : e.1.control.abort ≡ false
  pub no_agent : (e.0 == agent_id) ≡ false

-- a process that its last close does not kill, of which nothing is watched, and whose lwps are so
pub record IsUntouchedProcess (e : ℕ × TracedProcess) : Type 0 where
  pub no_kill : has_flags e.1.control.modes klc_mode ≡ false
  pub unwatched : e.1.control.areas ≡ []
  pub lwps : All IsUntouchedLwp e.1.lwps

-- a system of which every process is so
pub record IsUntouched (s : TracedSystem) : Type 0 where
  pub processes : All IsUntouchedProcess s.processes
