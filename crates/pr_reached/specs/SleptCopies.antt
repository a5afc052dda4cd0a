-- Lwps that are asleep in a fork(2), a vfork(2) or an exec(2). None is in a state that the machine reaches, as no such
-- call sleeps.
use Rattle.std.specs.Prelude.{◌≡◌, ℕ, Bool, true, false, All}
use Rattle.pr_model.specs.State.{TracedLwp, TracedProcess, TracedSystem}
use Rattle.pr_model.specs.declared.lwps.Phase.{Phase}
use Rattle.pr_model.specs.declared.lwps.Phase.TheVariants.{Asleep}
use Rattle.pr_num.specs.Syscalls.{is_fork_call}
use Rattle.pr_num.specs.declared.syscalls.Sysno.{Sysno}
use Rattle.pr_num.specs.declared.syscalls.Sysno.TheVariants.{Exec}

-- a call that makes a child with the memory of its process, or replaces that
abbrev pub is_fork_or_exec : Sysno → Bool
is_fork_or_exec Exec = true
is_fork_or_exec call = is_fork_call call

-- an lwp is asleep in such a call
abbrev pub sleeps_in_copy : Phase → Bool
sleeps_in_copy (Asleep call args since) = is_fork_or_exec call
sleeps_in_copy phase = false

pub record SleepsInNoCopy (e : ℕ × TracedLwp) : Type 0 where
  pub none : sleeps_in_copy e.1.phase ≡ false

pub record HasNoCopySleeper (e : ℕ × TracedProcess) : Type 0 where
  pub lwps : All SleepsInNoCopy e.1.lwps

-- no lwp of any process is
pub record NoneSleepsInCopy (s : TracedSystem) : Type 0 where
  pub processes : All HasNoCopySleeper s.processes
