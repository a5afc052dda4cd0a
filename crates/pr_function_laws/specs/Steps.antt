-- An lwp that is stepped alone, as truss(1) steps one over the first instruction of a function (-u).
use Rattle.std.specs.Prelude.{◌≡◌, ◌≢◌, ℕ, true, false, List, Some, None}
use Rattle.pr_num.specs.Control.{async_mode, has_flags}
use Rattle.pr_num.specs.Limits.{all_faults, all_signals}
use Rattle.pr_num.specs.Sets.{without_number}
use Rattle.pr_num.specs.Signals.{signal_number}
use Rattle.pr_num.specs.declared.signals.Sig.TheVariants.{Kill}
use Rattle.pr_num.specs.declared.syscalls.Sysno.{Sysno}
use Rattle.pr_model.specs.InstructionEffects.{calls, instruction_effect}
use Rattle.pr_model.specs.State.{TracedControl, TracedLwp, TracedProcess, TracedSystem, live_process, lwp_of}
use Rattle.pr_model.specs.declared.lwps.Phase.TheVariants.{User}
use Rattle.pr_truss_laws.specs.Stills.{IsHalting, will_stop}

-- The lwp is in its program with a step mark, is not directed to stop, and has no signal to act on first. Each other
-- lwp of its process stands still, or will stop before it does anything.
pub record IsStepped (p : TracedProcess) (id : ℕ) (l : TracedLwp) : Type 0 where
  pub there : lwp_of p id ≡ Some l
  pub in_program : l.phase ≡ User
  pub marked : l.control.step ≡ true
  pub not_directed : l.control.directed ≡ false
  pub no_current : l.current ≡ None
  pub others : (other : ℕ) (k : TracedLwp) → other ≢ id → lwp_of p other ≡ Some k → will_stop k ≡ true

-- An lwp of a process stops at every signal but SIGKILL, which no process can stop at, and at every fault, and then
-- directs all other lwps to stop.
pub record StopsAtAll (c : TracedControl) : Type 0 where
  pub signals : c.traced_signals ≡ without_number all_signals (signal_number Kill)
  pub faults : c.traced_faults ≡ all_faults
  pub directs : has_flags c.modes async_mode ≡ false

-- the next instruction of an lwp is no system call
pub record RunsNoCall (p : TracedProcess) (l : TracedLwp) : Type 0 where
  pub is_none : (call : Sysno) (regs : List ℕ) → instruction_effect p.space p.control.areas l.regs ≢ calls call regs

-- What has become of a process of which an lwp was stepped alone: it is so still; or the lwp has had its turn, and each
-- lwp of the process stands still or is directed to stop; or the process has ended.
pub data StepGoesOn (pid id : ℕ) (s : TracedSystem) : Type 0 where
  goes_on : (q : TracedProcess) (k : TracedLwp) → live_process s pid ≡ Some q → IsStepped q id k → StepGoesOn pid id s
  halts : (q : TracedProcess) → live_process s pid ≡ Some q → IsHalting q → StepGoesOn pid id s
  ends : live_process s pid ≡ None → StepGoesOn pid id s
