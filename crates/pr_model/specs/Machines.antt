use Rattle.std.specs.Prelude.{ℕ, Bool, false, List, [], Option, Some, None, if◌then◌else◌}
use Rattle.pr_num.specs.Control.{has_flags, fork_mode}
use Rattle.pr_num.specs.Faults.{fault_signal}
use Rattle.pr_num.specs.Sets.{has_number}
use Rattle.pr_num.specs.Syscalls.{syscall_number}
use Rattle.pr_num.specs.declared.faults.Flt.{Flt}
use Rattle.pr_num.specs.declared.syscalls.Sysno.{Sysno}
use Rattle.pr_parts.specs.PendingSignals.{added}
use Rattle.pr_num.specs.Infos.{of_fault}
use Rattle.pr_model.specs.State.{LwpOf, ProcessOf, SystemOf, TracedControl, TracedLwp}
use Rattle.pr_model.specs.declared.events.Res.{Res}
use Rattle.pr_model.specs.declared.lwps.LwpControl.{LwpControl}
use Rattle.pr_model.specs.declared.lwps.Phase.{Phase}
use Rattle.pr_model.specs.declared.lwps.Phase.TheVariants.{User, Entered, Asleep, Exiting, Faulted}
use Rattle.pr_model.specs.declared.processes.Usage.{Usage}
use Rattle.pr_model.specs.declared.stops.Stop.{Stop}
use Rattle.pr_model.specs.declared.stops.Stop.TheVariants.{Requested, SysExit}

-- The two machines. Both have the same programs, calls and signals. What they do differently is what stands here: where
-- an lwp is between its program and the kernel, and what becomes of what controllers have set.

pub record Machine (C H K : Type 0) : Type 0 where
  -- where an lwp is: in its program, at a call that it has not made, asleep in one, and on its way out of one
  pub in_user : H
  pub entered : Sysno → H
  pub asleep : Sysno → List ℕ → ℕ → H
  pub exiting : Sysno → List ℕ → Res → H
  -- what is set on a new process, and on a new lwp, which is directed to stop or not
  pub unset : C
  pub marks : Bool → K
  -- what stays set on a process when it ends and when it runs another program, and what a child takes over, and its
  -- lwp, which is on its way out of a call
  pub of_zombie : C → C
  pub of_exec : C → C
  pub of_child : C → C
  pub at_birth : Sysno → C → K
  -- what stays set on an lwp whose call is over, that stops as directed, and that is trapped after an instruction
  pub over : K → K
  pub stopped : K → K
  pub trapped : K → K
  -- an lwp that incurs a fault at an address, and one whose fault's signal is posted
  pub incurs : Flt → ℕ → LwpOf H K → LwpOf H K
  pub posts : Flt → ℕ → LwpOf H K → LwpOf H K

-- ---- the traced machine

-- nothing used yet
abbrev pub nothing_used : Usage
nothing_used = record { calls = 0; signals = 0; faults = 0; instructions = 0 }

-- nothing traced, no mode and no watched area
unfoldable pub nothing_set : TracedControl
nothing_set = record {
  traced_signals = 0;
  traced_faults = 0;
  traced_entries = 0;
  traced_exits = 0;
  modes = 0;
  areas = [];
  usage = nothing_used;
}

-- no stop and no mark, but perhaps a directive to stop
unfoldable pub no_marks : Bool → LwpControl
no_marks held = record { stop = None; directed = held; step = false; abort = false }

-- a zombie keeps its usage alone
unfoldable pub zombie_control : TracedControl → TracedControl
zombie_control c = record nothing_set { usage = c.usage }

-- a process that runs another program keeps all but its watched areas
unfoldable pub exec_control : TracedControl → TracedControl
exec_control c = record c { areas = [] }

-- Under PR_FORK a child takes over the traced sets and that mode, and else nothing (proc(4), "PR_FORK").
unfoldable pub child_control : TracedControl → TracedControl
child_control c =
    if has_flags c.modes fork_mode then record c { modes = fork_mode; areas = []; usage = nothing_used } else
    nothing_set

-- the stop of a child at its birth, on its exit from the call that made it, where that is traced
unfoldable pub birth_stop : Sysno → TracedControl → Option Stop
birth_stop call c =
    if has_flags c.modes fork_mode then
    (if has_number c.traced_exits (syscall_number call) then Some (SysExit call) else None)
    else None

unfoldable pub birth_marks : Sysno → TracedControl → LwpControl
birth_marks call c = record (no_marks false) { stop = birth_stop call c }

-- an abort mark ends with the call
unfoldable pub call_over : LwpControl → LwpControl
call_over k = record k { abort = false }

-- a directed stop
unfoldable pub stopped_as_directed : LwpControl → LwpControl
stopped_as_directed k = record k { directed = false; stop = Some Requested }

-- a step mark is used up
unfoldable pub step_taken : LwpControl → LwpControl
step_taken k = record k { step = false }

-- a fault is incurred now, and its signal is posted in a later turn
unfoldable pub fault_incurred : Flt → ℕ → TracedLwp → TracedLwp
fault_incurred f address l = record l { phase = Faulted f address }

unfoldable pub fault_posted : Flt → ℕ → TracedLwp → TracedLwp
fault_posted f address l = record l { phase = User; pending = added (fault_signal f) (of_fault address) l.pending }

unfoldable pub traced : Machine TracedControl Phase LwpControl
traced = record {
  in_user = User;
  entered = Entered;
  asleep = Asleep;
  exiting = Exiting;
  unset = nothing_set;
  marks = no_marks;
  of_zombie = zombie_control;
  of_exec = exec_control;
  of_child = child_control;
  at_birth = birth_marks;
  over = call_over;
  stopped = stopped_as_directed;
  trapped = step_taken;
  incurs = fault_incurred;
  posts = fault_posted;
}

-- ---- the untraced machine

-- where an lwp is: in its program, at a system call that it has not made yet, or asleep in one
pub data Place : Type 0 where
  in_program : Place
  at_call : Sysno → Place
  sleeping : Sysno → List ℕ → ℕ → Place

-- an lwp that has made its call is in its program again
abbrev pub back_in_program : Sysno → List ℕ → Res → Place
back_in_program call args result = in_program

-- nothing is set on processes and lwps
abbrev pub Nothing : Type 0
Nothing = Unit {0}

abbrev pub UntracedLwp : Type 0
UntracedLwp = LwpOf Place Nothing

abbrev pub UntracedProcess : Type 0
UntracedProcess = ProcessOf Nothing Place Nothing

abbrev pub UntracedSystem : Type 0
UntracedSystem = SystemOf Nothing Place Nothing

-- the signal of a fault is pending at once
unfoldable pub fault_pending : Flt → ℕ → UntracedLwp → UntracedLwp
fault_pending f address l = record l { pending = added (fault_signal f) (of_fault address) l.pending }

-- and is not posted again
unfoldable pub unchanged : Flt → ℕ → UntracedLwp → UntracedLwp
unchanged f address l = l

unfoldable pub untraced : Machine Nothing Place Nothing
untraced = record {
  in_user = in_program;
  entered = at_call;
  asleep = sleeping;
  exiting = back_in_program;
  unset = tt;
  marks = λ held. tt;
  of_zombie = λ c. c;
  of_exec = λ c. c;
  of_child = λ c. c;
  at_birth = λ call c. c;
  over = λ k. k;
  stopped = λ k. k;
  trapped = λ k. k;
  incurs = fault_pending;
  posts = unchanged;
}
