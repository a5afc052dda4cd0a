use Rattle.std.specs.Prelude.{Bool, false, Option, Some, None, ℕ, if◌then◌else◌}
use Rattle.pr_num.specs.Control.{has_flags, async_mode}
use Rattle.pr_num.specs.Faults.{fault_number}
use Rattle.pr_num.specs.Sets.{has_number}
use Rattle.pr_num.specs.Signals.{signal_number}
use Rattle.pr_num.specs.Syscalls.{syscall_number}
use Rattle.pr_model.specs.State.{TracedControl, TracedProcess, TracedLwp, with_lwp}
use Rattle.pr_model.specs.Stops.{with_all_directed}
use Rattle.pr_model.specs.declared.stops.Point.{Point}
use Rattle.pr_model.specs.declared.stops.Point.TheVariants.{Signal, Fault, Entry, Exit}
use Rattle.pr_model.specs.declared.stops.Stop.{Stop}
use Rattle.pr_model.specs.declared.stops.Stop.TheVariants.{Signalled, SysEntry, SysExit, Faulted}

-- Points: where an lwp may meet something that is traced in its process (proc(4), "PCSTRACE", "PCSFAULT", "PCSENTRY",
-- "PCSEXIT").

-- the stop that a traced point makes
abbrev pub stop_at : Point → Stop
stop_at (Signal s) = Signalled s
stop_at (Fault f) = Faulted f
stop_at (Entry c) = SysEntry c
stop_at (Exit c) = SysExit c

-- whether what happens at a point is traced
unfoldable pub is_traced : TracedControl → Point → Bool
is_traced c (Signal s) = has_number c.traced_signals (signal_number s)
is_traced c (Fault f) = has_number c.traced_faults (fault_number f)
is_traced c (Entry call) = has_number c.traced_entries (syscall_number call)
is_traced c (Exit call) = has_number c.traced_exits (syscall_number call)

-- the same of a turn that met a point, or none
abbrev pub meets : TracedControl → Option Point → Bool
meets c None = false
meets c (Some point) = is_traced c point

-- an lwp with the stop of what it met
unfoldable pub stopped_at : Point → TracedLwp → TracedLwp
stopped_at point l = record l { control = record l.control { stop = Some (stop_at point) } }

-- A stop on an event of interest directs every other lwp of the process to stop, unless PR_ASYNC is set. The lwp that
-- stopped stands on an event, and so is not directed itself.
unfoldable pub with_others_directed : TracedProcess → TracedProcess
with_others_directed p = if has_flags p.control.modes async_mode then p else with_all_directed p

-- a process of which an lwp stops at a point
unfoldable pub with_stop_at : Point → ℕ → TracedProcess → TracedProcess
with_stop_at point id p = with_others_directed (with_lwp id (stopped_at point) p)

-- a process of which an lwp met a point, or none: it stops where that is traced
unfoldable pub after_meeting : Option Point → ℕ → TracedProcess → TracedProcess
after_meeting None id p = p
after_meeting (Some point) id p = if is_traced p.control point then with_stop_at point id p else p
