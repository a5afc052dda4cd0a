-- What an lwp stands on: the event that it is stopped for, as its status tells it (proc(4), "lwpstatus").
use Rattle.std.specs.Prelude.{◌==◌, ℕ, Option, Some, None, Result, Ok, Err, option_map, option_and_then, if◌then◌else◌}
use Rattle.pr_line.specs.declared.events.Event.{Event}
use Rattle.pr_line.specs.declared.events.Event.TheVariants.{Entered, Left, Received, Incurred}
use Rattle.pr_num.specs.Faults.{fault_of_number}
use Rattle.pr_num.specs.Signals.{signal_of_number}
use Rattle.pr_num.specs.Syscalls.{syscall_number}
use Rattle.pr_num.specs.declared.errnos.Errno.{Errno}
use Rattle.pr_num.specs.declared.stop_reasons.StopReason.{StopReason}
use Rattle.pr_num.specs.declared.stop_reasons.StopReason.TheVariants.{Requested, Signalled, SysEntry, SysExit, JobControl, Faulted, Suspended}
use Rattle.pr_num.specs.declared.syscalls.Sysno.{Sysno}
use Rattle.pr_rec.specs.declared.lwps.LwpStatus.{LwpStatus}
use Rattle.pr_model.specs.Registers.{pc_of}

-- what a call gave: its value, or the errno of its refusal
abbrev pub result_of : ℕ → Option Errno → Result ℕ Errno
result_of value None = Ok value
result_of value (Some errno) = Err errno

-- The call that an lwp is stopped for: the one that it is in, where the stop names that one ("pr_what"). The
-- arguments and the result of a status are those of the call that its lwp is in.
abbrev pub named_call : ℕ → Sysno → Option Sysno
named_call what call = if syscall_number call == what then Some call else None

abbrev pub stopped_call : LwpStatus → Option Sysno
stopped_call s = option_and_then (named_call s.what) s.call

-- What a stop tells, a row a reason ("pr_why"). A stop at the entry or the exit of a call, by a signal or by a
-- fault is an event, where the table of its kind has what the stop names. A stop on request, by job control or by
-- lwp_suspend is none.
abbrev pub event_for : LwpStatus → StopReason → Option Event
event_for s SysEntry = option_map (λ call. Entered call s.arguments) (stopped_call s)
event_for s SysExit = option_map (λ call. Left call s.arguments (result_of s.result s.errno)) (stopped_call s)
event_for s Signalled = option_map (λ signal. Received signal s.disposition s.info) (signal_of_number s.what)
event_for s Faulted = option_map (λ fault. Incurred fault (pc_of s.regs)) (fault_of_number s.what)
event_for s Requested = None
event_for s JobControl = None
event_for s Suspended = None

-- the event that an lwp stands on, none where it is not stopped
unfoldable pub event_of : LwpStatus → Option Event
event_of s = option_and_then (event_for s) s.why
