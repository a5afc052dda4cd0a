use Rattle.std.specs.Prelude.{◌==◌, ◌+◌, ℕ, Bool, true, false, List, Option, Some, None, is_some, length, replicate, if◌then◌else◌}
use Rattle.pr_num.specs.Layout.{heap_base}
use Rattle.pr_num.specs.Agents.{agent_id}
use Rattle.pr_num.specs.Faults.{fault_number}
use Rattle.pr_num.specs.Signals.{signal_number}
use Rattle.pr_num.specs.Spaces.{heap_size}
use Rattle.pr_num.specs.Syscalls.{syscall_number}
use Rattle.pr_num.specs.declared.errnos.Errno.{Errno}
use Rattle.pr_num.specs.declared.faults.Flt.{Flt}
use Rattle.pr_num.specs.declared.signals.Sig.{Sig}
use Rattle.pr_num.specs.declared.stop_reasons.StopReason.{StopReason}
use Rattle.pr_num.specs.declared.stop_reasons.StopReason.TheVariants as reason
use Rattle.pr_num.specs.declared.syscalls.Sysno.{Sysno}
use Rattle.pr_num.specs.Infos.{no_info}
use Rattle.pr_num.specs.declared.infos.Info.{Info}
use Rattle.pr_rec.specs.Fields.{disposition_of as class_of, flag_if, lwp_flags_of, process_flags_of}
use Rattle.pr_rec.specs.NoLwp.{no_lwp}
use Rattle.pr_rec.specs.declared.lwps.Disposition.{Disposition}
use Rattle.pr_rec.specs.declared.lwps.Disposition.TheVariants as disposition
use Rattle.pr_rec.specs.declared.lwps.LwpStatus.{LwpStatus}
use Rattle.pr_rec.specs.declared.statuses.Status.{Status}
use Rattle.pr_parts.specs.PendingSignals.{pending_set}
use Rattle.pr_model.specs.Readers.{has_lent, space_seen}
use Rattle.pr_model.specs.Registers.{arguments}
use Rattle.pr_model.specs.Running.{is_asleep}
use Rattle.pr_model.specs.Signals.{disposition_of}
use Rattle.pr_model.specs.State.{TracedSystem, TracedProcess, TracedLwp, has_agent}
use Rattle.pr_model.specs.Stops.{shown, has_event_stop, representative}
use Rattle.pr_model.specs.declared.events.Res.{Res}
use Rattle.pr_model.specs.declared.events.Res.TheVariants.{Value, Error, Ended}
use Rattle.pr_model.specs.declared.lwps.Current.{Current}
use Rattle.pr_model.specs.declared.lwps.Phase.{Phase}
use Rattle.pr_model.specs.declared.lwps.Phase.TheVariants.{User, Entered, Asleep, Exiting, Faulted}
use Rattle.pr_model.specs.declared.stops.Stop.{Stop}
use Rattle.pr_model.specs.declared.stops.Stop.TheVariants as stop
use Rattle.pr_model.specs.declared.stops.Shown.{Shown}
use Rattle.pr_model.specs.declared.stops.Shown.TheVariants.{Event, Suspended, JobControl}

-- The status of a process and of an lwp (proc(4), "status" and "lwpstatus"), filled from the state, a line a field.

-- ---- why an lwp is stopped, and what for

abbrev pub reason_of_stop : Stop → StopReason
reason_of_stop stop.Requested = reason.Requested
reason_of_stop (stop.Signalled s) = reason.Signalled
reason_of_stop (stop.SysEntry c) = reason.SysEntry
reason_of_stop (stop.SysExit c) = reason.SysExit
reason_of_stop (stop.Faulted f) = reason.Faulted

abbrev pub what_of_stop : Stop → ℕ
what_of_stop stop.Requested = 0
what_of_stop (stop.Signalled s) = signal_number s
what_of_stop (stop.SysEntry c) = syscall_number c
what_of_stop (stop.SysExit c) = syscall_number c
what_of_stop (stop.Faulted f) = fault_number f

unfoldable pub reason_shown : Option Shown → Option StopReason
reason_shown None = None
reason_shown (Some (Event stop)) = Some (reason_of_stop stop)
reason_shown (Some (JobControl s)) = Some reason.JobControl
reason_shown (Some Suspended) = Some reason.Suspended

unfoldable pub what_shown : Option Shown → ℕ
what_shown None = 0
what_shown (Some (Event stop)) = what_of_stop stop
what_shown (Some (JobControl s)) = signal_number s
what_shown (Some Suspended) = 0

-- ---- the fault or the call in which an lwp is

unfoldable pub fault_in : Phase → Option Flt
fault_in (Faulted f address) = Some f
fault_in _ = None

unfoldable pub fault_address_in : Phase → ℕ
fault_address_in (Faulted f address) = address
fault_address_in _ = 0

unfoldable pub call_in : Phase → Option Sysno
call_in User = None
call_in (Entered call) = Some call
call_in (Asleep call args since) = Some call
call_in (Exiting call args result) = Some call
call_in (Faulted f address) = None

-- before a call is made its arguments are those that stand in r1 to r6
unfoldable pub arguments_in : List ℕ → Phase → List ℕ
arguments_in regs User = replicate 6 0
arguments_in regs (Entered call) = arguments regs
arguments_in regs (Asleep call args since) = args
arguments_in regs (Exiting call args result) = args
arguments_in regs (Faulted f address) = replicate 6 0

abbrev pub value_of : Res → ℕ
value_of (Value v) = v
value_of (Error e) = 0
value_of Ended = 0

abbrev pub error_of : Res → Option Errno
error_of (Value v) = None
error_of (Error e) = Some e
error_of Ended = None

unfoldable pub result_in : Phase → ℕ
result_in (Exiting call args result) = value_of result
result_in _ = 0

unfoldable pub errno_in : Phase → Option Errno
errno_in (Exiting call args result) = error_of result
errno_in _ = None

-- ---- the current signal

unfoldable pub signal_in : Option Current → Option Sig
signal_in None = None
signal_in (Some c) = Some c.signal

unfoldable pub info_in : Option Current → Info
info_in None = no_info
info_in (Some c) = c.info

unfoldable pub disposition_in : List ℕ → Option Current → Disposition
disposition_in dispositions None = disposition.Default
disposition_in dispositions (Some c) = class_of (disposition_of dispositions c.signal)

-- ---- the records

-- an lwp's flags
unfoldable pub lwp_flags : Option Sig → ℕ → TracedLwp → ℕ
lwp_flags job id l = lwp_flags_of (record {
  stopped = is_some (shown job l);
  on_event = has_event_stop l;
  directed = l.control.directed;
  step = l.control.step;
  asleep = is_asleep l.phase;
  agent = id == agent_id;
})

-- the status of the lwp of an id in a process
unfoldable pub lwpstatus_of : TracedProcess → ℕ → TracedLwp → LwpStatus
lwpstatus_of p id l = record {
  flags = lwp_flags p.job_stop id l;
  id = id;
  why = reason_shown (shown p.job_stop l);
  what = what_shown (shown p.job_stop l);
  signal = signal_in l.current;
  fault = fault_in l.phase;
  fault_address = fault_address_in l.phase;
  call = call_in l.phase;
  arguments = arguments_in l.regs l.phase;
  result = result_in l.phase;
  errno = errno_in l.phase;
  held = l.held;
  pending = pending_set l.pending;
  regs = l.regs;
  disposition = disposition_in p.dispositions l.current;
  info = info_in l.current;
}

-- that of the representative; a process without lwps has none
abbrev pub status_of_found : TracedProcess → Option (ℕ × TracedLwp) → LwpStatus
status_of_found p None = no_lwp
status_of_found p (Some e) = lwpstatus_of p e.0 e.1

-- a process's flags: its modes, whether it is the system process, and whether it has lent its memory
unfoldable pub process_flags : ℕ → TracedProcess → ℕ
process_flags pid p = process_flags_of p.control.modes (pid == 0) (has_lent p)

-- the status of the process of an id
unfoldable pub status_of : TracedSystem → ℕ → TracedProcess → Status
status_of s pid p = record {
  flags = process_flags pid p;
  id = pid;
  parent = p.parent;
  lwps = length p.lwps;
  pending = pending_set p.pending;
  traced_signals = p.control.traced_signals;
  traced_faults = p.control.traced_faults;
  traced_entries = p.control.traced_entries;
  traced_exits = p.control.traced_exits;
  heap_base = heap_base;
  heap_size = heap_size (space_seen s p);
  agent = flag_if (has_agent p) agent_id;
  areas = length p.control.areas;
  lwp = status_of_found p (representative p);
}
