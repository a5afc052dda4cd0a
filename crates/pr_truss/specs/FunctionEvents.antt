-- What an event of a process is to the breakpoints of truss(1) in it (-u).
use Rattle.std.specs.Prelude.{◌==◌, ℕ, Bool, true, false, Option, Some, None, [], ◌∷◌, Result, Ok, Err, option_and_then, position, slice_index, if◌then◌else◌}
use Rattle.pr_line.specs.Events.{event_of}
use Rattle.pr_line.specs.declared.events.Event.{Event}
use Rattle.pr_line.specs.declared.events.Event.TheVariants.{Entered, Left, Received, Incurred}
use Rattle.pr_line.specs.declared.functions.Function.{Function}
use Rattle.pr_line.specs.declared.options.Options.{Options}
use Rattle.pr_num.specs.Syscalls.{is_fork_call}
use Rattle.pr_num.specs.declared.errnos.Errno.{Errno}
use Rattle.pr_num.specs.declared.faults.Flt.{Flt}
use Rattle.pr_num.specs.declared.faults.Flt.TheVariants.{Bpt, Trace}
use Rattle.pr_num.specs.declared.syscalls.Sysno.{Sysno}
use Rattle.pr_num.specs.declared.syscalls.Sysno.TheVariants.{Exec, Fork}
use Rattle.pr_rec.specs.declared.lwps.LwpStatus.{LwpStatus}
use Rattle.pr_truss.specs.Marks.{has_function, standing}
use Rattle.pr_truss.specs.declared.function_events.FunctionEvent.{FunctionEvent}
use Rattle.pr_truss.specs.declared.function_events.FunctionEvent.TheVariants.{Other, AtBreakpoint, Completed, TraceTrap, BeforeCopy, AfterCopy, Replaced}
use Rattle.pr_truss.specs.declared.marks.Marks.{Marks}
use Rattle.pr_truss.specs.declared.marks.Stepped.{Stepped}
use Rattle.pr_truss.specs.declared.processes.Traced.{Traced}

-- ---- faults

abbrev pub begins_at : ℕ → Function → Bool
begins_at pc f = f.at == pc

abbrev pub if_standing : Marks → ℕ → Option ℕ
if_standing m function = if has_function (standing m) function then Some function else None

-- The function of the breakpoint at a pc, none where no breakpoint is planted there. Of several functions at one
-- address only the first is ever planted.
unfoldable pub function_at : Options → Marks → ℕ → Option ℕ
function_at o m pc = option_and_then (if_standing m) (position (begins_at pc) o.functions)

abbrev pub breakpoint_event : Option ℕ → FunctionEvent
breakpoint_event None = Other
breakpoint_event (Some function) = AtBreakpoint function

-- A trace trap of the lwp whose step is under way says that the function's first instruction has run.
abbrev pub trap_event : Option Stepped → ℕ → FunctionEvent
trap_event None id = TraceTrap
trap_event (Some step) id = if step.lwp == id then Completed step else TraceTrap

abbrev pub fault_event : Options → Marks → ℕ → Flt → ℕ → FunctionEvent
fault_event o m id Bpt pc = breakpoint_event (function_at o m pc)
fault_event o m id Trace pc = trap_event m.stepped id
fault_event o m id _ pc = Other

-- ---- calls that copy or replace the memory of a process

abbrev pub is_exec : Sysno → Bool
is_exec Exec = true
is_exec _ = false

unfoldable pub copies_memory : Sysno → Bool
copies_memory call = if is_fork_call call then true else is_exec call

abbrev pub has_errno : Result ℕ Errno → Bool
has_errno (Ok value) = false
has_errno (Err errno) = true

-- Whether the process goes on in the memory that it had, once such a call has ended: after fork, and after vfork or
-- exec that failed. After a vfork that succeeded a child has that memory too.
unfoldable pub keeps_memory : Sysno → Result ℕ Errno → Bool
keeps_memory Fork result = true
keeps_memory _ result = has_errno result

abbrev pub left_event : Sysno → Result ℕ Errno → FunctionEvent
left_event call result = if keeps_memory call result then AfterCopy else Replaced

-- ---- the event

unfoldable pub function_event : Options → Marks → ℕ → Event → FunctionEvent
function_event o m id (Entered call arguments) = if copies_memory call then BeforeCopy else Other
function_event o m id (Left call arguments result) = if copies_memory call then left_event call result else Other
function_event o m id (Received signal disposition info) = Other
function_event o m id (Incurred fault pc) = fault_event o m id fault pc

-- the event that an lwp stands on, none where it stood there before truss came or was looked at already
unfoldable pub fresh_event : Traced → LwpStatus → Option Event
fresh_event t l = if t.old == 0 then (if t.seen then None else event_of l) else None

-- ---- the step

-- the step of an lwp that stands at the breakpoint of a function: r1 to r3 are those before its first instruction
unfoldable pub step_of : LwpStatus → ℕ → Stepped
step_of l function = record {
  function = function;
  lwp = l.id;
  arguments = slice_index l.regs 1 ∷ slice_index l.regs 2 ∷ slice_index l.regs 3 ∷ [];
}
