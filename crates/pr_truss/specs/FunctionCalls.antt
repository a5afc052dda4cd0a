-- The call that truss(1) makes next where it shows calls of functions (-u).
use Rattle.std.specs.Prelude.{ℕ, Option, Some, None, List, [], if◌then◌else◌}
use Rattle.pr_line.specs.declared.options.Options.{Options}
use Rattle.pr_model.specs.declared.calls.Call.{Call}
use Rattle.pr_model.specs.declared.calls.Call.TheVariants as call
use Rattle.pr_num.specs.Limits.{all_faults, all_signals, instruction_size}
use Rattle.pr_num.specs.Messages.{spelling}
use Rattle.pr_num.specs.Sets.{with_number}
use Rattle.pr_num.specs.Syscalls.{syscall_number}
use Rattle.pr_num.specs.declared.messages.Message.{Message}
use Rattle.pr_num.specs.declared.messages.Message.TheVariants as message
use Rattle.pr_num.specs.declared.syscalls.Sysno.TheVariants.{Exec}
use Rattle.pr_truss.specs.Marks.{address_of, breakpoint, code_of, first_function, has_functions}
use Rattle.pr_truss.specs.Messages.{message_call, traced_entries, traced_exits, with_forks}
use Rattle.pr_truss.specs.NextCalls.{call_of, next_call_of}
use Rattle.pr_truss.specs.Trusses.{TrussState, traced_at}
use Rattle.pr_truss.specs.declared.asides.Aside.{Aside}
use Rattle.pr_truss.specs.declared.asides.Aside.TheVariants.{Nothing, Reading, Planting, Patching, AwaitingStop, Asking, AwaitingAgain}
use Rattle.pr_truss.specs.declared.stages.OpeningStep.TheVariants.{TraceSignals, TraceFaults, TraceEntries, TraceExits}
use Rattle.pr_truss.specs.declared.stages.Stage.{Stage}
use Rattle.pr_truss.specs.declared.stages.Stage.TheVariants.{Opening, Running, Unfollowing}

-- ---- the calls

-- the first instruction of a function is read
abbrev pub read_code_call : Options → ℕ → ℕ → Call
read_code_call o control function = message_call control (message.Read (address_of o function) instruction_size)

-- the bytes of an instruction are written over the first instruction of a function
abbrev pub write_code_call : Options → ℕ → ℕ → List ℕ → Call
write_code_call o control function code =
    call.Ctl control (spelling (message.Write (address_of o function) instruction_size) code)

-- a breakpoint is planted, and lifted
abbrev pub plant_call : Options → ℕ → ℕ → Call
plant_call o control function = write_code_call o control function breakpoint

abbrev pub lift_call : Options → ℕ → ℕ → Call
lift_call o control function = write_code_call o control function (code_of o function)

-- the wait for a stop that a message asked for
abbrev pub wait_call : ℕ → ℕ → Message → Call
wait_call control until m = call.CtlWait control until (spelling m [])

-- ---- what is traced

-- a set of calls with those that copy or replace the memory of a process
unfoldable pub with_copying : ℕ → ℕ
with_copying calls = with_number (with_forks calls) (syscall_number Exec)

-- ---- the call

-- the first breakpoint that is to be planted is planted, else the first that is to be lifted is lifted, else the fault
-- is cleared
abbrev pub patch_call : Options → ℕ → Option ℕ → Option ℕ → Call
patch_call o control (Some function) lift = plant_call o control function
patch_call o control None (Some function) = lift_call o control function
patch_call o control None None = message_call control message.Cfault

-- The call of each step, where it is another than without functions: all signals and all faults are traced; of the
-- calls those too that copy or replace the memory, at their entry and at their exit; a process is run with the flags
-- that its marks say; and truss leaves a process by a direction to stop.
unfoldable pub function_call_of : TrussState → Stage → Option Call
function_call_of s (Opening place TraceSignals) =
    Some (message_call (traced_at s place).control (message.Strace all_signals))
function_call_of s (Opening place TraceFaults) =
    Some (message_call (traced_at s place).control (message.Sfault all_faults))
function_call_of s (Opening place TraceEntries) =
    Some (message_call (traced_at s place).control (message.Sentry (with_copying (traced_entries s.options))))
function_call_of s (Opening place TraceExits) =
    Some (message_call (traced_at s place).control (message.Sexit (with_copying (traced_exits s.options))))
function_call_of s (Running place) =
    Some (message_call (traced_at s place).control (message.Run (traced_at s place).marks.flags))
function_call_of s Unfollowing = Some (message_call (traced_at s 0).control message.Stop)
function_call_of s stage = call_of s stage

-- what comes before the call of a step, and that call where nothing does
unfoldable pub call_beside : TrussState → Stage → Aside → Option Call
call_beside s stage Nothing = function_call_of s stage
call_beside s stage (Reading place function) = Some (read_code_call s.options (traced_at s place).control function)
call_beside s stage (Planting place function) = Some (plant_call s.options (traced_at s place).control function)
call_beside s stage (Patching place plants lifts clear) =
    Some (patch_call s.options (traced_at s place).control (first_function plants) (first_function lifts))
call_beside s stage (AwaitingStop until) = Some (wait_call (traced_at s 0).control until message.Stop)
call_beside s stage Asking = Some (message_call (traced_at s 0).control message.Wstop)
call_beside s stage (AwaitingAgain until) = Some (wait_call (traced_at s 0).control until message.Wstop)

-- The call that truss makes next, where its options may name functions; none where it has finished.
unfoldable pub next_function_call_of : TrussState → Option Call
next_function_call_of s = if has_functions s.options then call_beside s s.stage s.aside else next_call_of s
