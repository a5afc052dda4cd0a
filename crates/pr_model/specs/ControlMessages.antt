use Rattle.std.specs.Prelude.{◌==◌, ◌||◌, ◌&&◌, ◌-◌, ℕ, Bool, true, false, not, List, Option, Some, None, Result, Ok, Err, is_some, nat_le, slice_range, if◌then◌else◌}
use Rattle.pr_num.specs.Messages.{first_message, tail_length, unpadded_length}
use Rattle.pr_num.specs.declared.messages.MsgFault.{MsgFault}
use Rattle.pr_num.specs.declared.errnos.Errno.{Errno}
use Rattle.pr_num.specs.declared.errnos.Errno.TheVariants.{Inval, Noent, Busy, Badf, Intr as Interrupted}
use Rattle.pr_num.specs.declared.messages.Message.{Message}
use Rattle.pr_num.specs.declared.messages.Message.TheVariants.{Stop, Wstop, Twstop, Set, Unset}
use Rattle.pr_model.specs.Handles.{is_control, is_of_lwp, handle_of}
use Rattle.pr_model.specs.Messages.{Controlled, refused, Aim, at_lwp, at_process, message_answer}
use Rattle.pr_model.specs.State.{TracedSystem, Places, TracedProcess, live_process, lwp_of}
use Rattle.pr_model.specs.Stops.{is_stopped, stands_on_event}
use Rattle.pr_model.specs.declared.calls.Reply.{Reply}
use Rattle.pr_model.specs.declared.calls.Reply.TheVariants.{Used, Fail}
use Rattle.pr_model.specs.declared.handles.Held.{Held}

-- Writes of control messages (proc(4), "CONTROL MESSAGES"), and the waits that some of them ask for.

-- ---- what a control handle stands for

-- Whether what a control handle stands for has ended: its process, or for a file of one lwp that lwp.
abbrev pub still_there : Held → Option TracedProcess → Option TracedProcess
still_there h None = None
still_there h (Some p) = if not (is_of_lwp h.file) || is_some (lwp_of p h.lwp) then Some p else None

-- the process that a control handle acts on
unfoldable pub target_of : TracedSystem → Held → Option TracedProcess
target_of s h = still_there h (live_process s h.pid)

-- what in it a message acts on
abbrev pub aim_of : Held → Aim
aim_of h = if is_of_lwp h.file then at_lwp h.lwp else at_process

-- whether what a control handle stands for is stopped on an event of interest
unfoldable pub target_stopped : Held → TracedProcess → Bool
target_stopped h p = if is_of_lwp h.file then stands_on_event (lwp_of p h.lwp) else is_stopped p

-- itself, if it stands for a control file
abbrev pub control_handle : Option Held → Option Held
control_handle None = None
control_handle (Some h) = if is_control h.file then Some h else None

-- ---- a write

-- Process 0 is the system process: it takes no message.
abbrev pub system_refusal : Message → Errno
system_refusal (Set modes) = Inval
system_refusal (Unset modes) = Inval
system_refusal _ = Busy

-- the bytes that stand after the operands of the message with which bytes begin
abbrev pub tail_of : Message → List ℕ → List ℕ
tail_of m bytes = slice_range bytes (unpadded_length m - tail_length m) (unpadded_length m)

-- bytes that begin with no message are refused; process 0 takes none
abbrev pub decoded_answer : TracedSystem → Held → TracedProcess → List ℕ → Result (Message × ℕ) MsgFault → Controlled
decoded_answer s h p bytes (Err fault) = refused s Inval
decoded_answer s h p bytes (Ok (m, len)) =
    if h.pid == 0 then refused s (system_refusal m) else message_answer s h.pid p (aim_of h) m (tail_of m bytes) len

abbrev pub targeted_answer : TracedSystem → Held → Option TracedProcess → List ℕ → Controlled
targeted_answer s h None bytes = refused s Noent
targeted_answer s h (Some p) bytes = decoded_answer s h p bytes (first_message bytes)

abbrev pub held_answer : TracedSystem → Option Held → List ℕ → Controlled
held_answer s None bytes = refused s Badf
held_answer s (Some h) bytes = targeted_answer s h (target_of s h) bytes

-- A write of control messages by a controller, of which the first is handled. The refusals come in the order: no such
-- handle, the process or the lwp has ended, the bytes begin with no message, process 0, the message's own.
unfoldable pub control_answer : TracedSystem → Places → ℕ → ℕ → List ℕ → Controlled
control_answer s opens by handle bytes = held_answer s (control_handle (handle_of opens by handle)) bytes

-- ---- a wait

-- whether a message waits
abbrev pub waits : Message → Bool
waits Stop = true
waits Wstop = true
waits (Twstop ms) = true
waits _ = false

-- whether a wait is over: what it waits for is stopped on an event of interest, or its end has come
abbrev pub wait_over : TracedSystem → Held → TracedProcess → ℕ → Bool
wait_over s h p until = target_stopped h p || (not (until == 0) && nat_le until s.clock)

-- An interrupted controller's wait fails; one that is over is used up; any other is not ready.
abbrev pub waiting_reply : TracedSystem → Held → TracedProcess → ℕ → Bool → ℕ → Option Reply
waiting_reply s h p until interrupted len =
    if h.pid == 0 then Some (Fail Busy)
    else (if interrupted then Some (Fail Interrupted)
    else (if wait_over s h p until then Some (Used len) else None))

abbrev pub decoded_wait : TracedSystem → Held → TracedProcess → ℕ → Bool → Result (Message × ℕ) MsgFault → Option Reply
decoded_wait s h p until interrupted (Err fault) = Some (Fail Inval)
decoded_wait s h p until interrupted (Ok (m, len)) =
    if waits m then waiting_reply s h p until interrupted len else Some (Fail Inval)

abbrev pub targeted_wait : TracedSystem → Held → Option TracedProcess → ℕ → Bool → List ℕ → Option Reply
targeted_wait s h None until interrupted bytes = Some (Fail Noent)
targeted_wait s h (Some p) until interrupted bytes = decoded_wait s h p until interrupted (first_message bytes)

abbrev pub held_wait : TracedSystem → Option Held → ℕ → Bool → List ℕ → Option Reply
held_wait s None until interrupted bytes = Some (Fail Badf)
held_wait s (Some h) until interrupted bytes = targeted_wait s h (target_of s h) until interrupted bytes

-- The reply to the wait that a message asked for, of a controller that was interrupted or not. None: the wait is not
-- over. The refusals come in the order: no such handle, the process or the lwp has ended, the bytes begin with no
-- message that waits, process 0, an interrupt. A wait changes nothing of the system.
unfoldable pub wait_reply : TracedSystem → Places → ℕ → ℕ → ℕ → Bool → List ℕ → Option Reply
wait_reply s opens by handle until interrupted bytes =
    held_wait s (control_handle (handle_of opens by handle)) until interrupted bytes
