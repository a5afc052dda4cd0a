-- Why a call of a controller is refused (proc(4)): a sentence for each refusal of each call. Each is true of all calls
-- that are refused so; where there can be several reasons, it names them all.
use Rattle.std.specs.Prelude.{ℕ, ◌==◌, Option, Some, None, List, [], ◌++◌, Result, Ok, Err, codes, length, if◌then◌else◌}
use Rattle.pr_num.specs.Errnos.{errno_name}
use Rattle.pr_num.specs.Messages.{first_message}
use Rattle.pr_num.specs.declared.errnos.Errno.{Errno}
use Rattle.pr_num.specs.declared.errnos.Errno.TheVariants as errno
use Rattle.pr_num.specs.declared.messages.Message.{Message}
use Rattle.pr_num.specs.declared.messages.Message.TheVariants as message
use Rattle.pr_num.specs.declared.messages.MsgFault.{MsgFault}
use Rattle.pr_model.specs.declared.calls.Call.{Call}
use Rattle.pr_model.specs.declared.calls.Call.TheVariants as call
use Rattle.pr_hist.specs.Names.{Names, process_by}

-- an open
unfoldable pub open_reason : Errno → List ℕ
open_reason errno.Inval = codes "the mode or the lwp does not fit the file"
open_reason errno.Noent = codes "there is no such process or lwp, or it has ended"
open_reason errno.Busy = codes "the process is open for writing, or exclusively"
open_reason errno.Mfile = codes "1,024 handles are open"
open_reason _ = []

-- a close
unfoldable pub close_reason : Errno → List ℕ
close_reason errno.Badf = codes "the handle is not open, or not this controller's"
close_reason _ = []

-- a read
unfoldable pub read_reason : Errno → List ℕ
read_reason errno.Badf = codes "the handle is not open, not this controller's, or of a control file"
read_reason errno.Inval = codes "the length is 0, or above 20,480"
read_reason errno.Noent = codes "the process or the lwp has ended"
read_reason errno.Io = codes "the first byte is not mapped"
read_reason _ = []

-- a poll
unfoldable pub poll_reason : Errno → List ℕ
poll_reason errno.Badf = codes "a handle is not open, or not this controller's"
poll_reason errno.Inval = codes "there is no handle, or there are more than 1,024"
poll_reason errno.Intr = codes "this controller was interrupted"
poll_reason _ = []

-- an interrupt
unfoldable pub interrupt_reason : Errno → List ℕ
interrupt_reason errno.Inval = codes "no controller has this number"
interrupt_reason _ = []

-- the making of a process
unfoldable pub spawn_reason : Errno → List ℕ
spawn_reason errno.Noent = codes "there is no such program"
spawn_reason errno.Again = codes "4,096 processes were made"
spawn_reason errno.Nomem = codes "too much memory would be mapped"
spawn_reason _ = []

-- a kill
unfoldable pub kill_reason : Errno → List ℕ
kill_reason errno.Inval = codes "there is no such signal"
kill_reason errno.Perm = codes "process 0 takes no signal"
kill_reason errno.Srch = codes "there is no such process"
kill_reason errno.Again = codes "the queue of signals is full"
kill_reason _ = []

-- a wait for the clock
unfoldable pub until_reason : Errno → List ℕ
until_reason errno.Intr = codes "this controller was interrupted"
until_reason _ = []

-- a control message, where the message does not tell why
unfoldable pub control_reason : Errno → List ℕ
control_reason errno.Badf = codes "the handle is not open, not this controller's, or not of a control file"
control_reason errno.Noent = codes "the process or the lwp has ended"
control_reason errno.Io = codes "not all of the bytes are mapped"
control_reason errno.Again = codes "the queue of signals is full"
control_reason _ = []

-- Why a process but 0 refuses a message with EBUSY, a row a message. The lwp is the one on which the message acts, and
-- it is stopped where it stands on an event of interest, as proc(4) has these words.
unfoldable pub busy_reason : Message → List ℕ
busy_reason (message.Run flags) = codes "an agent exists, or the lwp is neither stopped nor directed to stop"
busy_reason (message.Sreg regs) = codes "the lwp is not stopped"
busy_reason (message.Svaddr pc) = codes "the lwp is not stopped"
busy_reason (message.Watch at size flags) = codes "the process has lent its memory"
busy_reason (message.Agent regs) =
    codes "an agent exists, an lwp is neither stopped nor suspended, or the memory is lent"
busy_reason (message.Write at len) = codes "the process has lent its memory"
busy_reason _ = []

-- the same by the process, where it is known: process 0 takes no message, and refuses nearly all with EBUSY
unfoldable pub busy_by : Option ℕ → Message → List ℕ
busy_by None m = codes "the process takes no such message as it stands"
busy_by (Some pid) m = if pid == 0 then codes "process 0 takes no message" else busy_reason m

-- Why a message is refused with EINVAL, a row a message: that of PCSET and PCUNSET is process 0's.
unfoldable pub invalid_reason : Message → List ℕ
invalid_reason (message.Set modes) = codes "process 0 takes no message"
invalid_reason (message.Unset modes) = codes "process 0 takes no message"
invalid_reason (message.Watch at size flags) = codes "the area overlaps another one"
invalid_reason _ = []

-- why a message is refused with ENOMEM, a row a message
unfoldable pub full_reason : Message → List ℕ
full_reason (message.Watch at size flags) = codes "64 areas are watched already"
full_reason (message.Agent regs) = codes "the process has 64 lwps already"
full_reason _ = []

-- why a message to this process, where it is known, is refused
unfoldable pub message_reason : Option ℕ → Message → Errno → List ℕ
message_reason process m errno.Busy = busy_by process m
message_reason process m errno.Inval = invalid_reason m
message_reason process m errno.Nomem = full_reason m
message_reason process m e = control_reason e

-- why bytes are refused that begin with no message
unfoldable pub no_message_reason : Errno → List ℕ
no_message_reason errno.Inval = codes "the bytes begin with no message"
no_message_reason e = control_reason e

-- why a write of control messages is refused, of which this is the first
abbrev pub by_first : Option ℕ → Errno → Result (Message × ℕ) MsgFault → List ℕ
by_first process e (Err fault) = no_message_reason e
by_first process e (Ok m) = message_reason process m.0 e

unfoldable pub write_reason : Option ℕ → List ℕ → Errno → List ℕ
write_reason process bytes e = by_first process e (first_message bytes)

-- why a wait for a stop is refused: PCSTOP, PCWSTOP and PCTWSTOP alone are waited for
unfoldable pub wait_reason : Errno → List ℕ
wait_reason errno.Inval = codes "the bytes begin with no message that can be waited for"
wait_reason errno.Busy = codes "process 0 takes no message"
wait_reason errno.Intr = codes "this controller was interrupted"
wait_reason e = control_reason e

-- why a call is refused, before which this is known, a row a call
unfoldable pub reason : Names → Call → Errno → List ℕ
reason names (call.Open pid lwp file mode) e = open_reason e
reason names (call.Close h) e = close_reason e
reason names (call.Ctl h bytes) e = write_reason (process_by names h) bytes e
reason names (call.CtlWait h until bytes) e = wait_reason e
reason names (call.Read h at len) e = read_reason e
reason names (call.Poll hs) e = poll_reason e
reason names (call.Interrupt k) e = interrupt_reason e
reason names (call.Spawn program held) e = spawn_reason e
reason names (call.Kill pid sig) e = kill_reason e
reason names (call.Until moment) e = until_reason e
reason names call.List e = []

-- a sentence behind a colon, where there is one
unfoldable pub sentence_text : List ℕ → List ℕ
sentence_text s = if length s == 0 then [] else codes ": " ++ s

-- a refusal: the errno, and why
unfoldable pub refusal_text : Names → Call → Errno → List ℕ
refusal_text names c e = errno_name e ++ sentence_text (reason names c e)
