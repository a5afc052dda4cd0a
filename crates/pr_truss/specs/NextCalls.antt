-- The call that truss(1) makes next.
use Rattle.std.specs.Prelude.{ℕ, true, Option, Some, None, [], map}
use Rattle.pr_line.specs.declared.options.Options.{Options}
use Rattle.pr_model.specs.declared.calls.Call.{Call}
use Rattle.pr_model.specs.declared.calls.Call.TheVariants as call
use Rattle.pr_model.specs.declared.calls.File.{File}
use Rattle.pr_model.specs.declared.calls.File.TheVariants as file
use Rattle.pr_model.specs.declared.calls.Mode.TheVariants.{Read, WriteExcl}
use Rattle.pr_num.specs.Control.{fork_mode, rlc_mode}
use Rattle.pr_num.specs.Limits.{read_limit}
use Rattle.pr_num.specs.Messages.{spelling}
use Rattle.pr_num.specs.declared.messages.Message.TheVariants as message
use Rattle.pr_truss.specs.Messages.{message_call, all_modes, traced_entries, traced_exits, traced_faults, traced_signals}
use Rattle.pr_model.specs.Replies.{number_of}
use Rattle.pr_truss.specs.Processes.{last_handle}
use Rattle.pr_truss.specs.Trusses.{TrussState, traced_at}
use Rattle.pr_truss.specs.declared.processes.Traced.{Traced}
use Rattle.pr_truss.specs.declared.stages.ChildStep.{ChildStep}
use Rattle.pr_truss.specs.declared.stages.ChildStep.TheVariants as child
use Rattle.pr_truss.specs.declared.stages.FreeingStep.{FreeingStep}
use Rattle.pr_truss.specs.declared.stages.FreeingStep.TheVariants as freeing
use Rattle.pr_truss.specs.declared.stages.OpeningStep.{OpeningStep}
use Rattle.pr_truss.specs.declared.stages.OpeningStep.TheVariants as opening
use Rattle.pr_truss.specs.declared.stages.Stage.{Stage}
use Rattle.pr_truss.specs.declared.stages.Stage.TheVariants.{Spawning, OpeningControl, Opening, Polling, ReadingStatus, ReadingText, OpeningChildControl, OpeningChild, Running, Closing, Unfollowing, ReadingLwps, FreeingChild, Finished}

-- the control file of a process is opened for truss alone
abbrev pub open_control : ℕ → Call
open_control pid = call.Open pid 0 file.Ctl WriteExcl

-- the other files of a process are opened for reading
abbrev pub open_file : ℕ → File → Call
open_file pid f = call.Open pid 0 f Read

-- a record is read whole
abbrev pub read_record : Option ℕ → Call
read_record f = call.Read (number_of f) 0 read_limit

-- the process runs, with no run flag
abbrev pub run_call : ℕ → Call
run_call control = message_call control (message.Run 0)

-- The opening of a process that truss was given, once its control file is open: its other files; no mode but
-- run-on-last-close; a stop, and the wait for it; a look at the old stops; what is traced; and it runs.
unfoldable pub opening_call : Options → Traced → OpeningStep → Call
opening_call o t opening.OpenStatus = open_file t.pid file.Status
opening_call o t opening.OpenLstatus = open_file t.pid file.Lstatus
opening_call o t opening.OpenMemory = open_file t.pid file.Mem
opening_call o t opening.ClearModes = message_call t.control (message.Unset all_modes)
opening_call o t opening.SetRelease = message_call t.control (message.Set rlc_mode)
opening_call o t opening.Stop = message_call t.control message.Stop
opening_call o t (opening.AwaitStop until) = call.CtlWait t.control until (spelling message.Stop [])
opening_call o t opening.ReadLwps = read_record t.lstatus
opening_call o t opening.TraceSignals = message_call t.control (message.Strace (traced_signals o))
opening_call o t opening.TraceFaults = message_call t.control (message.Sfault (traced_faults o))
opening_call o t opening.TraceEntries = message_call t.control (message.Sentry (traced_entries o))
opening_call o t opening.TraceExits = message_call t.control (message.Sexit (traced_exits o))
opening_call o t opening.Follow = message_call t.control (message.Set fork_mode)
opening_call o t opening.Start = run_call t.control

-- The opening of a child of a fork, once its control file is open. It has the traced sets of its parent, and stands at
-- its birth.
unfoldable pub child_call : Traced → ChildStep → Call
child_call t child.SetRelease = message_call t.control (message.Set rlc_mode)
child_call t child.OpenStatus = open_file t.pid file.Status
child_call t child.OpenLstatus = open_file t.pid file.Lstatus
child_call t child.OpenMemory = open_file t.pid file.Mem
child_call t child.Start = run_call t.control

-- How a child is set free that nobody will trace: it runs when its control file is closed.
unfoldable pub freeing_call : ℕ → FreeingStep → Call
freeing_call pid freeing.OpenControl = open_control pid
freeing_call pid (freeing.SetRelease control) = message_call control (message.Set rlc_mode)
freeing_call pid (freeing.Close control) = call.Close control

-- the call of each step; none where truss has finished
unfoldable pub call_of : TrussState → Stage → Option Call
call_of s (Spawning program) = Some (call.Spawn program true)
call_of s (OpeningControl pid) = Some (open_control pid)
call_of s (Opening place step) = Some (opening_call s.options (traced_at s place) step)
call_of s Polling = Some (call.Poll (map (λ t. t.control) s.traced))
call_of s (ReadingStatus place) = Some (read_record (traced_at s place).status)
call_of s (ReadingText place lwp at len) = Some (call.Read (number_of (traced_at s place).memory) at len)
call_of s (OpeningChildControl parent pid) = Some (open_control pid)
call_of s (OpeningChild parent place step) = Some (child_call (traced_at s place) step)
call_of s (Running place) = Some (run_call (traced_at s place).control)
call_of s (Closing place next) = Some (call.Close (last_handle (traced_at s place)))
call_of s Unfollowing = Some (message_call (traced_at s 0).control (message.Unset fork_mode))
call_of s ReadingLwps = Some (read_record (traced_at s 0).lstatus)
call_of s (FreeingChild pid step) = Some (freeing_call pid step)
call_of s Finished = None

-- the call that truss makes next; none where it has finished
unfoldable pub next_call_of : TrussState → Option Call
next_call_of s = call_of s s.stage
