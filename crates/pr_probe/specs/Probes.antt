-- apfiles as a controller of the kernel: the call that it makes next, and what the reply makes of it. It knows the
-- machine by replies alone.
use Rattle.std.specs.Prelude.{ℕ, ◌==◌, Bool, true, false, List, [], ◌∷◌, ◌++◌, Option, Some, None, Result, Ok, Err, is_none, option_map, length, take, slice_index, nat_lt, if◌then◌else◌}
use Rattle.pr_num.specs.Layout.{text_base, stack_base}
use Rattle.pr_num.specs.Limits.{descriptor_limit, read_limit}
use Rattle.pr_num.specs.Messages.{spelling}
use Rattle.pr_num.specs.Records.{lwpstatus_ranges, status_ranges}
use Rattle.pr_num.specs.declared.errnos.Errno.{Errno}
use Rattle.pr_num.specs.declared.errnos.Errno.TheVariants.{Busy, Fault}
use Rattle.pr_num.specs.declared.files.FdKind.{FdKind}
use Rattle.pr_num.specs.declared.messages.Message.{Message}
use Rattle.pr_num.specs.declared.messages.Message.TheVariants as message
use Rattle.pr_model.specs.Replies.{number_of, opened_in, until_in}
use Rattle.pr_model.specs.declared.calls.Call.{Call}
use Rattle.pr_model.specs.declared.calls.Call.TheVariants as call
use Rattle.pr_model.specs.declared.calls.Reply.{Reply}
use Rattle.pr_model.specs.declared.calls.Reply.TheVariants as reply
use Rattle.pr_rec.specs.Reading.{record_read}
use Rattle.pr_rec.specs.declared.faults.RecFault.{RecFault}
use Rattle.pr_tools.specs.Calls.{stop_bytes}
use Rattle.pr_tools.specs.Handles.{nothing_open, handle_at, with_handle, last_open, without_last}
use Rattle.pr_tools.specs.Replies.{bytes_read}
use Rattle.pr_tools.specs.Stacks.{process_stands}
use Rattle.pr_tools.specs.declared.handles.Opened.{Opened}
use Rattle.pr_probe.specs.AgentCode.{agent_registers, code_size, exit_pc, planted, stack_size}
use Rattle.pr_probe.specs.DescriptorLines.{kind_in}
use Rattle.pr_probe.specs.ProbeStages.{place_of, file_of, lwp_of, mode_of, stage_asked, stage_after, way_out, is_passed_over}
use Rattle.pr_probe.specs.Regions.{has_room}
use Rattle.pr_probe.specs.TracedSets.{agent_sets, no_sets, set_word, trace_message, sets_in, is_watched_in}
use Rattle.pr_probe.specs.declared.descriptor_lines.OpenDescriptor.{OpenDescriptor}
use Rattle.pr_probe.specs.declared.probe_stages.AskingStep.{AskingStep}
use Rattle.pr_probe.specs.declared.probe_stages.AskingStep.TheVariants.{SetRegisters, Run as RunAgent, Await, ReadAgent, ReadKind}
use Rattle.pr_probe.specs.declared.probe_stages.ProbeFile.{ProbeFile}
use Rattle.pr_probe.specs.declared.probe_stages.ProbeFile.TheVariants.{Control, Status, Lstatus, Map, AgentControl, AgentStatus}
use Rattle.pr_probe.specs.declared.probe_stages.ProbeStage.{ProbeStage}
use Rattle.pr_probe.specs.declared.probe_stages.ProbeStage.TheVariants.{Open, ReadFirst, Stop, AwaitStop, ReadStatus, ReadMap, SaveCode, SaveStack, Trace, MakeAgent, PlantCode, Asking, UntraceExits, SetExit, RunExit, AwaitExit, WriteCode, WriteStack, Retrace, Run, Restore, Release, Close}
use Rattle.pr_probe.specs.declared.traced_sets.SetKind.{SetKind}
use Rattle.pr_probe.specs.declared.traced_sets.SetKind.TheVariants.{Exits}
use Rattle.pr_probe.specs.declared.traced_sets.TracedSets.{TracedSets}

-- apfiles on its way: of which process, the files that it has open, its stage, the clock at which its wait ends (0 for
-- no end), whether the process stood already, whether it has a watched area, the sets that it is traced by, the bytes
-- of its text and of its stack that are saved, the descriptors that were found open, and the errno that refused
-- apfiles.
pub record ProbeState : Type 0 where
  pub pid : ℕ
  pub opened : Opened
  pub stage : ProbeStage
  pub until : ℕ
  pub stood : Bool
  pub watched : Bool
  pub sets : TracedSets
  pub code : List ℕ
  pub stack : List ℕ
  pub lines : List OpenDescriptor
  pub refusal : Option Errno

-- before its first call
unfoldable pub first_probe : ℕ → ProbeState
first_probe pid = record {
  pid = pid;
  opened = nothing_open;
  stage = Open Control;
  until = 0;
  stood = false;
  watched = false;
  sets = no_sets;
  code = [];
  stack = [];
  lines = [];
  refusal = None;
}

-- ---- its calls

-- the handle of a file, where that is open
abbrev pub handle_of : ProbeState → ProbeFile → Option ℕ
handle_of s f = handle_at s.opened (place_of f)

-- a message, which has nothing after its fixed part
abbrev pub message_to : ProbeState → ProbeFile → Message → Call
message_to s f m = call.Ctl (number_of (handle_of s f)) (spelling m [])

-- PCWRITE
abbrev pub write_of : ProbeState → ℕ → List ℕ → Call
write_of s at bytes =
    call.Ctl (number_of (handle_of s Control)) (spelling (message.Write at (length bytes)) bytes)

-- one of the traced sets is set
abbrev pub set_call : ProbeState → SetKind → TracedSets → Call
set_call s kind sets = message_to s Control (trace_message kind (set_word sets kind))

-- the wait for the agent
abbrev pub poll_agent : ProbeState → Call
poll_agent s = call.Poll (number_of (handle_of s AgentControl) ∷ [])

-- the reading of what a file shows
abbrev pub read_of : ProbeState → ProbeFile → Call
read_of s f = call.Read (number_of (handle_of s f)) 0 read_limit

-- how many bytes are read of what fstat(2) wrote: the word of the kind
abbrev pub kind_size : ℕ
kind_size = 8

-- the call of a step of asking for a descriptor. The registers of the agent and its run go to the agent's control file.
unfoldable pub asking_call : ProbeState → ℕ → AskingStep → Call
asking_call s descriptor SetRegisters =
    message_to s AgentControl (message.Sreg (agent_registers descriptor text_base))
asking_call s descriptor RunAgent = message_to s AgentControl (message.Run 0)
asking_call s descriptor Await = poll_agent s
asking_call s descriptor ReadAgent = read_of s AgentStatus
asking_call s descriptor ReadKind = message_to s Control (message.Read stack_base kind_size)

-- the call of a stage, a row a stage; none where all is closed
unfoldable pub call_of : ProbeState → ProbeStage → Option Call
call_of s (Open f) = Some (call.Open s.pid (lwp_of f) (file_of f) (mode_of f))
call_of s ReadFirst = Some (read_of s Lstatus)
call_of s Stop = Some (message_to s Control message.Stop)
call_of s AwaitStop = Some (call.CtlWait (number_of (handle_of s Control)) s.until stop_bytes)
call_of s ReadStatus = Some (read_of s Status)
call_of s ReadMap = Some (read_of s Map)
call_of s SaveCode = Some (message_to s Control (message.Read text_base code_size))
call_of s SaveStack = Some (message_to s Control (message.Read stack_base stack_size))
call_of s (Trace kind) = Some (set_call s kind agent_sets)
call_of s MakeAgent = Some (message_to s Control (message.Agent (agent_registers 0 text_base)))
call_of s PlantCode = Some (write_of s text_base planted)
call_of s (Asking descriptor step) = Some (asking_call s descriptor step)
call_of s UntraceExits = Some (set_call s Exits no_sets)
call_of s SetExit = Some (message_to s AgentControl (message.Sreg (agent_registers 0 exit_pc)))
call_of s RunExit = Some (message_to s AgentControl (message.Run 0))
call_of s AwaitExit = Some (poll_agent s)
call_of s WriteCode = Some (write_of s text_base s.code)
call_of s WriteStack = Some (write_of s stack_base s.stack)
call_of s (Retrace kind) = Some (set_call s kind s.sets)
call_of s Run = Some (message_to s Control (message.Run 0))
call_of s (Restore kind) = Some (set_call s kind s.sets)
call_of s Release = Some (message_to s Control (message.Run 0))
call_of s Close = option_map call.Close (last_open s.opened)

-- the call that apfiles makes next; none where it has finished
unfoldable pub next_call_of : ProbeState → Option Call
next_call_of s = call_of s s.stage

-- ---- the replies

abbrev pub at_stage : ProbeState → ProbeStage → ProbeState
at_stage s stage = record s { stage = stage }

-- the process is run, unless that stood before apfiles came
unfoldable pub with_run_next : ProbeState → ProbeStage → ProbeState
with_run_next s run = if s.stood then at_stage s Close else at_stage s run

-- the stage comes next, where it has a call
unfoldable pub with_next : ProbeState → ProbeStage → ProbeState
with_next s Run = with_run_next s Run
with_next s Release = with_run_next s Release
with_next s stage = at_stage s stage

-- the stage after the present one comes next
unfoldable pub advanced : ProbeState → ProbeState
advanced s = with_next s (stage_after s.stage)

abbrev pub with_opened : ProbeState → ProbeFile → Reply → ProbeState
with_opened s f r = record s { opened = with_handle s.opened (place_of f) (opened_in r) }

-- a refused apfiles puts back what it changed, and closes
unfoldable pub refused : ProbeState → Errno → ProbeState
refused s e = with_next (record s { refusal = Some e }) (way_out s.stage)

-- the sets are noted, and whether there is a watched area
unfoldable pub with_status : ProbeState → List ℕ → ProbeState
with_status s bytes = record s {
  watched = is_watched_in (record_read status_ranges bytes);
  sets = sets_in (record_read status_ranges bytes);
}

-- no agent is made in a process with a watched area, nor in one without room for what the agent does
unfoldable pub with_map : ProbeState → List ℕ → ProbeState
with_map s bytes =
    if s.watched then refused s Busy else (if has_room bytes then advanced s else refused s Fault)

-- an lwp whose call gave no errno, by its status
unfoldable pub shows_open : Result (List ℕ) RecFault → Bool
shows_open (Ok words) = slice_index words 15 == 0
shows_open (Err fault) = false

-- a descriptor was done with: the next comes
abbrev pub asked : ProbeState → ℕ → ProbeState
asked s descriptor = at_stage s (stage_asked descriptor)

-- what the descriptor stands for is read only where the call of the agent found it open
unfoldable pub with_answer : ProbeState → ℕ → List ℕ → ProbeState
with_answer s descriptor bytes =
    if shows_open (record_read lwpstatus_ranges bytes) then at_stage s
    (Asking descriptor ReadKind) else asked s descriptor

-- the descriptors that are open with one more, where there is room
unfoldable pub with_kind : ProbeState → ℕ → Option FdKind → ProbeState
with_kind s descriptor None = s
with_kind s descriptor (Some kind) =
    if nat_lt (length s.lines) descriptor_limit
    then record s { lines = s.lines ++ record { descriptor = descriptor; kind = kind } ∷ [] } else s

-- a wait for the agent that was interrupted is made again
unfoldable pub after_poll : ProbeState → Reply → ProbeState
after_poll s (reply.Fail e) = s
after_poll s r = advanced s

-- what a reply makes of a probe that asks for a descriptor, a row a step
unfoldable pub asking_accepted : ProbeState → Reply → ℕ → AskingStep → ProbeState
asking_accepted s r descriptor SetRegisters = advanced s
asking_accepted s r descriptor RunAgent = advanced s
asking_accepted s r descriptor Await = after_poll s r
asking_accepted s r descriptor ReadAgent = with_answer s descriptor (bytes_read r)
asking_accepted s r descriptor ReadKind = asked (with_kind s descriptor (kind_in (bytes_read r))) descriptor

-- what a reply makes of a probe that it does not refuse, a row a stage
unfoldable pub accepted : ProbeState → Reply → ProbeStage → ProbeState
accepted s r (Open f) = advanced (with_opened s f r)
accepted s r ReadFirst = advanced (record s { stood = process_stands (bytes_read r) })
accepted s r Stop = advanced (record s { until = until_in r })
accepted s r ReadStatus = advanced (with_status s (bytes_read r))
accepted s r ReadMap = with_map s (bytes_read r)
accepted s r SaveCode = advanced (record s { code = take code_size (bytes_read r) })
accepted s r SaveStack = advanced (record s { stack = take stack_size (bytes_read r) })
accepted s r (Asking descriptor step) = asking_accepted s r descriptor step
accepted s r AwaitExit = after_poll s r
accepted s r Close = record s { opened = without_last s.opened }
accepted s r _ = advanced s

-- the errno with which a reply refuses a stage
unfoldable pub refusal_in : ProbeStage → Reply → Option Errno
refusal_in stage (reply.Fail e) = if is_passed_over stage e then None else Some e
refusal_in _ _ = None

abbrev pub answered : ProbeState → Reply → Option Errno → ProbeState
answered s r None = accepted s r s.stage
answered s r (Some e) = refused s e

-- a probe that was fed the reply to its call
unfoldable pub fed : ProbeState → Reply → ProbeState
fed s r = answered s r (refusal_in s.stage r)

-- whether apfiles has finished
unfoldable pub has_ended : ProbeState → Bool
has_ended s = is_none (next_call_of s)
