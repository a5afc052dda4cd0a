-- A tool as a controller of the kernel: the call that it makes next, what the reply makes of it, and what it prints in
-- the end. It knows the machine by replies alone.
use Rattle.std.specs.Prelude.{ℕ, Bool, false, List, [], ◌∷◌, Option, Some, None, is_none, option_map, length, take, nat_le, if◌then◌else◌}
use Rattle.pr_num.specs.Layout.{text_base}
use Rattle.pr_num.specs.Limits.{read_limit}
use Rattle.pr_num.specs.Programs.{Program}
use Rattle.pr_num.specs.declared.errnos.Errno.{Errno}
use Rattle.pr_model.specs.ToolNames.{tool_name}
use Rattle.pr_model.specs.declared.calls.Call.{Call}
use Rattle.pr_model.specs.declared.calls.Call.TheVariants as call
use Rattle.pr_model.specs.declared.calls.File.TheVariants as file
use Rattle.pr_model.specs.declared.calls.Mode.TheVariants as mode
use Rattle.pr_model.specs.declared.calls.Reply.{Reply}
use Rattle.pr_model.specs.declared.tools.ToolKind.{ToolKind}
use Rattle.pr_model.specs.declared.tools.ToolKind.TheVariants.{Pstack}
use Rattle.pr_tools.specs.Calls.{short_read, stop_bytes, direct_bytes, run_bytes}
use Rattle.pr_tools.specs.Handles.{nothing_open, handle_at, with_handle, last_open, without_last}
use Rattle.pr_tools.specs.Pstack.{pstack_text}
use Rattle.pr_tools.specs.RecordTexts.{text_of_record}
use Rattle.pr_tools.specs.Refusals.{refusal_line}
use Rattle.pr_model.specs.Replies.{number_of, opened_in, until_in}
use Rattle.pr_tools.specs.Replies.{bytes_read, refusal_in}
use Rattle.pr_tools.specs.Stacks.{process_stands, walk_in, walk_after, with_frame}
use Rattle.pr_tools.specs.Steps.{first_step, after, way_out, file_of, ctl_mode_of, control_place, record_place, memory_place, record_room, frame_room}
use Rattle.pr_tools.specs.declared.handles.Opened.{Opened}
use Rattle.pr_tools.specs.declared.stacks.CallFrame.{CallFrame}
use Rattle.pr_tools.specs.declared.stacks.Walk.{Walk}
use Rattle.pr_tools.specs.declared.steps.Step.{Step}
use Rattle.pr_tools.specs.declared.steps.Step.TheVariants.{OpenCtl, OpenFile, OpenMemory, ReadFirst, Stop, AwaitStop, Direct, AwaitEnd, ReadFile, ReadText, ReadFrame, Run, List as ListAll, Release, Close}

-- A tool on its way: which one it is and of which process, the files that it has open, its next step, the clock at
-- which its wait ends (0 for no end), whether the process stood already, the record that it read, the first instruction
-- of the process, the place on its way through the stacks, the frames that it read, and the errno that refused it.
pub record ToolState : Type 0 where
  pub kind : ToolKind
  pub pid : ℕ
  pub opened : Opened
  pub step : Step
  pub until : ℕ
  pub stood : Bool
  pub bytes : List ℕ
  pub first : Option (List ℕ)
  pub walk : Option Walk
  pub frames : List CallFrame
  pub refusal : Option Errno

-- a tool before its first call
unfoldable pub first_tool : ToolKind → ℕ → ToolState
first_tool kind pid = record {
  kind = kind;
  pid = pid;
  opened = nothing_open;
  step = first_step kind;
  until = 0;
  stood = false;
  bytes = [];
  first = None;
  walk = None;
  frames = [];
  refusal = None;
}

-- ---- its calls

-- the handles of its files
abbrev pub control_file : ToolState → ℕ
control_file s = number_of (handle_at s.opened control_place)

abbrev pub record_file : ToolState → ℕ
record_file s = number_of (handle_at s.opened record_place)

abbrev pub memory_file : ToolState → ℕ
memory_file s = number_of (handle_at s.opened memory_place)

-- the frame that comes next; where none does, 0
abbrev pub frame_of : Option Walk → ℕ
frame_of None = 0
frame_of (Some walk) = walk.frame

-- the call of a step, a row a step; none where all is closed
unfoldable pub call_of : ToolState → Step → Option Call
call_of s OpenCtl = Some (call.Open s.pid 0 file.Ctl (ctl_mode_of s.kind))
call_of s OpenFile = Some (call.Open s.pid 0 (file_of s.kind) mode.Read)
call_of s OpenMemory = Some (call.Open s.pid 0 file.Mem mode.Read)
call_of s ReadFirst = Some (call.Read (record_file s) 0 read_limit)
call_of s Stop = Some (call.Ctl (control_file s) stop_bytes)
call_of s AwaitStop = Some (call.CtlWait (control_file s) s.until stop_bytes)
call_of s Direct = Some (call.Ctl (control_file s) direct_bytes)
call_of s AwaitEnd = Some (call.Poll (record_file s ∷ []))
call_of s ReadFile = Some (call.Read (record_file s) 0 read_limit)
call_of s ReadText = Some (call.Read (memory_file s) text_base short_read)
call_of s ReadFrame = Some (call.Read (memory_file s) (frame_of s.walk) short_read)
call_of s Run = Some (call.Ctl (control_file s) run_bytes)
call_of s ListAll = Some call.List
call_of s Release = Some (call.Ctl (control_file s) run_bytes)
call_of s Close = option_map call.Close (last_open s.opened)

-- the call that a tool makes next; none where it has finished
unfoldable pub next_call_of : ToolState → Option Call
next_call_of s = call_of s s.step

-- ---- the replies

abbrev pub at_step : ToolState → Step → ToolState
at_step s step = record s { step = step }

-- pstack runs the process, unless that stood before it came
unfoldable pub with_run_next : ToolState → ToolState
with_run_next s = if s.stood then at_step s Close else at_step s Run

-- a frame comes next, if there is one
unfoldable pub with_walk : ToolState → Option Walk → ToolState
with_walk s None = with_run_next (record s { walk = None })
with_walk s (Some walk) = at_step (record s { walk = Some walk }) ReadFrame

-- how many bytes the status of all lwps begins with: their number
abbrev pub before_lwps : ℕ
before_lwps = 8

-- the step comes next, where it has a call
unfoldable pub with_next : ToolState → Step → ToolState
with_next s ReadFrame = with_walk s (walk_in s.bytes before_lwps)
with_next s Run = with_run_next s
with_next s step = at_step s step

-- the step after the present one comes next
unfoldable pub advanced : ToolState → ToolState
advanced s = with_next s (after s.kind s.step)

-- the bytes of a record, as far as there is room
unfoldable pub with_record : ToolState → List ℕ → ToolState
with_record s bytes = record s { bytes = take (record_room s.kind) bytes }

-- the first instruction of the process; where fewer bytes are mapped, none
unfoldable pub with_first : ToolState → List ℕ → ToolState
with_first s bytes =
    record s { first = if nat_le short_read (length bytes) then Some (take short_read bytes) else None }

-- what an answer makes of the frames of a walk, and of the walk
unfoldable pub with_answer : ToolState → List ℕ → Option Walk → ToolState
with_answer s answer None = with_run_next s
with_answer s answer (Some walk) =
    with_walk (record s { frames = with_frame (frame_room s.kind) s.frames walk answer })
    (walk_after s.bytes walk answer)

-- a file was closed
unfoldable pub with_closed : ToolState → ToolState
with_closed s = record s { opened = without_last s.opened }

-- what a reply makes of a tool that it does not refuse, a row a step
unfoldable pub accepted : ToolState → Reply → Step → ToolState
accepted s r OpenCtl = advanced (record s { opened = with_handle s.opened control_place (opened_in r) })
accepted s r OpenFile = advanced (record s { opened = with_handle s.opened record_place (opened_in r) })
accepted s r OpenMemory = advanced (record s { opened = with_handle s.opened memory_place (opened_in r) })
accepted s r ReadFirst = advanced (record s { stood = process_stands (bytes_read r) })
accepted s r Stop = advanced (record s { until = until_in r })
accepted s r AwaitStop = advanced s
accepted s r Direct = advanced s
accepted s r AwaitEnd = advanced s
accepted s r ReadFile = advanced (with_record s (bytes_read r))
accepted s r ReadText = advanced (with_first s (bytes_read r))
accepted s r ReadFrame = with_answer s (bytes_read r) s.walk
accepted s r Run = advanced s
accepted s r ListAll = advanced (with_record s (bytes_read r))
accepted s r Release = advanced s
accepted s r Close = with_closed s

-- a refused tool closes what it had opened
unfoldable pub refused : ToolState → Errno → ToolState
refused s e = record s { step = way_out s.kind s.step; refusal = Some e }

abbrev pub answered : ToolState → Reply → Option Errno → ToolState
answered s r None = accepted s r s.step
answered s r (Some e) = refused s e

-- a tool that was fed the reply to its call
unfoldable pub fed : ToolState → Reply → ToolState
fed s r = answered s r (refusal_in s.step r)

-- ---- its text

-- whether a tool has finished
unfoldable pub has_ended : ToolState → Bool
has_ended s = is_none (next_call_of s)

-- the text of a tool that was not refused, of what it read
unfoldable pub text_of : ToolState → List Program → ToolKind → List ℕ
text_of s programs Pstack = pstack_text s.pid s.bytes s.first s.frames programs
text_of s programs kind = text_of_record kind s.pid s.bytes

-- its text, or the line of its refusal
abbrev pub report : ToolState → List Program → Option Errno → List ℕ
report s programs None = text_of s programs s.kind
report s programs (Some e) = refusal_line (tool_name s.kind) s.pid e

-- what a tool prints: nothing until it has finished
unfoldable pub printed : ToolState → List Program → List ℕ
printed s programs = if has_ended s then report s programs s.refusal else []
