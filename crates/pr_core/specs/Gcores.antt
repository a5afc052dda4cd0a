-- gcore(1) as a controller of the kernel: the call that it makes next, and what the reply makes of it. It keeps the
-- bytes of the core so far: each reply appends its section, and each piece of memory its bytes.
use Rattle.std.specs.Prelude.{ℕ, ◌+◌, ◌-◌, ◌%◌, ◌^◌, ◌≤◌, ◌++◌, Bool, true, false, List, [], Option, Some, None, Result, Ok, Err, is_none, option_map, length, take, replicate, min, nat_le, nat_lt, slice_index, if◌then◌else◌}
use Rattle.pr_codec.specs.Words.{word_at}
use Rattle.pr_num.specs.Control.{has_flags, vforkp_flag}
use Rattle.pr_num.specs.Limits.{read_limit}
use Rattle.pr_num.specs.Records.{status_ranges}
use Rattle.pr_num.specs.Words.{word_bytes}
use Rattle.pr_num.specs.declared.errnos.Errno.{Errno}
use Rattle.pr_num.specs.declared.errnos.Errno.TheVariants.{Busy}
use Rattle.pr_model.specs.Replies.{number_of, opened_in, until_in}
use Rattle.pr_model.specs.declared.calls.Call.{Call}
use Rattle.pr_model.specs.declared.calls.Call.TheVariants as call
use Rattle.pr_model.specs.declared.calls.File.TheVariants as file
use Rattle.pr_model.specs.declared.calls.Mode.TheVariants as mode
use Rattle.pr_model.specs.declared.calls.Reply.{Reply}
use Rattle.pr_model.specs.declared.calls.Reply.TheVariants as reply
use Rattle.pr_rec.specs.Reading.{record_read}
use Rattle.pr_rec.specs.declared.faults.RecFault.{RecFault}
use Rattle.pr_tools.specs.Calls.{stop_bytes, run_bytes}
use Rattle.pr_tools.specs.Handles.{nothing_open, handle_at, with_handle, last_open, without_last}
use Rattle.pr_tools.specs.Replies.{bytes_read}
use Rattle.pr_tools.specs.Stacks.{process_stands}
use Rattle.pr_tools.specs.declared.handles.Opened.{Opened}
use Rattle.pr_core.specs.CoreBytes.{core_version, section, memory_kind}
use Rattle.pr_core.specs.GcoreStages.{kind_of_part, file_of_part, place_of_part, control_place, status_place, memory_place, stage_after, way_out}
use Rattle.pr_core.specs.declared.gcore_stages.GcorePart.{GcorePart}
use Rattle.pr_core.specs.declared.gcore_stages.GcorePart.TheVariants.{Lstatus, Map}
use Rattle.pr_core.specs.declared.gcore_stages.GcoreStage.{GcoreStage}
use Rattle.pr_core.specs.declared.gcore_stages.GcoreStage.TheVariants.{OpenCtl, OpenStatus, OpenPart, OpenMemory, ReadFirst, Stop, AwaitStop, ReadStatus, ReadPart, ReadMemory, Run, Release, Close}
use Rattle.pr_core.specs.declared.memory_walks.MemoryWalk.{MemoryWalk}

-- gcore on its way: of which process, the files that it has open, its stage, the clock at which its wait ends (0 for
-- no end), whether the process stood already, the record of its mappings, the place on the way through its memory, the
-- bytes of the core so far, and the errno that refused it.
pub record GcoreState : Type 0 where
  pub pid : ℕ
  pub opened : Opened
  pub stage : GcoreStage
  pub until : ℕ
  pub stood : Bool
  pub maps : List ℕ
  pub walk : Option MemoryWalk
  pub bytes : List ℕ
  pub refusal : Option Errno

-- gcore, and how many more bytes it has room for
pub record GcoreView : Type 0 where
  pub state : GcoreState
  pub room : ℕ

-- how many bytes one reply can add: a section of what a read gives, and the heading of the next
abbrev pub added_limit : ℕ
added_limit = 16 + read_limit + 16

-- it can be fed once without memory
pub record IsReady (g : GcoreView) : Type 0 where
  pub room : added_limit ≤ g.room

-- before its first call: the version of the core's layout and the process's id stand there
unfoldable pub first_gcore : ℕ → GcoreState
first_gcore pid = record {
  pid = pid;
  opened = nothing_open;
  stage = OpenCtl;
  until = 0;
  stood = false;
  maps = [];
  walk = None;
  bytes = word_bytes core_version ++ word_bytes pid;
  refusal = None;
}

-- ---- its calls

-- the handle of the file at a place
abbrev pub file_of : GcoreState → ℕ → ℕ
file_of s place = number_of (handle_at s.opened place)

-- the most bytes of memory that are read at once
abbrev pub piece_limit : ℕ
piece_limit = 16384

-- how many bytes the next piece has: the last of a mapping has the rest
abbrev pub piece_of : MemoryWalk → ℕ
piece_of w = min w.left piece_limit

abbrev pub memory_call : GcoreState → Option MemoryWalk → Call
memory_call s None = call.Read (file_of s memory_place) 0 0
memory_call s (Some w) = call.Read (file_of s memory_place) w.address (piece_of w)

-- the call of a stage, a row a stage; none where all is closed
unfoldable pub call_of : GcoreState → GcoreStage → Option Call
call_of s OpenCtl = Some (call.Open s.pid 0 file.Ctl mode.WriteExcl)
call_of s OpenStatus = Some (call.Open s.pid 0 file.Status mode.Read)
call_of s (OpenPart part) = Some (call.Open s.pid 0 (file_of_part part) mode.Read)
call_of s OpenMemory = Some (call.Open s.pid 0 file.Mem mode.Read)
call_of s ReadFirst = Some (call.Read (file_of s (place_of_part Lstatus)) 0 read_limit)
call_of s Stop = Some (call.Ctl (file_of s control_place) stop_bytes)
call_of s AwaitStop = Some (call.CtlWait (file_of s control_place) s.until stop_bytes)
call_of s ReadStatus = Some (call.Read (file_of s status_place) 0 read_limit)
call_of s (ReadPart part) = Some (call.Read (file_of s (place_of_part part)) 0 read_limit)
call_of s ReadMemory = Some (memory_call s s.walk)
call_of s Run = Some (call.Ctl (file_of s control_place) run_bytes)
call_of s Release = Some (call.Ctl (file_of s control_place) run_bytes)
call_of s Close = option_map call.Close (last_open s.opened)

-- the call that gcore makes next; none where it has finished
unfoldable pub next_call_of : GcoreState → Option Call
next_call_of s = call_of s s.stage

-- ---- the way through the memory

-- how many bytes the record of a mapping has
abbrev pub mapping_record : ℕ
mapping_record = 64

-- before the first byte of the mapping whose record begins at a byte
abbrev pub walk_from : List ℕ → ℕ → MemoryWalk
walk_from maps at = record { at = at; address = word_at maps at; left = word_at maps (at + 8) }

-- the same, where a record begins there
unfoldable pub walk_at : List ℕ → ℕ → Option MemoryWalk
walk_at maps at = if nat_le (at + mapping_record) (length maps) then Some (walk_from maps at) else None

-- behind a piece; none where that was the last of its mapping
unfoldable pub walk_on : MemoryWalk → Option MemoryWalk
walk_on w =
    if nat_lt (piece_of w) w.left
    then Some (record { at = w.at; address = (w.address + piece_of w) % 2 ^ 64; left = w.left - piece_of w }) else None

-- so many bytes: those of an answer, with zeros after them where it has too few
unfoldable pub filled : ℕ → List ℕ → List ℕ
filled size answer = take size answer ++ replicate (size - length answer) 0

-- ---- the replies

abbrev pub at_stage : GcoreState → GcoreStage → GcoreState
at_stage s stage = record s { stage = stage }

-- the process is run, unless that stood before gcore came
unfoldable pub with_run_next : GcoreState → GcoreState
with_run_next s = if s.stood then at_stage s Close else at_stage s Run

abbrev pub with_bytes : GcoreState → List ℕ → GcoreState
with_bytes s more = record s { bytes = s.bytes ++ more }

-- a mapping comes next, if there is one: its section begins with its kind and its length
unfoldable pub with_mapping : GcoreState → Option MemoryWalk → GcoreState
with_mapping s None = with_run_next (record s { walk = None })
with_mapping s (Some w) =
    at_stage (with_bytes (record s { walk = Some w }) (word_bytes memory_kind ++ word_bytes w.left)) ReadMemory

-- the stage comes next, where it has a call
unfoldable pub with_next : GcoreState → GcoreStage → GcoreState
with_next s ReadMemory = with_mapping s (walk_at s.maps 0)
with_next s Run = with_run_next s
with_next s stage = at_stage s stage

-- the stage after the present one comes next
unfoldable pub advanced : GcoreState → GcoreState
advanced s = with_next s (stage_after s.stage)

abbrev pub with_opened : GcoreState → ℕ → Reply → GcoreState
with_opened s place r = record s { opened = with_handle s.opened place (opened_in r) }

-- a refused gcore closes what it had opened
unfoldable pub refused : GcoreState → Errno → GcoreState
refused s e = record s { stage = way_out s.stage; refusal = Some e }

-- whether a process has lent its address space to a child (vfork(2)), by its status
unfoldable pub lends : Result (List ℕ) RecFault → Bool
lends (Ok words) = has_flags (slice_index words 0) vforkp_flag
lends (Err fault) = false

-- no core is made of a process that has lent its address space
unfoldable pub with_status : GcoreState → List ℕ → GcoreState
with_status s bytes = if lends (record_read status_ranges bytes) then refused s Busy else advanced s

-- the mappings are noted
unfoldable pub with_noted : GcoreState → GcorePart → List ℕ → GcoreState
with_noted s Map bytes = record s { maps = bytes }
with_noted s _ bytes = s

-- a part was read, no more of it than one read gives
unfoldable pub with_part : GcoreState → GcorePart → List ℕ → GcoreState
with_part s part bytes = advanced (with_bytes (with_noted s part bytes) (section (kind_of_part part) bytes))

-- the next piece, or else the next mapping
abbrev pub with_walk : GcoreState → ℕ → Option MemoryWalk → GcoreState
with_walk s at None = with_mapping s (walk_at s.maps (at + mapping_record))
with_walk s at (Some w) = record s { walk = Some w }

-- a piece of the memory was read
unfoldable pub with_piece : GcoreState → List ℕ → Option MemoryWalk → GcoreState
with_piece s answer None = with_run_next s
with_piece s answer (Some w) = with_walk (with_bytes s (filled (piece_of w) answer)) w.at (walk_on w)

-- what a reply makes of a gcore that it does not refuse, a row a stage
unfoldable pub accepted : GcoreState → Reply → GcoreStage → GcoreState
accepted s r OpenCtl = advanced (with_opened s control_place r)
accepted s r OpenStatus = advanced (with_opened s status_place r)
accepted s r (OpenPart part) = advanced (with_opened s (place_of_part part) r)
accepted s r OpenMemory = advanced (with_opened s memory_place r)
accepted s r ReadFirst = advanced (record s { stood = process_stands (bytes_read r) })
accepted s r Stop = advanced (record s { until = until_in r })
accepted s r AwaitStop = advanced s
accepted s r ReadStatus = with_status s (bytes_read r)
accepted s r (ReadPart part) = with_part s part (take read_limit (bytes_read r))
accepted s r ReadMemory = with_piece s (bytes_read r) s.walk
accepted s r Run = advanced s
accepted s r Release = advanced s
accepted s r Close = record s { opened = without_last s.opened }

-- whether a refusal at a stage is passed over: what comes of running the process again after a refusal, and of closing
unfoldable pub passes_over : GcoreStage → Bool
passes_over Release = true
passes_over Close = true
passes_over _ = false

-- the errno with which a reply refuses a stage
unfoldable pub refusal_in : GcoreStage → Reply → Option Errno
refusal_in stage (reply.Fail e) = if passes_over stage then None else Some e
refusal_in _ _ = None

abbrev pub answered : GcoreState → Reply → Option Errno → GcoreState
answered s r None = accepted s r s.stage
answered s r (Some e) = refused s e

-- gcore that was fed the reply to its call
unfoldable pub fed : GcoreState → Reply → GcoreState
fed s r = answered s r (refusal_in s.stage r)

-- whether gcore has finished
unfoldable pub has_ended : GcoreState → Bool
has_ended s = is_none (next_call_of s)
