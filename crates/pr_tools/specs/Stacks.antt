-- The stacks of the lwps of a stopped process, as pstack reads them: frame by frame, lwp by lwp.
use Rattle.std.specs.Prelude.{ℕ, zero, suc, ◌+◌, ◌-◌, ◌/◌, ◌==◌, ◌&&◌, ◌||◌, Bool, true, false, List, [], ◌∷◌, ◌++◌, drop, length, slice_index, Option, Some, None, Result, Ok, Err, nat_le, nat_lt, if◌then◌else◌}
use Rattle.pr_codec.specs.Words.{word_at}
use Rattle.pr_num.specs.Control.{has_flags, istop_flag}
use Rattle.pr_num.specs.Records.{lwpstatus_ranges, lwpstatus_size}
use Rattle.pr_num.specs.StopReasons.{reason_number}
use Rattle.pr_num.specs.declared.stop_reasons.StopReason.TheVariants.{Suspended}
use Rattle.pr_rec.specs.Reading.{record_read}
use Rattle.pr_rec.specs.declared.faults.RecFault.{RecFault}
use Rattle.pr_tools.specs.Entries.{counts_lwps, lwp_places}
use Rattle.pr_tools.specs.Steps.{read_frames}
use Rattle.pr_tools.specs.declared.stacks.Walk.{Walk}
use Rattle.pr_tools.specs.declared.stacks.CallFrame.{CallFrame}

-- ---- whether a process stood before it was directed to stop

-- an lwp that stands on an event of interest or is suspended
unfoldable pub stands : List ℕ → Bool
stands words = has_flags (slice_index words 0) istop_flag || (slice_index words 2 == reason_number Suspended)

unfoldable pub stands_in : Result (List ℕ) RecFault → Bool
stands_in (Ok words) = stands words
stands_in (Err fault) = false

-- the first so many lwps in bytes stand; one that is malformed does not
unfoldable pub all_stand : ℕ → List ℕ → Bool
all_stand zero bytes = true
all_stand (suc n) bytes = stands_in (record_read lwpstatus_ranges bytes) && all_stand n (drop lwpstatus_size bytes)

-- Every lwp of a process stands, by the status of all its lwps. A malformed status shows none that does.
unfoldable pub process_stands : List ℕ → Bool
process_stands bytes = counts_lwps bytes && all_stand (lwp_places bytes) (drop 8 bytes)

-- ---- which frame is read next

-- the frame pointer of the lwp whose status begins at a byte
abbrev pub frame_pointer : List ℕ → ℕ → ℕ
frame_pointer bytes at = word_at bytes (at + 216)

-- before the first frame of an lwp's stack that is read
abbrev pub walk_from : List ℕ → ℕ → Walk
walk_from bytes at =
    record { at = at; lwp = word_at bytes (at + 8); left = read_frames; frame = frame_pointer bytes at }

-- before the first frame of the first stack that has one, of so many lwps whose status begins at a byte
unfoldable pub walk_among : ℕ → List ℕ → ℕ → Option Walk
walk_among zero bytes at = None
walk_among (suc n) bytes at =
    if frame_pointer bytes at == 0 then walk_among n bytes (at + lwpstatus_size) else Some (walk_from bytes at)

-- the same of all lwps whose status begins at that byte or later
unfoldable pub walk_in : List ℕ → ℕ → Option Walk
walk_in bytes at = walk_among ((length bytes - at) / lwpstatus_size) bytes at

-- An answer of 16 bytes is a frame: the address of the one before it, and the address to which its function returns.
-- Nothing else is one.
abbrev pub is_frame : List ℕ → Bool
is_frame answer = nat_le 16 (length answer)

-- the frame of an answer
abbrev pub frame_in : Walk → List ℕ → CallFrame
frame_in walk answer = record { lwp = walk.lwp; pc = word_at answer 8 }

-- Whether a stack goes on after the frame of an answer: that names one before it, and one more may be read.
unfoldable pub goes_on : Walk → List ℕ → Bool
goes_on walk answer = is_frame answer && nat_lt 1 walk.left && nat_lt 0 (word_at answer 0)

-- the next frame of the same stack, else the first of a later one
unfoldable pub walk_after : List ℕ → Walk → List ℕ → Option Walk
walk_after bytes walk answer =
    if goes_on walk answer then Some (record walk { left = walk.left - 1; frame = word_at answer 0 }) else walk_in bytes
    (walk.at + lwpstatus_size)

-- frames with one more, where there is room
unfoldable pub with_frame : ℕ → List CallFrame → Walk → List ℕ → List CallFrame
with_frame room frames walk answer =
    if is_frame answer && nat_lt (length frames) room then frames ++ frame_in walk answer ∷ [] else frames
