-- What the calls on an address space answer.
use Rattle.std.specs.Prelude.{◌≡◌, ◌+◌, ◌-◌, ◌<◌, ◌≤◌, ◌^◌, ◌++◌, ℕ, Bool, not, List, length, drop, Option, Some, None, Result, Ok, Err, find, nat_le, if◌then◌else◌}
use Rattle.pr_num.specs.Layout.{heap_base}
use Rattle.pr_num.specs.Programs.{rounded}
use Rattle.pr_num.specs.Spaces.{Space, bytes_for, mapped_size, mapping_limit}
use Rattle.pr_num.specs.declared.mappings.BadByte.{BadByte}
use Rattle.pr_num.specs.declared.mappings.BadByte.TheVariants as bad
use Rattle.pr_num.specs.declared.mappings.Mapping.{Mapping}
use Rattle.pr_parts.specs.Accesses.{checked}
use Rattle.pr_parts.specs.AddressSpaces.{has_range, has_room, is_break_heap, is_free, with_heap}
use Rattle.pr_mem.specs.declared.faults.MemFault.{MemFault}
use Rattle.pr_mem.specs.declared.faults.MemFault.TheVariants.{Hole, NotAllowed, Overlap, TooBig}

-- the fault of the byte at which an access fails
abbrev pub fault_of : BadByte → MemFault
fault_of (bad.Hole at) = Hole at
fault_of (bad.NotAllowed at) = NotAllowed at

-- done, unless there is a reason to refuse
abbrev pub done_unless : Option MemFault → Result (Unit {0}) MemFault
done_unless None = Ok tt
done_unless (Some fault) = Err fault

-- why a range is not mapped: it meets a mapping; the space would pass its limit
abbrev pub map_refusal : ℕ → ℕ → Space → Option MemFault
map_refusal at size space =
    if not (is_free at size space) then Some Overlap
    else (if not (has_room size space) then Some TooBig else None)

-- why a range is not unmapped or protected: it is not one whole mapping
abbrev pub range_refusal : ℕ → ℕ → Space → Option MemFault
range_refusal at size space = if has_range at size space then None else Some (Hole at)

-- whether the heap can have so many bytes
abbrev pub has_heap_room : ℕ → Space → Bool
has_heap_room size space = nat_le (mapped_size (with_heap size space)) mapping_limit

-- why the break is not moved: the space would pass its limit
abbrev pub break_refusal : ℕ → Space → Option MemFault
break_refusal end space = if has_heap_room (rounded (end - heap_base)) space then None else Some TooBig

-- how many bytes the heap has
abbrev pub bytes_of : Option Mapping → ℕ
bytes_of None = 0
bytes_of (Some heap) = length heap.bytes

abbrev pub heap_bytes : Space → ℕ
heap_bytes space = bytes_of (find is_break_heap space)

-- the same as an answer of an address space
abbrev pub answered : {X : Type 0} → Result X BadByte → Result X MemFault
answered (Ok x) = Ok x
answered (Err byte) = Err (fault_of byte)

abbrev pub access_answer : {X : Type 0} → Result X BadByte → Result (Unit {0}) MemFault
access_answer read = answered (checked read)

-- the length of a text, if it has an end
abbrev pub text_length : Option (List ℕ) → Option ℕ
text_length None = None
text_length (Some text) = Some (length text)

abbrev pub length_read : Result (Option (List ℕ)) BadByte → Result (Option ℕ) BadByte
length_read (Ok text) = Ok (text_length text)
length_read (Err byte) = Err byte

abbrev pub text_answer : Result (Option (List ℕ)) BadByte → Result (Option ℕ) MemFault
text_answer read = answered (length_read read)

-- a buffer with a text that was read in front, where there is one
abbrev pub with_text : Result (Option (List ℕ)) BadByte → List ℕ → List ℕ
with_text (Ok (Some text)) out = text ++ drop (length text) out
with_text (Ok None) out = out
with_text (Err byte) out = out

-- so many bytes of a mapping, which can be accessed, at least one of those that are asked for
pub record IsRun (needed : ℕ) (space : Space) (at most : ℕ) (run : List ℕ) : Type 0 where
  pub some : 0 < length run
  pub within : length run ≤ most
  pub bytes : bytes_for needed space at (length run) ≡ Ok run
  pub end : at + length run < 2 ^ 64
