-- What the calls on memory make of an address space: mmap(2), munmap(2), mprotect(2), brk(2), and reads and writes of
-- its bytes. An address space is the list of its mappings.
use Rattle.std.specs.Prelude.{◌==◌, ◌&&◌, ◌||◌, ◌+◌, ◌-◌, ◌/◌, ◌%◌, ◌^◌, ℕ, zero, suc, Bool, IsTrue, not, List, [], ◌∷◌, ◌++◌, length, replicate, take, map, slice_index, find, Option, Some, None, Result, Ok, Err, nat_lt, nat_le, if◌then◌else◌}
use Rattle.std.specs.List.{list_any}
use Rattle.pr_num.specs.Layout.{break_limit, gap_base, heap_base, page_size, stack_base}
use Rattle.pr_num.specs.Control.{prot_read}
use Rattle.pr_num.specs.KeyedTables.{change_first, without_first}
use Rattle.pr_num.specs.Programs.{rounded}
use Rattle.pr_num.specs.Spaces.{Space, byte_for, is_heap, mapped_size, mapping_limit, read_write}
use Rattle.pr_num.specs.declared.mappings.BadByte.{BadByte}
use Rattle.pr_num.specs.declared.mappings.Mapping.{Mapping}
use Rattle.pr_num.specs.declared.mappings.MappingKind.{MappingKind}
use Rattle.pr_num.specs.declared.mappings.MappingKind.TheVariants.{Heap}
use Rattle.pr_parts.specs.ByAddress.{ranges_meet, with_placed}

-- ---- mapping (mmap(2))

-- where a mapping begins
abbrev pub address_of : Mapping → ℕ
address_of m = m.at

-- whether a mapping has a byte of a range
abbrev pub meets : ℕ → ℕ → Mapping → Bool
meets at size m = ranges_meet at size m.at (length m.bytes)

-- whether no mapping has a byte of a range
unfoldable pub is_free : ℕ → ℕ → Space → Bool
is_free at size space = not (list_any (meets at size) space)

-- whether so many bytes more can be mapped
abbrev pub has_room : ℕ → Space → Bool
has_room size space = nat_le (mapped_size space + size) mapping_limit

-- a mapping of so many zero bytes
abbrev pub zeros_at : ℕ → ℕ → ℕ → MappingKind → Mapping
zeros_at at size prot kind = record { at = at; prot = prot; kind = kind; bytes = replicate size 0 }

-- a space with one mapping more, which meets none that it has
unfoldable pub with_mapping : Mapping → Space → Space
with_mapping m space = with_placed address_of m space

-- ---- where there is room for a mapping

-- how many pages there are for the mappings that mmap(2) makes
abbrev pub gap_places : ℕ
gap_places = (stack_base - gap_base) / page_size

-- whether a mapping of this size can begin at an address
abbrev pub is_gap : ℕ → Space → ℕ → Bool
is_gap size space at = nat_lt (at + size) stack_base && is_free at size space

-- the first gap at one of so many addresses, a page apart
unfoldable pub gap_from : ℕ → Space → ℕ → ℕ → Option ℕ
gap_from size space at zero = None
gap_from size space at (suc places) =
    if is_gap size space at then Some at else gap_from size space (at + page_size) places

-- the least address of a page from `gap_base` on at which a mapping of this size meets none and ends before the stack
unfoldable pub gap_in : ℕ → Space → Option ℕ
gap_in size space = gap_from size space gap_base gap_places

-- ---- unmapping and protecting (munmap(2), mprotect(2))

-- whether a mapping is just this range
abbrev pub is_range : ℕ → ℕ → Mapping → Bool
is_range at size m = (m.at == at) && (length m.bytes == size)

-- whether a range is one whole mapping
abbrev pub has_range : ℕ → ℕ → Space → Bool
has_range at size space = list_any (is_range at size) space

-- a space without the mapping that is this range
unfoldable pub without_range : ℕ → ℕ → Space → Space
without_range at size space = without_first (is_range at size) space

-- a mapping that allows this
unfoldable pub with_prot : ℕ → Mapping → Mapping
with_prot prot m = record m { prot = prot }

-- a space in which the mapping that is this range allows something else
unfoldable pub with_protected : ℕ → ℕ → ℕ → Space → Space
with_protected at size prot space = change_first (is_range at size) (with_prot prot) space

-- ---- the heap (brk(2))

-- whether a mapping is the heap that the break ends
abbrev pub is_break_heap : Mapping → Bool
is_break_heap m = (m.at == heap_base) && is_heap m.kind

-- whether a range has no byte where the heap can be
abbrev pub is_outside_heap_place : ℕ → ℕ → Bool
is_outside_heap_place at size = nat_le (at + size) heap_base || nat_le break_limit at

-- a mapping is the heap, or has no byte where the heap can be
abbrev pub LeavesHeapPlace : Mapping → Type 0
LeavesHeapPlace m = IsTrue (is_break_heap m || (nat_le (m.at + length m.bytes) heap_base || nat_le break_limit m.at))

-- a mapping that is cut off, or grows by zeros at its end, to so many bytes
unfoldable pub resized : ℕ → Mapping → Mapping
resized size m = record m { bytes = take size m.bytes ++ replicate (size - length m.bytes) 0 }

-- A space with a heap of so many bytes, none where they are 0. A heap that grows or shrinks keeps what it allows; one
-- that is made anew can be read and written.
unfoldable pub with_heap : ℕ → Space → Space
with_heap size space = of (find is_break_heap space)
  where
    of : Option Mapping → Space
    of None = if size == 0 then space else with_mapping (zeros_at heap_base size read_write Heap) space
    of (Some heap) =
        if size == 0 then without_first is_break_heap space else change_first is_break_heap (resized size) space

-- a space with its break at an address: the heap reaches there, rounded up to whole pages
abbrev pub with_break : ℕ → Space → Space
with_break end space = with_heap (rounded (end - heap_base)) space

-- ---- writing

-- the byte at an address after these bytes were written from an address on, and what stood there before
abbrev pub written_byte : ℕ → List ℕ → ℕ → ℕ → ℕ
written_byte at bytes address old =
    if nat_le at address && nat_lt address (at + length bytes) then slice_index bytes (address - at) else old

-- the same of several bytes that stand from an address on
abbrev pub written_bytes : ℕ → List ℕ → ℕ → List ℕ → List ℕ
written_bytes at bytes address [] = []
written_bytes at bytes address (old ∷ more) =
    written_byte at bytes address old ∷ written_bytes at bytes (address + 1) more

unfoldable pub with_written : ℕ → List ℕ → Mapping → Mapping
with_written at bytes m = record m { bytes = written_bytes at bytes m.at m.bytes }

-- a space after these bytes were written from an address on; where nothing is mapped nothing is written
unfoldable pub with_bytes : ℕ → List ℕ → Space → Space
with_bytes at bytes space = map (with_written at bytes) space

-- ---- texts

-- a text with a byte before it, where it has an end
abbrev pub one_byte_more : ℕ → Option (List ℕ) → Option (List ℕ)
one_byte_more byte None = None
one_byte_more byte (Some text) = Some (byte ∷ text)

abbrev pub text_behind : ℕ → Result (Option (List ℕ)) BadByte → Result (Option (List ℕ)) BadByte
text_behind byte (Err bad) = Err bad
text_behind byte (Ok text) = Ok (one_byte_more byte text)

-- a text that begins with a byte, or with none that can be read, and what stands behind it
abbrev pub text_with : Result ℕ BadByte → Result (Option (List ℕ)) BadByte → Result (Option (List ℕ)) BadByte
text_with (Err bad) behind = Err bad
text_with (Ok byte) behind = if byte == 0 then Ok (Some []) else text_behind byte behind

-- The text at an address, as a path is read: the bytes up to the first zero among so many, all of which can be read.
-- None where there is no zero; the first byte that cannot be read, where none stands before it.
unfoldable pub text_at : Space → ℕ → ℕ → Result (Option (List ℕ)) BadByte
text_at space address zero = Ok None
text_at space address (suc most) =
    text_with (byte_for prot_read space address) (text_at space ((address + 1) % 2 ^ 64) most)
