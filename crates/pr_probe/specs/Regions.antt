-- Whether the mappings of a process (proc(4), "map") allow what its agent does.
use Rattle.std.specs.Prelude.{ℕ, zero, suc, ◌+◌, ◌/◌, ◌&&◌, ◌||◌, Bool, false, List, drop, length, Result, Ok, Err, nat_le, slice_index}
use Rattle.pr_num.specs.Control.{has_flags, prot_exec, prot_write}
use Rattle.pr_num.specs.Layout.{text_base, stack_base}
use Rattle.pr_num.specs.Records.{map_entry_ranges}
use Rattle.pr_rec.specs.Reading.{record_read}
use Rattle.pr_rec.specs.declared.faults.RecFault.{RecFault}
use Rattle.pr_probe.specs.AgentCode.{code_size, stack_size}
use Rattle.pr_probe.specs.declared.regions.Region.{Region}

-- the bytes of the agent's code, which it runs
abbrev pub code_region : Region
code_region = record { at = text_base; size = code_size; access = prot_exec }

-- the bytes on the stack to which fstat(2) writes
abbrev pub stack_region : Region
stack_region = record { at = stack_base; size = stack_size; access = prot_write }

-- A mapping has all bytes of a region and allows the access. Mappings begin and end between pages, and each of the two
-- regions lies in one page; so where all its bytes allow the access, one mapping has them all.
unfoldable pub allows : List ℕ → Region → Bool
allows words r =
    nat_le (slice_index words 0) r.at && nat_le (r.at + r.size) (slice_index words 0 + slice_index words 1)
    && has_flags (slice_index words 2) r.access

-- the same of a record that was read; a malformed one allows nothing
unfoldable pub allows_in : Region → Result (List ℕ) RecFault → Bool
allows_in r (Ok words) = allows words r
allows_in r (Err fault) = false

-- how many bytes the record of a mapping has
abbrev pub mapping_record : ℕ
mapping_record = 64

-- one of the first so many mappings in bytes does
unfoldable pub some_allows : Region → ℕ → List ℕ → Bool
some_allows r zero bytes = false
some_allows r (suc n) bytes =
    allows_in r (record_read map_entry_ranges bytes) || some_allows r n (drop mapping_record bytes)

-- one of the mappings does
unfoldable pub map_allows : Region → List ℕ → Bool
map_allows r bytes = some_allows r (length bytes / mapping_record) bytes

-- There is room for what an agent does: its code can be run at the base of the text, and the answer of fstat(2) can be
-- written at the base of the stack.
unfoldable pub has_room : List ℕ → Bool
has_room map = map_allows code_region map && map_allows stack_region map
