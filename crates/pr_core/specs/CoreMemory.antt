-- The memory of a core, read as the address space of its process is.
use Rattle.std.specs.Prelude.{ℕ, ◌-◌, Option, Some, None, slice_index, if◌then◌else◌}
use Rattle.std.specs.Result.{result_ok}
use Rattle.pr_num.specs.Spaces.{Space, byte_for, covers}
use Rattle.pr_num.specs.declared.mappings.Mapping.{Mapping}
use Rattle.pr_core.specs.CoreTools.{space_with}
use Rattle.pr_core.specs.declared.core_memory.CoreSpace.{CoreSpace}

-- the address space of the process of a core
abbrev pub space_in : CoreSpace → Space
space_in s = space_with s.maps.now s.memory.now

-- the byte at an address, where a mapping has it
unfoldable pub byte_of : Mapping → ℕ → Option ℕ
byte_of m address = if covers address m then Some (slice_index m.bytes (address - m.at)) else None

-- the byte at an address, where it is mapped, whatever its protection
abbrev pub byte_in : Space → ℕ → Option ℕ
byte_in space address = result_ok (byte_for 0 space address)
