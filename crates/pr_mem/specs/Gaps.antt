-- How the least gap is found: an address is moved behind each mapping in its way.
use Rattle.std.specs.Prelude.{◌+◌, ℕ, [], ◌∷◌, length, min, if◌then◌else◌}
use Rattle.pr_num.specs.Layout.{stack_base}
use Rattle.pr_num.specs.Programs.{rounded}
use Rattle.pr_num.specs.Spaces.{Space}
use Rattle.pr_num.specs.declared.mappings.Mapping.{Mapping}
use Rattle.pr_parts.specs.AddressSpaces.{meets}

-- an address, or the multiple of 4,096 behind a mapping that a range of this size from there meets; no more than the
-- limit
unfoldable pub moved_behind : ℕ → ℕ → Mapping → ℕ
moved_behind size at m = if meets at size m then rounded (min (m.at + length m.bytes) stack_base) else at

-- an address, moved behind each of these mappings that is in its way
abbrev pub moved_past : ℕ → ℕ → Space → ℕ
moved_past size at [] = at
moved_past size at (m ∷ space) = moved_past size (moved_behind size at m) space
