-- Where in the list of mappings the bytes of an access stand.
use Rattle.std.specs.Prelude.{◌+◌, ◌<◌, ◌≤◌, ℕ, Bool, length, nat_le}
use Rattle.std.specs.Prelude.{slice_index_or}
use Rattle.std.specs.List.{AllWithin}
use Rattle.pr_num.specs.Spaces.{Space}
use Rattle.pr_num.specs.declared.mappings.Mapping.{Mapping}

-- whether a mapping has all its bytes before an address
abbrev pub ends_before : ℕ → Mapping → Bool
ends_before address m = nat_le (m.at + length m.bytes) address

-- The place of an address: the mappings before it have all their bytes before the address, and those from it on end
-- behind it. So if a mapping has the byte at the address, it is the one in the place.
pub record IsPlace (space : Space) (address place : ℕ) : Type 0 where
  pub within : place ≤ length space
  pub before : AllWithin (λ (m : Mapping). m.at + length m.bytes ≤ address) space 0 place
  pub behind : AllWithin (λ (m : Mapping). address < m.at + length m.bytes) space place (length space)

-- no mapping behind the one in a place begins before an address
pub record IsLast (space : Space) (place end : ℕ) : Type 0 where
  pub next : (m : Mapping) → place + 1 < length space → end ≤ (slice_index_or space (place + 1) m).at
