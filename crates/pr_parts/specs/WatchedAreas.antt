-- Watched areas of a process (proc(4), "PCWATCH"): which can be set, and which byte of an access is watched.
use Rattle.std.specs.Prelude.{◌==◌, ◌&&◌, ◌+◌, ◌%◌, ◌^◌, ◌<◌, ◌≤◌, ℕ, zero, suc, Bool, List, find, All, AllPairs, length, Option, Some, None, nat_lt, nat_le}
use Rattle.std.specs.List.{list_any}
use Rattle.pr_num.specs.Control.{has_flags, watch_trap_after}
use Rattle.pr_num.specs.KeyedTables.{without_first}
use Rattle.pr_num.specs.declared.mappings.Area.{Area}
use Rattle.pr_parts.specs.ByAddress.{ranges_meet, with_placed}
pub use Rattle.pr_num.specs.Limits.{area_limit}

-- two areas stand in the order of their addresses, apart from each other
abbrev pub IsBelow : Area → Area → Type 0
IsBelow a b = a.at + a.size ≤ b.at

-- what the watched areas of a process keep: they stand by rising address and apart, none is empty or reaches past the
-- last address, and there are at most 64
pub record AreAreas (areas : List Area) : Type 0 where
  pub apart : AllPairs IsBelow areas
  pub not_empty : All (λ (a : Area). 0 < a.size) areas
  pub within : All (λ (a : Area). a.at + a.size ≤ 2 ^ 64) areas
  pub limit : length areas ≤ area_limit

-- where an area begins
abbrev pub area_address : Area → ℕ
area_address a = a.at

-- whether an area has a byte of a range
abbrev pub overlaps : ℕ → ℕ → Area → Bool
overlaps at size a = ranges_meet at size a.at a.size

-- whether some area has a byte of a range
abbrev pub is_taken : ℕ → ℕ → List Area → Bool
is_taken at size areas = list_any (overlaps at size) areas

-- the areas with one more, which overlaps none of them
unfoldable pub with_area : Area → List Area → List Area
with_area a areas = with_placed area_address a areas

-- whether an area begins at an address
abbrev pub begins_at : ℕ → Area → Bool
begins_at at a = a.at == at

-- the areas without the one that begins at an address
unfoldable pub without_area : ℕ → List Area → List Area
without_area at areas = without_first (begins_at at) areas

-- whether an area watches accesses of a kind to the byte at an address
abbrev pub watches : ℕ → ℕ → Area → Bool
watches kind address a = (nat_le a.at address && nat_lt address (a.at + a.size)) && has_flags a.flags kind

-- the area that watches accesses of a kind to the byte at an address
abbrev pub watcher : ℕ → List Area → ℕ → Option Area
watcher kind areas address = find (watches kind address) areas

-- a byte at which an area watches, and whether the area stops an lwp only after the access
abbrev pub watched_byte : ℕ → Area → ℕ × Bool
watched_byte address a = (address, has_flags a.flags watch_trap_after)

-- the byte at an address, if it is watched, else what is watched behind it
abbrev pub first_hit : ℕ → Option Area → Option (ℕ × Bool) → Option (ℕ × Bool)
first_hit address (Some a) behind = Some (watched_byte address a)
first_hit address None behind = behind

-- The first watched byte of an access of so many bytes from an address on, which wraps at 2^64, and whether its area
-- has TRAPAFTER. For an access that does not wrap it is the least.
unfoldable pub hit_in : ℕ → List Area → ℕ → ℕ → Option (ℕ × Bool)
hit_in kind areas address zero = None
hit_in kind areas address (suc size) =
    first_hit address (watcher kind areas address) (hit_in kind areas ((address + 1) % 2 ^ 64) size)
