-- What the law of hits says of them, in terms of single bytes.
use Rattle.std.specs.Prelude.{◌≡◌, ◌≤◌, ◌<◌, ◌+◌, ℕ, Bool, true, false, List, Some}
use Rattle.std.specs.List.{list_any}
use Rattle.pr_num.specs.declared.mappings.Area.{Area}
use Rattle.std.specs.Option.{option_map}
use Rattle.pr_num.specs.Control.{has_flags, watch_trap_after}
use Rattle.pr_parts.specs.WatchedAreas.{watcher, watches}

-- whether some area watches accesses of a kind to a byte
abbrev pub is_watched : ℕ → List Area → ℕ → Bool
is_watched kind areas byte = list_any (watches kind byte) areas

-- whether an area stops an lwp only after the access
abbrev pub traps_after : Area → Bool
traps_after a = has_flags a.flags watch_trap_after

-- The byte is the least watched one of so many bytes from an address on, and `after` says whether the area that watches
-- it has TRAPAFTER.
pub record IsLeastWatched (kind : ℕ) (areas : List Area) (address size byte : ℕ) (after : Bool) : Type 0 where
  pub from : address ≤ byte
  pub to : byte < address + size
  pub watched : is_watched kind areas byte ≡ true
  pub after_is : option_map traps_after (watcher kind areas byte) ≡ Some after
  pub least : (lower : ℕ) → address ≤ lower → lower < byte → is_watched kind areas lower ≡ false

-- none of so many bytes from an address on is watched
abbrev pub IsUnwatched : ℕ → List Area → ℕ → ℕ → Type 0
IsUnwatched kind areas address size =
    (byte : ℕ) → address ≤ byte → byte < address + size → is_watched kind areas byte ≡ false
