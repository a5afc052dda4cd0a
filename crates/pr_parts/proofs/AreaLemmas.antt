-- The watched areas stay areas.
use Rattle.std.proofs.Common.{◌≡◌, ℕ, ◌+◌, ◌<◌, ◌≤◌, ◌^◌, false, Some, None, List, length, arith}
use Rattle.std.specs.List.{insert, remove, position, position_or_len}
use Rattle.pr_num.proofs.TableLemmas.{remove-without_first, without_first-no_place}
use Rattle.pr_num.specs.declared.mappings.Area.{Area}
use Rattle.pr_parts.specs.ByAddress.{is_behind}
use Rattle.pr_parts.specs.WatchedAreas.{AreAreas, IsBelow, area_address, begins_at, is_taken, with_area, without_area}
use Rattle.pr_parts.proofs.ByAddressLemmas.{All-placed, insert-placed, length-placed, length-without_first, pairs-placed, pairs-without_first}
use Rattle.pr_num.proofs.TableLaws.{All-without_first}

pub AreAreas-with_area : (a : Area) (areas : List Area) → AreAreas areas → 0 < a.size → a.at + a.size ≤ 2 ^ 64
    → is_taken a.at a.size areas ≡ false → length areas < 64 → AreAreas (with_area a areas)
unfolding with_area
AreAreas-with_area a areas old some within free room = record {
  apart = pairs-placed area_address (λ (b : Area). b.size) a areas some old.apart free;
  not_empty = All-placed (λ (b : Area). 0 < b.size) area_address a areas some old.not_empty;
  within = All-placed (λ (b : Area). b.at + b.size ≤ 2 ^ 64) area_address a areas within old.within;
  limit = omega (arith, length-placed area_address a areas);
}

pub AreAreas-without_area : (at : ℕ) (areas : List Area) → AreAreas areas → AreAreas (without_area at areas)
unfolding without_area
AreAreas-without_area at areas old = record {
  apart = pairs-without_first IsBelow (begins_at at) areas old.apart;
  not_empty = All-without_first (λ (b : Area). 0 < b.size) (begins_at at) areas old.not_empty;
  within = All-without_first (λ (b : Area). b.at + b.size ≤ 2 ^ 64) (begins_at at) areas old.within;
  limit = omega (arith, length-without_first (begins_at at) areas, old.limit);
}

-- a change of a list is what it means
pub insert-with_area : (a : Area) (areas : List Area) (place : ℕ)
    → place ≡ position_or_len (is_behind area_address a.at) areas → insert areas place a ≡ with_area a areas
unfolding with_area
insert-with_area a areas place e = rw e (insert-placed area_address a areas)

pub remove-without_area : (at : ℕ) (areas : List Area) (place : ℕ) → position (begins_at at) areas ≡ Some place
    → remove areas place ≡ without_area at areas
unfolding without_area
remove-without_area at areas place e = remove-without_first (begins_at at) areas place e

pub without_area-none : (at : ℕ) (areas : List Area) → position (begins_at at) areas ≡ None
    → without_area at areas ≡ areas
unfolding without_area
without_area-none at areas e = without_first-no_place (begins_at at) areas e
