-- Histories: lists of entries that only grow, and the places at which entries stand in them.
use Rattle.std.specs.Prelude.{◌≡◌, ℕ, ◌<◌, ◌==◌, List, length, take, drop, slice_get, Some, All, AllPairs, count_by, if◌then◌else◌, nat_lt}
use Rattle.std.specs.List.{enumerate_from}

-- the history begins with what was seen
abbrev pub StartsWith : {I : Type 0} → List I → List I → Type 0
StartsWith history seen = take (length seen) history ≡ seen

-- the entries that the history has beyond the old one, each with its place
abbrev pub added : {I : Type 0} → List I → List I → List (ℕ × I)
added old history = enumerate_from (length old) (drop (length old) history)

-- the longer of two histories, of which one begins the other
abbrev pub longer : {I : Type 0} → List I → List I → List I
longer one other = if nat_lt (length one) (length other) then other else one

-- each entry stands in the history, at the place that goes with it
abbrev pub StandIn : {I : Type 0} → List I → List (ℕ × I) → Type 0
StandIn history own = All (λ e. slice_get history e.0 ≡ Some e.1) own

-- how many of the entries have this place
abbrev pub times_at : {I : Type 0} → ℕ → List (ℕ × I) → ℕ
times_at place own = count_by (λ e. e.0 == place) own

-- the entries stand in the order in which they are listed
abbrev pub IsInOrder : {I : Type 0} → List (ℕ × I) → Type 0
IsInOrder own = AllPairs (λ one later. one.0 < later.0) own

-- the entries are those of the history: each place of it has just one of them, and that one stands there
pub record AreAll {I : Type 0} (history : List I) (own : List (ℕ × I)) : Type 0 where
  pub stand : StandIn history own
  pub once : (place : ℕ) → place < length history → times_at place own ≡ 1
