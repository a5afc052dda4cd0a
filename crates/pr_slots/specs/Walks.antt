use Rattle.std.specs.Prelude.{ℕ, List, [], ◌∷◌, nat_lt, if◌then◌else◌}

-- Walks over things under rising ids.

-- what is left of a list for a walk that has come to an id: the pairs from that id on
abbrev pub rest_from : {X : Type 0} → ℕ → List (ℕ × X) → List (ℕ × X)
rest_from low [] = []
rest_from low (e ∷ es) = if nat_lt e.0 low then rest_from low es else e ∷ es

-- the list where the walk has changed what it has passed
abbrev pub map_below : {X : Type 0} → ℕ → (X → X) → List (ℕ × X) → List (ℕ × X)
map_below low f [] = []
map_below low f (e ∷ es) = (if nat_lt e.0 low then (e.0, f e.1) else e) ∷ map_below low f es
