-- Descriptors stand in a core by the words of their records.
use Rattle.std.proofs.Common.{◌≡◌, ℕ, List, [], ◌∷◌, map, refl, ap}

-- what their words are
pub map_same : (xs : List (List ℕ)) → map (λ (x : List ℕ). x) xs ≡ xs
map_same [] = refl
map_same (x ∷ xs) = ap (λ (ys : List (List ℕ)). x ∷ ys) (map_same xs)
