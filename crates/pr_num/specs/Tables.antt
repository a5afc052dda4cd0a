use Rattle.std.specs.Prelude.{◌==◌, ◌-◌, ◌&&◌, ℕ, suc, eqb, Bool, true, List, [], ◌∷◌, Option, None, slice_get, if◌then◌else◌}

-- the entry of a table that counts from 1
unfoldable pub entry_at : {T : Type 0} → List T → ℕ → Option T
entry_at entries n = if n == 0 then None else slice_get entries (n - 1)

-- whether the numbers of these entries count up from n
abbrev pub counts_from : {T : Type 0} → (T → ℕ) → ℕ → List T → Bool
counts_from number n [] = true
counts_from number n (x ∷ xs) = eqb (number x) n && counts_from number (suc n) xs
