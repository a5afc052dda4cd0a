use Rattle.std.specs.Prelude.{ℕ, List, [], ◌∷◌, ◌≡◌, ◌-◌, ◌^◌, refl}
use Rattle.bitflags.specs.Sets.{known_bits, known_from}

-- the flags of a table, where they are the lowest bits of a word
pub known_bits-three : (a b c : List ℕ) → known_bits ((a, 1) ∷ (b, 2) ∷ (c, 4) ∷ []) ≡ 2 ^ 3 - 1
unfolding known_from
known_bits-three a b c = refl

pub known_bits-four : (a b c d : List ℕ) → known_bits ((a, 1) ∷ (b, 2) ∷ (c, 4) ∷ (d, 8) ∷ []) ≡ 2 ^ 4 - 1
unfolding known_from
known_bits-four a b c d = refl

pub known_bits-five : (a b c d e : List ℕ) → known_bits ((a, 1) ∷ (b, 2) ∷ (c, 4) ∷ (d, 8) ∷ (e, 16) ∷ []) ≡ 2 ^ 5 - 1
unfolding known_from
known_bits-five a b c d e = refl

pub known_bits-six : (a b c d e f : List ℕ)
    → known_bits ((a, 1) ∷ (b, 2) ∷ (c, 4) ∷ (d, 8) ∷ (e, 16) ∷ (f, 32) ∷ []) ≡ 2 ^ 6 - 1
unfolding known_from
known_bits-six a b c d e f = refl
