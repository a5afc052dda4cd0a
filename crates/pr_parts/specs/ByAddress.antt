-- Ranges of addresses, and lists of what stands at addresses.
use Rattle.std.specs.Prelude.{◌+◌, ◌&&◌, ℕ, Bool, List, [], ◌∷◌, nat_lt, if◌then◌else◌}

-- Whether two ranges have an address in common, each given by its first address and its size. Sums do not wrap: a range
-- may end at 2^64. Neither is to be empty.
abbrev pub ranges_meet : ℕ → ℕ → ℕ → ℕ → Bool
ranges_meet a size b other_size = nat_lt a (b + other_size) && nat_lt b (a + size)

-- whether an address stands behind another
abbrev pub is_behind : {X : Type 0} → (X → ℕ) → ℕ → X → Bool
is_behind address_of address x = nat_lt address (address_of x)

-- a list by rising addresses with one thing more, before the first that stands behind it
abbrev pub with_placed : {X : Type 0} → (X → ℕ) → X → List X → List X
with_placed address_of x [] = x ∷ []
with_placed address_of x (y ∷ ys) =
    if is_behind address_of (address_of x) y then x ∷ y ∷ ys else y ∷ with_placed address_of x ys
