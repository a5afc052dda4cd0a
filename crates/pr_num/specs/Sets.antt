use Rattle.std.specs.Prelude.{◌==◌, ℕ, ◌-◌, ◌^◌, Bool, Option, Some, None, List, [], ◌∷◌, find, nat_lt, if◌then◌else◌}
use Rattle.std.specs.Int.{bit_at}
use Rattle.std.specs.Int.RustNames.{bit_and, bit_or}

-- A set of signals, faults or calls is a word: the entry of number n is bit n - 1, counted from the lowest.

-- Whether the set has the entry of a number, which counts from 1. No table has an entry of number 0, and nothing is
-- said of it.
unfoldable pub has_number : ℕ → ℕ → Bool
has_number w n = bit_at w (n - 1) == 1

-- what either of two sets has
unfoldable pub union_word : ℕ → ℕ → ℕ
union_word a b = bit_or a b

-- what both of two sets have
unfoldable pub common_word : ℕ → ℕ → ℕ
common_word a b = bit_and a b

-- what the first of two sets has and the second has not
unfoldable pub minus_word : ℕ → ℕ → ℕ
minus_word a b = bit_and a (2 ^ 64 - 1 - b)

-- the set with the entry of a number
unfoldable pub with_number : ℕ → ℕ → ℕ
with_number w n = union_word w (2 ^ (n - 1))

-- the set without the entry of a number
unfoldable pub without_number : ℕ → ℕ → ℕ
without_number w n = minus_word w (2 ^ (n - 1))

-- the set of a word over a table of so many entries: none where a bit beyond the table is set
abbrev pub set_of_word : ℕ → ℕ → Option ℕ
set_of_word entries w = if nat_lt w (2 ^ entries) then Some w else None

-- whether the set has an entry
abbrev pub has_entry : {T : Type 0} → (T → ℕ) → ℕ → T → Bool
has_entry number w entry = has_number w (number entry)

-- the entry of least number, where the table is in the order of its numbers
abbrev pub least_entry : {T : Type 0} → (T → ℕ) → List T → ℕ → Option T
least_entry number table w = find (has_entry number w) table

-- the set of those entries of a table that pass a test
abbrev pub set_of : {T : Type 0} → (T → ℕ) → (T → Bool) → List T → ℕ
set_of number test [] = 0
set_of number test (x ∷ xs) = if test x then with_number (set_of number test xs) (number x) else set_of number test xs
