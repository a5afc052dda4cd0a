-- Numbers as they stand in a line.
use Rattle.std.specs.Prelude.{◌==◌, ◌&&◌, ◌+◌, ◌-◌, ◌*◌, ◌^◌, ℕ, Option, Some, None, List, [], ◌∷◌, nat_le, nat_lt, option_and_then, if◌then◌else◌}

-- the value of a hex digit of either case
unfoldable pub digit_of : ℕ → Option ℕ
digit_of b =
    if nat_le 48 b && nat_le b 57 then Some (b - 48)
    else (if nat_le 97 b && nat_le b 102 then Some (b - 97 + 10)
    else (if nat_le 65 b && nat_le b 70 then Some (b - 65 + 10)
    else None))

-- a number with one more digit after it, where the digit is one of the base and the number stays a word
unfoldable pub with_digit : ℕ → ℕ → ℕ → Option ℕ
with_digit base value b =
    option_and_then (λ d. if nat_lt d base && nat_lt (value * base + d) (2 ^ 64) then Some (value * base + d) else None)
    (digit_of b)

-- the number that digits of a base make after those of a value
unfoldable pub number_from : ℕ → ℕ → List ℕ → Option ℕ
number_from base value [] = Some value
number_from base value (b ∷ bs) = option_and_then (λ v. number_from base v bs) (with_digit base value b)

-- what stands after a first 0: nothing, or x and one or more hex digits
unfoldable pub number_after_zero : List ℕ → Option ℕ
number_after_zero [] = Some 0
number_after_zero (x ∷ []) = None
number_after_zero (x ∷ digit ∷ digits) = if x == 120 then number_from 16 0 (digit ∷ digits) else None

-- The number that a word is, if it is one: decimal digits without a leading zero, or 0x and hex digits of either case,
-- below 2^64.
unfoldable pub number_of : List ℕ → Option ℕ
number_of [] = None
number_of (b ∷ bs) = if b == 48 then number_after_zero bs else number_from 10 0 (b ∷ bs)

-- The id that a word is, of a process, an lwp, a controller or a handle: a number below 2^32.
unfoldable pub id_of : List ℕ → Option ℕ
id_of word = option_and_then (λ n. if nat_lt n (2 ^ 32) then Some n else None) (number_of word)
