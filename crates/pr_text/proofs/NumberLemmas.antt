-- Numbers in decimal are read as those numbers.
use Rattle.std.proofs.Common.{◌≡◌, ℕ, zero, suc, ◌+◌, ◌-◌, ◌*◌, ◌^◌, ◌<◌, ◌≤◌, Bool, true, false, cond, eqb, leb, ltb, ◌&&◌, Option, Some, None, List, [], ◌∷◌, ◌++◌, length, get_or, refl, sym, ap, ◌∙◌, arith, rules}
use Rattle.std.specs.Fmt.{decimal}
use Rattle.std.specs.List.{All, list_all}
use Rattle.std.specs.Option.{option_and_then}
use Rattle.std.proofs.lemmas.Bool.{and_parts, and_from, leb-true, ltb-true, lt-ltb, ne_eqb}
use Rattle.std.proofs.lemmas.Fmt.{digits_decimal, digits_value-decimal, first_decimal, decimal_nonempty, decimal_digit}
use Rattle.std.proofs.lemmas.List.Elements.{All-head, All-weaker}
use Rattle.std.proofs.lemmas.List.Sums.{AllPass-from_list_all}
use Rattle.std.proofs.lemmas.Option.{cond_some, same_Some}
use Rattle.std.proofs.lemmas.Str.Parse.{IsNumeralModel, numerals_by_fold}
use Rattle.pr_text.specs.Names.{is_digit}
use Rattle.pr_text.specs.NumberWords.{digit_of, with_digit, number_from, number_after_zero, number_of, id_of}

-- digits, and the number that they make after a value
abbrev pub are_digits : List ℕ → Bool
are_digits ds = list_all is_digit ds

abbrev pub value_from : ℕ → List ℕ → ℕ
value_from n [] = n
value_from n (c ∷ cs) = value_from (n * 10 + (c - 48)) cs

-- they are numerals as those of std are
pub numerals : IsNumeralModel (λ ds. are_digits ds ≡ true) (value_from 0)
numerals = numerals_by_fold _ (search rules) value_from (search rules)

grows : (n : ℕ) (ds : List ℕ) → n ≤ value_from n ds
grows n [] = omega arith
grows n (c ∷ cs) = omega (arith, grows (n * 10 + (c - 48)) cs)

record IsDigitOf (value b n : ℕ) : Type 0 where
  digit : (leb 48 b && leb b 57) ≡ true
  small : value * 10 + (b - 48) < 2 ^ 64
  is : value * 10 + (b - 48) ≡ n

-- a byte that is no digit in decimal is none of less than 10 in hex
digit_of-digit : (b : ℕ) → (leb 48 b && leb b 57) ≡ true → digit_of b ≡ Some (b - 48)
unfolding digit_of
digit_of-digit b digit = rw digit refl

digit_of-other : (b d : ℕ) → (leb 48 b && leb b 57) ≡ false → digit_of b ≡ Some d → 10 ≤ d
unfolding digit_of
digit_of-other b d other e = of (leb 97 b && leb b 102) (leb 65 b && leb b 70) (rw other at e)
  where
    of : (lower upper : Bool) → cond lower (Some (b - 97 + 10)) (cond upper (Some (b - 65 + 10)) None) ≡ Some d → 10 ≤ d
    of true upper is = let same = same_Some (b - 97 + 10) d is in omega arith
    of false true is = let same = same_Some (b - 65 + 10) d is in omega arith
    of false false is = cc

-- a value with a digit after it, if that is one of 10 and the number stays a word
abbrev with_ten : ℕ → ℕ → Option ℕ
with_ten value d = cond (ltb d 10 && ltb (value * 10 + d) (2 ^ 64)) (Some (value * 10 + d)) None

record IsTen (value d n : ℕ) : Type 0 where
  digit : d < 10
  small : value * 10 + d < 2 ^ 64
  is : value * 10 + d ≡ n

with_ten-is : (value d n : ℕ) → with_ten value d ≡ Some n → IsTen value d n
with_ten-is value d n e =
    let p = cond_some (ltb d 10 && ltb (value * 10 + d) (2 ^ 64)) (value * 10 + d) n e in
    let q = and_parts (ltb d 10) (ltb (value * 10 + d) (2 ^ 64)) p.0 in
    record { digit = ltb-true d 10 q.0; small = ltb-true (value * 10 + d) (2 ^ 64) q.1; is = p.1 }

with_digit-is : (value b n : ℕ) → with_digit 10 value b ≡ Some n → IsDigitOf value b n
unfolding with_digit
with_digit-is value b n e = by (leb 48 b && leb b 57) refl
  where
    other : (o : Option ℕ) → digit_of b ≡ o → (leb 48 b && leb b 57) ≡ false
        → option_and_then (with_ten value) o ≡ Some n → IsDigitOf value b n
    other None read not_digit found = cc
    other (Some d) read not_digit found =
        let ten = with_ten-is value d n found in
        let large = digit_of-other b d not_digit read in
        absurd (omega (arith, ten.digit))

    by : (t : Bool) → (leb 48 b && leb b 57) ≡ t → IsDigitOf value b n
    by true is =
        let found : with_ten value (b - 48) ≡ Some n =
        ap (option_and_then (with_ten value)) (sym (digit_of-digit b is)) ∙ e in
        let ten = with_ten-is value (b - 48) n found in
        record { digit = is; small = ten.small; is = ten.is }
    by false is = other (digit_of b) refl is e

with_digit-digit : (value b : ℕ) → (leb 48 b && leb b 57) ≡ true → value * 10 + (b - 48) < 2 ^ 64
    → with_digit 10 value b ≡ Some (value * 10 + (b - 48))
unfolding with_digit
with_digit-digit value b digit small =
    let last = leb-true b 57 (and_parts (leb 48 b) (leb b 57) digit).1 in
    ap (option_and_then (with_ten value)) (digit_of-digit b digit)
    ∙ ap (λ t. cond t (Some (value * 10 + (b - 48))) None)
    (and_from (ltb (b - 48) 10) (ltb (value * 10 + (b - 48)) (2 ^ 64)) (lt-ltb (b - 48) 10 (omega arith))
    (lt-ltb (value * 10 + (b - 48)) (2 ^ 64) small))

pub record AreDigitsOf (value : ℕ) (ds : List ℕ) (n : ℕ) : Type 0 where
  pub digits : are_digits ds ≡ true
  pub is : value_from value ds ≡ n
  pub small : value < 2 ^ 64 → n < 2 ^ 64

-- what number_from reads are digits, of that value
pub number_from-is : (value : ℕ) (ds : List ℕ) (n : ℕ) → number_from 10 value ds ≡ Some n → AreDigitsOf value ds n
unfolding number_from
number_from-is value [] n e = let same : value ≡ n = cc in record { digits = refl; is = same; small = λ h. omega arith }
number_from-is value (b ∷ bs) n e = by (λ v found. number_from-is v bs n found) (with_digit 10 value b) refl e
  where
    by : ((v : ℕ) → number_from 10 v bs ≡ Some n → AreDigitsOf v bs n) → (o : Option ℕ) → with_digit 10 value b ≡ o
        → option_and_then (λ v. number_from 10 v bs) o ≡ Some n → AreDigitsOf value (b ∷ bs) n
    by rest (Some v) is found =
        let first = with_digit-is value b v is in
        let others = rest v found in
        record {
          digits = and_from (leb 48 b && leb b 57) (are_digits bs) first.digit others.digits;
          is = ap (λ m. value_from m bs) first.is ∙ others.is;
          small = λ h. others.small (omega (arith, first.small, first.is));
        }
    by rest None is found = cc

-- and digits of a small value are read
number_from-digits : (value : ℕ) (ds : List ℕ) → are_digits ds ≡ true → value_from value ds < 2 ^ 64
    → number_from 10 value ds ≡ Some (value_from value ds)
unfolding number_from
number_from-digits value [] h small = refl
number_from-digits value (b ∷ bs) h small =
    let p = and_parts (leb 48 b && leb b 57) (are_digits bs) h in
    ap (option_and_then (λ v. number_from 10 v bs))
    (with_digit-digit value b p.0 (omega (arith, grows (value * 10 + (b - 48)) bs)))
    ∙ number_from-digits (value * 10 + (b - 48)) bs p.1 small

-- ---- words

-- every byte of a number in decimal is a digit
pub decimal-digits : (n : ℕ) → n < 2 ^ 64 → are_digits (decimal n) ≡ true
decimal-digits n fits = digits_decimal numerals n fits

-- a word that does not begin with 0 is read in decimal
pub number_of-led : (ds : List ℕ) → 0 < length ds → eqb (get_or ds 0 0) 48 ≡ false → number_of ds ≡ number_from 10 0 ds
unfolding number_of
number_of-led [] some h = absurd (omega arith)
number_of-led (b ∷ bs) some h = ap (λ v. cond v (number_after_zero bs) (number_from 10 0 (b ∷ bs))) h

zero_word : number_of (48 ∷ []) ≡ Some 0
unfolding number_of number_after_zero
zero_word = refl

by_digits : (n : ℕ) (ds : List ℕ) → n < 2 ^ 64 → are_digits ds ≡ true → value_from 0 ds ≡ n → 0 < length ds
    → 48 < get_or ds 0 0 → number_of ds ≡ Some n
by_digits n ds fits digits is some lead =
    number_of-led ds some (ne_eqb (get_or ds 0 0) 48 (λ e. absurd (omega arith)))
    ∙ number_from-digits 0 ds digits (omega arith) ∙ ap (λ m. Some m) is

-- a number in decimal is read as that number
pub number_of-decimal : (n : ℕ) → n < 2 ^ 64 → number_of (decimal n) ≡ Some n
number_of-decimal zero fits = ap number_of (decimal_digit 0 (omega arith)) ∙ zero_word
number_of-decimal (suc n) fits =
    by_digits (suc n) (decimal (suc n)) fits (decimal-digits (suc n) fits) (digits_value-decimal numerals (suc n) fits)
    (decimal_nonempty (suc n) fits) (first_decimal (suc n) (omega arith) fits)

pub id_of-decimal : (n : ℕ) → n < 2 ^ 32 → id_of (decimal n) ≡ Some n
unfolding id_of
id_of-decimal n fits =
    ap (option_and_then (λ m. cond (ltb m (2 ^ 32)) (Some m) None)) (number_of-decimal n (omega arith))
    ∙ ap (λ t. cond t (Some n) None) (lt-ltb n (2 ^ 32) fits)

-- ---- bytes of numbers

-- a digit is one of 0 to 9
abbrev pub IsDigit : ℕ → Type 0
IsDigit b = (48 ≤ b) × (b ≤ 57)

pub digit_bounds : (b : ℕ) → is_digit b ≡ true → IsDigit b
digit_bounds b h = let p = and_parts (leb 48 b) (leb b 57) h in (leb-true 48 b p.0, leb-true b 57 p.1)

pub decimal-each : (n : ℕ) → n < 2 ^ 64 → All IsDigit (decimal n)
decimal-each n fits =
    All-weaker (λ b. is_digit b ≡ true) IsDigit digit_bounds (decimal n)
    (AllPass-from_list_all is_digit (decimal n) (decimal-digits n fits))

-- none is a byte below them, as those that join numbers are
pub decimal-apart : (c : ℕ) → (c < 48) → (n : ℕ) → n < 2 ^ 64 → All (λ b. eqb b c ≡ false) (decimal n)
decimal-apart c low n fits =
    All-weaker IsDigit (λ b. eqb b c ≡ false) (λ b h. ne_eqb b c (λ e. absurd (omega (arith, h.0)))) (decimal n)
    (decimal-each n fits)

first_of : (ds : List ℕ) → 0 < length ds → All IsDigit ds → (rest : List ℕ) → IsDigit (get_or (ds ++ rest) 0 0)
first_of [] some all rest = absurd (omega arith)
first_of (d ∷ ds) some all rest = All-head IsDigit d ds all

-- what begins with a number begins with a digit
pub decimal-first : (n : ℕ) → n < 2 ^ 64 → (rest : List ℕ) → IsDigit (get_or (decimal n ++ rest) 0 0)
decimal-first n fits rest = first_of (decimal n) (decimal_nonempty n fits) (decimal-each n fits) rest
