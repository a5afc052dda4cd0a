-- Numbers are read back from their words in decimal, and from no other words.
use Rattle.std.proofs.Common.{◌≡◌, ℕ, ◌^◌, ◌<◌, Bool, true, false, cond, eqb, leb, ltb, ◌&&◌, Option, Some, None, List, [], ◌∷◌, length, get_or, refl, sym, ap, ◌∙◌, arith}
use Rattle.std.specs.Fmt.{decimal}
use Rattle.std.specs.Option.{option_and_then}
use Rattle.std.proofs.lemmas.Bool.{and_parts, leb-true, ltb-true, lt-ltb, eqb-true, eqb-false, ne_eqb}
use Rattle.std.proofs.lemmas.Fmt.{decimal-digits_value, decimal_digit}
use Rattle.std.proofs.lemmas.Option.{cond_some, same_Some}
use Rattle.pr_text.specs.NumberWords.{number_from, number_after_zero}
use Rattle.pr_text.specs.NumberWords as number_words
use Rattle.pr_text.proofs.NumberLemmas as text
use Rattle.pr_text.proofs.NumberLemmas.{are_digits, value_from, numerals, number_from-is, decimal-digits}
use Rattle.pr_plain.specs.DecimalWords.{begins_hex, decimal_of, decimal_id_of}
use Rattle.pr_plain.specs.EntryForms.{is_number, is_id}

-- ---- words

pub record IsNumberWord (w : List ℕ) (n : ℕ) : Type 0 where
  pub word : w ≡ decimal n
  pub small : is_number n ≡ true

decimal_of_digits : (ds : List ℕ) (n : ℕ) → are_digits ds ≡ true → 0 < length ds → (get_or ds 0 0 ≡ 48 → length ds ≡ 1)
    → value_from 0 ds ≡ n → n < 2 ^ 64 → IsNumberWord ds n
decimal_of_digits ds n digits some lead is small = record {
  word = sym (decimal-digits_value numerals ds digits some lead (omega arith)) ∙ ap decimal is;
  small = lt-ltb n (2 ^ 64) small;
}

no_zero_word : (c : ℕ) (bs : List ℕ) → eqb c 120 ≡ false → number_after_zero (c ∷ bs) ≡ None
unfolding number_after_zero
no_zero_word c [] other = refl
no_zero_word c (b ∷ bs) other = rw other refl

unhexed : (w : List ℕ) → begins_hex w ≡ false → decimal_of w ≡ number_words.number_of w
unfolding decimal_of
unhexed w plain = rw plain refl

-- a word of digits behind a first one that is no 0
from_digits : (b : ℕ) (bs : List ℕ) (n : ℕ) → eqb b 48 ≡ false → number_from 10 0 (b ∷ bs) ≡ Some n
    → IsNumberWord (b ∷ bs) n
from_digits b bs n other found =
    let d = number_from-is 0 (b ∷ bs) n found in
    decimal_of_digits (b ∷ bs) n d.digits (omega arith) (λ h. absurd (eqb-false b 48 other h)) d.is
    (d.small (omega arith))

-- a word that is read is that number in decimal
pub decimal_of-word : (w : List ℕ) (n : ℕ) → decimal_of w ≡ Some n → IsNumberWord w n
unfolding decimal_of number_words.number_of number_after_zero
decimal_of-word [] n e = cc
decimal_of-word (b ∷ []) n e = by (eqb b 48) refl e
  where
    by : (t : Bool) → eqb b 48 ≡ t → cond t (Some 0) (number_from 10 0 (b ∷ [])) ≡ Some n → IsNumberWord (b ∷ []) n
    by true is found =
        let zero_byte = eqb-true b 48 is in
        let none = same_Some 0 n found in
        record {
          word = ap (λ x. x ∷ []) zero_byte ∙ sym (decimal_digit 0 (omega arith)) ∙ ap decimal none;
          small =
              lt-ltb n (2 ^ 64) (omega arith);
        }
    by false is found = from_digits b [] n is found
decimal_of-word (b ∷ c ∷ bs) n e = by (eqb c 120) refl e
  where
    behind : (t : Bool) → eqb b 48 ≡ t → eqb c 120 ≡ false
        → cond t (number_after_zero (c ∷ bs)) (number_from 10 0 (b ∷ c ∷ bs)) ≡ Some n → IsNumberWord (b ∷ c ∷ bs) n
    behind true is plain found = let none = no_zero_word c bs plain in cc
    behind false is plain found = from_digits b (c ∷ bs) n is found

    by : (t : Bool) → eqb c 120 ≡ t → cond t None (number_words.number_of (b ∷ c ∷ bs)) ≡ Some n
        → IsNumberWord (b ∷ c ∷ bs) n
    by true is found = cc
    by false is found = behind (eqb b 48) refl is found

-- digits are not hex
digits_unhexed : (ds : List ℕ) → are_digits ds ≡ true → begins_hex ds ≡ false
digits_unhexed [] digits = refl
digits_unhexed (b ∷ []) digits = refl
digits_unhexed (b ∷ c ∷ bs) digits =
    let behind = and_parts (leb 48 b && leb b 57) (are_digits (c ∷ bs)) digits in
    let first = and_parts (leb 48 c && leb c 57) (are_digits bs) behind.1 in
    let last = leb-true c 57 (and_parts (leb 48 c) (leb c 57) first.0).1 in
    ne_eqb c 120 (λ e. absurd (omega arith))

decimal-unhexed : (n : ℕ) → is_number n ≡ true → begins_hex (decimal n) ≡ false
decimal-unhexed n fits = digits_unhexed (decimal n) (decimal-digits n (ltb-true n (2 ^ 64) fits))

-- a number in decimal is read as that number
pub decimal_of-decimal : (n : ℕ) → is_number n ≡ true → decimal_of (decimal n) ≡ Some n
decimal_of-decimal n fits =
    unhexed (decimal n) (decimal-unhexed n fits) ∙ text.number_of-decimal n (ltb-true n (2 ^ 64) fits)

-- ---- numbers below 2^32

pub record IsIdWord (w : List ℕ) (n : ℕ) : Type 0 where
  pub word : w ≡ decimal n
  pub small : is_id n ≡ true

pub is_number-from_id : (n : ℕ) → is_id n ≡ true → is_number n ≡ true
is_number-from_id n fits = lt-ltb n (2 ^ 64) (let small = ltb-true n (2 ^ 32) fits in omega arith)

pub decimal_id_of-word : (w : List ℕ) (n : ℕ) → decimal_id_of w ≡ Some n → IsIdWord w n
unfolding decimal_id_of number_words.id_of
decimal_id_of-word w n e = by (begins_hex w) refl e
  where
    of : (o : Option ℕ) → number_words.number_of w ≡ o → begins_hex w ≡ false
        → option_and_then (λ m. cond (ltb m (2 ^ 32)) (Some m) None) o ≡ Some n → IsIdWord w n
    of (Some m) is plain found =
        let p = cond_some (ltb m (2 ^ 32)) m n found in
        record {
          word = (decimal_of-word w m (unhexed w plain ∙ is)).word ∙ ap decimal p.1;
          small =
              ap is_id (sym p.1) ∙ p.0;
        }
    of None is plain found = cc

    by : (t : Bool) → begins_hex w ≡ t → cond t None (number_words.id_of w) ≡ Some n → IsIdWord w n
    by true plain found = cc
    by false plain found = of (number_words.number_of w) refl plain found

pub decimal_id_of-decimal : (n : ℕ) → is_id n ≡ true → decimal_id_of (decimal n) ≡ Some n
unfolding decimal_id_of
decimal_id_of-decimal n fits =
    let number = is_number-from_id n fits in
    ap (λ t. cond t None (number_words.id_of (decimal n))) (decimal-unhexed n number)
    ∙ text.id_of-decimal n (ltb-true n (2 ^ 32) fits)
