use Rattle.std.proofs.Common.{◌≡◌, ◌≢◌, ℕ, zero, suc, ◌+◌, ◌-◌, ◌^◌, ◌<◌, ◌≤◌, min, max, false, not, ◌&&◌, ◌||◌, eqb, refl, sym, ◌∙◌, ap, arith, inl, inr, lit≤, ltb, cond, Some, None, IsSome, is_some, ◌↔◌, ◌⊎◌, ◌*◌, ◌/◌, ◌%◌}
use Rattle.std.specs.Int.{bit_at, w64}
use Rattle.std.proofs.lemmas.Bool.{lt-ltb, le-ltb, cases_lt, false≢true, eq-eqb, ne_eqb, cases_eq}
use Rattle.std.proofs.lemmas.Nat.{or_lt, and_le_l, pow_below, pow_pos, shr-shr, shr_split, mod_below}
use Rattle.std.proofs.lemmas.Nat.Bits.{and_pow, bit_at_above, same_from_bits, bit_at-lt, bit_at-zero, bit_at_or, bit_at_and, bit_at_not, bit_at-pow_same, bit_at-pow_other, same_from_bits_below}
use Rattle.std.proofs.lemmas.Option.{cond_some}
use Rattle.pr_num.specs.Control.{has_flags}
use Rattle.pr_num.specs.Signals.{signal_number, holdable_word}
use Rattle.pr_num.specs.Sets.{has_number, union_word, common_word, minus_word, with_number, without_number, set_of_word}

-- ---- what a set has

-- the tests of bits: a bit is 0 or 1
test-max : (x y : ℕ) → x < 2 → y < 2 → eqb (max x y) 1 ≡ (eqb x 1 || eqb y 1)
test-max zero zero p q = refl
test-max zero (suc zero) p q = refl
test-max (suc zero) zero p q = refl
test-max (suc zero) (suc zero) p q = refl
test-max (suc (suc x)) y p q = absurd (omega arith)
test-max x (suc (suc y)) p q = absurd (omega arith)

test-min : (x y : ℕ) → x < 2 → y < 2 → eqb (min x y) 1 ≡ (eqb x 1 && eqb y 1)
test-min zero zero p q = refl
test-min zero (suc zero) p q = refl
test-min (suc zero) zero p q = refl
test-min (suc zero) (suc zero) p q = refl
test-min (suc (suc x)) y p q = absurd (omega arith)
test-min x (suc (suc y)) p q = absurd (omega arith)

test-not : (x : ℕ) → x < 2 → eqb (1 - x) 1 ≡ not (eqb x 1)
test-not zero p = refl
test-not (suc zero) p = refl
test-not (suc (suc x)) p = absurd (omega arith)

pub has_number-zero : (n : ℕ) → has_number 0 n ≡ false
unfolding has_number
has_number-zero n = ap (λ b. eqb b 1) (bit_at-zero (n - 1))

pub has_number-union : (a b n : ℕ) → has_number (union_word a b) n ≡ (has_number a n || has_number b n)
unfolding has_number union_word
has_number-union a b n =
    ap (λ x. eqb x 1) (bit_at_or a b (n - 1)) ∙ test-max _ _ (bit_at-lt a (n - 1)) (bit_at-lt b (n - 1))

pub has_number-common : (a b n : ℕ) → has_number (common_word a b) n ≡ (has_number a n && has_number b n)
unfolding has_number common_word
has_number-common a b n =
    ap (λ x. eqb x 1) (bit_at_and a b (n - 1)) ∙ test-min _ _ (bit_at-lt a (n - 1)) (bit_at-lt b (n - 1))

pub has_number-minus : (a b n : ℕ) → b < 2 ^ 64 → 1 ≤ n → n ≤ 64
    → has_number (minus_word a b) n ≡ (has_number a n && not (has_number b n))
unfolding has_number minus_word
has_number-minus a b n small least most =
    ap (λ x. eqb x 1) (bit_at_and a (2 ^ 64 - 1 - b) (n - 1))
    ∙ test-min _ _ (bit_at-lt a (n - 1)) (bit_at-lt (2 ^ 64 - 1 - b) (n - 1))
    ∙ ap (λ x. eqb (bit_at a (n - 1)) 1 && x)
    (ap (λ x. eqb x 1) (bit_at_not w64 b (n - 1) small (omega arith)) ∙ test-not _ (bit_at-lt b (n - 1)))

-- the word of one entry has that entry alone
has_number-pow : (n m : ℕ) → 1 ≤ n → 1 ≤ m → has_number (2 ^ (n - 1)) m ≡ eqb m n
unfolding has_number
has_number-pow n m p q =
    elim (cases_eq m n) [
      | inl e ↦ ap (λ k. eqb (bit_at (2 ^ (n - 1)) (k - 1)) 1) e ∙ ap (λ x. eqb x 1) (bit_at-pow_same (n - 1))
          ∙ sym (eq-eqb m n e)
      | inr ne ↦ let other : m - 1 ≢ n - 1 = λ e. ne (omega arith) in
          ap (λ x. eqb x 1) (bit_at-pow_other (n - 1) (m - 1) other) ∙ sym (ne_eqb m n ne)
    ]

pub has_number-with : (w n m : ℕ) → 1 ≤ n → 1 ≤ m → has_number (with_number w n) m ≡ (has_number w m || eqb m n)
unfolding with_number
has_number-with w n m p q =
    has_number-union w _ m ∙ ap (λ x. has_number w m || x) (has_number-pow n m p q)

pub has_number-without : (w n m : ℕ) → 1 ≤ n → n ≤ 64 → 1 ≤ m → m ≤ 64
    → has_number (without_number w n) m ≡ (has_number w m && not (eqb m n))
unfolding without_number
has_number-without w n m p p' q q' =
    has_number-minus w _ m (pow_below (n - 1) 64 (omega arith)) q q'
    ∙ ap (λ x. has_number w m && not x) (has_number-pow n m p q)

-- ---- a set is what it has

-- bits that pass one test are one bit
same_bit : (x y : ℕ) → x < 2 → y < 2 → eqb x 1 ≡ eqb y 1 → x ≡ y
same_bit zero zero p q e = refl
same_bit zero (suc zero) p q e = cc
same_bit (suc zero) zero p q e = cc
same_bit (suc zero) (suc zero) p q e = refl
same_bit (suc (suc x)) y p q e = absurd (omega arith)
same_bit x (suc (suc y)) p q e = absurd (omega arith)

pub same_set : (k a b : ℕ) → a < 2 ^ k → b < 2 ^ k → ((n : ℕ) → 1 ≤ n → n ≤ k → has_number a n ≡ has_number b n) → a ≡ b
unfolding has_number
same_set k a b p q same =
    same_from_bits_below k a b p q
    (λ i within.
    same_bit _ _ (bit_at-lt a i) (bit_at-lt b i)
    (let e : (i + 1) - 1 ≡ i = omega arith in rw e at (same (i + 1) (omega arith) (omega arith))))

pub has_number-holdable : (w n : ℕ) → 1 ≤ n → n ≤ 64
    → has_number (holdable_word w) n ≡ (has_number w n && not (eqb n 9) && not (eqb n 23))
unfolding holdable_word signal_number
has_number-holdable w n least most =
    has_number-without (without_number w 9) 23 n (lit≤ tt) (lit≤ tt) least most
    ∙ ap (λ b. b && not (eqb n 23)) (has_number-without w 9 n (lit≤ tt) (lit≤ tt) least most)

-- ---- words that are sets

pub same-set_of_word : (entries w set : ℕ) → set_of_word entries w ≡ Some set → set ≡ w
same-set_of_word entries w set e = sym (cond_some (ltb w (2 ^ entries)) w set e).1

-- the bits of what is left of a word when it is shifted down
bit_at-shifted : (w k i : ℕ) → bit_at (w / 2 ^ k) i ≡ bit_at w (k + i)
bit_at-shifted w k i = ap (λ n. n % 2) (shr-shr w k i)

clear : (b : ℕ) → b < 2 → eqb b 1 ≡ false → b ≡ 0
clear zero p e = refl
clear (suc zero) p e = cc
clear (suc (suc b)) p e = absurd (omega arith)

-- a word with no bit from a place on is small
small_word : (k w : ℕ) → ((i : ℕ) → k ≤ i → bit_at w i ≡ 0) → w < 2 ^ k
small_word k w none =
    let high : w / 2 ^ k ≡ 0 =
    same_from_bits (w / 2 ^ k) 0 (λ i. bit_at-shifted w k i ∙ none (k + i) (omega arith) ∙ sym (bit_at-zero i)) in
    let parts = shr_split w k in
    let low : w % 2 ^ k < 2 ^ k = mod_below w (2 ^ k) (pow_pos k) in
    let whole = rw high at parts in
    omega arith

pub accepted-set_of_word : (entries w : ℕ)
    → IsSome (set_of_word entries w) ↔ ((n : ℕ) → entries < n → has_number w n ≡ false)
unfolding has_number
accepted-set_of_word entries w = (λ e. beyond (cases_lt w (2 ^ entries)) e, λ none. within none) where
  beyond : (w < 2 ^ entries) ⊎ (2 ^ entries ≤ w) → IsSome (set_of_word entries w) → (n : ℕ) → entries < n
      → has_number w n ≡ false
  beyond (inl below) e n past = ap (λ b. eqb b 1) (bit_at_above w entries (n - 1) below (omega arith))
  beyond (inr above) e n past =
      absurd (false≢true (sym (ap (λ b. is_some (cond b (Some w) None)) (le-ltb w (2 ^ entries) above)) ∙ e))

  within : ((n : ℕ) → entries < n → has_number w n ≡ false) → IsSome (set_of_word entries w)
  within none =
      let bits : (i : ℕ) → entries ≤ i → bit_at w i ≡ 0 =
      λ i past.
      clear (bit_at w i) (bit_at-lt w i)
      (let place : (i + 1) - 1 ≡ i = omega arith in rw place at (none (i + 1) (omega arith))) in
      ap (λ b. is_some (cond b (Some w) None)) (lt-ltb w (2 ^ entries) (small_word entries w bits))

-- ---- a set stays within its table

pub union_word-lt : (k a b : ℕ) → a < 2 ^ k → b < 2 ^ k → union_word a b < 2 ^ k
unfolding union_word
union_word-lt k a b p q = or_lt k a b p q

pub common_word-le : (a b : ℕ) → common_word a b ≤ a
unfolding common_word
common_word-le a b = and_le_l a b

pub minus_word-le : (a b : ℕ) → minus_word a b ≤ a
unfolding minus_word
minus_word-le a b = and_le_l a _

pub with_number-lt : (k w n : ℕ) → w < 2 ^ k → 1 ≤ n → n ≤ k → with_number w n < 2 ^ k
unfolding with_number
with_number-lt k w n p least most = union_word-lt k w _ p (pow_below (n - 1) k (omega arith))

pub without_number-le : (w n : ℕ) → without_number w n ≤ w
unfolding without_number
without_number-le w n = minus_word-le w _

pub ruleset set_bounds = (common_word-le, minus_word-le, without_number-le)

-- ---- flags

test-scaled : (b k : ℕ) → b < 2 → eqb (b * 2 ^ k) (2 ^ k) ≡ eqb b 1
test-scaled zero k p = ne_eqb (0 * 2 ^ k) (2 ^ k) (λ e. let pos = pow_pos k in omega arith)
test-scaled (suc zero) k p = eq-eqb (1 * 2 ^ k) (2 ^ k) (omega arith)
test-scaled (suc (suc b)) k p = absurd (omega arith)

pub has_flags-one : (w n : ℕ) → 1 ≤ n → has_flags w (2 ^ (n - 1)) ≡ has_number w n
unfolding has_flags common_word has_number
has_flags-one w n least =
    ap (λ x. eqb x (2 ^ (n - 1))) (and_pow w (n - 1)) ∙ test-scaled (bit_at w (n - 1)) (n - 1) (bit_at-lt w (n - 1))
