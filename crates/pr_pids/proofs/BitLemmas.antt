use Rattle.std.proofs.Common.{◌≡◌, ◌≢◌, ◌||◌, ◌&&◌, ℕ, zero, suc, ◌+◌, ◌-◌, ◌*◌, ◌/◌, ◌%◌, ◌^◌, ◌<◌, ◌≤◌, Bool, true, false, not, eqb, List, length, refl, sym, ◌∙◌, ap, arith, inl, inr}
use Rattle.std.specs.Int.{bit_at, trailing_zeros, w64}
use Rattle.std.specs.Int.RustNames.{bit_and, bit_or}
use Rattle.std.specs.Prelude.{slice_index, slice_set}
use Rattle.std.proofs.Math.Nat.{div-add-mod, mod-lt}
use Rattle.std.proofs.lemmas.Bool.{cases_eq, cases_lt, eq-eqb, ne_eqb}
use Rattle.std.proofs.lemmas.List.{get_or-set_other, get_or-set_same}
use Rattle.std.proofs.lemmas.Nat.{shr-shr, shr_le}
use Rattle.std.proofs.lemmas.Nat.Bits.{bit_at-trailing_zeros, bit_at-zero, bit_at_above, bit_at_clear_other, bit_at_clear_same, bit_at_set_other, bit_at_set_same}
use Rattle.std.specs.Int.{bit_not}
use Rattle.pr_pids.specs.Members.{has_pid}

-- Bits of words, and what a set of them has.

-- ---- one word

bit-shifted : (word low i : ℕ) → bit_at (word / 2 ^ low) i ≡ bit_at word (low + i)
bit-shifted word low i = ap (λ n. n % 2) (shr-shr word low i)

bit-behind : (word low i : ℕ) → low ≤ i → bit_at word i ≡ bit_at (word / 2 ^ low) (i - low)
bit-behind word low i behind =
    let at : low + (i - low) ≡ i = omega arith in
    ap (bit_at word) (sym at) ∙ sym (bit-shifted word low (i - low))

pub none-behind : (word low : ℕ) → word / 2 ^ low ≡ 0 → (i : ℕ) → low ≤ i → bit_at word i ≡ 0
none-behind word low none i behind =
    bit-behind word low i behind ∙ ap (λ n. bit_at n (i - low)) none ∙ bit_at-zero (i - low)

-- the lowest bit that is 1, from one on
pub record IsFirstBit (word low bit : ℕ) : Type 0 where
  pub member : bit_at word bit ≡ 1
  pub within : bit < 64
  pub least : (i : ℕ) → low ≤ i → i < bit → bit_at word i ≡ 0

pub first-behind : (word low : ℕ) → word < 2 ^ 64 → word / 2 ^ low ≢ 0
    → IsFirstBit word low (low + trailing_zeros w64 (word / 2 ^ low))
first-behind word low fits some =
    let rest : ℕ = word / 2 ^ low in
    let it = bit_at-trailing_zeros w64 rest (positive rest some) (let less = shr_le word low in omega arith) in
    let one : bit_at word (low + trailing_zeros w64 rest) ≡ 1 =
    sym (bit-shifted word low (trailing_zeros w64 rest)) ∙ it.1 in
    record {
      member = one;
      within = below (low + trailing_zeros w64 rest) one;
      least = λ i behind under.
          bit-behind word low i behind ∙ it.2 (i - low) (omega arith);
    }
  where
    positive : (n : ℕ) → n ≢ 0 → 0 < n
    positive zero not_none = absurd (not_none refl)
    positive (suc n) not_none = omega arith

    below : (bit : ℕ) → bit_at word bit ≡ 1 → bit < 64
    below bit one =
        elim (cases_lt bit 64) [
          | inl under ↦ under
          | inr above ↦ absurd (zero-one (bit_at word bit) (bit_at_above word 64 bit fits above) one)
        ]
      where
        zero-one : (n : ℕ) → n ≡ 0 → n ≡ 1 → ⊥
        zero-one n none some = omega arith

-- ---- words

place-apart : (pid other : ℕ) → other ≢ pid → other / 64 ≡ pid / 64 → other % 64 ≢ pid % 64
place-apart pid other apart same bits =
    let one = div-add-mod pid 64 in
    let two = div-add-mod other 64 in
    apart (omega arith)

pub bit-within : (pid : ℕ) → pid % 64 < 64
bit-within pid = mod-lt pid (omega arith)

module _ (words : List ℕ) (pid other : ℕ) (inside : pid / 64 < length words) where
  abbrev word : ℕ
  word = slice_index words (pid / 64)

  abbrev put : ℕ → List ℕ
  put w = slice_set words (pid / 64) w

  other-word : (w : ℕ) → other / 64 ≢ pid / 64 → has_pid (put w) other ≡ has_pid words other
  unfolding has_pid
  other-word w apart =
      ap (λ n. eqb (bit_at n (other % 64)) 1) (get_or-set_other words (pid / 64) (other / 64) w 0 apart)

  this-word : (w : ℕ) → other / 64 ≡ pid / 64 → has_pid (put w) other ≡ eqb (bit_at w (other % 64)) 1
  unfolding has_pid
  this-word w same =
      ap (λ n. eqb (bit_at n (other % 64)) 1)
      (ap (slice_index (put w)) same ∙ get_or-set_same words (pid / 64) w 0 inside)

  was-word : other / 64 ≡ pid / 64 → eqb (bit_at word (other % 64)) 1 ≡ has_pid words other
  unfolding has_pid
  was-word same = ap (λ n. eqb (bit_at (slice_index words n) (other % 64)) 1) (sym same)

  same-place : other ≡ pid → other / 64 ≡ pid / 64
  same-place same = ap (λ n. n / 64) same

  same-bit : other ≡ pid → other % 64 ≡ pid % 64
  same-bit same = ap (λ n. n % 64) same

  -- one bit of a word is set, and cleared
  abbrev set : ℕ
  set = bit_or word ((1 * 2 ^ (pid % 64)) % 2 ^ 64)

  abbrev cleared : ℕ
  cleared = bit_and word (bit_not w64 ((1 * 2 ^ (pid % 64)) % 2 ^ 64))

  pub has-inserted : has_pid (put set) other ≡ (has_pid words other || eqb other pid)
  has-inserted =
      elim (cases_eq other pid) [
        | inl same ↦ this-word set (same-place same)
            ∙ ap (λ n. eqb n 1)
            (ap (bit_at set) (same-bit same) ∙ bit_at_set_same w64 word (pid % 64) (bit-within pid))
            ∙ sym (ap (λ b. has_pid words other || b) (eq-eqb other pid same) ∙ or-true (has_pid words other))
        | inr apart ↦ by apart ∙ sym (ap (λ b. has_pid words other || b) (ne_eqb other pid apart)
            ∙ or-false (has_pid words other))
      ]
    where
      or-true : (b : Bool) → (b || true) ≡ true
      or-true true = refl
      or-true false = refl

      or-false : (b : Bool) → (b || false) ≡ b
      or-false true = refl
      or-false false = refl

      by : other ≢ pid → has_pid (put set) other ≡ has_pid words other
      by apart =
          elim (cases_eq (other / 64) (pid / 64)) [
            | inl same ↦ this-word set same
                ∙ ap (λ n. eqb n 1)
                (bit_at_set_other w64 word (pid % 64) (bit-within pid) (other % 64)
                (place-apart pid other apart same))
                ∙ was-word same
            | inr differs ↦ other-word set differs
          ]

  pub has-removed : has_pid (put cleared) other ≡ (has_pid words other && not (eqb other pid))
  has-removed =
      elim (cases_eq other pid) [
        | inl same ↦ this-word cleared (same-place same)
            ∙ ap (λ n. eqb n 1)
            (ap (bit_at cleared) (same-bit same) ∙ bit_at_clear_same w64 word (pid % 64) (bit-within pid))
            ∙ sym (ap (λ b. has_pid words other && not b) (eq-eqb other pid same) ∙ and-false (has_pid words other))
        | inr apart ↦ by apart ∙ sym (ap (λ b. has_pid words other && not b) (ne_eqb other pid apart)
            ∙ and-true (has_pid words other))
      ]
    where
      and-true : (b : Bool) → (b && true) ≡ b
      and-true true = refl
      and-true false = refl

      and-false : (b : Bool) → (b && false) ≡ false
      and-false true = refl
      and-false false = refl

      by : other ≢ pid → has_pid (put cleared) other ≡ has_pid words other
      by apart =
          elim (cases_eq (other / 64) (pid / 64)) [
            | inl same ↦ this-word cleared same
                ∙ ap (λ n. eqb n 1)
                (bit_at_clear_other w64 word (pid % 64) (bit-within pid) (other % 64) (bit-within other)
                (place-apart pid other apart same))
                ∙ was-word same
            | inr differs ↦ other-word cleared differs
          ]
