use Rattle.std.proofs.Common.{◌≡◌, ◌≢◌, ◌||◌, ◌&&◌, ℕ, ◌*◌, ◌%◌, ◌^◌, ◌<◌, Bool, true, false, not, eqb, List, length, refl, sym, ◌∙◌, ap, inl, inr}
use Rattle.std.specs.Int.{bit_at, bit_not, w64}
use Rattle.std.specs.Int.RustNames.{bit_and, bit_or}
use Rattle.std.specs.Prelude.{slice_index, slice_set}
use Rattle.std.proofs.lemmas.Bool.{cases_eq, eq-eqb, ne_eqb}
use Rattle.std.proofs.lemmas.List.{get_or-set_other, get_or-set_same}
use Rattle.std.proofs.lemmas.Nat.Bits.{bit_at_clear_other, bit_at_clear_same, bit_at_set_other, bit_at_set_same}
use Rattle.pr_pids.specs.Blocks.{has_block}

-- One bit of the word of an id is set or cleared.

or-true : (b : Bool) → (b || true) ≡ true
or-true true = refl
or-true false = refl

or-false : (b : Bool) → (b || false) ≡ b
or-false true = refl
or-false false = refl

and-true : (b : Bool) → (b && true) ≡ b
and-true true = refl
and-true false = refl

and-false : (b : Bool) → (b && false) ≡ false
and-false true = refl
and-false false = refl

module _ (words : List ℕ) (pid block p b : ℕ) (inside : pid < length words) (within : block < 64) where
  abbrev word : ℕ
  word = slice_index words pid

  abbrev with_word : ℕ → List ℕ
  with_word w = slice_set words pid w

  abbrev set : ℕ
  set = bit_or word ((1 * 2 ^ block) % 2 ^ 64)

  abbrev cleared : ℕ
  cleared = bit_and word (bit_not w64 ((1 * 2 ^ block) % 2 ^ 64))

  -- the words of other ids stay
  other-id : (w : ℕ) → p ≢ pid → has_block (with_word w) p b ≡ has_block words p b
  unfolding has_block
  other-id w apart = ap (λ n. eqb (bit_at n b) 1) (get_or-set_other words pid p w 0 apart)

  this-id : (w : ℕ) → p ≡ pid → has_block (with_word w) p b ≡ eqb (bit_at w b) 1
  unfolding has_block
  this-id w same =
      ap (λ n. eqb (bit_at n b) 1) (ap (slice_index (with_word w)) same ∙ get_or-set_same words pid w 0 inside)

  was-id : p ≡ pid → eqb (bit_at word b) 1 ≡ has_block words p b
  unfolding has_block
  was-id same = ap (λ n. eqb (bit_at (slice_index words n) b) 1) (sym same)

  pub block-inserted : has_block (with_word set) p b ≡ (has_block words p b || (eqb p pid && eqb b block))
  block-inserted =
      elim (cases_eq p pid) [
        | inl same ↦ elim (cases_eq b block) [
          | inl bit ↦ this-id set same ∙ ap (λ n. eqb n 1) (ap (bit_at set) bit ∙ bit_at_set_same w64 word block within)
              ∙ sym (rw (eq-eqb p pid same, eq-eqb b block bit) (or-true (has_block words p b)))
          | inr differs ↦ this-id set same
              ∙ ap (λ n. eqb n 1) (bit_at_set_other w64 word block within b differs) ∙ was-id same
              ∙ sym (rw (eq-eqb p pid same, ne_eqb b block differs) (or-false (has_block words p b)))
        ]
        | inr apart ↦ other-id set apart ∙ sym (rw (ne_eqb p pid apart) (or-false (has_block words p b)))
      ]

  pub block-removed : b < 64
      → has_block (with_word cleared) p b ≡ (has_block words p b && not (eqb p pid && eqb b block))
  block-removed small =
      elim (cases_eq p pid) [
        | inl same ↦ elim (cases_eq b block) [
          | inl bit ↦ this-id cleared same
              ∙ ap (λ n. eqb n 1) (ap (bit_at cleared) bit ∙ bit_at_clear_same w64 word block within)
              ∙ sym (rw (eq-eqb p pid same, eq-eqb b block bit) (and-false (has_block words p b)))
          | inr differs ↦ this-id cleared same
              ∙ ap (λ n. eqb n 1) (bit_at_clear_other w64 word block within b small differs) ∙ was-id same
              ∙ sym (rw (eq-eqb p pid same, ne_eqb b block differs) (and-true (has_block words p b)))
        ]
        | inr apart ↦ other-id cleared apart ∙ sym (rw (ne_eqb p pid apart) (and-true (has_block words p b)))
      ]
