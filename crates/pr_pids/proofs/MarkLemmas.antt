use Rattle.std.proofs.Common.{◌≡◌, ◌≢◌, ℕ, ◌*◌, ◌%◌, ◌^◌, ◌<◌, List, sym, ◌∙◌, ap, arith, inl, inr}
use Rattle.std.specs.Int.{bit_at, bit_not, w64}
use Rattle.std.specs.Int.RustNames.{bit_and, bit_or}
use Rattle.std.specs.Prelude.{replicate, slice_index}
use Rattle.std.proofs.lemmas.Bool.{cases_eq}
use Rattle.std.proofs.lemmas.List.{get_or-replicate}
use Rattle.std.proofs.lemmas.Nat.Bits.{bit_at_clear_other, bit_at_set_other, bit_at_set_same}
use Rattle.pr_pids.specs.Members.{IsSummed}

-- The bits that tell which words of a set have an id.

pub summed-none : IsSummed 0 (replicate 64 0)
summed-none = record { summed = λ i within zero. get_or-replicate 64 i 0 0 within }

abbrev pub OthersSummed : ℕ → ℕ → List ℕ → Type 0
OthersSummed some at words = (i : ℕ) → i < 64 → i ≢ at → bit_at some i ≡ 0 → slice_index words i ≡ 0

module _ (some at : ℕ) (words : List ℕ) (inside : at < 64) where
  abbrev cleared : ℕ
  cleared = bit_and some (bit_not w64 ((1 * 2 ^ at) % 2 ^ 64))

  abbrev set : ℕ
  set = bit_or some ((1 * 2 ^ at) % 2 ^ 64)

  -- of a word that has none
  pub summed-cleared : slice_index words at ≡ 0 → OthersSummed some at words → IsSummed cleared words
  summed-cleared here others = record { summed = λ i within zero. by i within zero }
    where
      by : (i : ℕ) → i < 64 → bit_at cleared i ≡ 0 → slice_index words i ≡ 0
      by i within zero =
          elim (cases_eq i at) [
            | inl same ↦ ap (slice_index words) same ∙ here
            | inr apart ↦ others i within apart (sym (bit_at_clear_other w64 some at inside i within apart) ∙ zero)
          ]

  -- of one that may have some
  pub summed-set : OthersSummed some at words → IsSummed set words
  summed-set others = record { summed = λ i within zero. by i within zero }
    where
      zero-one : (n : ℕ) → n ≡ 0 → n ≡ 1 → ⊥
      zero-one n none some = omega arith

      by : (i : ℕ) → i < 64 → bit_at set i ≡ 0 → slice_index words i ≡ 0
      by i within zero =
          elim (cases_eq i at) [
            | inl same ↦
                absurd (zero-one (bit_at set i) zero (ap (bit_at set) same ∙ bit_at_set_same w64 some at inside))
            | inr apart ↦ others i within apart (sym (bit_at_set_other w64 some at inside i apart) ∙ zero)
          ]
