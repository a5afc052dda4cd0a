use Rattle.std.proofs.Common.{◌≡◌, Bool, ltb, List, length, sym, ◌∙◌, arith, inl, inr}
use Rattle.std.specs.List.{find, position, position_or_len, slice_get}
use Rattle.std.specs.Option.{option_and_then}
use Rattle.std.proofs.lemmas.Bool.{cases_Bool, ltb-false}
use Rattle.std.proofs.lemmas.List.Folds.{find_at}
use Rattle.std.proofs.lemmas.Option.{slice_get_past}
use Rattle.pr_num.proofs.TableLemmas.{position-within}

-- Programs by name.

-- what stands at the place that a search found is what it looks for, and nothing where it found none
pub at-position : {X : Type 0} (p : X → Bool) (xs : List X) → option_and_then (slice_get xs) (position p xs) ≡ find p xs
at-position p xs =
    elim (cases_Bool (ltb (position_or_len p xs) (length xs))) [
      | inl here ↦ rw here (sym (find_at p xs))
      | inr past ↦
          rw past (sym (find_at p xs ∙ slice_get_past xs (position_or_len p xs) (omega (arith, ltb-false _ _ past))))
    ]

pub ruleset naming = (at-position, position-within)
