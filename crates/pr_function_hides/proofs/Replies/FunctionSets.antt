use Rattle.std.proofs.Common.{◌≡◌, ◌<◌, ◌≤◌, ◌||◌, ℕ, Bool, true, false, Option, Some, None, List, cond, get_or, is_some, length, nat_lt, refl, sym, ap, ◌∙◌, inl, inr, arith}
use Rattle.std.proofs.lemmas.Bool.{cases_Bool, cases_lt, false≢true, ltb-false}
use Rattle.std.proofs.lemmas.List.{get_or_past}
use Rattle.std.proofs.lemmas.List.Sums.{fails_before_first}
use Rattle.std.proofs.lemmas.Option.{none-some, unwrap_or-slice_get}
use Rattle.std.specs.List.{position_or_len}
use Rattle.pr_line.specs.Functions.{function_limit}
use Rattle.pr_truss.specs.Marks.{first_function, has_function, is_in, no_functions}
use Rattle.pr_function_hides.specs.Copying.{IsEmpty}
use Rattle.pr_function_laws.proofs.Marks.FunctionSets.{none-in}
pub use Rattle.pr_function_laws.proofs.Marks.FunctionSets.{IsOther, first-has, has-own, has-with, has-without, not-in-none, with-keeps, without-keeps}

-- Sets of functions in which none is.

pub has-none : IsEmpty no_functions
has-none j = none-in function_limit j

pub first-none : (set : List Bool) → first_function set ≡ None → IsEmpty set
first-none set none j = elim (cases_Bool (has_function set j)) [
  | inl is ↦ absurd (false≢true (sym (fails (in-list is)) ∙ at-place is))
  | inr not ↦ not
]
  where
    at-place : has_function set j ≡ true → get_or set j false ≡ true
    at-place is = sym (unwrap_or-slice_get set j false) ∙ is

    in-list : has_function set j ≡ true → j < length set
    in-list is = elim (cases_lt j (length set)) [
      | inl within ↦ within
      | inr past ↦ absurd (false≢true (sym (get_or_past set j false past) ∙ at-place is))
    ]

    past-all : (b : Bool) → nat_lt (position_or_len is_in set) (length set) ≡ b
        → length set ≤ position_or_len is_in set
    past-all true found =
        absurd (none-some (position_or_len is_in set)
        (sym none ∙ ap (λ c. cond c (Some (position_or_len is_in set)) None) found))
    past-all false found = ltb-false (position_or_len is_in set) (length set) found

    fails : j < length set → get_or set j false ≡ false
    fails within =
        let most = past-all (nat_lt (position_or_len is_in set) (length set)) refl in
        fails_before_first is_in set j false (omega (arith, within, most))

-- where nothing is left to do of two sets, nothing is of the second
pub none-second : (a b : Option ℕ) (more : Bool) → (is_some a || is_some b || more) ≡ false → b ≡ None
none-second None None more it = refl
none-second None (Some i) more it = absurd (false≢true (sym it))
none-second (Some j) b more it = absurd (false≢true (sym it))
