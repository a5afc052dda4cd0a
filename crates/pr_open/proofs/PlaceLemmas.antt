-- What the walks over the places find, and what an open gives.
use Rattle.std.proofs.Common.{◌≡◌, ◌+◌, ◌<◌, ℕ, zero, suc, Bool, true, false, cond, eq-eqb, ◌||◌, List, [], ◌∷◌, length, take, drop, get_or, Option, None, Some, Result, Err, sym, ap, ◌∙◌, arith}
use Rattle.std.specs.List.{list_any, position}
use Rattle.std.specs.Option.{is_none}
use Rattle.std.proofs.lemmas.List.{take-append-drop, take_all}
use Rattle.std.proofs.lemmas.List.Folds.{list_any-append, list_any_more}
use Rattle.pr_model.specs.Handles.{own, conflicts, handle_of}
use Rattle.pr_model.specs.declared.handles.Held.{Held}
use Rattle.pr_open.specs.Opening.{open_answer, or_full}
use Rattle.pr_open.specs.declared.refusals.OpenNo.{OpenNo}
use Rattle.pr_open.specs.declared.refusals.OpenNo.TheVariants.{Busy}

-- ---- walks

module _ (test : Option Held → Bool) (places : List (Option Held)) (number : ℕ) (inside : number < length places)
    (none : list_any test (take number places) ≡ false) where
  -- a place that passes is found
  pub found : true ≡ test (get_or places number None) → true ≡ list_any test places
  found passes =
      let here : list_any test (take (number + 1) places) ≡ true =
      list_any_more test places number None inside ∙ ap (λ b. b || test (get_or places number None)) none
      ∙ sym passes in
      sym (ap (list_any test) (sym (take-append-drop (number + 1) places))
      ∙ list_any-append test (take (number + 1) places) (drop (number + 1) places)
      ∙ ap (λ b. b || list_any test (drop (number + 1) places)) here)

  -- one more that does not
  pub passed : false ≡ test (get_or places number None) → list_any test (take (number + 1) places) ≡ false
  passed fails =
      list_any_more test places number None inside ∙ ap (λ b. b || test (get_or places number None)) none ∙ sym fails

-- none passes where none did among as many as there are
pub none_found : (test : Option Held → Bool) (places : List (Option Held)) (count : ℕ) → count ≡ length places
    → list_any test (take count places) ≡ false → false ≡ list_any test places
none_found test places count all none =
    sym (ap (list_any test) (sym (ap (λ (n : ℕ). take n places) all ∙ take_all (length places) places (omega arith)))
    ∙ none)

-- ---- opening

module _ (places : List (Option Held)) (h : Held) where
  pub busy : conflicts h.pid h.mode places ≡ true → (let r : Result ℕ OpenNo = Err Busy in r ≡ open_answer h places)
  unfolding open_answer
  busy conflict = sym (ap (λ b. cond b (Err Busy) (or_full (position is_none places))) conflict)

  pub no_conflict : (found : Option ℕ) → conflicts h.pid h.mode places ≡ false → found ≡ position is_none places
      → or_full found ≡ open_answer h places
  unfolding open_answer
  no_conflict found free is =
      ap or_full is ∙ sym (ap (λ b. cond b (Err Busy) (or_full (position is_none places))) free)

-- ---- reading

-- the handle of a number is what stands at its place, where that is this controller's
pub own_handle : (places : List (Option Held)) (by number : ℕ) (h : Held) → get_or places number None ≡ Some h
    → h.controller ≡ by → handle_of places by number ≡ Some h
unfolding handle_of
own_handle [] by number h is same = absurd cc
own_handle (place ∷ places) by zero h is same =
    ap (λ p. own by (Some p)) is ∙ ap (λ b. cond b (Some h) None) (eq-eqb h.controller by same)
own_handle (place ∷ places) by (suc number) h is same = own_handle places by number h is same
