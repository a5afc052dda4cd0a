use Rattle.std.proofs.Common.{◌≡◌, ℕ, ◌+◌, ◌<◌, ◌≤◌, Bool, true, false, not, ltb, cond, Option, Some, None, List, [], ◌∷◌, ◌++◌, length, map, take, drop, get_or, set, refl, sym, ◌∙◌, ap, arith, inl, inr}
use Rattle.std.specs.List.{find, list_any, slice_get, position, position_or_len, remove}
use Rattle.std.proofs.lemmas.Bool.{ltb-true, ltb-false, cases_Bool}
use Rattle.std.proofs.lemmas.List.{drop_more, map_more, set_at, get_or_at, append_assoc, length-take-le, length-map}
use Rattle.std.proofs.lemmas.List.Folds.{find_at}
use Rattle.std.proofs.lemmas.Option.{slice_get_past, cond_some, same_Some}
use Rattle.pr_num.specs.KeyedTables.{change_first, without_first}
use Rattle.pr_num.proofs.NumberLemmas.{one_more}
use Rattle.pr_num.proofs.SearchLemmas.{list_any-find_none}

-- ---- the first place that passes a test

position-some : {X : Type 0} (p : X → Bool) (xs : List X) (i : ℕ) → position p xs ≡ Some i → position_or_len p xs ≡ i
position-some p xs i e = (cond_some (ltb (position_or_len p xs) (length xs)) (position_or_len p xs) i e).1

not_below : (a b : ℕ) (o : Option ℕ) → cond (ltb a b) (Some a) o ≡ None → b ≤ a
not_below a b o e =
    elim (cases_Bool (ltb a b)) [ inl t ↦ cc | inr f ↦ ltb-false a b f ]

pub position-within : {X : Type 0} (p : X → Bool) (xs : List X) (i : ℕ) → position p xs ≡ Some i → i < length xs
position-within p xs i e =
    let here : position_or_len p xs ≡ i = position-some p xs i e in
    let inside = ltb-true _ _ (cond_some (ltb (position_or_len p xs) (length xs)) (position_or_len p xs) i e).0 in
    omega arith

pub find-position : {X : Type 0} (p : X → Bool) (xs : List X) (i : ℕ) → position p xs ≡ Some i
    → find p xs ≡ slice_get xs i
find-position p xs i e = find_at p xs ∙ ap (slice_get xs) (position-some p xs i e)

pub find-none : {X : Type 0} (p : X → Bool) (xs : List X) → position p xs ≡ None → find p xs ≡ None
find-none p xs e = find_at p xs ∙ slice_get_past xs _ (not_below _ _ _ e)

-- no element passes where the search for a place finds none
pub list_any-no_place : {X : Type 0} (p : X → Bool) (xs : List X) → position p xs ≡ None → list_any p xs ≡ false
list_any-no_place p xs none = list_any-find_none p xs (find-none p xs none)

-- ---- what is written there

set-change_first : {X : Type 0} (p : X → Bool) (f : X → X) (x : X) (xs : List X) → find p xs ≡ Some x
    → set xs (position_or_len p xs) (f x) ≡ change_first p f xs
set-change_first p f x [] found = refl
set-change_first p f x (y ∷ ys) found =
    elim (p y)
    as (λ b. cond b (Some y) (find p ys) ≡ Some x
    → set (y ∷ ys) (cond (not b) (1 + position_or_len p ys) 0) (f x) ≡ cond b (f y ∷ ys) (y ∷ change_first p f ys)) [
      | true ↦ λ e. ap (λ z. f z ∷ ys) (sym (same_Some y x e))
      | false ↦ λ e. ap (λ n. set (y ∷ ys) n (f x)) (one_more _) ∙ ap (λ zs. y ∷ zs) (set-change_first p f x ys e)
    ]
    found

pub remove-without_first : {X : Type 0} (p : X → Bool) (xs : List X) (i : ℕ) → position p xs ≡ Some i
    → remove xs i ≡ without_first p xs
remove-without_first p xs i e = ap (remove xs) (sym (position-some p xs i e)) ∙ removed p xs where
  removed : {X : Type 0} (p : X → Bool) (xs : List X) → remove xs (position_or_len p xs) ≡ without_first p xs
  removed p [] = refl
  removed p (x ∷ xs) =
      elim (p x)
      as (λ b. remove (x ∷ xs) (cond (not b) (1 + position_or_len p xs) 0) ≡ cond b xs (x ∷ without_first p xs))
      [ true ↦ refl | false ↦ ap (remove (x ∷ xs)) (one_more _) ∙ ap (λ ys. x ∷ ys) (removed p xs) ]

-- ---- what callers of a table cite: the step of a row is a step of the list

pub change_first-place : {X : Type 0} (p : X → Bool) (f : X → X) (xs : List X) (i : ℕ) (x : X) → position p xs ≡ Some i
    → slice_get xs i ≡ Some x → set xs i (f x) ≡ change_first p f xs
change_first-place p f xs i x at here =
    ap (λ n. set xs n (f x)) (sym (position-some p xs i at))
    ∙ set-change_first p f x xs (find-position p xs i at ∙ here)

pub change_first-none : {X : Type 0} (p : X → Bool) (f : X → X) (xs : List X) → find p xs ≡ None
    → change_first p f xs ≡ xs
change_first-none p f [] none = refl
change_first-none p f (x ∷ xs) none =
    elim (p x) as (λ b. cond b (Some x) (find p xs) ≡ None → cond b (f x ∷ xs) (x ∷ change_first p f xs) ≡ x ∷ xs)
    [ true ↦ λ e. cc | false ↦ λ e. ap (λ ys. x ∷ ys) (change_first-none p f xs e) ] none

-- the same where the search for the place found none
pub change_first-no_place : {X : Type 0} (p : X → Bool) (f : X → X) (xs : List X) → position p xs ≡ None
    → change_first p f xs ≡ xs
change_first-no_place p f xs none = change_first-none p f xs (find-none p xs none)

pub without_first-none : {X : Type 0} (p : X → Bool) (xs : List X) → find p xs ≡ None → without_first p xs ≡ xs
without_first-none p [] none = refl
without_first-none p (x ∷ xs) none =
    elim (p x) as (λ b. cond b (Some x) (find p xs) ≡ None → cond b xs (x ∷ without_first p xs) ≡ x ∷ xs)
    [ true ↦ λ e. cc | false ↦ λ e. ap (λ ys. x ∷ ys) (without_first-none p xs e) ] none

pub without_first-no_place : {X : Type 0} (p : X → Bool) (xs : List X) → position p xs ≡ None → without_first p xs ≡ xs
without_first-no_place p xs none = without_first-none p xs (find-none p xs none)

pub ruleset change_first_laws = (
  change_first-place,
  change_first-no_place,
  change_first-none,
  find-position,
  find-none,
  remove-without_first,
  without_first-no_place,
  without_first-none,
)

-- one more element is changed, as at a step of a loop over all of them
pub map_step : {X : Type 0} (f : X → X) (xs ys : List X) (i : ℕ) (d : X) → i < length xs
    → ys ≡ map f (take i xs) ++ drop i xs → set ys i (f (get_or ys i d)) ≡ map f (take (i + 1) xs) ++ drop (i + 1) xs
map_step f xs ys i d within so_far =
    let front = length-map (take i xs) f ∙ length-take-le i xs (omega arith) in
    let parts : ys ≡ map f (take i xs) ++ get_or xs i d ∷ drop (i + 1) xs =
    so_far ∙ ap (λ zs. map f (take i xs) ++ zs) (drop_more xs i d within) in
    rw (
      parts,
      set_at (map f (take i xs)) (get_or xs i d) (drop (i + 1) xs) _ i front,
      map_more f xs i d within,
      get_or_at (map f (take i xs)) (get_or xs i d) (drop (i + 1) xs) d i front,
    )
    (sym (append_assoc (map f (take i xs)) (f (get_or xs i d) ∷ []) (drop (i + 1) xs)))
