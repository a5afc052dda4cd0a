use Rattle.std.proofs.Common.{◌≡◌, ◌≢◌, ℕ, zero, suc, ◌+◌, ◌-◌, ◌<◌, ◌≤◌, Bool, true, false, ◌||◌, ltb, cond, Option, Some, None, is_some, is_none, List, [], ◌∷◌, ◌++◌, length, set, refl, sym, ◌∙◌, ap, arith, inl, inr}
use Rattle.std.specs.List.{All, count_by, find, list_any, position, slice_get}
use Rattle.std.proofs.lemmas.Bool.{or_parts, cases_Bool, ltb-true, ltb-false}
use Rattle.std.proofs.lemmas.List.Elements.{All-nil, All-cons, All-head, All-tail, All-get_or}
use Rattle.std.proofs.lemmas.List.Sums.{sum_by-cons}
use Rattle.std.proofs.lemmas.Option.{slice_get_within, get_or_from_slice_get, cond_some, none-some}
use Rattle.pr_num.proofs.TableLemmas.{position-within, find-none}
use Rattle.pr_parts.specs.FileTables.{with_placed, free_place, at_place}
use Rattle.pr_num.proofs.NumberLemmas.{one_more}

-- Lists whose places are taken again.

-- what holds of every element is carried over to another fact, where that needs that no element passes a test
pub All-untested : {X : Type 0} (p : X → Bool) (P Q : X → Type 0) → ((x : X) → p x ≡ false → P x → Q x) → (xs : List X)
    → list_any p xs ≡ false → All P xs → All Q xs
All-untested p P Q carry [] none all = All-nil Q
All-untested p P Q carry (x ∷ xs) none all =
    let parts = or_parts (p x) (list_any p xs) none in
    All-cons Q x xs (carry x parts.0 (All-head P x xs all)) (All-untested p P Q carry xs parts.1 (All-tail P x xs all))

pub All-placed : {X : Type 0} (P : Option X → Type 0) (xs : List (Option X)) (x : X) → P (Some x) → All P xs
    → All P (with_placed xs x)
All-placed P [] x here all = All-cons P (Some x) [] here (All-nil P)
All-placed P (None ∷ xs) x here all = All-cons P (Some x) xs here (All-tail P None xs all)
All-placed P (Some y ∷ xs) x here all =
    All-cons P (Some y) (with_placed xs x) (All-head P (Some y) xs all)
    (All-placed P xs x here (All-tail P (Some y) xs all))

-- ---- one place changed

pub slice_get-set_other : {X : Type 0} (xs : List X) (i j : ℕ) (y : X) → j ≢ i
    → slice_get (set xs i y) j ≡ slice_get xs j
slice_get-set_other [] i j y ne = refl
slice_get-set_other (x ∷ xs) zero zero y ne = absurd (ne refl)
slice_get-set_other (x ∷ xs) zero (suc j) y ne = refl
slice_get-set_other (x ∷ xs) (suc i) zero y ne = refl
slice_get-set_other (x ∷ xs) (suc i) (suc j) y ne = slice_get-set_other xs i j y (λ e. ne (ap suc e))

pub slice_get-set_same : {X : Type 0} (xs : List X) (i : ℕ) (x y : X) → slice_get xs i ≡ Some x
    → slice_get (set xs i y) i ≡ Some y
slice_get-set_same [] i x y e = cc
slice_get-set_same (z ∷ xs) zero x y e = refl
slice_get-set_same (z ∷ xs) (suc i) x y e = slice_get-set_same xs i x y e

-- a place that was taken is taken still, where something is placed or written anew at a taken place
pub taken-placed : {X : Type 0} (xs : List (Option X)) (x : X) (i : ℕ) → is_some (at_place xs i) ≡ true
    → is_some (at_place (with_placed xs x) i) ≡ true
taken-placed [] x i e = cc
taken-placed (None ∷ xs) x zero e = refl
taken-placed (None ∷ xs) x (suc i) e = e
taken-placed (Some y ∷ xs) x zero e = refl
taken-placed (Some y ∷ xs) x (suc i) e = taken-placed xs x i e

pub taken-set : {X : Type 0} (xs : List (Option X)) (at i : ℕ) (x : X) → is_some (at_place xs i) ≡ true
    → is_some (at_place (set xs at (Some x)) i) ≡ true
taken-set [] at i x e = cc
taken-set (y ∷ xs) zero zero x e = refl
taken-set (y ∷ xs) zero (suc i) x e = e
taken-set (y ∷ xs) (suc at) zero x e = e
taken-set (y ∷ xs) (suc at) (suc i) x e = taken-set xs at i x e

-- ---- the least free place

pub free_place-within : {X : Type 0} (xs : List (Option X)) → free_place xs ≤ length xs
free_place-within [] = omega arith
free_place-within (None ∷ xs) = omega arith
free_place-within (Some y ∷ xs) = omega (arith, free_place-within xs)

pub set-free : {X : Type 0} (xs : List (Option X)) (x : X) → free_place xs < length xs
    → set xs (free_place xs) (Some x) ≡ with_placed xs x
set-free [] x below = absurd (omega arith)
set-free (None ∷ xs) x below = refl
set-free (Some y ∷ xs) x below =
    ap (λ n. set (Some y ∷ xs) n (Some x)) (one_more (free_place xs))
    ∙ ap (λ ys. Some y ∷ ys) (set-free xs x (omega arith))

pub push-free : {X : Type 0} (xs : List (Option X)) (x : X) → length xs ≤ free_place xs
    → xs ++ Some x ∷ [] ≡ with_placed xs x
push-free [] x past = refl
push-free (None ∷ xs) x past = absurd (omega arith)
push-free (Some y ∷ xs) x past = ap (λ ys. Some y ∷ ys) (push-free xs x (omega arith))

pub free-position : {X : Type 0} (xs : List (Option X)) (i : ℕ) → position is_none xs ≡ Some i → i ≡ free_place xs
free-position xs i e = sym (cond_some (ltb (free_place xs) (length xs)) (free_place xs) i e).1

pub set-position : {X : Type 0} (xs : List (Option X)) (x : X) (i : ℕ) → position is_none xs ≡ Some i
    → set xs i (Some x) ≡ with_placed xs x
set-position xs x i e =
    let found = cond_some (ltb (free_place xs) (length xs)) (free_place xs) i e in
    ap (λ n. set xs n (Some x)) (sym found.1) ∙ set-free xs x (ltb-true _ _ found.0)

pub full-position : {X : Type 0} (xs : List (Option X)) → position is_none xs ≡ None → length xs ≡ free_place xs
full-position xs e =
    let bound = free_place-within xs in
    elim (cases_Bool (ltb (free_place xs) (length xs))) [
      | inl below ↦ absurd (none-some (free_place xs) (sym e ∙ ap (λ b. cond b (Some (free_place xs)) None) below))
      | inr past ↦ omega (arith, ltb-false _ _ past)
    ]

pub push-position : {X : Type 0} (xs : List (Option X)) (x : X) → position is_none xs ≡ None
    → xs ++ Some x ∷ [] ≡ with_placed xs x
push-position xs x e = push-free xs x (omega (arith, full-position xs e))

pub ruleset placings = (free-position, set-position, full-position, push-position)

pub ruleset positions = (position-within)

-- ---- no element passes a test

-- ---- what is placed

pub at_place-placed : {X : Type 0} (xs : List (Option X)) (x : X) → at_place (with_placed xs x) (free_place xs) ≡ Some x
at_place-placed [] x = refl
at_place-placed (None ∷ xs) x = refl
at_place-placed (Some y ∷ xs) x =
    ap (at_place (Some y ∷ with_placed xs x)) (one_more (free_place xs)) ∙ at_place-placed xs x

-- a list that is short enough stays so, where fewer places are taken
pub length-placed : {X : Type 0} (xs : List (Option X)) (x : X) (n : ℕ) → length xs ≤ n → count_by is_some xs < n
    → length (with_placed xs x) ≤ n
length-placed [] x n short few = omega arith
length-placed (None ∷ xs) x n short few = short
length-placed (Some y ∷ xs) x n short few =
    let whole : count_by is_some (Some y ∷ xs) ≡ 1 + count_by is_some xs =
    sum_by-cons (λ x. cond (is_some x) 1 0) (Some y) xs in
    let fewer : 1 + count_by is_some xs < n = omega (arith, whole, few) in
    omega (arith, length-placed xs x (n - 1) (omega arith) (omega arith), short)
