-- Lists of what stands by rising address and apart.
use Rattle.std.proofs.Common.{◌≡◌, ℕ, suc, ◌+◌, ◌<◌, ◌≤◌, Bool, true, false, ltb, cond, not, Some, None, List, [], ◌∷◌, length, map, refl, sym, ◌∙◌, ap, arith, inl, inr, subst}
use Rattle.std.specs.Prelude.{◌||◌}
use Rattle.std.specs.List.{All, AllPairs, sum_by, insert, position, position_or_len, find, list_any}
use Rattle.std.proofs.lemmas.Bool.{ltb-true, ltb-false, false≢true, cases_Bool}
use Rattle.std.proofs.lemmas.Option.{same_Some, cond_some}
use Rattle.std.proofs.lemmas.List.Elements.{All-nil, All-cons, All-head, All-tail, All-map, All-weaker}
use Rattle.std.proofs.lemmas.List.Sums.{sum_by-cons}
use Rattle.std.proofs.lemmas.List.Kept.{AllPairs-cons}
use Rattle.pr_num.specs.KeyedTables.{change_first, without_first}
use Rattle.pr_parts.specs.ByAddress.{ranges_meet, is_behind, with_placed}
use Rattle.pr_num.proofs.TableLaws.{All-change_first, All-without_first}
use Rattle.pr_num.proofs.NumberLemmas.{one_more}

-- ---- pairs

pub AllPairs-head : {X : Type 0} (R : X → X → Type 0) (x : X) (xs : List X) → AllPairs R (x ∷ xs) → All (R x) xs
AllPairs-head R x xs pairs k d within = pairs 0 (suc k) d (omega arith) (omega arith)

pub AllPairs-tail : {X : Type 0} (R : X → X → Type 0) (x : X) (xs : List X) → AllPairs R (x ∷ xs) → AllPairs R xs
AllPairs-tail R x xs pairs i j d order within = pairs (suc i) (suc j) d (omega arith) (omega arith)

pub AllPairs-nil : {X : Type 0} (R : X → X → Type 0) → AllPairs R []
AllPairs-nil R i j d order within = absurd (omega arith)

-- ---- one thing more at its place

pub insert-placed : {X : Type 0} (address_of : X → ℕ) (x : X) (xs : List X)
    → insert xs (position_or_len (is_behind address_of (address_of x)) xs) x ≡ with_placed address_of x xs
insert-placed address_of x [] = refl
insert-placed address_of x (y ∷ ys) =
    elim (ltb (address_of x) (address_of y))
    as (λ b. insert (y ∷ ys) (cond (not b) (1 + position_or_len (is_behind address_of (address_of x)) ys) 0) x
    ≡ cond b (x ∷ y ∷ ys) (y ∷ with_placed address_of x ys)) [
      | true ↦ refl
      | false ↦ ap (λ n. insert (y ∷ ys) n x) (one_more _) ∙ ap (λ zs. y ∷ zs) (insert-placed address_of x ys)
    ]

pub All-placed : {X : Type 0} (P : X → Type 0) (address_of : X → ℕ) (x : X) (xs : List X) → P x → All P xs
    → All P (with_placed address_of x xs)
All-placed P address_of x [] here all = All-cons P x [] here (All-nil P)
All-placed P address_of x (y ∷ ys) here all =
    elim (ltb (address_of x) (address_of y)) as (λ b. All P (cond b (x ∷ y ∷ ys) (y ∷ with_placed address_of x ys))) [
      | true ↦ All-cons P x (y ∷ ys) here all
      | false ↦
          All-cons P y (with_placed address_of x ys) (All-head P y ys all)
          (All-placed P address_of x ys here (All-tail P y ys all))
    ]

pub sum_by-placed : {X : Type 0} (f : X → ℕ) (address_of : X → ℕ) (x : X) (xs : List X)
    → sum_by f (with_placed address_of x xs) ≡ f x + sum_by f xs
sum_by-placed f address_of x [] = sum_by-cons f x []
sum_by-placed f address_of x (y ∷ ys) =
    elim (ltb (address_of x) (address_of y))
    as (λ b. sum_by f (cond b (x ∷ y ∷ ys) (y ∷ with_placed address_of x ys)) ≡ f x + sum_by f (y ∷ ys)) [
      | true ↦ sum_by-cons f x (y ∷ ys)
      | false ↦
          omega (
            arith,
            sum_by-placed f address_of x ys,
            sum_by-cons f y ys,
            sum_by-cons f y (with_placed address_of x ys),
          )
    ]

-- ---- apart, by rising address

-- the first of two ends before the other begins
abbrev pub Precedes : {X : Type 0} → (X → ℕ) → (X → ℕ) → X → X → Type 0
Precedes at size x y = at x + size x ≤ at y

-- what passes no test of a list, at its head and behind
pub no_head : {X : Type 0} (p : X → Bool) (y : X) (ys : List X) → list_any p (y ∷ ys) ≡ false → p y ≡ false
no_head p y ys free =
    elim (p y) as (λ b. b || list_any p ys ≡ false → b ≡ false) [ true ↦ λ e. e | false ↦ λ e. refl ] free

pub no_tail : {X : Type 0} (p : X → Bool) (y : X) (ys : List X) → list_any p (y ∷ ys) ≡ false → list_any p ys ≡ false
no_tail p y ys free =
    elim (p y) as (λ b. b || list_any p ys ≡ false → list_any p ys ≡ false)
    [ true ↦ λ e. absurd (false≢true (sym e)) | false ↦ λ e. e ] free

-- ranges that do not meet stand one before the other
pub apart_before : (a m b n : ℕ) → ranges_meet a m b n ≡ false → a < b → a + m ≤ b
apart_before a m b n free order = grind arith

pub apart_after : (a m b n : ℕ) → ranges_meet a m b n ≡ false → 0 < m → b ≤ a → b + n ≤ a
apart_after a m b n free some order = grind arith

pub pairs-placed : {X : Type 0} (at size : X → ℕ) (x : X) (xs : List X) → 0 < size x → AllPairs (Precedes at size) xs
    → list_any (λ y. ranges_meet (at x) (size x) (at y) (size y)) xs ≡ false
    → AllPairs (Precedes at size) (with_placed at x xs)
pairs-placed at size x [] some pairs free =
    AllPairs-cons (Precedes at size) x [] (All-nil (Precedes at size x)) (AllPairs-nil (Precedes at size))
pairs-placed at size x (y ∷ ys) some pairs free =
    let behind = AllPairs-head (Precedes at size) y ys pairs in
    let here = no_head (λ z. ranges_meet (at x) (size x) (at z) (size z)) y ys free in
    let rest =
    pairs-placed at size x ys some (AllPairs-tail (Precedes at size) y ys pairs)
    (no_tail (λ z. ranges_meet (at x) (size x) (at z) (size z)) y ys free) in
    elim (ltb (at x) (at y))
    as (λ b. ltb (at x) (at y) ≡ b → AllPairs (Precedes at size) (cond b (x ∷ y ∷ ys) (y ∷ with_placed at x ys)))
    [ true ↦ λ t. first pairs behind here (ltb-true _ _ t) | false ↦ λ f. later behind here rest (ltb-false _ _ f) ]
    refl
  where
    first : AllPairs (Precedes at size) (y ∷ ys) → All (Precedes at size y) ys
        → ranges_meet (at x) (size x) (at y) (size y) ≡ false → at x < at y → AllPairs (Precedes at size) (x ∷ y ∷ ys)
    first pairs behind here order =
        let before = apart_before (at x) (size x) (at y) (size y) here order in
        AllPairs-cons (Precedes at size) x (y ∷ ys)
        (All-cons (Precedes at size x) y ys before
        (All-weaker (Precedes at size y) (Precedes at size x) (λ z far. omega arith) ys behind)) pairs

    later : All (Precedes at size y) ys → ranges_meet (at x) (size x) (at y) (size y) ≡ false
        → AllPairs (Precedes at size) (with_placed at x ys) → at y ≤ at x
        → AllPairs (Precedes at size) (y ∷ with_placed at x ys)
    later behind here rest order =
        AllPairs-cons (Precedes at size) y (with_placed at x ys)
        (All-placed (Precedes at size y) at x ys
        (apart_after (at x) (size x) (at y) (size y) here some order) behind) rest

-- ---- without the first that passes a test

pub pairs-without_first : {X : Type 0} (R : X → X → Type 0) (p : X → Bool) (xs : List X) → AllPairs R xs
    → AllPairs R (without_first p xs)
pairs-without_first R p [] pairs = pairs
pairs-without_first R p (x ∷ xs) pairs =
    let rest = pairs-without_first R p xs (AllPairs-tail R x xs pairs) in
    let behind = All-without_first (R x) p xs (AllPairs-head R x xs pairs) in
    elim (p x) as (λ b. AllPairs R (cond b xs (x ∷ without_first p xs)))
    [ true ↦ AllPairs-tail R x xs pairs | false ↦ AllPairs-cons R x (without_first p xs) behind rest ]

pub sum_by-without_first : {X : Type 0} (f : X → ℕ) (p : X → Bool) (xs : List X) (x : X) → find p xs ≡ Some x
    → sum_by f (without_first p xs) + f x ≡ sum_by f xs
sum_by-without_first f p [] x found = absurd (cc)
sum_by-without_first f p (y ∷ ys) x found =
    elim (p y)
    as (λ b. cond b (Some y) (find p ys) ≡ Some x
    → sum_by f (cond b ys (y ∷ without_first p ys)) + f x ≡ sum_by f (y ∷ ys)) [
      | true ↦ λ e. omega (arith, sum_by-cons f y ys, ap f (same_Some y x e))
      | false ↦ λ e.
          omega (arith, sum_by-cons f y ys, sum_by-cons f y (without_first p ys), sum_by-without_first f p ys x e)
    ] found

pub length-without_first : {X : Type 0} (p : X → Bool) (xs : List X) → length (without_first p xs) ≤ length xs
length-without_first p [] = omega arith
length-without_first p (x ∷ xs) =
    elim (p x) as (λ b. length (cond b xs (x ∷ without_first p xs)) ≤ suc (length xs))
    [ true ↦ omega arith | false ↦ omega (arith, length-without_first p xs) ]

pub length-placed : {X : Type 0} (address_of : X → ℕ) (x : X) (xs : List X)
    → length (with_placed address_of x xs) ≡ length xs + 1
length-placed address_of x [] = refl
length-placed address_of x (y ∷ ys) =
    elim (ltb (address_of x) (address_of y))
    as (λ b. length (cond b (x ∷ y ∷ ys) (y ∷ with_placed address_of x ys)) ≡ suc (length ys) + 1)
    [ true ↦ omega arith | false ↦ omega (arith, length-placed address_of x ys) ]

-- ---- the first that passes a test, changed

pub pairs-change_first : {X : Type 0} (R : X → X → Type 0) (p : X → Bool) (f : X → X) (xs : List X)
    → ((x y : X) → R x y → R (f x) y) → ((x y : X) → R x y → R x (f y)) → AllPairs R xs
    → AllPairs R (change_first p f xs)
pairs-change_first R p f [] left right pairs = pairs
pairs-change_first R p f (x ∷ xs) left right pairs =
    let behind = AllPairs-head R x xs pairs in
    let rest = AllPairs-tail R x xs pairs in
    let later = pairs-change_first R p f xs left right rest in
    elim (p x) as (λ b. AllPairs R (cond b (f x ∷ xs) (x ∷ change_first p f xs))) [
      | true ↦ AllPairs-cons R (f x) xs (All-weaker (R x) (R (f x)) (left x) xs behind) rest
      | false ↦
          AllPairs-cons R x (change_first p f xs) (All-change_first (R x) p f (λ y _. right x y) xs behind) later
    ]

-- a sum after a change of what was found
pub sum_by-change_first : {X : Type 0} (g : X → ℕ) (p : X → Bool) (f : X → X) (xs : List X) (x : X) → find p xs ≡ Some x
    → sum_by g (change_first p f xs) + g x ≡ sum_by g xs + g (f x)
sum_by-change_first g p f [] x found = absurd (cc)
sum_by-change_first g p f (y ∷ ys) x found =
    elim (p y)
    as (λ b. cond b (Some y) (find p ys) ≡ Some x
    → sum_by g (cond b (f y ∷ ys) (y ∷ change_first p f ys)) + g x ≡ sum_by g (y ∷ ys) + g (f x)) [
      | true ↦ λ e. let same = same_Some y x e in
          omega (arith, sum_by-cons g y ys, sum_by-cons g (f y) ys, ap g same, ap (λ z. g (f z)) same)
      | false ↦ λ e.
          omega (arith, sum_by-cons g y ys, sum_by-cons g y (change_first p f ys), sum_by-change_first g p f ys x e)
    ]
    found

pub sum_by-change_first_same : {X : Type 0} (g : X → ℕ) (p : X → Bool) (f : X → X) (xs : List X)
    → ((x : X) → g (f x) ≡ g x) → sum_by g (change_first p f xs) ≡ sum_by g xs
sum_by-change_first_same g p f [] same = refl
sum_by-change_first_same g p f (x ∷ xs) same =
    elim (p x) as (λ b. sum_by g (cond b (f x ∷ xs) (x ∷ change_first p f xs)) ≡ sum_by g (x ∷ xs)) [
      | true ↦ omega (arith, sum_by-cons g x xs, sum_by-cons g (f x) xs, same x)
      | false ↦
          omega (
            arith,
            sum_by-cons g x xs,
            sum_by-cons g x (change_first p f xs),
            sum_by-change_first_same g p f xs same,
          )
    ]

-- ---- all changed

pub pairs-map : {X : Type 0} (R : X → X → Type 0) (f : X → X) (xs : List X) → ((x y : X) → R x y → R (f x) (f y))
    → AllPairs R xs → AllPairs R (map f xs)
pairs-map R f [] keeps pairs = pairs
pairs-map R f (x ∷ xs) keeps pairs =
    AllPairs-cons R (f x) (map f xs)
    (All-map (R (f x)) f xs (All-weaker (R x) (λ y. R (f x) (f y)) (keeps x) xs (AllPairs-head R x xs pairs)))
    (pairs-map R f xs keeps (AllPairs-tail R x xs pairs))

pub sum_by-map_same : {X : Type 0} (g : X → ℕ) (f : X → X) (xs : List X) → ((x : X) → g (f x) ≡ g x)
    → sum_by g (map f xs) ≡ sum_by g xs
sum_by-map_same g f [] same = refl
sum_by-map_same g f (x ∷ xs) same =
    omega (arith, sum_by-cons g x xs, sum_by-cons g (f x) (map f xs), same x, sum_by-map_same g f xs same)

-- ---- the place of the first that passes a test, or the end

pub place-some : {X : Type 0} (p : X → Bool) (xs : List X) (i : ℕ) → position p xs ≡ Some i → i ≡ position_or_len p xs
place-some p xs i e = sym (cond_some (ltb (position_or_len p xs) (length xs)) (position_or_len p xs) i e).1

pub place-within : {X : Type 0} (p : X → Bool) (xs : List X) → position_or_len p xs ≤ length xs
place-within p [] = omega arith
place-within p (x ∷ xs) =
    elim (p x) as (λ b. cond (not b) (1 + position_or_len p xs) 0 ≤ suc (length xs))
    [ true ↦ omega arith | false ↦ omega (arith, place-within p xs) ]

pub place-none : {X : Type 0} (p : X → Bool) (xs : List X) → position p xs ≡ None → length xs ≡ position_or_len p xs
place-none p xs e =
    let within = place-within p xs in
    elim (cases_Bool (ltb (position_or_len p xs) (length xs)))
    [ inl t ↦ absurd (cc) | inr f ↦ let past = ltb-false _ _ f in omega arith ]

pub ruleset places = (place-some, place-none, place-within)
