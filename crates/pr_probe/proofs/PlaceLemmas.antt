-- The handles of files that are open, as a list: the last is closed first.
use Rattle.std.proofs.Common.{◌≡◌, ◌++◌, ◌∷◌, ◌+◌, ◌-◌, ◌<◌, ◌≤◌, ℕ, zero, suc, Bool, true, false, Option, Some, None, List, [], cond, is_some, length, nat_lt, get_or, ap, arith, refl, sym, ◌∙◌}
use Rattle.std.specs.List.{slice_set}
use Rattle.std.proofs.lemmas.Bool.{lt-ltb}
use Rattle.pr_tools.specs.Handles.{places_to_last}

-- the handles that are open, in the order of their places
unfoldable pub held : List (Option ℕ) → List ℕ
held [] = []
held (None ∷ hs) = held hs
held (Some h ∷ hs) = h ∷ held hs

-- the places of a list from those of its rest, a row a case
pub record IsBare (h : Option ℕ) (hs : List (Option ℕ)) : Type 0 where
  pub rest : places_to_last hs ≡ 0
  pub first : is_some h ≡ false

-- places behind the first
places-more : (h : Option ℕ) (hs : List (Option ℕ)) → 0 < places_to_last hs
    → places_to_last (h ∷ hs) ≡ suc (places_to_last hs)
unfolding places_to_last
places-more h hs more = rw (lt-ltb 0 (places_to_last hs) more) refl

-- none behind it
places-bare : (h : Option ℕ) (hs : List (Option ℕ)) → places_to_last hs ≡ 0
    → places_to_last (h ∷ hs) ≡ cond (is_some h) 1 0
unfolding places_to_last
places-bare h hs none = rw none refl

one-most : (b : Bool) → cond b 1 0 ≤ 1
one-most true = omega arith
one-most false = omega arith

bare : (h : Option ℕ) (hs : List (Option ℕ)) → places_to_last (h ∷ hs) ≡ 0 → IsBare h hs
bare h hs none = of (places_to_last hs) refl h refl
  where
    of : (n : ℕ) → places_to_last hs ≡ n → (g : Option ℕ) → h ≡ g → IsBare h hs
    of zero rest None is = record { rest = rest; first = ap is_some is }
    of zero rest (Some x) is =
        let one : places_to_last (h ∷ hs) ≡ 1 =
        places-bare h hs rest ∙ ap (λ (g : Option ℕ). cond (is_some g) 1 0) is in
        absurd (omega (arith, one, none))
    of (suc n) rest g is = absurd (omega (arith, places-more h hs (omega (arith, rest)), none))

-- the first place is empty where nothing is open
pub bare-first : (h : Option ℕ) (hs : List (Option ℕ)) → places_to_last (h ∷ hs) ≡ 0 → h ≡ None
bare-first None hs none = refl
bare-first (Some h) hs none = let no = (bare (Some h) hs none).first in absurd cc

pub first-none : (hs : List (Option ℕ)) → places_to_last hs ≡ 0 → get_or hs 0 None ≡ None
first-none [] none = refl
first-none (h ∷ hs) none = bare-first h hs none

-- nothing is open
pub held-none : (hs : List (Option ℕ)) → places_to_last hs ≡ 0 → held hs ≡ []
unfolding held
held-none [] none = refl
held-none (None ∷ hs) none = held-none hs (bare None hs none).rest
held-none (Some h ∷ hs) none = let no = (bare (Some h) hs none).first in absurd cc

-- the rest has fewer places
fewer : (h : Option ℕ) (hs : List (Option ℕ)) (p : ℕ) → places_to_last (h ∷ hs) ≤ suc p → places_to_last hs ≤ p
fewer h hs p few = of (places_to_last hs) refl
  where
    of : (n : ℕ) → places_to_last hs ≡ n → places_to_last hs ≤ p
    of zero is = omega (arith, is)
    of (suc n) is = omega (arith, is, places-more h hs (omega (arith, is)), few)

-- a list has no more places than its rest and one
longer : (h : Option ℕ) (hs : List (Option ℕ)) (p : ℕ) → places_to_last hs ≤ p → places_to_last (h ∷ hs) ≤ suc p
longer h hs p few = of (places_to_last hs) refl
  where
    of : (n : ℕ) → places_to_last hs ≡ n → places_to_last (h ∷ hs) ≤ suc p
    of zero is = omega (arith, places-bare h hs is, one-most (is_some h))
    of (suc n) is = omega (arith, is, places-more h hs (omega (arith, is)), few)

-- a handle behind all that are open is the last
pub held-set : (hs : List (Option ℕ)) (p h : ℕ) → places_to_last hs ≤ p → p < length hs
    → held (slice_set hs p (Some h)) ≡ held hs ++ h ∷ []
unfolding held
held-set [] p h few within = absurd (omega (arith, within))
held-set (x ∷ xs) zero h few within =
    let none : places_to_last (x ∷ xs) ≡ 0 = omega (arith, few) in
    ap (λ (ys : List ℕ). h ∷ ys) (held-none xs (bare x xs none).rest)
    ∙ ap (λ (ys : List ℕ). ys ++ h ∷ []) (sym (held-none (x ∷ xs) none))
held-set (None ∷ xs) (suc p) h few within = held-set xs p h (fewer None xs p few) (omega (arith, within))
held-set (Some y ∷ xs) (suc p) h few within =
    ap (λ (ys : List ℕ). y ∷ ys) (held-set xs p h (fewer (Some y) xs p few) (omega (arith, within)))

-- no handle behind them changes nothing
pub held-unset : (hs : List (Option ℕ)) (p : ℕ) → places_to_last hs ≤ p → held (slice_set hs p None) ≡ held hs
unfolding held
held-unset [] p few = refl
held-unset (x ∷ xs) zero few =
    let none : places_to_last (x ∷ xs) ≡ 0 = omega (arith, few) in
    held-none xs (bare x xs none).rest ∙ sym (held-none (x ∷ xs) none)
held-unset (None ∷ xs) (suc p) few = held-unset xs p (fewer None xs p few)
held-unset (Some y ∷ xs) (suc p) few = ap (λ (ys : List ℕ). y ∷ ys) (held-unset xs p (fewer (Some y) xs p few))

-- how many places there are after a handle was set
pub places-set : (hs : List (Option ℕ)) (p : ℕ) (x : Option ℕ) → places_to_last hs ≤ p
    → places_to_last (slice_set hs p x) ≤ suc p
places-set [] p x few = omega (arith, few)
places-set (y ∷ ys) zero x few =
    let none : places_to_last (y ∷ ys) ≡ 0 = omega (arith, few) in
    longer x ys 0 (omega (arith, (bare y ys none).rest))
places-set (y ∷ ys) (suc p) x few = longer y (slice_set ys p x) (suc p) (places-set ys p x (fewer y ys p few))

-- the last that is open
pub record HasLast (hs : List (Option ℕ)) (n : ℕ) : Type 0 where
  pub handle : ℕ
  pub there : get_or hs n None ≡ Some handle
  pub held_is : held hs ≡ held (slice_set hs n None) ++ handle ∷ []
  pub fewer : places_to_last (slice_set hs n None) ≤ n

-- which place that is
exact : (h : Option ℕ) (hs : List (Option ℕ)) (n : ℕ) → places_to_last (h ∷ hs) ≡ suc (suc n)
    → places_to_last hs ≡ suc n
exact h hs n is = of (places_to_last hs) refl
  where
    of : (m : ℕ) → places_to_last hs ≡ m → places_to_last hs ≡ suc n
    of zero none = absurd (omega (arith, places-bare h hs none, one-most (is_some h), is))
    of (suc m) some = omega (arith, some, places-more h hs (omega (arith, some)), is)

single : (h : Option ℕ) (hs : List (Option ℕ)) → places_to_last (h ∷ hs) ≡ 1 → places_to_last hs ≡ 0
single h hs is = of (places_to_last hs) refl
  where
    of : (m : ℕ) → places_to_last hs ≡ m → places_to_last hs ≡ 0
    of zero none = none
    of (suc m) some = absurd (omega (arith, some, places-more h hs (omega (arith, some)), is))

-- a list whose one place is the first has a handle there
single-not : (hs : List (Option ℕ)) → places_to_last (None ∷ hs) ≡ 1 → ⊥
single-not hs is =
    absurd (omega (arith, is, places-bare None hs (single None hs is)))

empty-places : (n : ℕ) → places_to_last [] ≡ suc n → ⊥
unfolding places_to_last
empty-places n is = absurd (omega (arith, is))

-- a list whose first place is empty, with nothing behind it, has no places
bare-places : (hs : List (Option ℕ)) → places_to_last hs ≡ 0 → places_to_last (None ∷ hs) ≤ 0
bare-places hs none = omega (arith, places-bare None hs none)

pub has-last : (hs : List (Option ℕ)) (n : ℕ) → places_to_last hs ≡ suc n → HasLast hs n
unfolding held
has-last [] n is = absurd (empty-places n is)
has-last (None ∷ hs) zero is = absurd (single-not hs is)
has-last (Some h ∷ hs) zero is =
    let rest = single (Some h) hs is in
    let nothing : held hs ≡ [] = held-none hs rest in
    record {
      handle = h;
      there = refl;
      held_is = ap (λ (ys : List ℕ). h ∷ ys) nothing ∙ ap (λ (ys : List ℕ). ys ++ h ∷ []) (sym nothing);
      fewer = bare-places hs rest;
    }
has-last (None ∷ hs) (suc n) is =
    let last = has-last hs n (exact None hs n is) in
    record {
      handle = last.handle;
      there = last.there;
      held_is = last.held_is;
      fewer = longer None (slice_set hs n None) n last.fewer;
    }
has-last (Some h ∷ hs) (suc n) is =
    let last = has-last hs n (exact (Some h) hs n is) in
    record {
      handle = last.handle;
      there = last.there;
      held_is = ap (λ (ys : List ℕ). h ∷ ys) last.held_is;
      fewer = longer (Some h) (slice_set hs n None) n last.fewer;
    }

-- where nothing is open, no handle at the first place leaves it so
pub unset-bare : (hs : List (Option ℕ)) → places_to_last hs ≡ 0 → places_to_last (slice_set hs 0 None) ≤ 0
unset-bare [] none = omega (arith, none)
unset-bare (h ∷ hs) none = bare-places hs (bare h hs none).rest
