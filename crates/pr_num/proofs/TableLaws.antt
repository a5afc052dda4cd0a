use Rattle.std.proofs.Common.{◌≡◌, Bool, true, false, cond, Some, List, [], ◌∷◌, refl, ap, inl, inr}
use Rattle.std.specs.List.{find, All}
use Rattle.std.proofs.lemmas.List.Elements.{All-cons, All-head, All-tail}
use Rattle.std.proofs.lemmas.Bool.{cases_Bool}
use Rattle.pr_num.specs.KeyedTables.{change_first, without_first}

-- Laws of a list of which one element is changed or taken out.

-- another search finds what it found
pub find-without_first_other : {X : Type 0} (p q : X → Bool) (apart : (x : X) → p x ≡ true → q x ≡ false)
    → (xs : List X) → find q (without_first p xs) ≡ find q xs
find-without_first_other p q apart [] = refl
find-without_first_other p q apart (x ∷ xs) =
    elim (cases_Bool (p x)) [
      | inl here ↦ rw (here, apart x here) refl
      | inr not_here ↦ rw not_here (ap (cond (q x) (Some x)) (find-without_first_other p q apart xs))
    ]

-- ---- what holds of each element

pub All-change_first : {X : Type 0} (P : X → Type 0) (p : X → Bool) (f : X → X)
    (keeps : (x : X) → p x ≡ true → P x → P (f x)) → (xs : List X) → All P xs → All P (change_first p f xs)
All-change_first P p f keeps [] all = all
All-change_first P p f keeps (x ∷ xs) all =
    elim (cases_Bool (p x)) [
      | inl here ↦ rw here (All-cons P _ _ (keeps x here (All-head P x xs all)) (All-tail P x xs all))
      | inr not_here ↦
          rw not_here (All-cons P _ _ (All-head P x xs all) (All-change_first P p f keeps xs (All-tail P x xs all)))
    ]

pub All-without_first : {X : Type 0} (P : X → Type 0) (p : X → Bool) (xs : List X) → All P xs
    → All P (without_first p xs)
All-without_first P p [] all = all
All-without_first P p (x ∷ xs) all =
    elim (cases_Bool (p x)) [
      | inl here ↦ rw here (All-tail P x xs all)
      | inr not_here ↦
          rw not_here (All-cons P _ _ (All-head P x xs all) (All-without_first P p xs (All-tail P x xs all)))
    ]
