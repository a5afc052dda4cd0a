-- Sums over what all seats know, where one seat changes.
use Rattle.std.proofs.Common.{◌≡◌, ℕ, zero, suc, ◌+◌, ◌≤◌, ◌≢◌, List, [], ◌∷◌, set, sum_by, sym, ap, refl, arith}
use Rattle.std.proofs.lemmas.List.Sums.{sum_by-cons}
use mathlib.Core.Option.{some, some-injective, some-ne-none}
use lib.ListN.{get_elem?}

pub set_at : {X : Type 0} (xs : List X) (i : ℕ) (v w : X) → get_elem? xs i ≡ some v → get_elem? (set xs i w) i ≡ some w
set_at [] i v w e = absurd (some-ne-none v (sym e))
set_at (x ∷ xs) zero v w e = refl
set_at (x ∷ xs) (suc i) v w e = set_at xs i v w e

module _ {X : Type 0} (f : X → ℕ) where
  pub sum_by-at : (xs : List X) (i : ℕ) (v w : X) → get_elem? xs i ≡ some v
      → sum_by f (set xs i w) + f v ≡ sum_by f xs + f w
  sum_by-at [] i v w e = absurd (some-ne-none v (sym e))
  sum_by-at (x ∷ xs) zero v w e = omega (arith, sum_by-cons f w xs, sum_by-cons f x xs, ap f (some-injective x v e))
  sum_by-at (x ∷ xs) (suc i) v w e =
      omega (arith, sum_by-cons f x (set xs i w), sum_by-cons f x xs, sum_by-at xs i v w e)

  pub sum_by-same_at : (xs : List X) (i : ℕ) (v w : X) → get_elem? xs i ≡ some v → f w ≡ f v
      → sum_by f (set xs i w) ≡ sum_by f xs
  sum_by-same_at xs i v w e same = omega (arith, sum_by-at xs i v w e, same)

  pub one_of_sum : (xs : List X) (i : ℕ) (v : X) → get_elem? xs i ≡ some v → f v ≤ sum_by f xs
  one_of_sum [] i v e = absurd (some-ne-none v (sym e))
  one_of_sum (x ∷ xs) zero v e = omega (arith, sum_by-cons f x xs, ap f (some-injective x v e))
  one_of_sum (x ∷ xs) (suc i) v e = omega (arith, sum_by-cons f x xs, one_of_sum xs i v e)

  pub two_of_sum : (xs : List X) (i j : ℕ) (v u : X) → get_elem? xs i ≡ some v → get_elem? xs j ≡ some u → j ≢ i
      → f v + f u ≤ sum_by f xs
  two_of_sum [] i j v u e d apart = absurd (some-ne-none v (sym e))
  two_of_sum (x ∷ xs) zero zero v u e d apart = absurd (apart refl)
  two_of_sum (x ∷ xs) zero (suc j) v u e d apart =
      omega (arith, sum_by-cons f x xs, ap f (some-injective x v e), one_of_sum xs j u d)
  two_of_sum (x ∷ xs) (suc i) zero v u e d apart =
      omega (arith, sum_by-cons f x xs, ap f (some-injective x u d), one_of_sum xs i v e)
  two_of_sum (x ∷ xs) (suc i) (suc j) v u e d apart =
      omega (arith, sum_by-cons f x xs, two_of_sum xs i j v u e d (λ same. apart (ap suc same)))

  pub sum_by-none : (xs : List X) → ((j : ℕ) (u : X) → get_elem? xs j ≡ some u → f u ≡ 0) → sum_by f xs ≡ 0
  sum_by-none [] none = refl
  sum_by-none (x ∷ xs) none =
      omega (arith, sum_by-cons f x xs, none 0 x refl, sum_by-none xs (λ j u d. none (suc j) u d))

  -- the sum is that of one place, where the others have none
  pub sum_by-only : (xs : List X) (i : ℕ) (v : X) → get_elem? xs i ≡ some v
      → ((j : ℕ) (u : X) → j ≢ i → get_elem? xs j ≡ some u → f u ≡ 0) → sum_by f xs ≡ f v
  sum_by-only [] i v e none = absurd (some-ne-none v (sym e))
  sum_by-only (x ∷ xs) zero v e none =
      let rest : sum_by f xs ≡ 0 = sum_by-none xs (λ j u d. none (suc j) u (λ h. omega arith) d) in
      omega (arith, sum_by-cons f x xs, ap f (some-injective x v e), rest)
  sum_by-only (x ∷ xs) (suc i) v e none =
      let first : f x ≡ 0 = none 0 x (λ h. omega arith) refl in
      omega (
        arith,
        sum_by-cons f x xs,
        first,
        sum_by-only xs i v e (λ j u apart d. none (suc j) u (λ h. apart (omega arith)) d),
      )
