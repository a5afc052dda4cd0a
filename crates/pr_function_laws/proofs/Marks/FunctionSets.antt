use Rattle.std.proofs.Common.{◌≡◌, ◌≢◌, ◌⊎◌, ◌<◌, ℕ, zero, suc, Bool, true, false, Some, List, [], ◌∷◌, length, replicate, refl, sym, ap, ◌∙◌, inl, inr, arith}
use Rattle.std.proofs.lemmas.Bool.{false≢true}
use Rattle.std.proofs.lemmas.List.Quantifiers.{position-Some}
use Rattle.std.proofs.lemmas.Option.{unwrap_or-slice_get}
use Rattle.pr_line.specs.Functions.{function_limit}
use Rattle.pr_truss.specs.Marks.{first_function, has_function, is_in, no_functions, with_function, without_function}

-- Sets of functions: which functions are in a set that has one more, and one less.

pub has-with : (set : List Bool) (i j : ℕ) → has_function (with_function set i) j ≡ true
    → (j ≡ i) ⊎ (has_function set j ≡ true)
has-with [] i j is = absurd (false≢true is)
has-with (b ∷ bs) zero zero is = inl refl
has-with (b ∷ bs) zero (suc j) is = inr is
has-with (b ∷ bs) (suc i) zero is = inr is
has-with (b ∷ bs) (suc i) (suc j) is =
    elim (has-with bs i j is) [ inl same ↦ inl (ap suc same) | inr has ↦ inr has ]

pub with-keeps : (set : List Bool) (i j : ℕ) → has_function set j ≡ true → has_function (with_function set i) j ≡ true
with-keeps [] i j is = is
with-keeps (b ∷ bs) zero zero is = refl
with-keeps (b ∷ bs) zero (suc j) is = is
with-keeps (b ∷ bs) (suc i) zero is = is
with-keeps (b ∷ bs) (suc i) (suc j) is = with-keeps bs i j is

pub has-own : (set : List Bool) (i : ℕ) → i < length set → has_function (with_function set i) i ≡ true
has-own [] i within = absurd (omega (arith, within))
has-own (b ∷ bs) zero within = refl
has-own (b ∷ bs) (suc i) within = has-own bs i (omega (arith, within))

-- one less
pub record IsOther (set : List Bool) (i j : ℕ) : Type 0 where
  pub apart : j ≢ i
  pub has : has_function set j ≡ true

pub has-without : (set : List Bool) (i j : ℕ) → has_function (without_function set i) j ≡ true → IsOther set i j
has-without [] i j is = absurd (false≢true is)
has-without (b ∷ bs) zero zero is = absurd (false≢true is)
has-without (b ∷ bs) zero (suc j) is = record { apart = λ same. cc; has = is }
has-without (b ∷ bs) (suc i) zero is = record { apart = λ same. cc; has = is }
has-without (b ∷ bs) (suc i) (suc j) is =
    let it = has-without bs i j is in
    record { apart = λ same. it.apart (cc); has = it.has }

pub without-keeps : (set : List Bool) (i j : ℕ) → j ≢ i → has_function set j ≡ true
    → has_function (without_function set i) j ≡ true
without-keeps [] i j apart is = is
without-keeps (b ∷ bs) zero zero apart is = absurd (apart refl)
without-keeps (b ∷ bs) zero (suc j) apart is = is
without-keeps (b ∷ bs) (suc i) zero apart is = is
without-keeps (b ∷ bs) (suc i) (suc j) apart is = without-keeps bs i j (λ same. apart (ap suc same)) is

-- none
pub none-in : (n j : ℕ) → has_function (replicate n false) j ≡ false
none-in zero j = refl
none-in (suc n) zero = refl
none-in (suc n) (suc j) = none-in n j

pub not-in-none : (j : ℕ) → has_function no_functions j ≡ true → ⊥
not-in-none j is = false≢true (sym (none-in function_limit j) ∙ is)

-- the first of a set
pub first-has : (set : List Bool) (i : ℕ) → first_function set ≡ Some i → has_function set i ≡ true
first-has set i is = unwrap_or-slice_get set i false ∙ (position-Some is_in set i false is).1
