use Rattle.std.proofs.Common.{◌≡◌, ℕ, Bool, true, false, ◌&&◌, ◌||◌, eqb, cond, refl, sym, ◌∙◌, inl, inr}
use Rattle.std.proofs.lemmas.Bool.{eq-eqb, ne_eqb, cases_eq}

-- Laws of tests that the library does not state.

pub or_false : (b : Bool) → (b || false) ≡ b
or_false true = refl
or_false false = refl

pub and_true : (b : Bool) → (b && true) ≡ b
and_true true = refl
and_true false = refl

pub and_false : (b : Bool) → (b && false) ≡ false
and_false true = refl
and_false false = refl

pub eqb_comm : (m n : ℕ) → eqb m n ≡ eqb n m
eqb_comm m n =
    elim (cases_eq m n) [
      | inl e ↦ eq-eqb m n e ∙ sym (eq-eqb n m (sym e))
      | inr ne ↦ ne_eqb m n ne ∙ sym (ne_eqb n m (λ e. ne (sym e)))
    ]

-- a choice between a thing and itself
pub cond-same : {X : Type 0} (b : Bool) (x : X) → cond b x x ≡ x
cond-same true x = refl
cond-same false x = refl

-- what holds of both things of a choice holds of the choice
pub either : {X : Type 0} (P : X → Type 0) (b : Bool) (x y : X) → P x → P y → P (cond b x y)
either P true x y one other = one
either P false x y one other = other

pub not_both : (b : Bool) → b ≡ true → b ≡ false → ⊥
not_both true is not = cc
not_both false is not = cc
