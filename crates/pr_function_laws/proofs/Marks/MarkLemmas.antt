use Rattle.std.proofs.Common.{◌≡◌, ◌⊎◌, ◌<◌, ◌≤◌, ◌+◌, ℕ, zero, suc, Bool, true, false, Option, Some, None, List, [], ◌∷◌, ◌++◌, position, replicate, get_or, refl, sym, ap, ◌∙◌, arith, inl, inr}
use Rattle.std.proofs.lemmas.Bool.{false≢true}
use Rattle.std.proofs.lemmas.List.Quantifiers.{position-Some}
use Rattle.std.specs.List.{remove, slice_set}
use Rattle.pr_hidden.specs.Tidiness.{is_step_flags}
use Rattle.pr_line.specs.Functions.{function_limit}
use Rattle.pr_num.specs.Control.{clear_fault, single_step}
use Rattle.pr_num.specs.Sets.{union_word}
use Rattle.pr_truss.specs.Marks.{is_in, no_marks, with_step}
use Rattle.pr_truss.specs.declared.marks.Marks.{Marks}
use Rattle.pr_truss.specs.declared.marks.Stepped.{Stepped}
use Rattle.pr_truss.specs.declared.processes.Traced.{Traced}
use Rattle.pr_truss_laws.proofs.Files.HeldLemmas.{at_place, unit}

-- The marks of truss: their sets of functions name functions of the options alone, and their run flags are none or
-- those of a step.

-- ---- sets of functions

-- how many functions are in a set
abbrev pub members : List Bool → ℕ
members [] = 0
members (b ∷ bs) = unit b + members bs

-- only functions before this place are in a set
abbrev pub AreBelow : ℕ → List Bool → Type 0
AreBelow n [] = Unit {0}
AreBelow zero (b ∷ bs) = (b ≡ false) × AreBelow zero bs
AreBelow (suc n) (b ∷ bs) = AreBelow n bs

one-member : (b : Bool) → unit b ≤ 1
one-member true = omega arith
one-member false = omega arith

pub members-most : (n : ℕ) (bs : List Bool) → AreBelow n bs → members bs ≤ n
members-most n [] h = omega arith
members-most zero (b ∷ bs) h = omega (arith, members-most zero bs h.1, ap unit h.0)
members-most (suc n) (b ∷ bs) h = omega (arith, members-most n bs h, one-member b)

pub none-below : (n k : ℕ) → AreBelow n (replicate k false)
none-below n zero = tt
none-below zero (suc k) = (refl, none-below zero k)
none-below (suc n) (suc k) = none-below n k

pub more-below : (n : ℕ) (bs : List Bool) (place : ℕ) → place < n → AreBelow n bs
    → AreBelow n (slice_set bs place true)
more-below n [] place within h = tt
more-below zero (b ∷ bs) place within h = absurd (omega (arith, within))
more-below (suc n) (b ∷ bs) zero within h = h
more-below (suc n) (b ∷ bs) (suc place) within h = more-below n bs place (omega (arith, within)) h

pub less-below : (n : ℕ) (bs : List Bool) (place : ℕ) → AreBelow n bs → AreBelow n (slice_set bs place false)
less-below n [] place h = tt
less-below zero (b ∷ bs) zero h = (refl, h.1)
less-below zero (b ∷ bs) (suc place) h = (h.0, less-below zero bs place h.1)
less-below (suc n) (b ∷ bs) zero h = h
less-below (suc n) (b ∷ bs) (suc place) h = less-below n bs place h

-- the first function of a set is taken out of it
without-at : (bs : List Bool) (place : ℕ) → get_or bs place false ≡ true
    → members (slice_set bs place false) + 1 ≡ members bs
without-at [] place is = absurd (false≢true is)
without-at (b ∷ bs) zero is = omega (arith, ap unit is)
without-at (b ∷ bs) (suc place) is = omega (arith, without-at bs place is)

pub without-first : (bs : List Bool) (place : ℕ) → position is_in bs ≡ Some place
    → members (slice_set bs place false) + 1 ≡ members bs
without-first bs place first = without-at bs place (position-Some is_in bs place false first).1

below-at : (n : ℕ) (bs : List Bool) (place : ℕ) → AreBelow n bs → get_or bs place false ≡ true → place < n
below-at n [] place h is = absurd (false≢true is)
below-at zero (b ∷ bs) zero h is = absurd (false≢true (sym h.0 ∙ is))
below-at zero (b ∷ bs) (suc place) h is = absurd (omega (arith, below-at zero bs place h.1 is))
below-at (suc n) (b ∷ bs) zero h is = omega arith
below-at (suc n) (b ∷ bs) (suc place) h is = omega (arith, below-at n bs place h is)

pub first-below : (n : ℕ) (bs : List Bool) (place : ℕ) → AreBelow n bs → position is_in bs ≡ Some place → place < n
first-below n bs place h first = below-at n bs place h (position-Some is_in bs place false first).1

-- ---- marks

-- a step that is under way is one of which this is so, over such a function
abbrev pub StepIsBelow : ℕ → (Stepped → Type 0) → Option Stepped → Type 0
StepIsBelow n Q None = Unit {0}
StepIsBelow n Q (Some step) = (step.function < n) × Q step

pub step-below : (n : ℕ) (Q : Stepped → Type 0) (step : Option Stepped) (bs : List Bool) → StepIsBelow n Q step
    → AreBelow n bs → AreBelow n (with_step step bs)
step-below n Q None bs within h = h
step-below n Q (Some step) bs within h = more-below n bs step.function within.0 h

-- no run flag, or those of a step
abbrev pub AreRunFlags : ℕ → Type 0
AreRunFlags flags = (flags ≡ 0) ⊎ (is_step_flags flags ≡ true)

-- those that truss gives to the lwp that it steps over a breakpoint
pub stepping-flags : AreRunFlags (union_word clear_fault single_step)
unfolding union_word
stepping-flags = inr refl

pub record MarksAreBelow (n : ℕ) (Q : Stepped → Type 0) (m : Marks) : Type 0 where
  pub planted : AreBelow n m.planted
  pub lifted : AreBelow n m.lifted
  pub stepped : StepIsBelow n Q m.stepped
  pub flags : AreRunFlags m.flags

pub no-marks-below : (n : ℕ) (Q : Stepped → Type 0) → MarksAreBelow n Q no_marks
no-marks-below n Q = record {
  planted = none-below n function_limit;
  lifted = none-below n function_limit;
  stepped = tt;
  flags = inl refl;
}

-- ---- each process

-- something is so of each process, and of what stands for one where there is none
abbrev pub Everywhere : (Traced → Type 0) → List Traced → Type 0
Everywhere P ts = (place : ℕ) → P (at_place ts place)

pub every-set : (P : Traced → Type 0) (ts : List Traced) (place : ℕ) (t : Traced) → Everywhere P ts → P t
    → Everywhere P (slice_set ts place t)
every-set P [] place t all here k = all k
every-set P (u ∷ us) zero t all here zero = here
every-set P (u ∷ us) zero t all here (suc k) = all (suc k)
every-set P (u ∷ us) (suc place) t all here zero = all zero
every-set P (u ∷ us) (suc place) t all here (suc k) = every-set P us place t (λ j. all (suc j)) here k

pub every-remove : (P : Traced → Type 0) (ts : List Traced) (place : ℕ) → Everywhere P ts
    → Everywhere P (remove ts place)
every-remove P [] zero all k = all k
every-remove P [] (suc place) all k = all k
every-remove P (u ∷ us) zero all k = all (suc k)
every-remove P (u ∷ us) (suc place) all zero = all zero
every-remove P (u ∷ us) (suc place) all (suc k) = every-remove P us place (λ j. all (suc j)) k

pub every-append : (P : Traced → Type 0) (ts : List Traced) (t : Traced) → Everywhere P ts → P t
    → Everywhere P (ts ++ t ∷ [])
every-append P [] t all here zero = here
every-append P [] t all here (suc k) = all k
every-append P (u ∷ us) t all here zero = all zero
every-append P (u ∷ us) t all here (suc k) = every-append P us t (λ j. all (suc j)) here k
