-- Where faults stand.
use Rattle.std.proofs.Common.{◌≡◌, ◌+◌, ◌*◌, ◌<◌, ◌≤◌, ◌^◌, ℕ, suc, Bool, true, false, cond, List, [], ◌∷◌, length, Option, None, Some, Result, Ok, Err, refl, ap, subst, ◌∙◌, arith, ltb, ltb-false}
use Rattle.pr_num.specs.Records.{Range, first_out_from, first_out_of_range}
use Rattle.pr_rec.specs.Fields.{front_words}
use Rattle.pr_rec.specs.Reading.{record_read, unless_out}
use Rattle.pr_rec.specs.declared.faults.RecFault.{RecFault}
use Rattle.pr_rec.specs.declared.faults.RecFault.TheVariants.{Short, BadField}
use Rattle.pr_text.specs.Steps.{◌>>=◌}
use Rattle.pr_core.specs.CoreReading.{IfField, IsFaultOf}
use Rattle.pr_core.specs.declared.faults.CoreFault.{CoreFault}
use Rattle.pr_core.specs.declared.faults.CoreFault.TheVariants as core

-- a word that is out of its range is one of the ranges
found-inside : (rs : List Range) (ws : List ℕ) (at place : ℕ) → first_out_from at rs ws ≡ Some place
    → place < at + length rs
found-inside [] ws at place e = absurd cc
found-inside (r ∷ rs) [] at place e = absurd cc
found-inside (r ∷ rs) (w ∷ ws) at place e = by (r w) (found-inside rs ws (at + 1) place) e
  where
    by : (b : Bool) → (first_out_from (at + 1) rs ws ≡ Some place → place < at + 1 + length rs)
        → cond b (first_out_from (at + 1) rs ws) (Some at) ≡ Some place → place < at + suc (length rs)
    by true later f = omega (arith, later f)
    by false later f =
        let here : at ≡ place = cc in
        omega arith

-- the field that is out of its range is one of the bytes
pub field-inside : (ranges : List Range) (bytes : List ℕ) (fault : RecFault) → record_read ranges bytes ≡ Err fault
    → IfField fault (λ field. field + 8 ≤ length bytes)
unfolding record_read
field-inside ranges bytes fault e = by (ltb (length bytes) (8 * length ranges)) refl e
  where
    found : 8 * length ranges ≤ length bytes → (o : Option ℕ)
        → first_out_of_range ranges (front_words (length ranges) bytes) ≡ o
        → unless_out (front_words (length ranges) bytes) o ≡ Err fault
        → IfField fault (λ field. field + 8 ≤ length bytes)
    found enough None is f = absurd cc
    found enough (Some place) is f =
        let inside = found-inside ranges (front_words (length ranges) bytes) 0 place is in
        let same : BadField (8 * place) ≡ fault = cc in
        subst (λ (fault : RecFault). IfField fault (λ field. field + 8 ≤ length bytes)) same (omega arith)

    by : (b : Bool) → ltb (length bytes) (8 * length ranges) ≡ b
        → cond b (Err Short) (unless_out (front_words (length ranges) bytes)
        (first_out_of_range ranges (front_words (length ranges) bytes))) ≡ Err fault
        → IfField fault (λ field. field + 8 ≤ length bytes)
    by true is f =
        let same : Short ≡ fault = cc in
        subst (λ (fault : RecFault). IfField fault (λ field. field + 8 ≤ length bytes)) same tt
    by false is f = found (ltb-false _ _ is) _ refl f

-- of a record at a place
pub field-below : (ranges : List Range) (bytes : List ℕ) (at size : ℕ) (fault : RecFault)
    → record_read ranges bytes ≡ Err fault → at + length bytes ≤ size → size < 2 ^ 64
    → IfField fault (λ field. at + field < 2 ^ 64)
field-below ranges bytes at size Short e fits small = tt
field-below ranges bytes at size (BadField field) e fits small =
    omega (arith, field-inside ranges bytes (BadField field) e)

-- what a reading refuses is its fault
pub is_fault : {T : Type 0} (read : Result T CoreFault) (fault : CoreFault) → read ≡ Err fault → IsFaultOf read fault
is_fault read (core.Short at) e = e
is_fault read (core.Bad at) e = e
is_fault read core.NoMemory e = tt

-- the fault of a step is that of all that begins with it
pub fault-then : {A B : Type 0} (step : Result A CoreFault) (rest : A → Result B CoreFault) (fault : CoreFault)
    → IsFaultOf step fault → IsFaultOf (step >>= rest) fault
fault-then step rest (core.Short at) e = ap (λ r. r >>= rest) e
fault-then step rest (core.Bad at) e = ap (λ r. r >>= rest) e
fault-then step rest core.NoMemory e = tt

-- and after a step that gives something it is the fault of what follows
pub fault-after : {A B : Type 0} (step : Result A CoreFault) (rest : A → Result B CoreFault) (x : A) (fault : CoreFault)
    → step ≡ Ok x → IsFaultOf (rest x) fault → IsFaultOf (step >>= rest) fault
fault-after step rest x (core.Short at) done e = ap (λ r. r >>= rest) done ∙ e
fault-after step rest x (core.Bad at) done e = ap (λ r. r >>= rest) done ∙ e
fault-after step rest x core.NoMemory done e = tt
