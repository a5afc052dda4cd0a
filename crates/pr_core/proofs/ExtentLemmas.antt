-- How far a reading reaches.
use Rattle.std.proofs.Common.{◌≡◌, ◌+◌, ◌-◌, ◌*◌, ◌/◌, ◌%◌, ◌≤◌, ℕ, true, List, ap, ◌∙◌, arith, leb}
use Rattle.std.proofs.lemmas.Bool.{eqb-true, and_parts, leb-true}
use Rattle.std.proofs.Math.Nat.{div-add-mod}
use Rattle.pr_num.specs.Records.{Range}
use Rattle.pr_core.specs.CoreReading.{Read, exactly, size_of, are_whole, are_counted}

-- whole records fill a size that is theirs
pub whole-parts : (ranges : List Range) (size : ℕ) → are_whole ranges size ≡ true
    → size_of ranges * (size / size_of ranges) ≡ size
whole-parts ranges size may =
    omega (arith, eqb-true (size % size_of ranges) 0 may, div-add-mod size (size_of ranges))

module _ (end : ℕ) where
  -- a word that may stand at a place, and ends by then
  pub record IsWordWithin (fits : Range) (at w : ℕ) : Type 0 where
    pub inside : at + 8 ≤ end
    pub may : fits w ≡ true

  -- the size of a section at a place that ends by then
  pub record IsSectionWithin (sizes : Range) (at size : ℕ) : Type 0 where
    pub inside : at + 16 + size ≤ end
    pub may : sizes size ≡ true

  -- what was read ends by then
  abbrev pub EndsBy : {T : Type 0} → Read T → Type 0
  EndsBy read = read.next ≤ end

  -- and so do the records of a section
  module _ (ranges : List Range) (at size : ℕ) where
    pub one-within : IsSectionWithin (exactly (size_of ranges)) at size → at + 16 + size_of ranges ≤ end
    one-within there = omega (arith, there.inside, eqb-true size (size_of ranges) there.may)

    pub many-within : IsSectionWithin (are_whole ranges) at size
        → at + 16 + size_of ranges * (size / size_of ranges) ≤ end
    many-within there = omega (arith, there.inside, whole-parts ranges size there.may)

    pub counted-within : (count : ℕ) → IsSectionWithin (are_counted ranges) at size
        → IsWordWithin (exactly ((size - 8) / size_of ranges)) (at + 16) count
        → at + 24 + size_of ranges * count ≤ end
    counted-within count there number =
        let may = and_parts (leb 8 size) (are_whole ranges (size - 8)) there.may in
        let word : 8 ≤ size = leb-true 8 size may.0 in
        let known : count ≡ (size - 8) / size_of ranges = eqb-true count ((size - 8) / size_of ranges) number.may in
        let parts : size_of ranges * count ≡ size - 8 =
        ap (λ (n : ℕ). size_of ranges * n) known ∙ whole-parts ranges (size - 8) may.1 in
        omega (arith, there.inside)

  pub exactly-within : (expected at size : ℕ) → IsSectionWithin (exactly expected) at size → at + 16 + expected ≤ end
  exactly-within expected at size there = omega (arith, there.inside, eqb-true size expected there.may)
