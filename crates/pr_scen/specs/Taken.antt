-- What becomes of the first part of lines.
use Rattle.std.specs.Prelude.{◌≡◌, ◌+◌, ◌≤◌, ℕ, List, [], ◌∷◌, drop, get_or, length, Result, Ok, Err}
use Rattle.pr_scen.specs.Blocks.{part_added}
use Rattle.pr_scen.specs.Parts.{Part, first_line_of, parts_from}
use Rattle.pr_text.specs.Reads.{Stops}
use Rattle.pr_scen.specs.declared.drafts.Draft.{Draft}
use Rattle.pr_scen.specs.Refusals.{ScenRefusal}

-- the first part was taken: it has so many lines, and makes the new draft of the old one
pub record TakesPart (n : ℕ) (old new : Draft) (lines : List (List ℕ)) (k : ℕ) : Type 0 where
  pub some : 1 ≤ k
  pub inside : k ≤ length lines
  pub part : Part
  pub first : parts_from n lines ≡ part ∷ parts_from (n + k) (drop k lines)
  pub begins : first_line_of part ≡ (n, get_or lines 0 [])
  pub added : part_added old part ≡ Ok new

-- the first part was refused, or memory ran out at it
pub record StopsAtPart (n : ℕ) (old : Draft) (lines : List (List ℕ)) (e : ScenRefusal) : Type 0 where
  pub part : Part
  pub others : List Part
  pub first : parts_from n lines ≡ part ∷ others
  pub begins : first_line_of part ≡ (n, get_or lines 0 [])
  pub stops : Stops e (part_added old part)

abbrev pub PartTaken : ℕ → Draft → Draft → List (List ℕ) → Result ℕ ScenRefusal → Type 0
PartTaken n old new lines (Ok k) = TakesPart n old new lines k
PartTaken n old new lines (Err e) = StopsAtPart n old lines e
