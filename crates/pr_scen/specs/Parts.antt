-- The parts of a text, one after the other: a line outside blocks, a block, or a line that begins a block that has no
-- end.
use Rattle.std.specs.Prelude.{◌||◌, ◌+◌, ℕ, Bool, List, [], ◌∷◌, ◌++◌, codes, length, if◌then◌else◌}
use Rattle.pr_text.specs.Words.{texts_of}
use Rattle.pr_scen.specs.Lines.{first_is, is_end}

-- A part, with the number of its first line. The lines of a block stand between the line that begins it and the one
-- that ends it.
pub data Part : Type 0 where
  line : ℕ → List ℕ → Part
  block : ℕ → List ℕ → List (List ℕ) → List ℕ → Part
  endless : ℕ → List ℕ → Part

-- the first line of a part, with its number
abbrev pub first_line_of : Part → ℕ × List ℕ
first_line_of (line n this) = (n, this)
first_line_of (block n first body last) = (n, first)
first_line_of (endless n first) = (n, first)

-- whether a line begins a block: its first word is `program` or `script`
unfoldable pub begins_block : List ℕ → Bool
begins_block this = first_is (codes "program") (texts_of this) || first_is (codes "script") (texts_of this)

-- The parts of lines that count from n. A block goes on to the next line whose first word is `end`. Nothing follows one
-- without end.
unfoldable mutual
  pub parts_from : ℕ → List (List ℕ) → List Part
  parts_from n [] = []
  parts_from n (this ∷ below) =
      if begins_block this then block_from n this [] below else line n this ∷ parts_from (n + 1) below

  -- in the block that line n begins, after these lines of it
  pub block_from : ℕ → List ℕ → List (List ℕ) → List (List ℕ) → List Part
  block_from n first body [] = endless n first ∷ []
  block_from n first body (this ∷ below) =
      if is_end this then block n first body this ∷ parts_from (n + (length body + 2)) below
      else block_from n first (body ++ this ∷ []) below

abbrev pub parts_of : List (List ℕ) → List Part
parts_of lines = parts_from 1 lines
