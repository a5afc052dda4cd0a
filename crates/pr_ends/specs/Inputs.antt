-- What was read of a source.
use Rattle.std.specs.Prelude.{◌≤◌, ℕ, List, Option, Some, None, length}
use Rattle.pr_io.specs.Reading.{ReadsAll, CameAbove}

-- All that was left was read, and it is no more than an input may have.
pub record TookAll (limit : ℕ) (old new : Option (List ℕ)) (input : List ℕ) : Type 0 where
  pub read : ReadsAll old new input
  pub within : length input ≤ limit

-- All that was left was read, or, where there is no input, more than it may have.
abbrev pub Took : ℕ → Option (List ℕ) → Option (List ℕ) → Option (List ℕ) → Type 0
Took limit old new None = CameAbove limit old new
Took limit old new (Some input) = TookAll limit old new input
