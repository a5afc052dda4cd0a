use Rattle.std.specs.Prelude.{◌≡◌, ℕ, ◌<◌, List, length, take, Option}
use Rattle.pr_io.specs.Known.{with_end}

-- A prefix of the part was appended, and not all of it.
pub record AppendsFront (old new : Option (List ℕ)) (part : List ℕ) : Type 0 where
  pub count : ℕ
  pub short : count < length part
  pub appended : new ≡ with_end old (take count part)
