-- What stays in a buffer to which text is appended.
use Rattle.std.specs.Prelude.{◌≡◌, ℕ, List, ◌++◌}

-- What stood in the buffer stands at its front still.
pub record StartsWith (new old : List ℕ) : Type 0 where
  pub more : List ℕ
  pub is : new ≡ old ++ more
