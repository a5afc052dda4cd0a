use Rattle.std.specs.Prelude.{◌≡◌, ℕ, ◌<◌, ◌≤◌, List, [], length, Option, Some, IfSome}
use Rattle.pr_io.specs.Known.{with_front}

-- All that was left came, and nothing is left, where the source tells it.
pub record ReadsAll (old new : Option (List ℕ)) (bytes : List ℕ) : Type 0 where
  pub all : IfSome old (λ left. bytes ≡ left)
  pub end : IfSome old (λ _. new ≡ Some [])

-- Some bytes came: what was left began with them, and the others are left still.
pub record Came (old new : Option (List ℕ)) : Type 0 where
  pub bytes : List ℕ
  pub front : old ≡ with_front bytes new

-- Bytes came, and no more than the limit.
pub record CameWithin (limit : ℕ) (old new : Option (List ℕ)) : Type 0 where
  pub bytes : List ℕ
  pub front : old ≡ with_front bytes new
  pub within : length bytes ≤ limit

-- Bytes came, and more than the limit.
pub record CameAbove (limit : ℕ) (old new : Option (List ℕ)) : Type 0 where
  pub bytes : List ℕ
  pub front : old ≡ with_front bytes new
  pub above : limit < length bytes
