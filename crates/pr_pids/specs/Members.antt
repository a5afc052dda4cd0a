use Rattle.std.specs.Prelude.{◌≡◌, ◌≤◌, ◌<◌, ◌==◌, ◌/◌, ◌%◌, ℕ, Bool, true, false, List, slice_index}
use Rattle.std.specs.Int.{bit_at}

-- Sets of process ids, as words.

-- whether a set has an id: bit id % 64 of word id / 64, counted from the lowest
unfoldable pub has_pid : List ℕ → ℕ → Bool
has_pid words pid = bit_at (slice_index words (pid / 64)) (pid % 64) == 1

-- the least id from one on that a set has
pub record IsNextFrom (words : List ℕ) (from pid : ℕ) : Type 0 where
  pub member : has_pid words pid ≡ true
  pub behind : from ≤ pid
  pub least : (other : ℕ) → from ≤ other → other < pid → has_pid words other ≡ false

-- a set has no id from one on
pub record HasNoneFrom (words : List ℕ) (from : ℕ) : Type 0 where
  pub none : (other : ℕ) → from ≤ other → has_pid words other ≡ false

-- each bit of a word that is 0 tells a word of a set that has no id
pub record IsSummed (some : ℕ) (words : List ℕ) : Type 0 where
  pub summed : (i : ℕ) → i < 64 → bit_at some i ≡ 0 → slice_index words i ≡ 0
