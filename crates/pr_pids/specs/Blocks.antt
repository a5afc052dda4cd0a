use Rattle.std.specs.Prelude.{◌==◌, ℕ, Bool, List, slice_index}
use Rattle.std.specs.Int.{bit_at}

-- Sets of blocks, a word for each process id.

-- whether the set of an id has a block: the bit of its number in the word, counted from the lowest
unfoldable pub has_block : List ℕ → ℕ → ℕ → Bool
has_block words pid block = bit_at (slice_index words pid) block == 1
