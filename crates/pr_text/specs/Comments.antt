-- Comments in programs and scenarios.
use Rattle.std.specs.Prelude.{◌==◌, ℕ, Bool, List, slice_index}

-- whether a first word makes its line a comment: it begins with #
unfoldable pub begins_comment : List ℕ → Bool
begins_comment word = slice_index word 0 == 35
