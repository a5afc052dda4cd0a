-- The lines of a text.
use Rattle.std.specs.Prelude.{◌==◌, ℕ, Bool, List}
use Rattle.std.specs.List.{slice_split}

abbrev pub newline : ℕ
newline = 10

abbrev pub is_newline : ℕ → Bool
is_newline b = b == newline

-- the lines of a text: a newline ends a line, and the last line may lack it
abbrev pub lines_of : List ℕ → List (List ℕ)
lines_of text = slice_split is_newline text
