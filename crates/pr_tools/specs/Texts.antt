-- What the texts of several tools have in common.
use Rattle.std.specs.Prelude.{ℕ, ◌==◌, List, [], ◌∷◌, ◌++◌, codes, decimal}
use Rattle.std.specs.List.{before_first}
use Rattle.pr_num.specs.Words.{words_bytes}
use Rattle.pr_num.specs.Padding.{is_zero}
use Rattle.pr_text.specs.TextLines.{newline}

-- the end of a line
abbrev pub line_end : List ℕ
line_end = newline ∷ []

-- the line with which the text of a process begins
unfoldable pub header : ℕ → List ℕ
header pid = decimal pid ++ codes ":" ++ line_end

-- an lwp's id before what is said of it
unfoldable pub lwp_label : ℕ → List ℕ
lwp_label lwp = codes " /" ++ decimal lwp ++ codes ":"

-- the name in a field of a record: its bytes up to the first zero
unfoldable pub name_in : List ℕ → List ℕ
name_in field = before_first is_zero field

-- the name in the words of such a field
abbrev pub name_of_words : List ℕ → List ℕ
name_of_words words = name_in (words_bytes words)
