use Rattle.std.specs.Prelude.{ℕ, List, [], ◌∷◌, codes, if◌then◌else◌}
use Rattle.std.specs.Str.{bytes_eq}
use Rattle.pr_output.specs.declared.runs.Showing.TheVariants.{Whole, Quiet}
use Rattle.pr_drive.specs.declared.commands.Work.{Work}
use Rattle.pr_drive.specs.declared.commands.Work.TheVariants.{Drives, Explains}

-- What the words after the program's name ask for: a session, of which the history is told at its end, or is not; other
-- words ask for nothing, and get the usage line.

unfoldable pub of_one_word : List ℕ → Work
of_one_word word = if bytes_eq word (codes "-q") then Drives Quiet else Explains

unfoldable pub work_of : List (List ℕ) → Work
work_of [] = Drives Whole
work_of (word ∷ []) = of_one_word word
work_of _ = Explains
