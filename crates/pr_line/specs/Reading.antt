-- The options that words of truss(1) stand for, and the first word at fault.
use Rattle.std.specs.Prelude.{◌==◌, ◌-◌, ◌&&◌, ℕ, Bool, true, false, List, length, is_none, is_some, is_err, Result, Ok, Err, if◌then◌else◌}
use Rattle.pr_line.specs.Options.{start, word_taken, follows_or_counts}
use Rattle.pr_line.specs.declared.faults.WordFault.{WordFault}
use Rattle.pr_line.specs.declared.faults.WordFault.TheVariants.{BadOption}
use Rattle.pr_line.specs.declared.options.Options.{Options}
use Rattle.pr_line.specs.declared.reading.Asked.{Asked}
use Rattle.pr_line.specs.declared.reading.Draft.{Draft}
use Rattle.pr_text.specs.Steps.{◌>>=◌, folded}

-- What words make of a draft, from the first of this number on, or the first of them at fault. Where bad names are
-- passed over, the list that has one changes nothing.
abbrev pub words_taken : Bool → ℕ → Draft → List (List ℕ) → Result Draft WordFault
words_taken lenient n d words = folded (word_taken lenient) n d words

-- whether the options name processes, or else a program
abbrev pub names_one : Options → Bool
names_one o = if length o.pids == 0 then is_some o.program else is_none o.program

-- whether they do, and no option lacks its list
unfoldable pub is_whole : Draft → Bool
is_whole d = is_none d.pending && names_one d.options

-- So many words were read. Where they are not whole, the last of them is at fault; number 0 where there is none.
unfoldable pub all_asked : ℕ → Draft → Result Asked WordFault
all_asked count d =
    if is_whole d then Ok (record { options = d.options; functions = d.functions }) else Err (BadOption (count - 1))

unfoldable pub asked_in : Bool → List (List ℕ) → Result Asked WordFault
asked_in lenient words =
    words_taken lenient 0 (start (follows_or_counts false words)) words >>= all_asked (length words)

-- what words ask for, or the first word at fault
abbrev pub asked_of : List (List ℕ) → Result Asked WordFault
asked_of words = asked_in false words

-- the options that words stand for, which have no functions yet, or the first word at fault
unfoldable pub options_of : List (List ℕ) → Result Options WordFault
options_of words = asked_of words >>= λ asked. Ok asked.options

-- whether a word is a bad option, also where an earlier one is a list with a bad name
unfoldable pub has_bad_option : List (List ℕ) → Bool
has_bad_option words = is_err (asked_in true words)
