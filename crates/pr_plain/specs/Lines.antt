-- What the text of a history is, said of its lines and words.
use Rattle.std.specs.Prelude.{ℕ, ◌+◌, ◌==◌, ◌&&◌, Bool, true, false, not, List, [], ◌∷◌}
use Rattle.std.specs.List.{list_all}
use Rattle.pr_model.specs.declared.calls.Call.{Call}
use Rattle.pr_model.specs.declared.calls.Call.TheVariants as call
use Rattle.pr_model.specs.declared.events.Act.{Act}
use Rattle.pr_model.specs.declared.events.Act.TheVariants as act
use Rattle.pr_model.specs.declared.events.Entry.{Entry}
use Rattle.pr_text.specs.TextLines.{is_newline}
use Rattle.pr_text.specs.Bytes.{blank}
use Rattle.pr_plain.specs.HistoryText.{entry_line}

-- the bytes at which a line is cut
abbrev pub is_blank : ℕ → Bool
is_blank b = b == blank

-- a byte of a word
abbrev pub is_word_byte : ℕ → Bool
is_word_byte b = not (is_blank b) && not (is_newline b)

-- a word: at least one byte, and neither a blank nor a newline
abbrev pub is_word : List ℕ → Bool
is_word [] = false
is_word (b ∷ bs) = list_all is_word_byte (b ∷ bs)

-- Whether all that an entry names is a word. A program alone may have a name that is none, since a name can be any
-- bytes; no scenario gives such a name.
unfoldable pub names_words : Call → Bool
names_words (call.Spawn program held) = is_word program
names_words _ = true

unfoldable pub has_words : Entry → Bool
has_words e = by e.act
  where
    by : Act → Bool
    by (act.Call c r) = names_words c
    by _ = true

-- the lines of entries that count from a number
unfoldable pub entry_lines : ℕ → List Entry → List (List ℕ)
entry_lines n [] = []
entry_lines n (e ∷ es) = entry_line n e ∷ entry_lines (n + 1) es
