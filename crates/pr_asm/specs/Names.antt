-- Labels as they stand in a program.
use Rattle.std.specs.Prelude.{◌==◌, ◌-◌, ℕ, Option, None, List, length, take, slice_index, if◌then◌else◌}
use Rattle.pr_text.specs.Names.{name_of}

-- the name before the colon of a word, if the word is a name and a colon
unfoldable pub label_of : List ℕ → Option (List ℕ)
label_of word =
    if slice_index word (length word - 1) == 58 then name_of (take (length word - 1) word) else None
