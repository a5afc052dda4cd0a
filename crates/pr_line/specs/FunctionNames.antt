-- The functions that a word names: PROGRAM:NAMES, a program and labels of it.
use Rattle.std.specs.Prelude.{◌==◌, ℕ, Option, None, Some, List, [], ◌∷◌, ◌++◌, length, nat_le, option_and_then, if◌then◌else◌}
use Rattle.std.specs.List.{slice_split}
use Rattle.pr_text.specs.Lists.{parts_of}
use Rattle.pr_text.specs.Names.{name_of}
use Rattle.pr_line.specs.Functions.{function_limit}
use Rattle.pr_line.specs.declared.function_names.FunctionNames.{FunctionNames}

-- labels with those of more parts. None: a part is no name.
unfoldable pub with_labels : List (List ℕ) → List (List ℕ) → Option (List (List ℕ))
with_labels labels [] = Some labels
with_labels labels (part ∷ parts) = option_and_then (λ name. with_labels (labels ++ name ∷ []) parts) (name_of part)

-- the labels of parts, unless they are too many
unfoldable pub labels_of : List (List ℕ) → Option (List (List ℕ))
labels_of parts = if nat_le (length parts) function_limit then with_labels [] parts else None

abbrev pub named_at : Option (List ℕ) → Option (List (List ℕ)) → Option FunctionNames
named_at (Some program) (Some labels) = Some (record { program = program; labels = labels })
named_at _ _ = None

-- a program, and labels that + joins
abbrev pub named_in : List (List ℕ) → Option FunctionNames
named_in (program ∷ labels ∷ []) = named_at (name_of program) (labels_of (parts_of labels))
named_in _ = None

-- the functions that a word names, its program and its labels parted by a colon
unfoldable pub function_names_of : List ℕ → Option FunctionNames
function_names_of word = named_in (slice_split (λ b. b == 58) word)
