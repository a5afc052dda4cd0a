-- The processes that a list names.
use Rattle.std.specs.Prelude.{ℕ, Option, Some, List, [], ◌∷◌, ◌++◌, option_and_then}
use Rattle.pr_text.specs.Lists.{parts_of}
use Rattle.pr_text.specs.NumberWords.{id_of}

-- ids with those of more parts. None: a part is no id.
unfoldable pub with_ids : List ℕ → List (List ℕ) → Option (List ℕ)
with_ids ids [] = Some ids
with_ids ids (part ∷ parts) = option_and_then (λ id. with_ids (ids ++ id ∷ []) parts) (id_of part)

-- the ids of a word, which + joins
unfoldable pub pids_of : List ℕ → Option (List ℕ)
pids_of word = with_ids [] (parts_of word)
