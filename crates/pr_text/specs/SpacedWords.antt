-- Words written on a line, with one blank between two of them.
use Rattle.std.specs.Prelude.{ℕ, List, [], ◌∷◌, ◌++◌}
use Rattle.std.specs.List.{flat_map}
use Rattle.pr_text.specs.Bytes.{blank}

-- a word with a blank before it
unfoldable pub behind_blank : List ℕ → List ℕ
behind_blank w = blank ∷ w

-- words with a blank before each
abbrev pub spaced : List (List ℕ) → List ℕ
spaced ws = flat_map behind_blank ws

-- words with a blank between each two
unfoldable pub joined : List (List ℕ) → List ℕ
joined [] = []
joined (w ∷ ws) = w ++ spaced ws
