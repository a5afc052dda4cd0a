-- Bytes as a word of hex digits, and back.
use Rattle.std.specs.Prelude.{ℕ, ◌==◌, Option, Some, None, List, [], ◌∷◌, if◌then◌else◌}
use Rattle.pr_text.specs.HexWords.{digits_of_bytes, bytes_of_digits}

-- the word of no bytes, since a word is never empty
abbrev pub dash : ℕ
dash = 45

-- bytes as a word
unfoldable pub hex_word : List ℕ → List ℕ
hex_word [] = dash ∷ []
hex_word (b ∷ bs) = digits_of_bytes (b ∷ bs)

-- the bytes that a word says, none where it says none
unfoldable pub bytes_of_word : List ℕ → Option (List ℕ)
bytes_of_word [] = None
bytes_of_word (c ∷ []) = if c == dash then Some [] else None
bytes_of_word (c ∷ d ∷ rest) = bytes_of_digits (c ∷ d ∷ rest)
