use Rattle.std.specs.Prelude.{◌<◌, ◌^◌, ℕ, List}
use Rattle.std.specs.List.{flat_map}
use Rattle.std.specs.Int.{w64, to_le_bytes, from_le_bytes}

-- the 8 bytes of a word, the least first
unfoldable pub word_bytes : ℕ → List ℕ
word_bytes n = to_le_bytes w64 n

-- the bytes of words, one after another
abbrev pub words_bytes : List ℕ → List ℕ
words_bytes words = flat_map word_bytes words

-- the word that 8 bytes are
unfoldable pub word_of : List ℕ → ℕ
word_of bytes = from_le_bytes w64 bytes

-- what a word can hold
abbrev pub IsWord : ℕ → Type 0
IsWord n = n < 2 ^ 64

-- what a byte can hold
abbrev pub IsByte : ℕ → Type 0
IsByte b = b < 256
