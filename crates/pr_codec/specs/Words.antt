-- Where words stand among bytes.
use Rattle.std.specs.Prelude.{ℕ, List, take, drop}
use Rattle.std.specs.List.{All}
use Rattle.pr_num.specs.Words.{IsByte, IsWord, word_of}

-- lists of bytes and of words
abbrev pub AreBytes : List ℕ → Type 0
AreBytes bytes = All IsByte bytes

abbrev pub AreWords : List ℕ → Type 0
AreWords words = All IsWord words

-- the word in the eight bytes from a place
abbrev pub word_at : List ℕ → ℕ → ℕ
word_at bytes at = word_of (take 8 (drop at bytes))
