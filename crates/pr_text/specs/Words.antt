-- The words of a line.
use Rattle.std.specs.Prelude.{ℕ, ◌+◌, ◌==◌, ◌||◌, ◌&&◌, not, Bool, List, [], ◌∷◌, map, slice_range, if◌then◌else◌}
use Rattle.pr_text.specs.Bytes.{blank, tab, comma, quote, backslash}
use Rattle.pr_text.specs.declared.spans.Word.{Word}

-- a blank, a tab or a comma, which parts words
abbrev pub parts_words : ℕ → Bool
parts_words b = b == blank || (b == tab || b == comma)

abbrev pub is_quote : ℕ → Bool
is_quote b = b == quote

-- a quote ends a quoted word where the byte before it is no backslash
abbrev pub closes_quotes : ℕ → ℕ → Bool
closes_quotes before b = is_quote b && not (before == backslash)

-- The words that begin in the bytes that stand from `at` on. A word that begins with a quote ends after the next
-- quote that has no backslash before it, or at the line's end; any other word ends before the next blank, tab or
-- comma, or at the line's end.
unfoldable mutual
  -- between words
  pub words_from : ℕ → List ℕ → List Word
  words_from at [] = []
  words_from at (b ∷ bs) =
      if parts_words b then words_from (at + 1) bs
      else (if is_quote b then quoted_word at (at + 1) b bs else plain_word at (at + 1) bs)

  -- in a word that began at `start` without a quote
  pub plain_word : ℕ → ℕ → List ℕ → List Word
  plain_word start at [] = record { start = start; end = at } ∷ []
  plain_word start at (b ∷ bs) =
      if parts_words b then record { start = start; end = at } ∷ words_from (at + 1) bs
      else plain_word start (at + 1) bs

  -- in quotes that began at `start`, where `before` is the byte before these
  pub quoted_word : ℕ → ℕ → ℕ → List ℕ → List Word
  quoted_word start at before [] = record { start = start; end = at } ∷ []
  quoted_word start at before (b ∷ bs) =
      if closes_quotes before b then record { start = start; end = at + 1 } ∷ words_from (at + 1) bs
      else quoted_word start (at + 1) b bs

-- the words of a line
abbrev pub words_of : List ℕ → List Word
words_of line = words_from 0 line

-- the bytes of a word
abbrev pub text_of : List ℕ → Word → List ℕ
text_of line w = slice_range line w.start w.end

-- the bytes of each word of a line
abbrev pub texts_of : List ℕ → List (List ℕ)
texts_of line = map (text_of line) (words_of line)
