-- How a line divides into words, said of the places in the line.
use Rattle.std.specs.Prelude.{ℕ, ◌≡◌, ◌+◌, ◌≤◌, ◌<◌, ◌⊎◌, true, false, List, [], ◌∷◌, length, slice_index}
use Rattle.pr_text.specs.declared.spans.Word.{Word}
use Rattle.pr_text.specs.Words.{parts_words, is_quote, closes_quotes}

-- nothing but blanks, tabs and commas stands in these places
abbrev pub OnlyParts : List ℕ → ℕ → ℕ → Type 0
OnlyParts line from to = (k : ℕ) → from ≤ k → k < to → parts_words (slice_index line k) ≡ true

-- a run without blanks, tabs and commas, not begun by a quote, that goes on as far as it can
pub record IsPlainWord (line : List ℕ) (w : Word) : Type 0 where
  pub some : w.start < w.end
  pub inside : w.end ≤ length line
  pub unquoted : is_quote (slice_index line w.start) ≡ false
  pub run : (k : ℕ) → w.start ≤ k → k < w.end → parts_words (slice_index line k) ≡ false
  pub longest : w.end < length line → parts_words (slice_index line w.end) ≡ true

-- What a quote begins and the next quote ends that has no backslash before it, or the line's end. No quote ends it
-- before its last byte, and short of the line's end its last byte is such a quote.
pub record IsQuotedWord (line : List ℕ) (w : Word) : Type 0 where
  pub some : w.start < w.end
  pub inside : w.end ≤ length line
  pub quoted : is_quote (slice_index line w.start) ≡ true
  pub unclosed : (k : ℕ) → w.start ≤ k → k + 2 < w.end
      → closes_quotes (slice_index line k) (slice_index line (k + 1)) ≡ false
  pub closed : w.end < length line
      → (k : ℕ) × (w.start ≤ k) × (k + 2 ≡ w.end)
      × (closes_quotes (slice_index line k) (slice_index line (k + 1)) ≡ true)

-- from a place on, a line is these words in this order, with nothing but blanks, tabs and commas before, between and
-- after them
abbrev pub DividesFrom : List ℕ → ℕ → List Word → Type 0
DividesFrom line at [] = OnlyParts line at (length line)
DividesFrom line at (w ∷ ws) =
    (at ≤ w.start) × OnlyParts line at w.start × (IsPlainWord line w ⊎ IsQuotedWord line w) × DividesFrom line w.end ws

-- a word has a byte, and ends within its line
abbrev pub StandsIn : List ℕ → Word → Type 0
StandsIn line w = (w.start < w.end) × (w.end ≤ length line)

-- a place is in a word
abbrev pub IsIn : ℕ → Word → Type 0
IsIn k w = (w.start ≤ k) × (k < w.end)

-- a word ends before another begins, or where it begins
abbrev pub IsBefore : Word → Word → Type 0
IsBefore v w = v.end ≤ w.start
