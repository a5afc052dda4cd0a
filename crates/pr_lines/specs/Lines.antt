use Rattle.std.specs.Prelude.{◌≡◌, ◌<◌, ◌+◌, ◌-◌, ◌≤◌, ◌⊎◌, ◌++◌, ℕ, Bool, true, false, List, [], ◌∷◌, Option, length}
use Rattle.std.specs.Prelude.{take}
use Rattle.std.specs.Io.KnownBytes.{IsAtEnd}
use Rattle.std.specs.List.{list_any}
use Rattle.pr_io.specs.Known.{with_front}
use Rattle.pr_text.specs.TextLines.{is_newline, newline}

-- Lines that are taken off a source, one after another. What is to come are the bytes that were read and are held
-- still, and behind them those that the source has left, where it tells them.

-- the bytes that are held
pub record Held : Type 0 where
  pub held : List ℕ

-- A line has at most so many bytes. Of a longer one a byte more is kept.
abbrev pub line_bytes : ℕ
line_bytes = 1048576

abbrev pub kept_of : List ℕ → List ℕ
kept_of whole = take (line_bytes + 1) whole

-- ---- what is taken off the bytes that are held

-- they were up to a newline; or all of them were, as they have none
abbrev pub IsFrontOf : Bool → List ℕ → List ℕ → List ℕ → Type 0
IsFrontOf true piece old new = old ≡ piece ++ newline ∷ new
IsFrontOf false piece old new = (old ≡ piece) × (new ≡ [])

-- A piece without a newline was taken, and a line got as much of it as it may have.
pub record TookHeld (ended : Bool) (before after old new : List ℕ) : Type 0 where
  pub piece : List ℕ
  pub plain : list_any is_newline piece ≡ false
  pub line : after ≡ before ++ take (line_bytes + 1 - length before) piece
  pub front : IsFrontOf ended piece old new

-- ---- what is taken off all that is to come

-- A line as far as it was taken: no newline has come yet.
pub record TakenSoFar (line : List ℕ) (old now : Option (List ℕ)) : Type 0 where
  pub whole : List ℕ
  pub plain : list_any is_newline whole ≡ false
  pub kept : line ≡ kept_of whole
  pub front : old ≡ with_front whole now

-- The next line: with its newline, or as the last one, at the end of the source. A last one without its newline has a
-- byte at least, so that there is no line behind the last newline.
pub record TookLine (line : List ℕ) (old new : Option (List ℕ)) : Type 0 where
  pub whole : List ℕ
  pub plain : list_any is_newline whole ≡ false
  pub kept : line ≡ kept_of whole
  pub front : (old ≡ with_front (whole ++ newline ∷ []) new)
      ⊎ ((old ≡ with_front whole new) × (IsAtEnd new × (0 < length whole)))

-- the next line was taken, or there was none: nothing is to come
abbrev pub TakesLine : Bool → List ℕ → Option (List ℕ) → Option (List ℕ) → Type 0
TakesLine true line old new = TookLine line old new
TakesLine false line old new = (new ≡ old) × IsAtEnd new

-- ---- what is read for it

-- one read asks for so many bytes
abbrev pub piece_bytes : ℕ
piece_bytes = 65536

-- Bytes were read of a source, of whose bytes these were held, and no newline has come: none stands among either.
pub record ReadNoNewline (held : List ℕ) (old new : Option (List ℕ)) : Type 0 where
  pub before : List ℕ
  pub plain : list_any is_newline (held ++ before) ≡ false
  pub front : old ≡ with_front before new

-- More was read of a source, of whose bytes these were held: the last read came before there was a newline, and what it
-- brought is no more than one read asks for.
pub record ReadMore (held : List ℕ) (old new : Option (List ℕ)) : Type 0 where
  pub before : List ℕ
  pub plain : list_any is_newline (held ++ before) ≡ false
  pub piece : List ℕ
  pub most : length piece ≤ piece_bytes
  pub front : old ≡ with_front (before ++ piece) new

-- nothing was read, or only up to a newline
abbrev pub ReadsToNewline : List ℕ → Option (List ℕ) → Option (List ℕ) → Type 0
ReadsToNewline held old new = (new ≡ old) ⊎ ReadMore held old new
