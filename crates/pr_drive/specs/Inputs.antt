use Rattle.std.specs.Prelude.{◌≡◌, ℕ, List, [], Option}
use Rattle.std.specs.Io.KnownBytes.{IsAtEnd}
use Rattle.pr_io.specs.Known.{with_front}
use Rattle.pr_lines.specs.Lines.{ReadNoNewline, ReadsToNewline, TookLine}

-- What comes from outside, line by line.

-- the bytes that were read and not taken yet, and those that the source has left, where it tells them
pub record Input : Type 0 where
  pub held : List ℕ
  pub left : Option (List ℕ)

-- all that is to come
abbrev pub to_come : Input → Option (List ℕ)
to_come a = with_front a.held a.left

-- nothing was read yet
abbrev pub from_start : Option (List ℕ) → Input
from_start left = record { held = []; left = left }

-- The next line was taken, and nothing was read once its end was there.
pub record Took (line : List ℕ) (a b : Input) : Type 0 where
  pub line_is : TookLine line (to_come a) (to_come b)
  pub read : ReadsToNewline a.held a.left b.left

-- There is no next line: the end was found.
pub record FoundEnd (a b : Input) : Type 0 where
  pub same : to_come b ≡ to_come a
  pub end : IsAtEnd (to_come b)
  pub read : ReadsToNewline a.held a.left b.left

-- The next line was asked for. That much is left of the source: nothing was read once the line's end was there.
pub record Asked (a : Input) (left : Option (List ℕ)) : Type 0 where
  pub read : ReadsToNewline a.held a.left left

-- The next line was asked for, and its end has not come: what is held and what was read has no newline.
pub record AskedInVain (a : Input) (left : Option (List ℕ)) : Type 0 where
  pub read : ReadNoNewline a.held a.left left
