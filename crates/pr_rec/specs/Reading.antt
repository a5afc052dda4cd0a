use Rattle.std.specs.Prelude.{◌+◌, ◌*◌, ◌≤◌, ℕ, List, [], ◌∷◌, ◌++◌, length, take, Option, Some, None, Result, Ok, Err, nat_lt, if◌then◌else◌}
use Rattle.pr_num.specs.Records.{Range, first_out_of_range, first_lwpstatus_ranges, lwpstatus_ranges, EncodesRecord}
use Rattle.pr_rec.specs.Fields.{front_words}
use Rattle.pr_rec.specs.declared.faults.RecFault.{RecFault}
use Rattle.pr_rec.specs.declared.faults.RecFault.TheVariants.{Short, BadField}

-- Reading the record with which bytes begin.

-- The first bytes encode the record of these words.
pub record BeginsWith (ranges : List Range) (bytes words : List ℕ) : Type 0 where
  pub enough : 8 * length ranges ≤ length bytes
  pub encoded : EncodesRecord ranges (take (8 * length ranges) bytes) words

-- the words, where none is out of its range, and else the byte at which the first such word begins
abbrev pub unless_out : List ℕ → Option ℕ → Result (List ℕ) RecFault
unless_out words None = Ok words
unless_out words (Some place) = Err (BadField (8 * place))

-- the words of the record with which bytes begin, or the first fault
unfoldable pub record_read : List Range → List ℕ → Result (List ℕ) RecFault
record_read ranges bytes =
    if nat_lt (length bytes) (8 * length ranges) then Err Short
    else unless_out (front_words (length ranges) bytes) (first_out_of_range ranges (front_words (length ranges) bytes))

-- An lwp's status as it was before signals had information (version 1), and the bytes of it as it is now: the words
-- stay, and the information has three zeros.
pub record IsUpgrade (old new : List ℕ) : Type 0 where
  pub words : List ℕ
  pub before : EncodesRecord first_lwpstatus_ranges old words
  pub after : EncodesRecord lwpstatus_ranges new (words ++ 0 ∷ 0 ∷ 0 ∷ [])
