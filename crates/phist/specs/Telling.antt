-- How a call of the program ends.
use Rattle.std.specs.Prelude.{◌≡◌, ◌≢◌, ℕ, List, Option}
use Rattle.pr_ends.specs.Ends.{Ends}
use Rattle.pr_ends.specs.Inputs.{Took}
use Rattle.pr_io.specs.Faults.{Rose}
use Rattle.pr_io.specs.Known.{with_end}
use Rattle.pr_io.specs.Reading.{CameWithin}
use Rattle.pr_io.specs.Writing.{AppendsFront}
use Rattle.pr_num.specs.Limits.{checked_limit}
use Rattle.phist.specs.Answers.{Answered, answer_to, explained, spelled}
use Rattle.phist.specs.declared.statuses.Status.{Status}
use Rattle.phist.specs.declared.statuses.Status.TheVariants.{Done, Usage, Refused, ReadFailed, WriteFailed, OutOfMemory}
use Rattle.phist.specs.declared.words.Work.{Work}
use Rattle.phist.specs.declared.words.Work.TheVariants.{Tells, Selects, Draws, Spells, Explains}

-- the number with which the process ends
unfoldable pub number : Status → ℕ
number Done = 0
number Usage = 1
number Refused = 2
number ReadFailed = 5
number WriteFailed = 6
number OutOfMemory = 7

-- An answer was given whole, or a write failed and a prefix of its text was written that lacks some bytes.
pub record Gives (answer : Answered) (old new : Option (List ℕ)) (before after : ℕ) (status : Status) : Type 0 where
  pub whole : status ≢ WriteFailed → (status ≡ answer.status) × (new ≡ with_end old answer.text)
  pub cut : status ≡ WriteFailed → AppendsFront old new answer.text
  pub rose : status ≡ WriteFailed → Rose before after
  pub no_fault : status ≢ WriteFailed → after ≡ before

-- an answer was given by what both tell
abbrev pub GivesTo : Ends → Ends → Answered → Status → Type 0
GivesTo old new answer status = Gives answer old.written new.written old.write_faults new.write_faults status

-- The answer to what was read was given.
pub record GivesAnswer (work : Work) (old new : Ends) (status : Status) : Type 0 where
  pub input : Option (List ℕ)
  pub took : Took checked_limit old.left new.left input
  pub gives : GivesTo old new (answer_to work input) status

-- nothing was written
abbrev pub IsUnwritten : Ends → Ends → Type 0
IsUnwritten old new = (new.written ≡ old.written) × (new.write_faults ≡ old.write_faults)

-- The input is told in words, a block for each entry of its history, or of the part that was asked for, in their order;
-- or its first line that is wrong is named. A read failed: no more bytes than the limit came, and nothing was written.
-- Memory ran out: nothing was written. A write failed: a prefix of the answer was written.
pub record TellsHistory (work : Work) (old new : Ends) (status : Status) : Type 0 where
  pub answers : status ≢ ReadFailed → status ≢ OutOfMemory → GivesAnswer work old new status
  pub not_read : status ≡ ReadFailed → IsUnwritten old new × CameWithin checked_limit old.left new.left
  pub read_failed : status ≡ ReadFailed → Rose old.read_faults new.read_faults
  pub ran_out : status ≡ OutOfMemory → IsUnwritten old new
  pub no_read_fault : status ≢ ReadFailed → new.read_faults ≡ old.read_faults

-- Words are none that the program knows: the usage line is written, and nothing is read.
pub record IsExplained (old new : Ends) (status : Status) : Type 0 where
  pub gives : GivesTo old new explained status
  pub unread : (new.left ≡ old.left) × (new.read_faults ≡ old.read_faults)

-- A line spells bytes, which are written in hex, or it is refused; nothing is read. Memory ran out: nothing was
-- written.
pub record SpellsLine (line : List ℕ) (old new : Ends) (status : Status) : Type 0 where
  pub gives : status ≢ OutOfMemory → GivesTo old new (spelled line) status
  pub ran_out : status ≡ OutOfMemory → IsUnwritten old new
  pub unread : (new.left ≡ old.left) × (new.read_faults ≡ old.read_faults)

-- how a call ends that does this work
abbrev pub EndsAs : Work → Ends → Ends → Status → Type 0
EndsAs Tells old new status = TellsHistory Tells old new status
EndsAs (Selects s) old new status = TellsHistory (Selects s) old new status
EndsAs (Draws c s) old new status = TellsHistory (Draws c s) old new status
EndsAs (Spells line) old new status = SpellsLine line old new status
EndsAs Explains old new status = IsExplained old new status
