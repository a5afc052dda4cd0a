use Rattle.std.specs.Prelude.{◌≡◌, ◌≢◌, ◌⊎◌, ℕ, true, false, Err, IsErrOf, Result}
use Rattle.std.specs.List.{list_all}
use Rattle.pr_io.specs.Faults.{Rose}
use Rattle.pr_io.specs.declared.sources.ReadEnd.{ReadEnd}
use Rattle.pr_io.specs.declared.sources.ReadEnd.TheVariants as read
use Rattle.pr_output.specs.declared.cuts.Cut.{Cut}
use Rattle.pr_output.specs.declared.cuts.Cut.TheVariants as write
use Rattle.pr_world.specs.Controllers.{has_finished}
use Rattle.pr_drive.specs.Going.{NoneCanMove, SeatsState, SomeCanMove, has_place}
use Rattle.pr_drive.specs.declared.ends.CutOff.{CutOff}
use Rattle.pr_drive.specs.declared.ends.CutOff.TheVariants as cut
use Rattle.pr_drive.specs.declared.ends.Status.{Status}
use Rattle.pr_drive.specs.declared.ends.Status.TheVariants.{Done, Usage, Refused, Spent, Stuck, ReadFailed, WriteFailed}
use Rattle.pr_drive.specs.declared.ends.Status.TheVariants.{OutOfMemory}

-- the number of a status
unfoldable pub number : Status → ℕ
number Done = 0
number Usage = 1
number Refused = 2
number Spent = 3
number Stuck = 4
number ReadFailed = 5
number WriteFailed = 6
number OutOfMemory = 7

-- the status of what was cut off
unfoldable pub status_of : CutOff → Status
status_of cut.ReadFailed = ReadFailed
status_of cut.WriteFailed = WriteFailed
status_of cut.NoMemory = OutOfMemory

-- Why a session is cut off where a text was not written whole, and where a line was not read. A line with more bytes
-- than can be counted is one that no memory holds.
abbrev pub cut_off : Cut → CutOff
cut_off write.WriteFailed = cut.WriteFailed
cut_off write.NoMemory = cut.NoMemory

abbrev pub read_off : ReadEnd → CutOff
read_off read.Failed = cut.ReadFailed
read_off _ = cut.NoMemory

-- What the counts of faults of the source and of the sink tell: only a read that failed raises the one, and only a
-- write that failed the other.
pub record CountsFaults {T : Type 0} (result : Result T CutOff) (reads reads' writes writes' : ℕ) : Type 0 where
  pub unread : IsErrOf result cut.ReadFailed → Rose reads reads'
  pub unwritten : IsErrOf result cut.WriteFailed → Rose writes writes'
  pub no_read_fault : result ≢ Err cut.ReadFailed → reads' ≡ reads
  pub no_write_fault : result ≢ Err cut.WriteFailed → writes' ≡ writes

-- ---- how a session has ended

-- one of the others can move, and there is a place for the entry
pub record GoesOn (s : SeatsState) : Type 0 where
  pub some : SomeCanMove 0 s
  pub place : has_place s ≡ true

-- one of them can move, and there is no place
pub record IsSpent (s : SeatsState) : Type 0 where
  pub some : SomeCanMove 0 s
  pub full : has_place s ≡ false

-- none of them can move, and every controller of the scenario has finished
pub record IsOver (s : SeatsState) : Type 0 where
  pub none : NoneCanMove 0 s
  pub finished : list_all has_finished s.controllers ≡ true

-- none of them can move, and a controller of the scenario has not finished
pub record IsStuck (s : SeatsState) : Type 0 where
  pub none : NoneCanMove 0 s
  pub unfinished : list_all has_finished s.controllers ≡ false

abbrev pub EndsAs : SeatsState → Status → Type 0
EndsAs s Done = GoesOn s ⊎ IsOver s
EndsAs s Spent = IsSpent s
EndsAs s Stuck = IsStuck s
EndsAs s _ = ⊥
