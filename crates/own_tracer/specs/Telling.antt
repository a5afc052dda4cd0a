use Rattle.std.specs.Prelude.{◌≡◌, ◌≤◌, ◌⊎◌, ℕ, List, [], Option, Ok, Err, length}
use Rattle.pr_ends.specs.Ends.{Ends}
use Rattle.pr_io.specs.Faults.{Rose}
use Rattle.pr_io.specs.Known.{with_end}
use Rattle.pr_io.specs.Reading.{Came, CameAbove, CameWithin, ReadsAll}
use Rattle.pr_io.specs.Writing.{AppendsFront}
use Rattle.pr_model.specs.declared.events.Entry.{Entry}
use Rattle.pr_num.specs.Limits.{scenario_limit}
use Rattle.pr_output.specs.Output.{AppendsSome, run_text}
use Rattle.pr_output.specs.declared.runs.Showing.TheVariants.{Whole}
use Rattle.pr_scen.specs.Reading.{scenario_of}
use Rattle.pr_scen.specs.Refusals.{ScenFault}
use Rattle.pr_scen.specs.Scenarios.{Scenario}
use Rattle.own_tracer.specs.Running.{IsHistoryOf}
use Rattle.own_tracer.specs.declared.statuses.Status.{Status}
use Rattle.own_tracer.specs.declared.statuses.Status.TheVariants.{Done, Refused, ReadFailed, WriteFailed, OutOfMemory}

-- What the program reads and writes, by the status with which it ends. The bytes that are left, those that were written
-- and the counts of faults are known before and after.

-- ---- what is read

-- all that the source had is the text of this scenario, and no longer than one may be
pub record WasRead (s : Scenario) (left now : Option (List ℕ)) : Type 0 where
  pub text : List ℕ
  pub all : ReadsAll left now text
  pub within : length text ≤ scenario_limit
  pub scenario : scenario_of text ≡ Ok s

-- all that the source had is no longer than a scenario may be
pub record WasTaken (left now : Option (List ℕ)) : Type 0 where
  pub text : List ℕ
  pub all : ReadsAll left now text
  pub within : length text ≤ scenario_limit

-- and it is none
pub record SpellsNone (left now : Option (List ℕ)) : Type 0 where
  pub text : List ℕ
  pub all : ReadsAll left now text
  pub within : length text ≤ scenario_limit
  pub fault : ScenFault
  pub refused : scenario_of text ≡ Err fault

-- Why no scenario was read, a row for each status: more bytes came than a scenario may have, or they spell none; no
-- more than that came, and then a read failed; or memory ran out, after some or all came. Only a read that failed
-- raises the count. No other status comes of reading.
abbrev pub IsUnread : Status → Option (List ℕ) → Option (List ℕ) → ℕ → ℕ → Type 0
IsUnread Done left now before after = ⊥
IsUnread Refused left now before after = (CameAbove scenario_limit left now ⊎ SpellsNone left now) × (after ≡ before)
IsUnread ReadFailed left now before after = CameWithin scenario_limit left now × Rose before after
IsUnread WriteFailed left now before after = ⊥
IsUnread OutOfMemory left now before after = (Came left now ⊎ WasTaken left now) × (after ≡ before)

-- ---- what is written

-- This came of writing the text of a history of the scenario, and the line of the status.
pub record TellsSo (s : Scenario) (Came : List ℕ → Type 0) : Type 0 where
  pub history : List Entry
  pub is : IsHistoryOf s history
  pub came : Came (run_text Whole history [] 0)

-- What came of a scenario, a row for each status: the text of a history of it was written; a write failed, and a prefix
-- of such a text was written that lacks some bytes; or memory ran out, before anything was written or after a prefix.
-- Only a write that failed raises the count. No other status comes of writing.
abbrev pub CameOf : Status → Scenario → Option (List ℕ) → Option (List ℕ) → ℕ → ℕ → Type 0
CameOf Done s old new before after = TellsSo s (λ text. new ≡ with_end old text) × (after ≡ before)
CameOf Refused s old new before after = ⊥
CameOf ReadFailed s old new before after = ⊥
CameOf WriteFailed s old new before after = TellsSo s (AppendsFront old new) × Rose before after
CameOf OutOfMemory s old new before after = ((new ≡ old) ⊎ TellsSo s (AppendsSome old new)) × (after ≡ before)

-- ---- the program

-- No scenario was read, and nothing was written.
pub record IsRefusal (status : Status) (old new : Ends) : Type 0 where
  pub unread : IsUnread status old.left new.left old.read_faults new.read_faults
  pub unwritten : new.written ≡ old.written
  pub no_write_fault : new.write_faults ≡ old.write_faults

-- A scenario was read, and told.
pub record Serves (status : Status) (old new : Ends) : Type 0 where
  pub scenario : Scenario
  pub read : WasRead scenario old.left new.left
  pub no_read_fault : new.read_faults ≡ old.read_faults
  pub tells : CameOf status scenario old.written new.written old.write_faults new.write_faults

-- how the program ends
abbrev pub EndsAs : Status → Ends → Ends → Type 0
EndsAs status old new = IsRefusal status old new ⊎ Serves status old new
