use Rattle.std.specs.Prelude.{ℕ, List}
use Rattle.pr_lawful.specs.Starts.{IsStart}
use Rattle.pr_model.specs.Lawful.{IsLawful}
use Rattle.pr_model.specs.State.{TracedState}
use Rattle.pr_model.specs.declared.events.Entry.{Entry}
use Rattle.pr_num.specs.Programs.{Program}
use Rattle.pr_num.specs.declared.files.StoredFile.{StoredFile}
use Rattle.pr_reached.specs.ByteHistories.{HasBytes}
use Rattle.pr_reached.specs.InRange.{IsInRange, IsStartInRange}

-- Histories of which all that is read is in range.

-- The state is lawful and in range, and what controllers write in the history is bytes. So each state to which a prefix
-- of it leads is lawful and in range, where the history is legal, and so is each record that is read there.
pub record StaysInRange (s : TracedState) (h : List Entry) : Type 0 where
  pub lawful : IsLawful s
  pub in_range : IsInRange s.system
  pub bytes : HasBytes h

-- So it is of a history from a first state, whose programs and files are in range.
pub record FirstStaysInRange (programs : List Program) (files : List StoredFile) (spawns : List ℕ) (h : List Entry)
    : Type 0 where
  pub start : IsStart programs files spawns
  pub in_range : IsStartInRange programs files
  pub bytes : HasBytes h
