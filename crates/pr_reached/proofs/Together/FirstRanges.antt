use Rattle.std.proofs.Common.{ℕ, List}
use Rattle.pr_lawful.proofs.LawfulStates.StartLemmas.{first-lawful}
use Rattle.pr_model.specs.FirstState.{first_state}
use Rattle.pr_model.specs.declared.events.Entry.{Entry}
use Rattle.pr_num.specs.Programs.{Program}
use Rattle.pr_num.specs.declared.files.StoredFile.{StoredFile}
use Rattle.pr_reached.proofs.StatesInRange.HistoryRanges.{first-state-range}
use Rattle.pr_reached.specs.HistoriesInRange.{FirstStaysInRange, StaysInRange}

-- A history from a first state in range, in which controllers write bytes, stays in range.
pub first-stays : (programs : List Program) (files : List StoredFile) (spawns : List ℕ) (h : List Entry)
    → FirstStaysInRange programs files spawns h → StaysInRange (first_state programs files spawns) h
first-stays programs files spawns h first = record {
  lawful = first-lawful programs files spawns first.start;
  in_range = first-state-range programs files spawns first.in_range;
  bytes = first.bytes;
}
