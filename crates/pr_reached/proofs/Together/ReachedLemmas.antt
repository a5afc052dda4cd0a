use Rattle.std.proofs.Common.{ℕ, List}
use Rattle.pr_lending.proofs.LendingStates.StartLemmas.{first-lends}
use Rattle.pr_lending.proofs.LendingStates.HistoryLemmas.{history-lends}
use Rattle.pr_num.specs.Programs.{Program}
use Rattle.pr_num.specs.declared.files.StoredFile.{StoredFile}
use Rattle.pr_lawful.proofs.LawfulStates.HistoryLemmas.{history-state}
use Rattle.pr_lawful.proofs.LawfulStates.StartLemmas.{first-lawful}
use Rattle.pr_lawful.specs.Starts.{IsStart}
use Rattle.pr_model.specs.FirstState.{first_state}
use Rattle.pr_model.specs.Legal.{IsLegal, state_after}
use Rattle.pr_model.specs.State.{TracedState}
use Rattle.pr_model.specs.declared.events.Entry.{Entry}
use Rattle.pr_reached.proofs.FitStates.FitHistoryLemmas.{first-fits, history-fits}
use Rattle.pr_reached.proofs.Sleepers.SleptHistories.{first-awake, history-awake}
use Rattle.pr_reached.proofs.StatesInRange.HistoryRanges.{first-state-range, history-range}
use Rattle.pr_reached.specs.ByteHistories.{HasBytes}
use Rattle.pr_reached.specs.InRange.{IsStartInRange}
use Rattle.pr_reached.specs.Reached.{IsReached}

-- What is so of reached states, together.

pub first-reached : (programs : List Program) (files : List StoredFile) (spawns : List ℕ)
    → IsStart programs files spawns → IsStartInRange programs files → IsReached (first_state programs files spawns)
first-reached programs files spawns start ranged = record {
  lawful = first-lawful programs files spawns start;
  lending = first-lends programs files spawns;
  fit = first-fits programs files spawns;
  in_range = first-state-range programs files spawns ranged;
  awake = first-awake programs files spawns;
}

pub later-reached : (n : ℕ) (s : TracedState) (h : List Entry) → IsReached s → HasBytes h → IsLegal n s h
    → IsReached (state_after s h)
later-reached n s h reached bytes legal = record {
  lawful = history-state n s h reached.lawful legal;
  lending = history-lends n s h reached.lawful reached.lending legal;
  fit = history-fits n s h reached.lawful reached.fit legal;
  in_range = history-range n s h reached.lawful reached.in_range bytes legal;
  awake = history-awake n s h reached.awake legal;
}
