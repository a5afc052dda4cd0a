use Rattle.pr_lawful.proofs.LawfulStates.HistoryLemmas.{history-state}
use Rattle.pr_model.specs.FirstState.{first_state}
use Rattle.pr_model.specs.Lawful.{IsLawful}
use Rattle.pr_model.specs.Legal.{IsLegal, state_after}
use Rattle.pr_model.specs.State.{TracedState}
use Rattle.pr_model.specs.declared.events.Entry.{Entry}
use Rattle.pr_reached.proofs.RecordsInRange.EntryRanges.{records-range}
use Rattle.pr_reached.proofs.StatesInRange.HistoryRanges.{history-range}
use Rattle.pr_reached.proofs.Together.FirstRanges.{first-stays}
use Rattle.pr_reached.proofs.records.records_of_reached_states_are_in_range.Goals as goal
use Rattle.pr_reached.specs.AllRecords.{AreRecordsInRange}
use Rattle.pr_reached.specs.ByteHistories.{HasBytes}
use Rattle.pr_reached.specs.InRange.{IsInRange}
use Rattle.std.proofs.Common.{ℕ, List}

later : (n : ℕ) (s : TracedState) (h : List Entry) → IsLawful s → IsInRange s.system → HasBytes h → IsLegal n s h
    → AreRecordsInRange (state_after s h).system
later n s h lawful ranged bytes legal =
    records-range (state_after s h).system (history-state n s h lawful legal).system
    (history-range n s h lawful ranged bytes legal)

pub returns : goal.returns
returns c = record {
  later = λ n s h stays legal. later n s h stays.lawful stays.in_range stays.bytes legal;
  first = λ n programs files spawns h first legal.
      let stays = first-stays programs files spawns h first in
      later n (first_state programs files spawns) h stays.lawful stays.in_range stays.bytes legal;
}
