use Rattle.pr_model.specs.FirstState.{first_state}
use Rattle.pr_reached.proofs.StatesInRange.HistoryRanges.{history-range}
use Rattle.pr_reached.proofs.Together.FirstRanges.{first-stays}
use Rattle.pr_reached.proofs.states.reached_states_are_in_range.Goals as goal

pub returns : goal.returns
returns c = record {
  later = λ n s h stays legal. history-range n s h stays.lawful stays.in_range stays.bytes legal;
  first = λ n programs files spawns h first legal.
      let stays = first-stays programs files spawns h first in
      history-range n (first_state programs files spawns) h stays.lawful stays.in_range stays.bytes legal;
}
