use Rattle.pr_reached.proofs.StatesInRange.TurnRanges.{turn-range}
use Rattle.pr_reached.proofs.states.turns_keep_states_in_range.Goals as goal

pub returns : goal.returns
returns c = turn-range
