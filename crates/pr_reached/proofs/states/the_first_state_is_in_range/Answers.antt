use Rattle.pr_reached.proofs.StatesInRange.HistoryRanges.{first-state-range}
use Rattle.pr_reached.proofs.states.the_first_state_is_in_range.Goals as goal

pub returns : goal.returns
returns c = first-state-range
