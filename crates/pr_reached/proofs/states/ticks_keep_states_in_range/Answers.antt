use Rattle.pr_reached.proofs.StatesInRange.HistoryRanges.{tick-range}
use Rattle.pr_reached.proofs.states.ticks_keep_states_in_range.Goals as goal

pub returns : goal.returns
returns c = tick-range
