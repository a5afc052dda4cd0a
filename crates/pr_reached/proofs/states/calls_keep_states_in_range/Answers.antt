use Rattle.pr_reached.proofs.StatesInRange.ControllerRanges.{controller-range}
use Rattle.pr_reached.proofs.states.calls_keep_states_in_range.Goals as goal

pub returns : goal.returns
returns c s by call a h bytes answer = controller-range s h by call a bytes answer
