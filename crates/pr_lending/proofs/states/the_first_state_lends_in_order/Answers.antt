use Rattle.pr_lending.proofs.LendingStates.StartLemmas.{first-lends}
use Rattle.pr_lending.proofs.states.the_first_state_lends_in_order.Goals as goal

pub returns : goal.returns
returns c = first-lends
