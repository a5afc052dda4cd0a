use Rattle.pr_lending.proofs.LendingStates.CallLemmas.{tick-lends}
use Rattle.pr_lending.proofs.states.ticks_keep_lending_in_order.Goals as goal

pub returns : goal.returns
returns c = tick-lends
