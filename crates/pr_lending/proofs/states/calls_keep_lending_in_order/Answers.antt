use Rattle.pr_lending.proofs.LendingStates.CallLemmas.{call-lends}
use Rattle.pr_lending.proofs.states.calls_keep_lending_in_order.Goals as goal

pub returns : goal.returns
returns c = call-lends
