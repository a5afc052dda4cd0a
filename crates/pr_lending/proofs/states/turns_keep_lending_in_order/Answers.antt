use Rattle.pr_lending.proofs.LendingTurns.TurnLemmas.{turn-lends}
use Rattle.pr_lending.proofs.states.turns_keep_lending_in_order.Goals as goal

pub returns : goal.returns
returns c = turn-lends
