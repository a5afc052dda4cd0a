use Rattle.pr_function_laws.proofs.CallTurns.TurnOrder.{turns-order}
use Rattle.pr_function_laws.proofs.turns.calls_have_their_turns_in_order.Goals as goal

pub returns : goal.returns
returns c = turns-order
