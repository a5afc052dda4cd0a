use Rattle.pr_function_laws.proofs.CallTurns.TurnLemmas.{told-is-turn}
use Rattle.pr_function_laws.proofs.turns.a_call_told_is_the_one_turn_of_its_lwp.Goals as goal

pub returns : goal.returns
returns c = told-is-turn
