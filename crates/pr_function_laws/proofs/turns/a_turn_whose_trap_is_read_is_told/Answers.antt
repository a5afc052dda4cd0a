use Rattle.pr_function_laws.proofs.CallTurns.TurnLemmas.{turn-is-told}
use Rattle.pr_function_laws.proofs.turns.a_turn_whose_trap_is_read_is_told.Goals as goal

pub returns : goal.returns
returns c = turn-is-told
