use Rattle.pr_lawful.proofs.LawfulStates.StateLemmas.{turn-state}
use Rattle.pr_lawful.proofs.states.turns_keep_states_lawful.Goals as goal

pub returns : goal.returns
returns c = turn-state
