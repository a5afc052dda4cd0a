use Rattle.pr_lawful.proofs.LawfulStates.CallLemmas.{tick-state}
use Rattle.pr_lawful.proofs.states.ticks_keep_states_lawful.Goals as goal

pub returns : goal.returns
returns c = tick-state
