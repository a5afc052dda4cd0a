use Rattle.pr_lawful.proofs.LawfulStates.CallLemmas.{call-state}
use Rattle.pr_lawful.proofs.states.calls_keep_states_lawful.Goals as goal

pub returns : goal.returns
returns c = λ s by call a h answer. call-state s h by call a answer
