use Rattle.pr_lawful.proofs.LawfulStates.StartLemmas.{first-lawful}
use Rattle.pr_lawful.proofs.states.the_first_state_is_lawful.Goals as goal

pub returns : goal.returns
returns c = first-lawful
