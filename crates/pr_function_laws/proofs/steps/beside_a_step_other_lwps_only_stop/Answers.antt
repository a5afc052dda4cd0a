use Rattle.pr_function_laws.proofs.Stepping.StepLemmas.{other-stays}
use Rattle.pr_function_laws.proofs.steps.beside_a_step_other_lwps_only_stop.Goals as goal

pub returns-clause-stays : goal.returns-clause-stays
returns-clause-stays c = other-stays
