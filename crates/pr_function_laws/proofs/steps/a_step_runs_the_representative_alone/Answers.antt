use Rattle.pr_function_laws.proofs.Stepping.StepLemmas.{step-begun}
use Rattle.pr_function_laws.proofs.steps.a_step_runs_the_representative_alone.Goals as goal

pub returns-clause-stepped : goal.returns-clause-stepped
returns-clause-stepped c = step-begun
