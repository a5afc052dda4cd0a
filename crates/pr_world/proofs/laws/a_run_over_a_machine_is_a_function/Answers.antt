use Rattle.pr_world.proofs.RunLemmas.{run-function}
use Rattle.pr_world.proofs.laws.a_run_over_a_machine_is_a_function.Goals as goal

pub returns : goal.returns
returns c = λ first w n. run-function n first w
