use Rattle.pr_function_laws.proofs.CallTurns.OwnSteps.{steps-read}
use Rattle.pr_function_laws.proofs.told.in_each_history_each_step_is_told.Goals as goal

pub returns : goal.returns
returns c = steps-read
