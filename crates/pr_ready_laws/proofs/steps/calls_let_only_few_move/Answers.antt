use Rattle.pr_ready_laws.proofs.StepLemmas.{call-lets}
use Rattle.pr_ready_laws.proofs.steps.calls_let_only_few_move.Goals as goal

pub returns : goal.returns
returns c = call-lets
