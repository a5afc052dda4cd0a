use Rattle.pr_ready_laws.proofs.StepLemmas.{turn-lets}
use Rattle.pr_ready_laws.proofs.steps.turns_let_only_few_move.Goals as goal

pub returns : goal.returns
returns c = turn-lets
