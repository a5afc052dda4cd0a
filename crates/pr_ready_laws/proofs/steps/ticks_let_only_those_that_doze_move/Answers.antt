use Rattle.pr_ready_laws.proofs.StepLemmas.{tick-lets}
use Rattle.pr_ready_laws.proofs.steps.ticks_let_only_those_that_doze_move.Goals as goal

pub returns : goal.returns
returns c = tick-lets
