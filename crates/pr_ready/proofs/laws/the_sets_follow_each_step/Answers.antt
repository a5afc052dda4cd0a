use Rattle.pr_ready.proofs.StepLemmas.{follows-ready}
use Rattle.pr_ready.proofs.laws.the_sets_follow_each_step.Goals as goal

pub returns : goal.returns
returns c = follows-ready
