use Rattle.pr_reached.proofs.Sleepers.SleptHistories.{first-awake}
use Rattle.pr_reached.proofs.slept.no_lwp_sleeps_in_a_copy.Goals as goal

pub returns-clause-first : goal.returns-clause-first
returns-clause-first c = first-awake
