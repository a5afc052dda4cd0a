use Rattle.pr_report_laws.proofs.Watching.GripLaws.{left-watched}
use Rattle.pr_report_laws.proofs.lineages.the_grip_of_a_child_that_is_left_to_truss_is_the_watch_of_it.Goals as goal

pub returns : goal.returns
returns c = left-watched
