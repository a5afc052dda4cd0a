use Rattle.pr_report_laws.proofs.FollowedChildren.FollowCalm.{never-left}
use Rattle.pr_report_laws.proofs.follows.no_opening_of_a_child_is_interrupted.Goals as goal

pub returns : goal.returns
returns c = never-left
