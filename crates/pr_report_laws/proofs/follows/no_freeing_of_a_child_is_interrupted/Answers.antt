use Rattle.pr_report_laws.proofs.FollowedChildren.FollowCalm.{never-kept}
use Rattle.pr_report_laws.proofs.follows.no_freeing_of_a_child_is_interrupted.Goals as goal

pub returns : goal.returns
returns c = never-kept
