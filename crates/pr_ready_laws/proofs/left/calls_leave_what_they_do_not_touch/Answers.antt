use Rattle.pr_ready_laws.proofs.CallLemmas.{call-leaves}
use Rattle.pr_ready_laws.proofs.left.calls_leave_what_they_do_not_touch.Goals as goal

pub returns : goal.returns
returns c = call-leaves
