use Rattle.pr_ready_laws.proofs.TurnLemmas.{turn-leaves}
use Rattle.pr_ready_laws.proofs.left.turns_leave_what_they_do_not_touch.Goals as goal

pub returns : goal.returns
returns c = turn-leaves
