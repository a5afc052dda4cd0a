use Rattle.pr_ready_laws.proofs.CallLemmas.{tick-leaves}
use Rattle.pr_ready_laws.proofs.left.ticks_leave_every_process.Goals as goal

pub returns : goal.returns
returns c = tick-leaves
