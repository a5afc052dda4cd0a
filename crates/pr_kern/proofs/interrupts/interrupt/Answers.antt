use Rattle.pr_kern.proofs.InterruptLemmas.{interrupted}
use Rattle.pr_kern.proofs.interrupts.interrupt.Goals as goal

pub returns : goal.returns
returns c = interrupted c.args.state.now c.args.controller c.if-controller-ge-CONTROLLER_LIMIT.false
