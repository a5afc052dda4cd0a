use Rattle.pr_kern.proofs.ViewLemmas.{kern-ticked}
use Rattle.pr_kern.proofs.as_kernel.KernKernel.tick.Goals as goal

pub returns : goal.returns
returns c = kern-ticked c.args.self.now c.tick.new.self c.tick.ensures
