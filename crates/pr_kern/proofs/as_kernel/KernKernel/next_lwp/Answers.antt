use Rattle.std.proofs.Common.{◌∙◌}
use Rattle.pr_kern.proofs.ViewLemmas.{kern-next}
use Rattle.pr_kern.proofs.as_kernel.KernKernel.next_lwp.Goals as goal

pub returns : goal.returns
returns c = c.next_lwp.ensures ∙ kern-next c.args.self.now c.args.movable c.args.after
