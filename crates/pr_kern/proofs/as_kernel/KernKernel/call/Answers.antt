use Rattle.pr_kern.proofs.ViewLemmas.{kern-called, on-ok}
use Rattle.pr_kern.proofs.as_kernel.KernKernel.call.Goals as goal

pub returns-clause-ok : goal.returns-clause-ok
returns-clause-ok c =
    on-ok _ _ c.call.result
    (kern-called c.args.by c.args.call c.args.self.now c.call.new.self c.call.ensures.lawful.system)
    c.call.ensures.ok
