use Rattle.pr_kern.proofs.ViewLemmas.{kern-turned, if-ok}
use Rattle.pr_kern.proofs.as_kernel.KernKernel.lwp_turn.Goals as goal

pub returns-clause-ok : goal.returns-clause-ok
returns-clause-ok c =
    if-ok _ _ c.lwp_turn.result
    (λ t. kern-turned c.args.pid c.args.lwp c.args.self.now c.lwp_turn.new.self t) c.lwp_turn.ensures.ok
