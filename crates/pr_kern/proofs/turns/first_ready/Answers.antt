use Rattle.pr_kern.proofs.ReadyLemmas.{all-ready, renewed-ready}
use Rattle.pr_kern.proofs.turns.first_ready.Goals as goal

pub loop-pid-init : goal.loop-pid-init
loop-pid-init c =
    all-ready _ _ c.requires c.all-ready.ensures.movable c.all-ready.ensures.at_pipes c.all-ready.ensures.dozing
    c.all-ready.ensures.moments

pub loop-pid-preserved : goal.loop-pid-preserved
loop-pid-preserved c =
    renewed-ready c.args.sys.now c.loop-pid.pid _ _ c.loop-pid.invariant c.renew.ensures.covers c.renew.ensures.grows
