use Rattle.pr_view.proofs.ListLemmas.{statuses-on}
use Rattle.pr_view.proofs.lists.lstatus_of.Goals as goal

pub loop-place-preserved : goal.loop-place-preserved
loop-place-preserved c =
    statuses-on c.args.process.now c.args.process.now.lwps c.loop-place.place _ _ _ _ _ _ c.at-id.ensures
    c.lwpstatus_of.ensures c.in_ok-push.ensures.items c.loop-place.invariant
