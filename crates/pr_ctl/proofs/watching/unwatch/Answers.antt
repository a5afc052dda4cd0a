use Rattle.std.proofs.Common.{ap}
use Rattle.pr_parts.specs.WatchedAreas.{without_area}
use Rattle.pr_model.specs.Messages.{watch_answer, with_areas, with_control}
use Rattle.pr_ctl.proofs.ProcessLemmas.{put-found, used}
use Rattle.pr_ctl.proofs.watching.unwatch.Goals as goal

pub returns : goal.returns
unfolding watch_answer
returns c size x found =
    ap (used c.args.length)
    (put-found c.args.sys.now c.args.pid x _ _ (λ r. with_control (with_areas (without_area c.args.at r.control.areas)))
    found c.get_mut.ensures.value c.clear_in.ensures)
