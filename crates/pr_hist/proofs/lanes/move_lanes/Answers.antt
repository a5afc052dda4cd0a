use Rattle.std.proofs.Common.{arith}
use Rattle.pr_num.proofs.TableLemmas.{map_step}
use Rattle.pr_hist.specs.Lanes.{lane_after}
use Rattle.pr_hist.proofs.lanes.move_lanes.Goals as goal

pub loop-i-preserved : goal.loop-i-preserved
loop-i-preserved c =
    rw c.lane_after.ensures
    (map_step (lane_after c.args.entry.now) c.args.lanes.now c.loop-i.lanes c.loop-i.i _
    (omega arith) c.loop-i.invariant)
