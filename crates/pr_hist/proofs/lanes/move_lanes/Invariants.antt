use Rattle.std.proofs.Common.{◌≡◌, ◌++◌, map, take, drop}
use Rattle.pr_hist.specs.Lanes.{lane_after}
use Rattle.pr_hist.proofs.lanes.move_lanes.Given as goal

-- the lanes so far stand as after the entry
abbrev pub invariant-loop-i : goal.invariant-loop-i
invariant-loop-i l = l.lanes ≡ map (lane_after l.entry) (take l.i l.fn.lanes) ++ drop l.i l.fn.lanes
