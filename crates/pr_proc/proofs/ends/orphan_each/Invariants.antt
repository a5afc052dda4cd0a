use Rattle.std.proofs.Common.{◌≡◌, ◌-◌, ◌^◌}
use Rattle.pr_num.specs.ById.{map_each}
use Rattle.pr_model.specs.Lives.{orphaned}
use Rattle.pr_proc.proofs.LifeLemmas.{AreIdle}
use Rattle.pr_proc.proofs.ends.orphan_each.Given as goal

-- the processes so far stand as they will, and all will stand as they would have without the walk
abbrev pub invariant-loop-id : goal.invariant-loop-id
invariant-loop-id l = record {
  same : map_each (orphaned l.parent) l.processes ≡ map_each (orphaned l.parent) l.fn.processes;
  idle : AreIdle l.parent l.processes l.low;
}

abbrev pub decreases-loop-id : goal.decreases-loop-id
decreases-loop-id l = 2 ^ 32 - l.low
