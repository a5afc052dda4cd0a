use Rattle.std.proofs.Common.{◌≡◌, ◌-◌, length}
use Rattle.pr_tools.specs.Stacks.{walk_in}
use Rattle.pr_tools.proofs.stacks.walk_in.Given as goal

abbrev pub invariant-loop-walk : goal.invariant-loop-walk
invariant-loop-walk l = walk_in l.bytes l.fn.at ≡ walk_in l.bytes l.at

abbrev pub decreases-loop-walk : goal.decreases-loop-walk
decreases-loop-walk l = length l.bytes - l.at
