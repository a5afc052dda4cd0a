use Rattle.std.proofs.Common.{◌≡◌}
use Rattle.pr_tools.specs.Stacks.{all_stand}
use Rattle.pr_tools.proofs.stacks.all_stand.Given as goal

abbrev pub invariant-loop-left : goal.invariant-loop-left
invariant-loop-left l = all_stand l.fn.count l.fn.bytes ≡ all_stand l.left l.rest

abbrev pub decreases-loop-left : goal.decreases-loop-left
decreases-loop-left l = l.left
