use Rattle.std.proofs.Common.{◌-◌, ◌^◌, ◌≤◌}
use Rattle.pr_proc.specs.Marks.{HasNoZombie}
use Rattle.pr_proc.proofs.marks.next_zombie.Given as goal

-- no process so far is a child that has ended
abbrev pub invariant-loop-start : goal.invariant-loop-start
invariant-loop-start l = record {
  behind : l.low ≤ l.at;
  none : HasNoZombie l.parent l.low l.at l.table;
}

abbrev pub decreases-loop-start : goal.decreases-loop-start
decreases-loop-start l = 2 ^ 32 - l.at
