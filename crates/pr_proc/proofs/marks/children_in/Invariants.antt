use Rattle.std.proofs.Common.{◌≡◌, ◌-◌, ◌*◌, ◌^◌, ◌≤◌, false}
use Rattle.pr_proc.specs.Marks.{HasNone, any_process, has_ended}
use Rattle.pr_proc.proofs.marks.children_in.Given as goal

-- no process of the block so far is a child that has ended, and where none was seen, none is a child
abbrev pub invariant-loop-id : goal.invariant-loop-id
invariant-loop-id l = record {
  start : l.block * 64 ≤ l.low;
  zombies : HasNone has_ended l.parent (l.block * 64) l.low l.table;
  children : l.any ≡ false → HasNone any_process l.parent (l.block * 64) l.low l.table;
}

abbrev pub decreases-loop-id : goal.decreases-loop-id
decreases-loop-id l = 2 ^ 32 - l.low
