use Rattle.std.proofs.Common.{◌*◌}
use Rattle.pr_ready.specs.Ready.{HasAll}
use Rattle.pr_ready.proofs.TickLemmas.{LookedBelow, NextBelow}
use Rattle.pr_ready.proofs.ticks.look_at_block.Given as goal

-- each process of the block so far was looked at, and none wakes before the moment; none left the set
abbrev pub invariant-loop-pid : goal.invariant-loop-pid
invariant-loop-pid g l = record {
  looked : LookedBelow (g.Q.Question.answer l.question) l.sys l.movable (l.block * 64) l.pid;
  next : NextBelow l.sys l.next (l.block * 64) l.pid;
  grows : HasAll l.initial.movable l.movable;
}
