use Rattle.std.proofs.Common.{◌-◌}
use Rattle.pr_num.specs.Limits.{process_limit}
use Rattle.pr_ready.specs.Ready.{HasAll}
use Rattle.pr_ready.proofs.WakeLemmas.{WokenBelow}
use Rattle.pr_ready.proofs.wakes.wake.Given as goal

-- each of the set so far was looked at, and none left the other set
abbrev pub invariant-loop-pid : goal.invariant-loop-pid
invariant-loop-pid g l =
    WokenBelow (g.Q.Question.answer l.question) l.sys l.sleepers l.movable l.from × HasAll l.initial.movable l.movable

-- no id is above the last one
abbrev pub decreases-loop-pid : goal.decreases-loop-pid
decreases-loop-pid g l = process_limit - l.from
