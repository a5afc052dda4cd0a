use Rattle.std.proofs.Common.{◌≡◌, ◌-◌}
use Rattle.pr_num.specs.Limits.{process_limit}
use Rattle.pr_proc.specs.Orders.{asked_after}
use Rattle.pr_ready.proofs.WalkLemmas.{Found, behind}
use Rattle.pr_ready.proofs.asking.next_ready.Given as goal

-- none was found so far
abbrev pub invariant-loop-pid : goal.invariant-loop-pid
invariant-loop-pid g l =
    Found (asked_after (g.Q.Question.answer l.question) l.after) (behind l.from l.sys.processes)
    ≡ Found (asked_after (g.Q.Question.answer l.question) l.after) l.sys.processes

-- no id is above the last one
abbrev pub decreases-loop-pid : goal.decreases-loop-pid
decreases-loop-pid g l = process_limit - l.from
