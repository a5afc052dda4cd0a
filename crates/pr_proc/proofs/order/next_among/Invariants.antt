use Rattle.std.proofs.Common.{◌≡◌, ◌-◌, ◌^◌}
use Rattle.std.specs.List.{find}
use Rattle.pr_model.specs.Order.{lwps_among}
use Rattle.pr_slots.specs.Walks.{rest_from}
use Rattle.pr_proc.specs.Orders.{asked_after}
use Rattle.pr_proc.proofs.order.next_among.Given as goal

-- none was found so far
abbrev pub invariant-loop-pid : goal.invariant-loop-pid
invariant-loop-pid g l =
    find (asked_after (g.Q.Question.answer l.question) l.after) (lwps_among (rest_from l.low l.processes))
    ≡ find (asked_after (g.Q.Question.answer l.question) l.after) (lwps_among l.processes)

abbrev pub decreases-loop-pid : goal.decreases-loop-pid
decreases-loop-pid g l = 2 ^ 32 - l.low
