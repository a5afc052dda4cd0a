use Rattle.std.proofs.Common.{ℕ, ap, sym, ◌∙◌}
use Rattle.std.specs.List.{find}
use Rattle.pr_model.specs.Order.{lwps_among}
use Rattle.pr_slots.specs.Walks.{rest_from}
use Rattle.pr_proc.specs.Orders.{asked_after}
use Rattle.pr_proc.proofs.OrderLemmas.{next-here, next-on, passed-first}
use Rattle.pr_proc.proofs.order.next_among.Goals as goal

-- no lwp of a process of a lower id comes after the other one
pub loop-pid-init : goal.loop-pid-init
loop-pid-init g c =
    ap (λ (n : ℕ).
    find (asked_after (g.Q.Question.answer c.args.question.now) c.args.after)
    (lwps_among (rest_from n c.args.processes.now))) c.first_id-low.ensures
    ∙ passed-first (g.Q.Question.answer c.args.question.now) c.args.after c.args.processes.now

-- the first in this process comes before those of the processes behind it
pub returns-in-Some-first_in : goal.returns-in-Some-first_in
returns-in-Some-first_in g c =
    sym (sym c.loop-pid.invariant
    ∙ next-here
    (asked_after (g.Q.Question.answer c.args.question.now) c.args.after) _ _ _ _ _ c.in-Some.ensures.rest
    (sym c.first_in.ensures ∙ c.in-Some-first_in.is))

-- this process has none
pub loop-pid-preserved : goal.loop-pid-preserved
loop-pid-preserved g c =
    next-on (asked_after (g.Q.Question.answer c.args.question.now) c.args.after) _ _ _ _ c.in-Some.ensures.rest
    (sym c.first_in.ensures ∙ c.in_default-first_in.is) ∙ c.loop-pid.invariant
