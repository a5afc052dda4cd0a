use Rattle.std.proofs.Common.{sym, ◌∙◌}
use Rattle.pr_num.proofs.ByIdLemmas.{under-at}
use Rattle.pr_proc.specs.Orders.{asked_after}
use Rattle.pr_proc.proofs.OrderLemmas.{first-on}
use Rattle.pr_ready.proofs.asking.first_in.Goals as goal

-- what stands at a place stands under its id
pub asked_after-requires-clause-there : goal.asked_after-requires-clause-there
asked_after-requires-clause-there g c =
    under-at 0 c.args.process.now.lwps c.loop-place.place _ c.ids_rise.ensures c.at-id.ensures

-- the answer about the one at this place is no
pub loop-place-preserved : goal.loop-place-preserved
loop-place-preserved g c =
    first-on (asked_after (g.Q.Question.answer c.args.question.now) c.args.after) c.args.pid c.args.process.now.lwps
    c.loop-place.place _ _ c.at-id.ensures (sym c.asked_after.ensures ∙ c.if-asked_after.false)
    ∙ c.loop-place.invariant
