use Rattle.std.proofs.Common.{eqb}
use Rattle.pr_model.specs.Lives.{is_id}
use Rattle.pr_ready.proofs.LookLemmas.{covers-more, each-either, each-more, each-one, grows-next}
use Rattle.pr_ready.proofs.looks.look_at_kin.Goals as goal

-- each stays as it was looked at when the next one is
pub returns-clause-covers : goal.returns-clause-covers
returns-clause-covers g c =
    each-either (g.Q.Question.answer c.args.question.now) c.args.sys.now (λ pid. eqb c.args.kin.parent pid) _ _
    (each-one (g.Q.Question.answer c.args.question.now) c.args.sys.now c.args.kin.parent _
    (λ small.
    covers-more (g.Q.Question.answer c.args.question.now) c.args.sys.now c.args.kin.parent _ _
    (c.look.ensures.covers small)
    (grows-next _ _ _ c.look_if.ensures.grows c.look_if-2.ensures.grows)))
    (each-either (g.Q.Question.answer c.args.question.now) c.args.sys.now (λ pid. is_id pid c.args.kin.lender)
    (λ pid. is_id pid c.args.kin.borrower) _
    (each-more
    (g.Q.Question.answer c.args.question.now) c.args.sys.now _ _ _ c.look_if.ensures.covers
    c.look_if-2.ensures.grows)
    c.look_if-2.ensures.covers)

pub returns-clause-grows : goal.returns-clause-grows
returns-clause-grows g c =
    grows-next _ _ _ c.look.ensures.grows (grows-next _ _ _ c.look_if.ensures.grows c.look_if-2.ensures.grows)
