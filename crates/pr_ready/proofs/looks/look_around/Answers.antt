use Rattle.pr_model.specs.Lives.{is_id}
use Rattle.pr_ready.specs.Around.{is_around, is_in_kin_of}
use Rattle.pr_ready.proofs.LookLemmas.{each-either, each-more, grows-next}
use Rattle.pr_ready.proofs.looks.look_around.Goals as goal

-- each stays as it was looked at when the next one is
pub returns-clause-covers : goal.returns-clause-covers
unfolding is_around
returns-clause-covers g c =
    each-either (g.Q.Question.answer c.args.question.now) c.args.sys.now (λ pid. is_id pid c.args.around.made) _ _
    (each-more (g.Q.Question.answer c.args.question.now) c.args.sys.now _ _ _ c.look_if.ensures.covers
    (grows-next _ _ _ c.look_at_kin_of.ensures.grows
    (grows-next _ _ _ c.look_if_small.ensures.grows c.look_at_kin_of-2.ensures.grows)))
    (each-either (g.Q.Question.answer c.args.question.now) c.args.sys.now (is_in_kin_of c.args.around.kin) _ _
    (each-more (g.Q.Question.answer c.args.question.now) c.args.sys.now _ _ _ c.look_at_kin_of.ensures.covers
    (grows-next _ _ _ c.look_if_small.ensures.grows c.look_at_kin_of-2.ensures.grows))
    (each-either (g.Q.Question.answer c.args.question.now) c.args.sys.now (λ pid. is_id pid c.args.around.target)
    (is_in_kin_of c.args.around.target_kin) _
    (each-more
    (g.Q.Question.answer c.args.question.now) c.args.sys.now _ _ _ c.look_if_small.ensures.covers
    c.look_at_kin_of-2.ensures.grows)
    c.look_at_kin_of-2.ensures.covers))

pub returns-clause-grows : goal.returns-clause-grows
returns-clause-grows g c =
    grows-next _ _ _ c.look_if.ensures.grows
    (grows-next _ _ _ c.look_at_kin_of.ensures.grows
    (grows-next _ _ _ c.look_if_small.ensures.grows c.look_at_kin_of-2.ensures.grows))
