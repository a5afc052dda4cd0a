use Rattle.pr_ready_laws.specs.Reach.{reach_of}
use Rattle.pr_ready.proofs.LookLemmas.{follows-alone, grows-but, grows-same}
use Rattle.pr_ready.proofs.steps.after_instruction.Goals as goal

pub returns-in-Ran : goal.returns-in-Ran
returns-in-Ran g c around =
    follows-alone (g.Q.Question.answer c.args.question.now) c.args.sys.now c.args.pid _ _ (reach_of c.args.did)
    (c.requires.ran c.in-Ran.is) (grows-but c.args.pid _ _ (grows-same _)) c.requires.reach around

pub returns-in_default : goal.returns-in_default
returns-in_default g c around =
    follows-alone (g.Q.Question.answer c.args.question.now) c.args.sys.now c.args.pid _ _ (reach_of c.args.did)
    c.renew.ensures.covers c.renew.ensures.grows c.requires.reach around
