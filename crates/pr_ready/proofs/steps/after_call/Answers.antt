use Rattle.pr_ready.specs.Around.{is_around}
use Rattle.pr_ready.proofs.LookLemmas.{follows-call}
use Rattle.pr_ready.proofs.steps.after_call.Goals as goal

pub returns : goal.returns
returns g c =
    follows-call
    (g.Q.Question.answer c.args.question.now) c.args.sys.now c.args.files _ _ _ c.wake_at_pipes_if.ensures.woken
    c.wake_at_pipes_if.ensures.grows (is_around c.args.around) c.look_around.ensures.covers c.look_around.ensures.grows
