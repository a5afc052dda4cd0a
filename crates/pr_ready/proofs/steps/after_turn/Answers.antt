use Rattle.std.proofs.Common.{◌∙◌}
use Rattle.pr_ready_laws.specs.Reach.{changes_files, reach_of, reaches_around}
use Rattle.pr_ready.proofs.LookLemmas.{follows-turn}
use Rattle.pr_ready.proofs.steps.after_turn.Goals as goal

pub returns : goal.returns
returns g c =
    follows-turn (g.Q.Question.answer c.args.question.now) c.args.sys.now (changes_files (reach_of c.args.did)) _ _ _
    (λ may. c.wake_at_pipes_if.ensures.woken (c.changes_files.ensures ∙ may)) c.wake_at_pipes_if.ensures.grows
    c.args.pid c.args.around (reaches_around (reach_of c.args.did)) _ c.renew.ensures.covers c.renew.ensures.grows
    (λ wide. c.look_around_if.ensures.covers (c.reaches_around.ensures ∙ wide)) c.look_around_if.ensures.grows
