use Rattle.std.proofs.Common.{ap, ◌∙◌}
use Rattle.pr_model.specs.Messages.{message_answer, run_answer}
use Rattle.pr_ctl.proofs.RunLemmas.{run_answer-by_id}
use Rattle.pr_ctl.specs.Aims.{aim_at}
use Rattle.pr_ctl.proofs.directing.run.Goals as goal

-- PCRUN by ids is PCRUN
pub returns : goal.returns
unfolding message_answer
returns c tail x found =
    c.run_with.ensures x found
    ∙ run_answer-by_id c.args.sys.now c.args.pid x c.args.lwp c.of_word.result c.args.length
    ∙ ap (λ f. run_answer c.args.sys.now c.args.pid x (aim_at c.args.lwp) f c.args.length) c.of_word.ensures
