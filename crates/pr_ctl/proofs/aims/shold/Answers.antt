use Rattle.std.proofs.Common.{ap, ◌∙◌}
use Rattle.pr_model.specs.Messages.{message_answer, on_lwp, with_held_set}
use Rattle.pr_ctl.proofs.AimLemmas.{aimed-on_lwp}
use Rattle.pr_ctl.specs.Aims.{aim_at}
use Rattle.pr_ctl.specs.Changes.{lwp_changed}
use Rattle.pr_ctl.proofs.aims.shold.Goals as goal

pub returns : goal.returns
unfolding message_answer lwp_changed
returns c tail x found =
    c.change_aimed.ensures x found
    ∙ aimed-on_lwp c.args.sys.now c.args.pid x c.args.length (with_held_set c.of_word.result) c.args.lwp
    ∙ ap (λ signals. on_lwp c.args.sys.now c.args.pid x (aim_at c.args.lwp) c.args.length (with_held_set signals))
    c.of_word.ensures
