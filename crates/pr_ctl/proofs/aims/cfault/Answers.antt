use Rattle.std.proofs.Common.{◌∙◌}
use Rattle.pr_model.specs.Messages.{message_answer}
use Rattle.pr_model.specs.Running.{without_fault}
use Rattle.pr_ctl.proofs.AimLemmas.{aimed-on_lwp}
use Rattle.pr_ctl.specs.Changes.{lwp_changed}
use Rattle.pr_ctl.proofs.aims.cfault.Goals as goal

pub returns : goal.returns
unfolding message_answer lwp_changed
returns c tail x found =
    c.change_aimed.ensures x found ∙ aimed-on_lwp c.args.sys.now c.args.pid x c.args.length without_fault c.args.lwp
