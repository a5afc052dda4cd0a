use Rattle.std.proofs.Common.{◌∙◌}
use Rattle.pr_model.specs.Messages.{message_answer, with_registers}
use Rattle.pr_ctl.proofs.AimLemmas.{aimed-on_stopped}
use Rattle.pr_ctl.specs.Changes.{lwp_changed}
use Rattle.pr_ctl.proofs.aims.sreg.Goals as goal

pub returns : goal.returns
unfolding message_answer lwp_changed
returns c tail x found =
    c.change_stopped.ensures x found
    ∙ aimed-on_stopped c.args.sys.now c.args.pid x c.args.length (with_registers c.args.regs) c.args.lwp
