use Rattle.std.proofs.Common.{sym, ◌∙◌}
use Rattle.pr_model.specs.Messages.{message_answer}
use Rattle.pr_ctl.proofs.SignalLemmas.{ssig-kill, ssig-set}
use Rattle.pr_ctl.specs.Aims.{aim_at}
use Rattle.pr_ctl.proofs.signals.ssig.Goals as goal

-- SIGKILL ends the process
pub returns-then-is_kill : goal.returns-then-is_kill
unfolding message_answer
returns-then-is_kill c tail x found =
    c.kill_process.ensures x found
    ∙ ssig-kill c.args.sys.now c.args.pid x
    (aim_at c.args.lwp) c.args.number c.args.length c.from_number-signal.result c.from_number-signal.ensures
    (sym (c.is_kill.ensures c.args.sys.now c.args.pid x) ∙ c.if-is_kill.true)

-- any other becomes the current one
pub returns : goal.returns
unfolding message_answer
returns c tail x found =
    c.set_signal.ensures x found
    ∙ ssig-set c.args.sys.now c.args.pid x c.args.lwp c.args.number c.args.length c.from_number-signal.result
    c.from_number-signal.ensures
    (sym (c.is_kill.ensures c.args.sys.now c.args.pid x) ∙ c.if-is_kill.false)
