use Rattle.std.proofs.Common.{sym, ap, ◌∙◌}
use Rattle.pr_model.specs.Messages.{kill_answer, kill_by, message_answer}
use Rattle.pr_ctl.proofs.SignalLemmas.{kill-by_id}
use Rattle.pr_ctl.specs.Aims.{aim_at}
use Rattle.pr_ctl.proofs.signals.kill.Goals as goal

pub returns : goal.returns
unfolding message_answer kill_answer
returns c tail x found =
    c.kill_by_id.ensures x found
    ∙ kill-by_id c.args.sys.now c.args.pid x c.args.lwp c.args.length c.in-Some.signal
    ∙ ap (kill_by c.args.sys.now c.args.pid x (aim_at c.args.lwp) c.args.length)
    (sym c.in-Some.is ∙ c.from_number.ensures)
