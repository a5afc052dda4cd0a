use Rattle.std.proofs.Common.{sym, ap, ◌∙◌}
use Rattle.pr_model.specs.State.{with_process}
use Rattle.pr_ctl.specs.Signals.{unkilled}
use Rattle.pr_ctl.proofs.signals.unkill_by_id.Goals as goal

pub returns-in-None : goal.returns-in-None
unfolding unkilled
returns-in-None c s p =
    c.take_back_from.ensures s p
    ∙ ap (λ lwp. with_process c.args.pid (unkilled s c.args.pid p c.args.signal lwp) c.args.sys.now) (sym c.in-None.is)
