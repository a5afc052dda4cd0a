use Rattle.std.proofs.Common.{◌∙◌, sym}
use Rattle.pr_call.proofs.StatLemmas.{stat-stored}
use Rattle.pr_call.proofs.files.fstat.Goals as goal

pub returns-clause-effect : goal.returns-clause-effect
returns-clause-effect c lacks =
    stat-stored c.args.files.now c.args.fds.now c.args.space.now c.args.fd c.args.at c.in-Ok.stat c.in-Ok.ensures
    c.store_three.new.space (sym c.can_write.ensures ∙ c.if-not-can_write.false) c.in_ok-store_three.ensures.ok
