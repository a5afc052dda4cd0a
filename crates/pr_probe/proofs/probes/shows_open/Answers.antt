use Rattle.std.proofs.Common.{sym, ap, ◌∙◌}
use Rattle.pr_probe.specs.Probes.{shows_open}
use Rattle.pr_probe.proofs.probes.shows_open.Goals as goal

pub returns-in-Ok : goal.returns-in-Ok
unfolding shows_open
returns-in-Ok c = c.is_none.ensures ∙ sym (ap shows_open c.in-Ok.ensures.ok)
