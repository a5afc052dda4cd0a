use Rattle.pr_probe_laws.proofs.Files.OwnCallRows.{probe-closes}
use Rattle.pr_probe_laws.proofs.own_calls.apfiles_that_has_finished_has_nothing_open.Goals as goal

pub returns : goal.returns
returns c = probe-closes
