use Rattle.pr_probe_laws.proofs.Files.OwnCallRows.{probe-holds}
use Rattle.pr_probe_laws.proofs.own_calls.apfiles_opens_its_own_process_alone.Goals as goal

pub returns : goal.returns
returns c = probe-holds
