use Rattle.pr_probe_laws.proofs.Files.OwnCallRows.{makes-its-calls}
use Rattle.pr_probe_laws.proofs.own_calls.apfiles_makes_its_own_calls.Goals as goal

pub returns : goal.returns
returns c = makes-its-calls
