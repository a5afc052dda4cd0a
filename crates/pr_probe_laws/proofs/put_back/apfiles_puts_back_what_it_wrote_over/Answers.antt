use Rattle.pr_probe_laws.proofs.PuttingBack.ProbeLaw.{puts-back}
use Rattle.pr_probe_laws.proofs.put_back.apfiles_puts_back_what_it_wrote_over.Goals as goal

pub returns : goal.returns
returns c = puts-back
