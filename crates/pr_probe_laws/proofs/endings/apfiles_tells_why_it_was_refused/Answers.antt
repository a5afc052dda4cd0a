use Rattle.pr_probe_laws.proofs.Ending.ReasonLaw.{tells-why}
use Rattle.pr_probe_laws.proofs.endings.apfiles_tells_why_it_was_refused.Goals as goal

pub returns : goal.returns
returns c = tells-why
