use Rattle.pr_core_laws.proofs.Refused.EndingLaw.{gcore-tells-why}
use Rattle.pr_core_laws.proofs.endings.gcore_tells_why_it_was_refused.Goals as goal

pub returns : goal.returns
returns c = gcore-tells-why
