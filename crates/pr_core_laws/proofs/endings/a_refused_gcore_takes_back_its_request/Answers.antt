use Rattle.pr_core_laws.proofs.Refused.EndingLaw.{gcore-takes-back}
use Rattle.pr_core_laws.proofs.endings.a_refused_gcore_takes_back_its_request.Goals as goal

pub returns : goal.returns
returns c = gcore-takes-back
