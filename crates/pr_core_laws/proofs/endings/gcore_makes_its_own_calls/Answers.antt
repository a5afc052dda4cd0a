use Rattle.pr_core_laws.proofs.Refused.EndingLaw.{gcore-makes-calls}
use Rattle.pr_core_laws.proofs.endings.gcore_makes_its_own_calls.Goals as goal

pub returns : goal.returns
returns c = gcore-makes-calls
