use Rattle.pr_core_laws.proofs.Refused.EndingLaw.{gcore-runs-again}
use Rattle.pr_core_laws.proofs.endings.gcore_runs_its_process_again.Goals as goal

pub returns : goal.returns
returns c = gcore-runs-again
