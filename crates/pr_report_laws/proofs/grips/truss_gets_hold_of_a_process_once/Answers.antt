use Rattle.pr_report_laws.proofs.Watching.OnceLaws.{held-once}
use Rattle.pr_report_laws.proofs.grips.truss_gets_hold_of_a_process_once.Goals as goal

pub returns-clause-calls : goal.returns-clause-calls
returns-clause-calls c = held-once
