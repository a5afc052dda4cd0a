use Rattle.pr_report_laws.proofs.Asking.AskedLaws.{what-traces}
use Rattle.pr_report_laws.proofs.business.truss_traces_writes_and_asks_for_no_more_than_it_is_asked.Goals as goal

pub returns-clause-traces : goal.returns-clause-traces
returns-clause-traces c = what-traces
