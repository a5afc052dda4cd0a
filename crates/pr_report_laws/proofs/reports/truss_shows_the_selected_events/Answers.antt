use Rattle.pr_report_laws.proofs.UnopenedChildren.Births.{births-report}
use Rattle.pr_report_laws.proofs.reports.truss_shows_the_selected_events.Goals as goal

pub returns : goal.returns
returns c = λ n k o pid s h run named forks. births-report n k o pid s h run named forks
