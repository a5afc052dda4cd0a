use Rattle.pr_report_laws.proofs.Holding.HeldLaws.{read-while-held, shown-while-held}
use Rattle.pr_report_laws.proofs.holds.truss_shows_what_came_while_it_had_hold_of_a_process.Goals as goal

pub returns-clause-shows : goal.returns-clause-shows
returns-clause-shows c = λ n k o pid s h run its. shown-while-held n k o pid s h run its

pub returns-clause-reads : goal.returns-clause-reads
returns-clause-reads c = λ n k o pid s h run its. read-while-held n k o pid s h run its
