use Rattle.pr_report_laws.proofs.Reading.ReadLaws.{left-reads}
use Rattle.pr_report_laws.proofs.reads.truss_reads_the_traced_events.Goals as goal

pub returns : goal.returns
returns c = λ n k o pid s h run named forks. left-reads n k o pid s h run named forks
