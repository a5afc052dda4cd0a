use Rattle.pr_report_laws.proofs.Reading.ReadLaws.{unfollowed-reads}
use Rattle.pr_report_laws.proofs.reads.truss_reads_the_traced_events_of_what_it_never_followed.Goals as goal

pub returns : goal.returns
returns c = λ n k o pid s h run unfollowed. unfollowed-reads n k o pid s h run unfollowed
