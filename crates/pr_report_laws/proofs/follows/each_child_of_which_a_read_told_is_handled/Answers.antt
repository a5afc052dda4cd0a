use Rattle.pr_report_laws.proofs.ToldForks.ToldReads.{child-followed, child-freed}
use Rattle.pr_report_laws.proofs.follows.each_child_of_which_a_read_told_is_handled.Goals as goal

pub returns-clause-followed : goal.returns-clause-followed
returns-clause-followed c = λ n k o parent child s before later e follow run reads.
    child-followed n k o s before later e run follow parent child reads

pub returns-clause-freed : goal.returns-clause-freed
returns-clause-freed c = λ n k o parent child s before later e follow run reads.
    child-freed n k o s before later e run follow parent child reads
