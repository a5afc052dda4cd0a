use Rattle.pr_report_laws.proofs.ToldForks.ToldReads.{fork-read, last-fork-read, told-fork, told-last}
use Rattle.pr_report_laws.proofs.follows.truss_acts_on_a_child_just_where_a_read_told_of_it.Goals as goal

pub returns-clause-told : goal.returns-clause-told
returns-clause-told c = λ n k o parent child s before later e run reads.
    told-fork n k o s before later e run parent child reads

pub returns-clause-told_last : goal.returns-clause-told_last
returns-clause-told_last c = λ n k o parent child s before later e run reads.
    told-last n k o s before later e run parent child reads

pub returns-clause-acts : goal.returns-clause-acts
returns-clause-acts c = λ n k o s h past xs x place child run is reads.
    fork-read n k o s h past xs x run is place child reads

pub returns-clause-acts_last : goal.returns-clause-acts_last
returns-clause-acts_last c =
    λ n k o s h past xs x child run is reads. last-fork-read n k o s h past xs x run is child reads
