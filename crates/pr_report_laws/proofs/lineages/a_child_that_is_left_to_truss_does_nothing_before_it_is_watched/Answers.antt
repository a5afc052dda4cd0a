use Rattle.pr_report_laws.proofs.NewbornChildren.NewbornLaws.{left-unstarted}
use Rattle.pr_report_laws.proofs.lineages.a_child_that_is_left_to_truss_does_nothing_before_it_is_watched.Goals as goal

pub returns-clause-not_started : goal.returns-clause-not_started
returns-clause-not_started c =
    λ n k by o pid s before e run left off followed. left-unstarted n k o pid s before e run left off followed by
