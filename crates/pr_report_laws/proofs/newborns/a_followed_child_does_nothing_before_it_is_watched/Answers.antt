use Rattle.pr_report_laws.proofs.NewbornChildren.NewbornLaws.{followed-forked, followed-unstarted}
use Rattle.pr_report_laws.proofs.newborns.a_followed_child_does_nothing_before_it_is_watched.Goals as goal

pub returns-clause-forked : goal.returns-clause-forked
returns-clause-forked c =
    λ n k o pid s before e run named forks off followed.
    followed-forked n k o pid s before e run named forks off followed

pub returns-clause-not_started : goal.returns-clause-not_started
returns-clause-not_started c =
    λ n k by o pid s before e run named forks off followed.
    followed-unstarted n k o pid s before e run named forks off followed by
