use Rattle.pr_report_laws.proofs.Watching.BeginLaws.{finished-watches-none, first-watches-none, followed-watches, opened-watches}
use Rattle.pr_report_laws.proofs.Watching.BeginsOnlyLaws.{watched-opened}
use Rattle.pr_report_laws.proofs.Watching.EndLaws.{watched-let}

-- When truss watches a process, by its calls and their replies alone: the laws.

pub ruleset attachments =
    (first-watches-none, finished-watches-none, opened-watches, followed-watches, watched-opened, watched-let)
