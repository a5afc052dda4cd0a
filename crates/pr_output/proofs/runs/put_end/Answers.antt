use Rattle.std.proofs.Common.{rules}
use Rattle.pr_output.proofs.Joined.{Puts-second, Puts-cut}
use Rattle.pr_output.proofs.runs.put_end.Goals as goal

pub returns-in_err-put_reports : goal.returns-in_err-put_reports
returns-in_err-put_reports g c = Puts-cut _ _ _ _ _ _ _ _ (search rules) c.in_err-put_reports.ensures

pub returns : goal.returns
returns g c =
    let reports = c.in_ok-put_reports.ensures in
    Puts-second _ _ _ _ _ _ _ _ _ reports.all (reports.no_fault (λ is. cc)) c.put_status.ensures
