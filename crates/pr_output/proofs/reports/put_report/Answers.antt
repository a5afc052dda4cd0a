use Rattle.std.proofs.Common.{rules}
use Rattle.pr_output.specs.Reports.{report_text}
use Rattle.pr_output.proofs.Joined.{Puts-second, Puts-cut}
use Rattle.pr_output.proofs.reports.put_report.Goals as goal

pub returns-in_err-put_title : goal.returns-in_err-put_title
unfolding report_text
returns-in_err-put_title g c = Puts-cut _ _ _ _ _ _ _ _ (search rules) c.in_err-put_title.ensures

pub returns : goal.returns
unfolding report_text
returns g c =
    let title = c.in_ok-put_title.ensures in
    let text = rw c.as_slice.ensures at c.put.ensures.puts in
    Puts-second _ _ _ _ _ _ _ _ _ title.all (title.no_fault (λ is. cc)) text
