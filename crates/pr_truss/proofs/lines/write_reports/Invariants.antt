use Rattle.std.proofs.Common.{◌≡◌, ◌++◌, take}
use Rattle.std.specs.List.{flat_map}
use Rattle.pr_truss.specs.Reports.{report_text}
use Rattle.pr_truss.proofs.lines.write_reports.Given as goal

abbrev pub invariant-loop-report : goal.invariant-loop-report
invariant-loop-report l =
    l.out.items ≡ l.fn.out.items ++ flat_map (report_text l.options) (take l.report-index l.reports)
