use Rattle.std.proofs.Common.{rules, arith, ◌∙◌}
use Rattle.pr_io.proofs.Known.{with_end-nil}
use Rattle.pr_output.specs.Reports.{report_text, reports_text}
use Rattle.pr_output.proofs.Joined.{with_end-second, Puts-second, Puts-cut}
use Rattle.pr_output.proofs.ReportLemmas.{flat_map-next, flat_map-parts}
use Rattle.pr_output.proofs.reports.put_reports.Goals as goal

pub loop-report-init : goal.loop-report-init
loop-report-init g c = record {
  lines = grind (arith, with_end-nil);
  faults = search rules;
}

pub loop-report-preserved : goal.loop-report-preserved
loop-report-preserved g c =
    let put = c.in_ok-put_report.ensures in
    record {
      lines = rw (flat_map-next report_text c.loop-report.report-index c.args.reports.now c.report-item.result
          (search rules) c.report-item.is) (with_end-second _ _ _ _ _ c.loop-report.invariant.lines put.all);
      faults = put.no_fault (λ is. cc) ∙ c.loop-report.invariant.faults;
    }

pub returns-in_err-put_report : goal.returns-in_err-put_report
unfolding reports_text
returns-in_err-put_report g c =
    rw (flat_map-parts report_text c.loop-report.report-index c.args.reports.now c.report-item.result
    (search rules) c.report-item.is)
    (Puts-second _ _ _ _ _ _ _ _ _ c.loop-report.invariant.lines c.loop-report.invariant.faults
    (Puts-cut _ _ _ _ _ _ _ _ (search rules) c.in_err-put_report.ensures))
