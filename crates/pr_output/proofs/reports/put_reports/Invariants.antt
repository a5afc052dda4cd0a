use Rattle.std.proofs.Common.{◌≡◌, take}
use Rattle.std.specs.List.{flat_map}
use Rattle.pr_io.specs.Known.{with_end}
use Rattle.pr_output.specs.Reports.{report_text}
use Rattle.pr_output.proofs.reports.put_reports.Given as goal

-- the reports so far are there
abbrev pub invariant-loop-report : goal.invariant-loop-report
invariant-loop-report g l = record {
  lines : g.K.Sink.written l.sink
      ≡ with_end (g.K.Sink.written l.fn.sink) (flat_map report_text (take l.report-index l.reports));
  faults : g.K.Sink.faults l.sink ≡ g.K.Sink.faults l.fn.sink;
}
