-- What truss(1) prints.
use Rattle.std.specs.Prelude.{ℕ, List, ◌++◌, if◌then◌else◌}
use Rattle.std.specs.List.{flat_map}
use Rattle.pr_truss.specs.Counts.{counts_text}
use Rattle.pr_truss.specs.Reports.{refusal_or_nothing, report_lines}
use Rattle.pr_truss.specs.Trusses.{TrussState}

-- Its lines, in the order in which it learnt them. With -c the refusals, and then the counts; no memory is read
-- then, so that no event is still to be reported.
unfoldable pub printed : TrussState → List ℕ
printed s = if s.options.count then flat_map refusal_or_nothing s.reports ++ counts_text s.reports else report_lines s
