use Rattle.std.proofs.Common.{◌≡◌, ◌++◌, take}
use Rattle.std.specs.List.{flat_map}
use Rattle.pr_truss.specs.Reports.{refusal_or_nothing}
use Rattle.pr_truss.proofs.lines.write_refusals.Given as goal

abbrev pub invariant-loop-report : goal.invariant-loop-report
invariant-loop-report l = l.out.items ≡ l.fn.out.items ++ flat_map refusal_or_nothing (take l.report-index l.reports)
