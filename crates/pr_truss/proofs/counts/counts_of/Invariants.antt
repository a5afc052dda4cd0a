use Rattle.std.proofs.Common.{take}
use Rattle.pr_truss.specs.Counts.{IsTable}
use Rattle.pr_truss.proofs.counts.counts_of.Given as goal

abbrev pub invariant-loop-report : goal.invariant-loop-report
invariant-loop-report l = IsTable (take l.report-index l.reports) l.kind l.table
