use Rattle.std.proofs.Common.{◌≡◌, ◌++◌, false, drop}
use Rattle.pr_hist.specs.Charts.{cells}
use Rattle.pr_hist.proofs.charts.write_cells.Given as goal

-- the cells so far, and those that are left, are all of them
abbrev pub invariant-loop-at : goal.invariant-loop-at
invariant-loop-at l =
    l.text ++ cells l.sheet l.names l.entry l.label l.passed (drop l.at l.lanes)
    ≡ l.fn.text ++ cells l.sheet l.names l.entry l.label false l.lanes
