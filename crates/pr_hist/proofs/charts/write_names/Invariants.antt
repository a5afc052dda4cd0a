use Rattle.std.proofs.Common.{◌≡◌, ◌++◌, drop}
use Rattle.pr_hist.specs.Charts.{name_cells}
use Rattle.pr_hist.proofs.charts.write_names.Given as goal

-- the names so far, and those that are left, are all of them
abbrev pub invariant-loop-at : goal.invariant-loop-at
invariant-loop-at l =
    l.text ++ name_cells l.sheet (drop l.at l.lanes) ≡ l.fn.text ++ name_cells l.sheet l.lanes
