use Rattle.std.proofs.Common.{◌≡◌, ◌≤◌, ◌++◌, drop}
use Rattle.pr_hist.specs.Drawings.{rows_text}
use Rattle.pr_hist.proofs.drawings.write_rows.Given as goal

-- the rows so far, and those of the entries that are left, are all of them
abbrev pub invariant-loop-at : goal.invariant-loop-at
invariant-loop-at l = record {
  told :
      l.text ++ rows_text l.chart l.selection l.at l.row l.names l.lanes (drop l.at l.history.entries)
      ≡ l.fn.text ++ rows_text l.chart l.selection 0 0 l.fn.names l.fn.lanes l.history.entries;
  few : l.row ≤ l.at;
}
