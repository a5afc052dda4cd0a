use Rattle.std.proofs.Common.{◌≡◌, ◌≤◌, drop}
use Rattle.pr_hist.specs.Drawings.{rows_from}
use Rattle.pr_hist.specs.News.{nothing_known}
use Rattle.pr_hist.proofs.drawings.rows_of.Given as goal

-- the rows so far, with those of the entries that are left, are all of them
abbrev pub invariant-loop-at : goal.invariant-loop-at
invariant-loop-at l = record {
  told :
      rows_from l.selection l.at l.row l.names (drop l.at l.history.entries)
      ≡ rows_from l.selection 0 0 nothing_known l.history.entries;
  few : l.row ≤ l.at;
}
