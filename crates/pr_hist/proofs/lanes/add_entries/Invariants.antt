use Rattle.std.proofs.Common.{◌≡◌, drop}
use Rattle.pr_hist.specs.Lanes.{with_entries}
use Rattle.pr_hist.proofs.lanes.add_entries.Given as goal

-- the lanes so far, with those of the entries that are left, are all of them
abbrev pub invariant-loop-at : goal.invariant-loop-at
invariant-loop-at l =
    with_entries l.of l.who l.lanes.items (drop l.at l.history.entries)
    ≡ with_entries l.of l.who l.fn.lanes.items l.history.entries
