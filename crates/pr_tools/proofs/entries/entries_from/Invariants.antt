use Rattle.std.proofs.Common.{◌≡◌, ◌+◌, length, map}
use Rattle.pr_tools.specs.Entries.{entries_from}
use Rattle.pr_tools.proofs.EntryLemmas.{before}
use Rattle.pr_tools.proofs.entries.entries_from.Given as goal

abbrev pub invariant-loop-left : goal.invariant-loop-left
invariant-loop-left g l =
    (entries_from g.R.Record.ranges l.fn.count l.fn.bytes
    ≡ before (map g.R.Record.words l.entries.items) (entries_from g.R.Record.ranges l.left l.rest))
    × (length l.entries.items + l.left ≡ l.fn.count)

abbrev pub decreases-loop-left : goal.decreases-loop-left
decreases-loop-left g l = l.left
