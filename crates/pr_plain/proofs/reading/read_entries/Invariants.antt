use Rattle.std.proofs.Common.{◌≡◌}
use Rattle.pr_plain.specs.EntryLines.{entries_left}
use Rattle.pr_plain.proofs.EntryLoop.{with_entries}
use Rattle.pr_plain.proofs.reading.read_entries.Given as goal

abbrev pub invariant-loop-number : goal.invariant-loop-number
invariant-loop-number l = record {
  rest : with_entries l.history.entries (entries_left l.lines) ≡ entries_left l.fn.lines;
  read : l.lines.read ≡ l.number;
  count : l.lines.count ≡ l.fn.lines.count;
}
