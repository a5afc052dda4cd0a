use Rattle.std.proofs.Common.{◌≡◌, ◌-◌, ◌≤◌, length, take}
use Rattle.pr_io.specs.Known.{with_end}
use Rattle.pr_plain.specs.HistoryText.{entries_text}
use Rattle.pr_output.proofs.lines.put_entries.Given as goal

-- the lines of the entries so far are there
abbrev pub invariant-loop-at : goal.invariant-loop-at
invariant-loop-at g l = record {
  within : l.at ≤ length l.history.entries;
  lines : g.K.Sink.written l.sink
      ≡ with_end (g.K.Sink.written l.fn.sink) (entries_text 0 (take l.at l.history.entries));
  faults : g.K.Sink.faults l.sink ≡ g.K.Sink.faults l.fn.sink;
}

abbrev pub decreases-loop-at : goal.decreases-loop-at
decreases-loop-at g l = length l.history.entries - l.at
