use Rattle.std.proofs.Common.{◌≡◌, ◌-◌, ◌≤◌, length, take}
use Rattle.pr_io.specs.Known.{with_end}
use Rattle.pr_io.proofs.sinks.write_all.Given as goal

abbrev pub invariant-loop-at : goal.invariant-loop-at
invariant-loop-at g l = record {
  within : l.at ≤ length l.part;
  front : g.K.Sink.written l.sink ≡ with_end (g.K.Sink.written l.fn.sink) (take l.at l.part);
  faults : g.K.Sink.faults l.sink ≡ g.K.Sink.faults l.fn.sink;
  nothing : l.at ≡ 0 → l.sink ≡ l.fn.sink;
}

abbrev pub decreases-loop-at : goal.decreases-loop-at
decreases-loop-at g l = length l.part - l.at
