use Rattle.std.proofs.Common.{◌≡◌, ◌++◌, take}
use Rattle.std.specs.List.{flat_map}
use Rattle.pr_truss.specs.Counts.{signal_row_in}
use Rattle.pr_truss.proofs.counts.write_signals.Given as goal

abbrev pub invariant-loop-signal : goal.invariant-loop-signal
invariant-loop-signal l =
    l.out.items ≡ l.fn.out.items ++ flat_map (signal_row_in l.counts) (take l.signal-index l.signals)
