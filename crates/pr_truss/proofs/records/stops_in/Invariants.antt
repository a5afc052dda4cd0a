use Rattle.pr_truss.proofs.StopLemmas.{IsSeen}
use Rattle.pr_truss.specs.Records.{lstatus_lwps}
use Rattle.pr_truss.proofs.records.stops_in.Given as goal

abbrev pub invariant-loop-i : goal.invariant-loop-i
invariant-loop-i l = IsSeen l.count l.i (lstatus_lwps l.bytes) l.rest l.stops
