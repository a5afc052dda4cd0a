use Rattle.std.proofs.Common.{◌≡◌, ◌++◌, take}
use Rattle.std.specs.List.{flat_map}
use Rattle.pr_truss.specs.Counts.{fault_row_in}
use Rattle.pr_truss.proofs.counts.write_faults.Given as goal

abbrev pub invariant-loop-fault : goal.invariant-loop-fault
invariant-loop-fault l = l.out.items ≡ l.fn.out.items ++ flat_map (fault_row_in l.counts) (take l.fault-index l.faults)
