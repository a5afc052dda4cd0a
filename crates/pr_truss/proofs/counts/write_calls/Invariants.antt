use Rattle.std.proofs.Common.{◌≡◌, ◌++◌, take}
use Rattle.std.specs.List.{flat_map}
use Rattle.pr_truss.specs.Counts.{call_row_in}
use Rattle.pr_truss.proofs.counts.write_calls.Given as goal

abbrev pub invariant-loop-call : goal.invariant-loop-call
invariant-loop-call l =
    l.out.items ≡ l.fn.out.items ++ flat_map (call_row_in l.counts l.errors) (take l.call-index l.calls)
