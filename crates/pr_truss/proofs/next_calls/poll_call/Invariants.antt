use Rattle.std.proofs.Common.{◌≡◌, map, take}
use Rattle.pr_truss.proofs.next_calls.poll_call.Given as goal

abbrev pub invariant-loop-process : goal.invariant-loop-process
invariant-loop-process l = l.handles.items ≡ map (λ t. t.control) (take l.process-index l.traced)
