use Rattle.std.proofs.Common.{◌≡◌, take}
use Rattle.std.specs.List.{flat_map}
use Rattle.pr_model.specs.UntracedSteps.{trace_of}
use Rattle.pr_strip.proofs.traces.trace.Given as goal

abbrev pub invariant-loop-i : goal.invariant-loop-i
invariant-loop-i l = l.steps.items ≡ flat_map trace_of (take l.i l.history.entries)
