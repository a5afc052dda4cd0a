use Rattle.std.proofs.Common.{◌≡◌, take}
use Rattle.std.specs.List.{flat_map}
use Rattle.pr_model.specs.UntracedMachine.{traced_step}
use Rattle.pr_strip.proofs.traces.trace_of_steps.Given as goal

abbrev pub invariant-loop-step : goal.invariant-loop-step
invariant-loop-step l = l.trace.items ≡ flat_map traced_step (take l.step-index l.steps)
