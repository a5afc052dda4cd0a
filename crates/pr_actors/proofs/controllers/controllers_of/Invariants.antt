use Rattle.std.proofs.Common.{◌≡◌, map}
use Rattle.pr_run_laws.specs.ScenarioRuns.{controller_of}
use Rattle.pr_world.specs.ControllerStates.{state_of}
use Rattle.pr_actors.proofs.controllers.controllers_of.Given as goal

-- those of the plans so far
abbrev pub invariant-loop-plan : goal.invariant-loop-plan
invariant-loop-plan l = map state_of l.controllers.items ≡ map controller_of l.yielded
