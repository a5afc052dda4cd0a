use Rattle.std.proofs.Common.{◌≡◌, map}
use Rattle.pr_world.specs.Callers.{core_in}
use Rattle.pr_world.specs.ControllerStates.{state_of}
use Rattle.pr_world.proofs.worlds.callers_of.Given as goal

-- the controllers so far
abbrev pub invariant-loop-controller : goal.invariant-loop-controller
invariant-loop-controller l = map core_in l.callers.items ≡ map state_of l.yielded
