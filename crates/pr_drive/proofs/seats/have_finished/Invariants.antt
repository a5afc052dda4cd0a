use Rattle.std.proofs.Common.{◌≡◌, drop, map}
use Rattle.std.specs.List.{list_all}
use Rattle.pr_world.specs.ControllerStates.{state_of}
use Rattle.pr_world.specs.Controllers.{has_finished}
use Rattle.pr_drive.proofs.seats.have_finished.Given as goal

-- all controllers so far have finished
abbrev pub invariant-loop-controller : goal.invariant-loop-controller
invariant-loop-controller l =
    list_all has_finished (drop l.controller-index (map state_of l.controllers)) ≡ list_all has_finished
    (map state_of l.controllers)
