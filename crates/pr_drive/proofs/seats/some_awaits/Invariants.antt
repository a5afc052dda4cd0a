use Rattle.std.proofs.Common.{◌≡◌, drop, map}
use Rattle.std.specs.List.{list_any}
use Rattle.pr_world.specs.ControllerStates.{state_of}
use Rattle.pr_world.specs.Controllers.{awaits_clock}
use Rattle.pr_drive.proofs.seats.some_awaits.Given as goal

-- none of the controllers so far waits
abbrev pub invariant-loop-controller : goal.invariant-loop-controller
invariant-loop-controller l =
    list_any (awaits_clock l.clock) (drop l.controller-index (map state_of l.controllers)) ≡ list_any
    (awaits_clock l.clock) (map state_of l.controllers)
