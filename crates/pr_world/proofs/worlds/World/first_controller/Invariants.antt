use Rattle.std.proofs.Common.{◌≡◌, ◌-◌, length, find}
use Rattle.std.specs.List.{range_with_len}
use Rattle.pr_world.specs.Worlds.{controller_acts, seen}
use Rattle.pr_world.proofs.worlds.World.first_controller.Given as goal

-- the controllers so far cannot move, so that the search goes on from here
abbrev pub invariant-loop-controller : goal.invariant-loop-controller
invariant-loop-controller g l =
    find (controller_acts (seen g.Q.Kernel.view l.self))
    (range_with_len l.controller (length l.self.controllers - l.controller))
    ≡ find (controller_acts (seen g.Q.Kernel.view l.self)) (range_with_len l.from (length l.self.controllers - l.from))
