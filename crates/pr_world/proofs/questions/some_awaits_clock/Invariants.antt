use Rattle.std.proofs.Common.{◌≡◌, drop, map}
use Rattle.std.specs.List.{list_any}
use Rattle.pr_world.specs.Callers.{core_in}
use Rattle.pr_world.specs.Controllers.{awaits_clock}
use Rattle.pr_world.proofs.questions.some_awaits_clock.Given as goal

-- none of the controllers so far waits
abbrev pub invariant-loop-caller : goal.invariant-loop-caller
invariant-loop-caller l =
    list_any (awaits_clock l.clock) (drop l.caller-index (map core_in l.callers))
    ≡ list_any (awaits_clock l.clock) (map core_in l.callers)
