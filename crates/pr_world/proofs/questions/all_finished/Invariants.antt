use Rattle.std.proofs.Common.{◌≡◌, drop, map}
use Rattle.std.specs.List.{list_all}
use Rattle.pr_world.specs.Callers.{core_in}
use Rattle.pr_world.specs.Controllers.{has_finished}
use Rattle.pr_world.proofs.questions.all_finished.Given as goal

-- all controllers so far have finished
abbrev pub invariant-loop-caller : goal.invariant-loop-caller
invariant-loop-caller l =
    list_all has_finished (drop l.caller-index (map core_in l.callers)) ≡ list_all has_finished (map core_in l.callers)
