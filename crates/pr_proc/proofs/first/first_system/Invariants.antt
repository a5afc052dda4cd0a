use Rattle.std.proofs.Common.{◌≡◌, ◌+◌, ◌≤◌, drop}
use Rattle.pr_model.specs.FirstState.{with_spawns}
use Rattle.pr_proc.specs.Counts.{IsNumbered}
use Rattle.pr_proc.proofs.first.first_system.Given as goal

-- what is left to spawn makes of the system so far what all make of the first one
abbrev pub invariant-loop-place : goal.invariant-loop-place
invariant-loop-place l =
    (with_spawns (drop l.place-index l.spawns) l.sys ≡ with_spawns l.spawns l.initial.sys)
    × (l.sys.made ≤ 1 + l.place-index) × IsNumbered l.sys
