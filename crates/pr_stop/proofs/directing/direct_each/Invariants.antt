use Rattle.std.proofs.Common.{◌≡◌, ◌++◌, take, drop, length}
use Rattle.pr_num.specs.ById.{map_each}
use Rattle.pr_model.specs.Stops.{directed}
use Rattle.pr_stop.proofs.directing.direct_each.Given as goal

-- the lwps so far are directed, and the others are as they were
abbrev pub invariant-loop-place : goal.invariant-loop-place
invariant-loop-place l =
    (l.lwps ≡ map_each directed (take l.place l.fn.lwps) ++ drop l.place l.fn.lwps) × (length l.lwps ≡ length l.fn.lwps)
