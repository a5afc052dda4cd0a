use Rattle.std.proofs.Common.{◌≡◌, ◌++◌, take, drop, length}
use Rattle.pr_num.specs.ById.{map_each}
use Rattle.pr_model.specs.Running.{without_request}
use Rattle.pr_ctl.proofs.process_runs.end_requests.Given as goal

-- the lwps so far are changed, and the others are as they were
abbrev pub invariant-loop-place : goal.invariant-loop-place
invariant-loop-place l =
    (l.lwps ≡ map_each without_request (take l.place l.fn.lwps) ++ drop l.place l.fn.lwps)
    × (length l.lwps ≡ length l.fn.lwps)
