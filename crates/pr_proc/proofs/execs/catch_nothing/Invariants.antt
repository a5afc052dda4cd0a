use Rattle.std.proofs.Common.{◌≡◌, ◌++◌, map, take, drop}
use Rattle.pr_model.specs.Lives.{uncaught}
use Rattle.pr_proc.proofs.execs.catch_nothing.Given as goal

-- the dispositions so far are changed, and the others are as they were
abbrev pub invariant-loop-place : goal.invariant-loop-place
invariant-loop-place l =
    l.dispositions ≡ map uncaught (take l.place l.fn.dispositions) ++ drop l.place l.fn.dispositions
