use Rattle.std.proofs.Common.{◌≡◌, ◌++◌, drop}
use Rattle.pr_model.specs.Records.{statuses_of_lwps}
use Rattle.pr_view.proofs.lists.lstatus_of.Given as goal

-- the statuses so far, and the lwps to come
abbrev pub invariant-loop-place : goal.invariant-loop-place
invariant-loop-place l =
    l.statuses.items ++ statuses_of_lwps l.process (drop l.place l.process.lwps)
    ≡ statuses_of_lwps l.process l.process.lwps
