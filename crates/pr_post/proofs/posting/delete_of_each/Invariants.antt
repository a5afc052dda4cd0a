use Rattle.std.proofs.Common.{◌≡◌, ◌++◌, take, drop, length}
use Rattle.pr_num.specs.ById.{map_each}
use Rattle.pr_model.specs.Generation.{lwp_without_pending}
use Rattle.pr_post.proofs.posting.delete_of_each.Given as goal

-- the lwps so far are changed, and the others are as they were
abbrev pub invariant-loop-place : goal.invariant-loop-place
invariant-loop-place l =
    (l.lwps ≡ map_each (lwp_without_pending l.signals) (take l.place l.fn.lwps) ++ drop l.place l.fn.lwps)
    × (length l.lwps ≡ length l.fn.lwps)
