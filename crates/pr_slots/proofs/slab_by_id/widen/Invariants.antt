use Rattle.std.proofs.Common.{◌≡◌, ◌+◌, ◌-◌, ◌≤◌, ◌^◌, length}
use Rattle.slab.specs.Slab.{entries_from}
use Rattle.pr_slots.proofs.slab_by_id.widen.Given as goal

abbrev pub invariant-loop-slots : goal.invariant-loop-slots
invariant-loop-slots g l =
    (entries_from 0 l.slots ≡ entries_from 0 l.fn.slots) × (length l.fn.slots ≤ 2 ^ 32 → length l.slots ≤ 2 ^ 32)

abbrev pub decreases-loop-slots : goal.decreases-loop-slots
decreases-loop-slots g l = l.id + 1 - length l.slots
