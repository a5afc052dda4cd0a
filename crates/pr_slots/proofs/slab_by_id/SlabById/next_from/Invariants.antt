use Rattle.std.proofs.Common.{◌≡◌, ◌≤◌}
use Rattle.pr_num.specs.ById.{first_from}
use Rattle.pr_slots.proofs.slab_by_id.SlabById.next_from.Given as goal

abbrev pub invariant-loop-number : goal.invariant-loop-number
invariant-loop-number g l = (l.low ≤ l.number) × (first_from l.low l.self ≡ first_from l.number l.self)
