use Rattle.std.proofs.Common.{◌-◌, ◌≤◌, length}
use Rattle.pr_num.specs.ById.{place_from}
use Rattle.pr_num.proofs.by_id.place_from.Given as goal

abbrev pub invariant-loop-at_least : goal.invariant-loop-at_least
invariant-loop-at_least g l =
    (l.at_least ≤ place_from l.low l.items) × (place_from l.low l.items ≤ l.at_most) × (l.at_most ≤ length l.items)

abbrev pub decreases-loop-at_least : goal.decreases-loop-at_least
decreases-loop-at_least g l = l.at_most - l.at_least
