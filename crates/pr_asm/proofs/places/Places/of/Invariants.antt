use Rattle.std.proofs.Common.{◌≡◌, ◌+◌, ◌≤◌, ℕ, List, drop}
use Rattle.pr_asm.specs.Placing.{found, place_among, placed_from, place_in}
use Rattle.pr_asm.proofs.places.Places.of.Given as goal
use Rattle.std.specs.Option.{option_or}
use Rattle.pr_num.specs.Limits.{code_limit, data_limit}

abbrev pub invariant-loop-i : goal.invariant-loop-i
invariant-loop-i l =
    (l.above.code ≤ code_limit) × (l.above.bytes ≤ data_limit)
    × ((name : List ℕ)
    → option_or (found l.places name) (place_among (placed_from l.above (l.first + l.i) (drop l.i l.reads)) name)
    ≡ place_in l.first l.reads name)
