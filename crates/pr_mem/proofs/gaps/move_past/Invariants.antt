use Rattle.std.proofs.Common.{◌≡◌, ◌≤◌, drop}
use Rattle.pr_num.specs.Layout.{stack_base}
use Rattle.pr_mem.specs.Gaps.{moved_past}
use Rattle.pr_mem.proofs.gaps.move_past.Given as goal

abbrev pub invariant-loop-mapping : goal.invariant-loop-mapping
invariant-loop-mapping l =
    (moved_past l.size l.at (drop l.mapping-index l.mappings) ≡ moved_past l.size l.fn.at l.mappings)
    × (l.at ≤ stack_base)
