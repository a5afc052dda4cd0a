use Rattle.std.proofs.Common.{◌≡◌, drop}
use Rattle.pr_model.specs.ShownBytes.{range_from}
use Rattle.pr_line.proofs.text_ranges.range_of.Given as goal

abbrev pub invariant-loop-i : goal.invariant-loop-i
invariant-loop-i l = range_from l.arguments l.size (drop l.i l.kinds) l.i ≡ range_from l.arguments l.size l.kinds 0
