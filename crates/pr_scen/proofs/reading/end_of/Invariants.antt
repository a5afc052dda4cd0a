use Rattle.std.proofs.Common.{◌≡◌, map, drop}
use Rattle.std.specs.List.{position_from}
use Rattle.pr_scen.specs.Lines.{is_end}
use Rattle.pr_scen.proofs.reading.end_of.Given as goal

abbrev pub invariant-loop-i : goal.invariant-loop-i
invariant-loop-i l =
    position_from is_end l.i (map (λ line. line.now) (drop l.i l.lines))
    ≡ position_from is_end 0 (map (λ line. line.now) l.lines)
