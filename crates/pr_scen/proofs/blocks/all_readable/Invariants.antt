use Rattle.std.proofs.Common.{◌≡◌, ◌+◌, map, drop}
use Rattle.pr_scen.specs.Blocks.{all_readable}
use Rattle.pr_scen.proofs.blocks.all_readable.Given as goal

abbrev pub invariant-loop-i : goal.invariant-loop-i
invariant-loop-i l =
    all_readable (l.first + l.i) (map (λ line. line.now) (drop l.i l.lines))
    ≡ all_readable l.first (map (λ line. line.now) l.lines)
