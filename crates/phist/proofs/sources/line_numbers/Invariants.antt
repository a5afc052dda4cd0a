use Rattle.std.proofs.Common.{◌≡◌, ◌+◌, [], drop, map}
use Rattle.phist.specs.Sources.{code_from}
use Rattle.phist.specs.declared.sources.Block.TheVariants.{Outside}
use Rattle.phist.proofs.sources.line_numbers.Given as goal

-- the numbers so far, with those of the lines that are left, are all of them
abbrev pub invariant-loop-i : goal.invariant-loop-i
invariant-loop-i l =
    code_from (l.i + 1) l.block l.numbers.items (map (λ line. line.now) (drop l.i l.lines))
    ≡ code_from 1 Outside [] (map (λ line. line.now) l.lines)
