use Rattle.std.proofs.Common.{◌≡◌, map, take}
use Rattle.pr_asm.specs.Statements.{statement_of}
use Rattle.pr_asm.proofs.reading.reads_of.Given as goal

abbrev pub invariant-loop-line : goal.invariant-loop-line
invariant-loop-line l = l.reads.items ≡ map statement_of (map (λ line. line.now) (take l.line-index l.lines))
