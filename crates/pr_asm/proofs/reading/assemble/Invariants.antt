use Rattle.std.proofs.Common.{◌≡◌, ◌+◌, drop}
use Rattle.pr_asm.specs.Assembly.{with_lines, assembled}
use Rattle.pr_asm.specs.Placing.{found}
use Rattle.pr_asm.proofs.reading.assemble.Given as goal

abbrev pub invariant-loop-i : goal.invariant-loop-i
invariant-loop-i l =
    with_lines (found l.places) (l.first + l.i) l.program (drop l.i l.reads) ≡ assembled l.fn.name l.first l.reads
