use Rattle.pr_core.proofs.PieceLemmas.{AreTaken}
use Rattle.pr_core.proofs.pieces.pieces.Given as goal

abbrev pub invariant-loop-mapping : goal.invariant-loop-mapping
invariant-loop-mapping l = AreTaken l.maps l.bytes l.begin l.mapping-index l.at l.memory
