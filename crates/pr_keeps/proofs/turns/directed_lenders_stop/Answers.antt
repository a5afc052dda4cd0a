use Rattle.pr_keeps.proofs.RowLemmas.{directed-moves}
use Rattle.pr_keeps.proofs.turns.directed_lenders_stop.Goals as goal

pub returns : goal.returns
returns c = directed-moves
