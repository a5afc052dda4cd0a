use Rattle.pr_keeps.proofs.RowLemmas.{owns-or-stops}
use Rattle.pr_keeps.proofs.turns.lenders_only_stop.Goals as goal

pub returns : goal.returns
returns c = owns-or-stops
