use Rattle.pr_keeps.proofs.RowLemmas.{row-kind}
use Rattle.pr_keeps.proofs.turns.turns_are_rows.Goals as goal

pub returns : goal.returns
returns c = row-kind
