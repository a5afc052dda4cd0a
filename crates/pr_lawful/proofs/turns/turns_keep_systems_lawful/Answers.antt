use Rattle.pr_lawful.proofs.LawfulTurns.TurnLemmas.{turn-lawful}
use Rattle.pr_lawful.proofs.turns.turns_keep_systems_lawful.Goals as goal

pub returns : goal.returns
returns c = turn-lawful
