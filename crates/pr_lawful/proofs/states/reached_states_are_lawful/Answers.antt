use Rattle.pr_lawful.proofs.LawfulStates.HistoryLemmas.{history-state}
use Rattle.pr_lawful.proofs.LawfulStates.StartLemmas.{first-lawful}
use Rattle.pr_lawful.proofs.states.reached_states_are_lawful.Goals as goal

pub returns : goal.returns
returns c = record {
  later = history-state;
  first = λ n programs files spawns h start legal. history-state n _ h (first-lawful programs files spawns start) legal;
}
