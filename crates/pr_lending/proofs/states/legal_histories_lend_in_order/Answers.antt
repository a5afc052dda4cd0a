use Rattle.pr_model.specs.FirstState.{first_state}
use Rattle.pr_lawful.proofs.LawfulStates.StartLemmas.{first-lawful}
use Rattle.pr_lending.proofs.LendingStates.HistoryLemmas.{history-lends}
use Rattle.pr_lending.proofs.LendingStates.StartLemmas.{first-lends}
use Rattle.pr_lending.proofs.states.legal_histories_lend_in_order.Goals as goal

pub returns : goal.returns
returns c = record {
  later = history-lends;
  first = λ n programs files spawns h start.
      history-lends n (first_state programs files spawns) h (first-lawful programs files spawns start)
      (first-lends programs files spawns);
}
