use Rattle.pr_model.specs.FirstState.{first_state}
use Rattle.pr_model.specs.Lawful.{IsLawful}
use Rattle.pr_model.specs.Legal.{state_after}
use Rattle.pr_lending.specs.Lending.{AreLending}
use Rattle.pr_model.specs.State.{TracedState}
use Rattle.pr_lawful.proofs.LawfulStates.HistoryLemmas.{history-state}
use Rattle.pr_lawful.proofs.LawfulStates.StartLemmas.{first-lawful}
use Rattle.pr_lending.proofs.ShownSpaces.SpaceLemmas.{shown-alike}
use Rattle.pr_lending.proofs.LendingStates.HistoryLemmas.{history-lends}
use Rattle.pr_lending.proofs.LendingStates.StartLemmas.{first-lends}
use Rattle.pr_lending.proofs.spaces.lenders_show_the_space_of_their_borrowers.Goals as goal

pub returns : goal.returns
returns c = record {
  lawful = λ s a b p q lawful h it. shown-alike s lawful h a b p q it;
  reached = λ n programs files spawns h a b p q start legal it.
      let first : TracedState = first_state programs files spawns in
      let begins : IsLawful first = first-lawful programs files spawns start in
      let reached : TracedState = state_after first h in
      let lawful : IsLawful reached = history-state n first h begins legal in
      let lends : AreLending reached.system =
      history-lends n first h begins (first-lends programs files spawns) legal in
      shown-alike reached.system lawful.system lends a b p q it;
}
