use Rattle.std.proofs.Common.{ℕ, List}
use Rattle.pr_keeps.proofs.KeptHistories.{AnyEntry, KeepsEach, any-entries, history-keeps}
use Rattle.pr_model.specs.Lawful.{IsLawful}
use Rattle.pr_model.specs.Legal.{IsLegal, state_after}
use Rattle.pr_lending.specs.Lending.{AreLending}
use Rattle.pr_model.specs.State.{TracedState}
use Rattle.pr_model.specs.declared.events.Entry.{Entry}
use Rattle.pr_lawful.proofs.LawfulStates.HistoryLemmas.{entry-state}
use Rattle.pr_lending.proofs.LendingStates.CallLemmas.{edited-lends, tick-lends}
use Rattle.pr_lending.proofs.LendingTurns.TurnLemmas.{turn-lends}

-- Memory is lent in order in every state of a legal history from a lawful one where it is.

each-lends : (n : ℕ) → KeepsEach n IsLawful AnyEntry (λ s. AreLending s.system)
each-lends n = record {
  call = λ s by c r t lawful such e h. edited-lends s by c t lawful.system h e;
  turn = λ s pid id t lawful such turn h. turn-lends s.system pid id t lawful.system h turn;
  tick = λ s lawful below h. tick-lends s.system h;
}

pub history-lends : (n : ℕ) (s : TracedState) (h : List Entry) → IsLawful s → AreLending s.system → IsLegal n s h
    → AreLending (state_after s h).system
history-lends n s h lawful lending legal =
    history-keeps n IsLawful AnyEntry (λ t. AreLending t.system) (each-lends n) (entry-state n) s h lawful
    (any-entries h) legal lending
