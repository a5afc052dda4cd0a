use Rattle.std.specs.Prelude.{◌≡◌, ℕ, All, List, [], ◌∷◌, ◌++◌, Some}
use Rattle.pr_line.specs.declared.options.Options.{Options}
use Rattle.pr_model.specs.Events.{Logged, events_from}
use Rattle.pr_model.specs.Legal.{state_after}
use Rattle.pr_model.specs.State.{TracedState}
use Rattle.pr_model.specs.declared.events.Entry.{Entry}
use Rattle.pr_truss_laws.specs.Exchanges.{Exchange, exchange_of}
use Rattle.pr_report_laws.specs.Attachments.{HasOpened}
use Rattle.pr_report_laws.specs.Grips.{GetsHold, HasItsWait, IsGrip, IsGripOfChild, IsOfOther, IsOpenedFrom, logged_of}
use Rattle.pr_report_laws.specs.Holds.{CameHeld}
use Rattle.pr_report_laws.specs.Lineages.{IsLeftToTruss}
use Rattle.pr_report_laws.specs.Shown.{selected}

-- How truss gets hold of a process in a history. It gets hold of it once. Each opening of the process, as one that it
-- was given, has its wait; and from that wait on the process does nothing until truss has hold of it. So what is
-- selected of the process from the wait on, to where truss leaves it or to the end, is what is selected of it in the
-- hold. Of the child of a fork this is so of all that it has done, where it is left to truss, as each process is that
-- it descends from.
pub record HasOneGrip (k : ℕ) (o : Options) (pid : ℕ) (s : TracedState) (h : List Entry) : Type 0 where
  pub once : (before between later : List Entry) (e f : Entry) → h ≡ before ++ e ∷ (between ++ f ∷ later)
      → GetsHold k o pid before e → GetsHold k o pid (before ++ e ∷ between) f → ⊥
  pub waits : (before later : List Entry) (e : Entry) (last : Exchange) → h ≡ before ++ e ∷ later
      → exchange_of k e ≡ Some last → HasOpened k o pid (before ++ e ∷ []) → HasItsWait k o pid before e
  pub quiet : (before between later : List Entry) (waiting running : Entry)
      → h ≡ before ++ waiting ∷ (between ++ running ∷ later) → IsOpenedFrom k o pid before waiting between running
      → All (IsOfOther pid) (events_from (state_after s before) (waiting ∷ (between ++ running ∷ [])))
  pub held : (before grip later : List Entry) (logged : List Logged) → h ≡ before ++ (grip ++ later)
      → IsGrip k o pid s before grip later → CameHeld k o pid s h logged
      → logged_of o pid (state_after s before) grip ≡ selected o pid logged
  pub born : (grip later : List Entry) (logged : List Logged) → h ≡ grip ++ later
      → (g : IsGripOfChild k pid s grip later) → IsLeftToTruss k o pid s (g.before ++ g.running ∷ [])
      → CameHeld k o pid s h logged → logged_of o pid s grip ≡ selected o pid logged
