use Rattle.std.specs.Prelude.{◌≡◌, ℕ, All, List, [], ◌∷◌, ◌++◌, Some}
use Rattle.pr_line.specs.declared.options.Options.{Options}
use Rattle.pr_model.specs.Events.{events_from}
use Rattle.pr_model.specs.Legal.{state_after}
use Rattle.pr_model.specs.State.{TracedState}
use Rattle.pr_model.specs.declared.events.Entry.{Entry}
use Rattle.pr_truss.specs.Trusses.{first_truss}
use Rattle.pr_truss_laws.specs.Exchanges.{Exchange, exchange_of}
use Rattle.pr_report_laws.specs.Attachments.{HasOpened}
use Rattle.pr_report_laws.specs.Grips.{GetsHold, HasItsWait, IsGrip, IsGripOfChild, IsOfOther, IsOpenedFrom, logged_of}
use Rattle.pr_report_laws.specs.Lineages.{IsLeftToTruss}
use Rattle.pr_report_laws.specs.Shown.{LwpEvent, selected}
use Rattle.pr_report_laws.specs.Watching.{events_watched}

-- How the grip of a process is the watch of it.

-- what is selected of a process in a history while truss watches it
abbrev pub watched_of : ℕ → Options → ℕ → TracedState → List Entry → List LwpEvent
watched_of k o pid s h = selected o pid (events_watched k pid (first_truss o) s h)

-- How truss grips a process in a history. It gets hold of the process once. Each opening of the process, as one that it
-- was given, has its wait; and from that wait on the process does nothing until the opening is complete. What is
-- selected of the process in the grip is what is selected of it in the whole history while truss watches it. Of the
-- child of a fork this is so where it is left to truss, as each process is that it descends from.
pub record HasGrips (k : ℕ) (o : Options) (pid : ℕ) (s : TracedState) (h : List Entry) : Type 0 where
  pub once : (before between later : List Entry) (e f : Entry) → h ≡ before ++ e ∷ (between ++ f ∷ later)
      → GetsHold k o pid before e → GetsHold k o pid (before ++ e ∷ between) f → ⊥
  pub waits : (before later : List Entry) (e : Entry) (last : Exchange) → h ≡ before ++ e ∷ later
      → exchange_of k e ≡ Some last → HasOpened k o pid (before ++ e ∷ []) → HasItsWait k o pid before e
  pub quiet : (before between later : List Entry) (waiting running : Entry)
      → h ≡ before ++ waiting ∷ (between ++ running ∷ later) → IsOpenedFrom k o pid before waiting between running
      → All (IsOfOther pid) (events_from (state_after s before) (waiting ∷ (between ++ running ∷ [])))
  pub watched : (before grip later : List Entry) → h ≡ before ++ (grip ++ later) → IsGrip k o pid s before grip later
      → logged_of o pid (state_after s before) grip ≡ watched_of k o pid s h
  pub born : (grip later : List Entry) → h ≡ grip ++ later → (g : IsGripOfChild k pid s grip later)
      → IsLeftToTruss k o pid s (g.before ++ g.running ∷ []) → logged_of o pid s grip ≡ watched_of k o pid s h
