use Rattle.std.specs.Prelude.{◌≡◌, ◌≢◌, ◌⊎◌, ℕ, List, [], ◌∷◌, ◌++◌, Some}
use Rattle.pr_line.specs.declared.options.Options.{Options}
use Rattle.pr_model.specs.Events.{Logged, events_from}
use Rattle.pr_model.specs.Legal.{state_after}
use Rattle.pr_model.specs.State.{TracedState}
use Rattle.pr_model.specs.declared.calls.Call.TheVariants.{CtlWait}
use Rattle.pr_model.specs.declared.calls.File.TheVariants.{Lstatus}
use Rattle.pr_model.specs.declared.events.Entry.{Entry}
use Rattle.pr_truss_laws.specs.Exchanges.{Exchange, exchange_of, exchanges}
use Rattle.pr_truss_laws.specs.Given.{IsWholeOpening}
use Rattle.pr_report_laws.specs.Attachments.{HasFollowed, HasOpened, ReadsFile, WasInterrupted}
use Rattle.pr_report_laws.specs.Shown.{LwpEvent, selected}

-- When truss has a process in its grip, by the entries of a history alone. The grip of a process that truss was given
-- begins with the wait for its stop. From then on the process does nothing, until the opening is complete and truss
-- watches it.

-- ---- the opening

-- In this entry truss gets hold of a process: its opening is complete with it, as one that truss was given or as the
-- child of a fork.
pub record GetsHold (k : ℕ) (o : Options) (pid : ℕ) (before : List Entry) (e : Entry) : Type 0 where
  pub last : Exchange
  pub own : exchange_of k e ≡ Some last
  pub complete : HasOpened k o pid (before ++ e ∷ []) ⊎ HasFollowed k pid (before ++ e ∷ [])

-- An opening of a process that is granted: its wait for the stop is answered in an entry, and in another one, after
-- those between, PCRUN is, which is its last call.
pub record IsOpenedFrom (k : ℕ) (o : Options) (pid : ℕ) (before : List Entry) (waiting : Entry)
    (between : List Entry) (running : Entry) : Type 0 where
  pub earlier : List Exchange
  pub begun : List Exchange
  pub wait : Exchange
  pub run : Exchange
  pub handle : ℕ
  pub until : ℕ
  pub bytes : List ℕ
  pub is : exchanges k before ≡ earlier ++ begun
  pub waits : exchange_of k waiting ≡ Some wait
  pub call : wait.call ≡ CtlWait handle until bytes
  pub runs : exchange_of k running ≡ Some run
  pub whole : IsWholeOpening o pid (begun ++ wait ∷ (exchanges k between ++ run ∷ []))

-- The opening that this entry completes has its wait in an earlier one.
pub record HasItsWait (k : ℕ) (o : Options) (pid : ℕ) (before : List Entry) (running : Entry) : Type 0 where
  pub front : List Entry
  pub waiting : Entry
  pub between : List Entry
  pub is : before ≡ front ++ waiting ∷ between
  pub opened : IsOpenedFrom k o pid front waiting between running

-- ---- the release

-- In this entry truss, which was interrupted before, leaves a process: it reads the statuses of its lwps.
pub record IsLeftIn (k pid : ℕ) (s : TracedState) (before : List Entry) (e : Entry) : Type 0 where
  pub interrupted : WasInterrupted k before
  pub reads : ReadsFile k pid Lstatus (state_after s before) e

-- After the entries before, in none of these does it leave the process.
pub record IsNotLeft (k pid : ℕ) (s : TracedState) (before h : List Entry) : Type 0 where
  pub none : (first rest : List Entry) (e : Entry) → h ≡ first ++ e ∷ rest → IsLeftIn k pid s (before ++ first) e → ⊥

-- No entries come later, or in the first of them truss leaves the process.
pub data EndsThere (k pid : ℕ) (s : TracedState) (before : List Entry) : List Entry → Type 0 where
  with_history : EndsThere k pid s before []
  left_in : (e : Entry) (later : List Entry) → IsLeftIn k pid s before e → EndsThere k pid s before (e ∷ later)

-- ---- the grip

-- Between these entries of a history the process is in the grip of truss: from the answered wait of an opening that is
-- granted, to the entry in which truss leaves the process, or to the end of the history. A process that ends meanwhile
-- does nothing any more.
pub record IsGrip (k : ℕ) (o : Options) (pid : ℕ) (s : TracedState) (before grip later : List Entry) : Type 0 where
  pub waiting : Entry
  pub between : List Entry
  pub running : Entry
  pub rest : List Entry
  pub is : grip ≡ waiting ∷ (between ++ running ∷ rest)
  pub opened : IsOpenedFrom k o pid before waiting between running
  pub kept : IsNotLeft k pid s (before ++ waiting ∷ (between ++ running ∷ [])) rest
  pub ends : EndsThere k pid s (before ++ grip) later

-- The same of the child of a fork. All that it has done in the history comes after the fork, so the grip of it is the
-- whole of these entries.
pub record IsGripOfChild (k pid : ℕ) (s : TracedState) (grip later : List Entry) : Type 0 where
  pub before : List Entry
  pub running : Entry
  pub rest : List Entry
  pub last : Exchange
  pub is : grip ≡ before ++ running ∷ rest
  pub runs : exchange_of k running ≡ Some last
  pub followed : HasFollowed k pid (before ++ running ∷ [])
  pub kept : IsNotLeft k pid s (before ++ running ∷ []) rest
  pub ends : EndsThere k pid s grip later

-- ---- what is logged

-- a logged event of another process
pub record IsOfOther (pid : ℕ) (l : Logged) : Type 0 where
  pub other : l.pid ≢ pid

-- what is selected of a process in these entries, from this state on
abbrev pub logged_of : Options → ℕ → TracedState → List Entry → List LwpEvent
logged_of o pid s h = selected o pid (events_from s h)
