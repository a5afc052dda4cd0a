-- What a truss that shows calls of functions shows of events in a history, and what it leaves.
use Rattle.std.specs.Prelude.{◌≡◌, ◌<◌, ◌++◌, ℕ, true, false, List, [], ◌∷◌, Some, length}
use Rattle.pr_line.specs.Selections.{is_selected}
use Rattle.pr_line.specs.declared.options.Options.{Options}
use Rattle.pr_model.specs.Legal.{state_after}
use Rattle.pr_model.specs.State.{TracedState}
use Rattle.pr_model.specs.declared.events.Entry.{Entry}
use Rattle.pr_report_laws.specs.Reads.{ReadsEvent, ReadsLwpsOf, ReadsStatusOf}
use Rattle.pr_report_laws.specs.Shown.{LwpEvent, shown}
use Rattle.pr_truss.specs.Trusses.{TrussState, traced_at}
use Rattle.pr_truss.specs.declared.stages.Stage.TheVariants.{ReadingLwps}
use Rattle.pr_truss_laws.specs.Exchanges.{Exchange, exchange_of}
use Rattle.pr_truss_laws.specs.Handles.{ClosesFreely}
use Rattle.pr_function_laws.specs.Opened.{functions_at}
use Rattle.pr_function_laws.specs.Ordinary.{TellsOfOwnFault}

-- ---- its events

-- In an entry truss shows one event more of a process.
pub record ShowsOneMore (k : ℕ) (o : Options) (pid : ℕ) (before : List Entry) (e : Entry) : Type 0 where
  pub event : LwpEvent
  pub is : shown pid (functions_at k o (before ++ e ∷ [])) ≡ shown pid (functions_at k o before) ++ event ∷ []

-- What truss is told in an entry, if it makes a call in it, is no fault of its own.
pub record ReadsNoOwnFault (k : ℕ) (t : TrussState) (e : Entry) : Type 0 where
  pub none : (x : Exchange) → exchange_of k e ≡ Some x → TellsOfOwnFault t x.reply → ⊥

-- What truss shows of a process in an entry: nothing new, or one event more, which it reads in this entry, the options
-- select, and is no fault of its own.
pub data ShowsInEntry (k : ℕ) (o : Options) (pid : ℕ) (first : TracedState) (before : List Entry) (e : Entry)
    : Type 0 where
  nothing_new : shown pid (functions_at k o (before ++ e ∷ [])) ≡ shown pid (functions_at k o before)
      → ShowsInEntry k o pid first before e
  one_more : (w : ShowsOneMore k o pid before e) → ReadsEvent k pid (state_after first before) e w.event
      → is_selected o w.event.event ≡ true → ReadsNoOwnFault k (functions_at k o before) e
      → ShowsInEntry k o pid first before e

-- So it is in each entry, of each process, whatever others do to it.
pub record ShowsWhatItReadsOf (k : ℕ) (o : Options) (first : TracedState) (h : List Entry) : Type 0 where
  pub each : (before later : List Entry) (e : Entry) (pid : ℕ) → h ≡ before ++ e ∷ later
      → ShowsInEntry k o pid first before e

-- Of no process that has this id truss counts stops that are left and stood before truss came.
abbrev pub HasNoOldLeft : ℕ → Options → ℕ → List Entry → Type 0
HasNoOldLeft k o pid before =
    (place : ℕ) → place < length (functions_at k o before).traced
    → (traced_at (functions_at k o before) place).pid ≡ pid → (traced_at (functions_at k o before) place).old ≡ 0

-- Truss looks at the lwps of a process that it leaves. No stop of it is left that stood before truss came, and truss
-- looked at none of its events since it ran the process last.
pub record LooksLast (t : TrussState) (pid : ℕ) : Type 0 where
  pub looks : t.stage ≡ ReadingLwps
  pub its : (traced_at t 0).pid ≡ pid
  pub none_old : (traced_at t 0).old ≡ 0
  pub unseen : (traced_at t 0).seen ≡ false

-- Then truss shows each event that it reads in the status of the process, or in the statuses of its lwps, the options
-- select, and is no fault of its own.
pub record ShowsWhatIsNewOf (k : ℕ) (o : Options) (first : TracedState) (h : List Entry) : Type 0 where
  pub each : (before later : List Entry) (e : Entry) (pid : ℕ) (event : LwpEvent) → h ≡ before ++ e ∷ later
      → HasNoOldLeft k o pid before → ReadsStatusOf k pid (state_after first before) e event
      → ReadsNoOwnFault k (functions_at k o before) e → is_selected o event.event ≡ true
      → (more : ShowsOneMore k o pid before e) × (more.event ≡ event)
  pub last : (before later : List Entry) (e : Entry) (pid : ℕ) (event : LwpEvent) → h ≡ before ++ e ∷ later
      → LooksLast (functions_at k o before) pid → ReadsLwpsOf k pid (state_after first before) e event
      → ReadsNoOwnFault k (functions_at k o before) e → is_selected o event.event ≡ true
      → (more : ShowsOneMore k o pid before e) × (more.event ≡ event)

-- ---- what it leaves

-- Wherever it has come to, it closes control files so that nobody has the process open for writing then; and where the
-- process lives and has PR_RLC without PR_KLC, nothing is traced in it any more, and none of its lwps stands. Of
-- breakpoints in its memory this says nothing.
pub record ClosesFreelyThroughout (k : ℕ) (first : TracedState) (h : List Entry) : Type 0 where
  pub each : (before later : List Entry) → h ≡ before ++ later → ClosesFreely k (state_after first before)
