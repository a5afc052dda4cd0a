-- The next read of a process tells truss, which shows calls of functions, what event of the process came.
use Rattle.std.specs.Prelude.{◌≡◌, ◌<◌, ◌++◌, ℕ, true, All, List, [], ◌∷◌, length}
use Rattle.pr_line.specs.Selections.{is_selected}
use Rattle.pr_line.specs.declared.options.Options.{Options}
use Rattle.pr_model.specs.Events.{events_of}
use Rattle.pr_model.specs.Legal.{state_after}
use Rattle.pr_model.specs.State.{TracedState}
use Rattle.pr_model.specs.declared.events.Entry.{Entry}
use Rattle.pr_report_laws.specs.Reads.{ReadsStatusOf}
use Rattle.pr_report_laws.specs.Shown.{LwpEvent, picked}
use Rattle.pr_truss.specs.Trusses.{traced_at}
use Rattle.pr_truss_laws.specs.Exchanges.{Exchange, exchanges}
use Rattle.pr_function_laws.specs.Opened.{WasNotInterrupted, functions_at, is_opened}
use Rattle.pr_function_laws.specs.OrdinaryRuns.{HasNoOldLeft}
use Rattle.pr_function_laws.specs.ToldTurns.{IsReadAgain}

-- Truss has opened the process at a place whole and does not close its files; no stop of it is left that stood before
-- truss came; and truss has not been interrupted.
pub record HasWhole (k : ℕ) (o : Options) (front : List Entry) (place : ℕ) : Type 0 where
  pub calm : All WasNotInterrupted (exchanges k front)
  pub within : place < length (functions_at k o front).traced
  pub opened : is_opened (functions_at k o front).stage place ≡ true
  pub new : (traced_at (functions_at k o front) place).old ≡ 0

-- In the entry behind these an event of the process at a place came, which the options select; behind it and these
-- between truss reads the status of the process, which lives then. Between it has not read it, and was not interrupted.
pub record ComesAndIsRead (k : ℕ) (o : Options) (first : TracedState) (front : List Entry) (e : Entry)
    (between : List Entry) (again : Entry) (place : ℕ) (event : LwpEvent) : Type 0 where
  pub whole : HasWhole k o front place
  pub came : picked (is_selected o) (traced_at (functions_at k o front) place).pid
      (events_of (state_after first front) e) ≡ event ∷ []
  pub exchange : Exchange
  pub read : IsReadAgain k o first front place e between again exchange

-- Then that read tells of that event, of the lwp that met it; and no stop is left that stood before truss came. Nothing
-- is said of an event whose process has ended by that read.
pub record EventsAreRead (k : ℕ) (o : Options) (first : TracedState) (h : List Entry) : Type 0 where
  pub each : (front between later : List Entry) (e again : Entry) (place : ℕ) (event : LwpEvent)
      → h ≡ front ++ e ∷ (between ++ again ∷ later)
      → ComesAndIsRead k o first front e between again place event
      → ReadsStatusOf k (traced_at (functions_at k o front) place).pid (state_after first (front ++ e ∷ between)) again
      event
  pub new : (front between later : List Entry) (e again : Entry) (place : ℕ) (event : LwpEvent)
      → h ≡ front ++ e ∷ (between ++ again ∷ later)
      → ComesAndIsRead k o first front e between again place event
      → HasNoOldLeft k o (traced_at (functions_at k o front) place).pid (front ++ e ∷ between)
