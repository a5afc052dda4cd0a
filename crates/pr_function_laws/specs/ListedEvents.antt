-- How far the events that truss with calls of functions has shown of a process are those that came while it watched it.
use Rattle.std.specs.Prelude.{◌≡◌, ◌≢◌, ◌<◌, ◌&&◌, ◌++◌, ℕ, Bool, true, false, not, Option, None, Some, List, All, [], ◌∷◌, is_some, length, if◌then◌else◌}
use Rattle.pr_line.specs.Selections.{is_selected}
use Rattle.pr_line.specs.declared.events.Event.{Event}
use Rattle.pr_line.specs.declared.events.Event.TheVariants.{Incurred}
use Rattle.pr_line.specs.declared.options.Options.{Options}
use Rattle.pr_model.specs.Events.{events_of}
use Rattle.pr_model.specs.Legal.{after, state_after}
use Rattle.pr_model.specs.State.{TracedProcess, TracedState, live_process}
use Rattle.pr_model.specs.declared.calls.File.TheVariants.{Lstatus, Status}
use Rattle.pr_model.specs.declared.events.Entry.{Entry}
use Rattle.pr_num.specs.declared.faults.Flt.TheVariants.{Bpt, Trace}
use Rattle.pr_report_laws.specs.Attachments.{ReadsFile}
use Rattle.pr_report_laws.specs.Memories.{WasKilled}
use Rattle.pr_report_laws.specs.Shown.{LwpEvent, picked, shown}
use Rattle.pr_report_laws.specs.Watching.{place_of, watches}
use Rattle.pr_truss.specs.Asides.{marks_at}
use Rattle.pr_truss.specs.FunctionCalls.{next_function_call_of}
use Rattle.pr_truss.specs.FunctionEvents.{function_at}
use Rattle.pr_truss.specs.Trusses.{TrussState, first_truss, traced_at}
use Rattle.pr_truss.specs.declared.marks.Marks.{Marks}
use Rattle.pr_truss_laws.specs.Exchanges.{exchange_of, exchanges}
use Rattle.pr_truss_laws.specs.Stills.{IsFrozen}
use Rattle.pr_function_laws.specs.Opened.{WasNotInterrupted, functions_at, is_opened}
use Rattle.pr_function_laws.specs.Runs.{functions_on}

-- ---- the events that it is to show

-- An event is a fault of truss's own, where it has these marks: FLTBPT at the address of a function whose breakpoint is
-- planted there, or lifted for the step over it; or FLTTRACE.
abbrev pub is_own_fault : Options → Marks → Event → Bool
is_own_fault o m (Incurred Bpt pc) = is_some (function_at o m pc)
is_own_fault o m (Incurred Trace pc) = true
is_own_fault o m e = false

-- what the options select, and is no such fault
abbrev pub is_to_show : Options → Marks → Event → Bool
is_to_show o m e = is_selected o e && not (is_own_fault o m e)

-- in a process that truss traces at this place
abbrev pub is_to_show_in : TrussState → Option ℕ → Event → Bool
is_to_show_in t None e = false
is_to_show_in t (Some place) e = is_to_show t.options (marks_at t place) e

-- The events of a process that come in an entry, and that truss is to show, which was this in the state before it: it
-- watches the process then.
abbrev pub to_show_in : TrussState → TracedState → ℕ → Entry → List LwpEvent
to_show_in t s pid e = if watches t pid then picked (is_to_show_in t (place_of t pid)) pid (events_of s e) else []

-- those of a history, each once and in their order, where truss was this in the state before it
unfoldable pub events_to_show : ℕ → ℕ → TrussState → TracedState → List Entry → List LwpEvent
events_to_show k pid t s [] = []
events_to_show k pid t s (e ∷ h) =
    to_show_in t s pid e ++ events_to_show k pid (functions_on t (exchange_of k e)) (after s e) h

-- ---- what it has shown of them

-- Until truss is interrupted: wherever it has opened the process whole, does not close its files, and counts stops of
-- it that are left and stood before it came, the process stands still, if it lives.
pub record IsStillWhileOld (k : ℕ) (o : Options) (first : TracedState) (h : List Entry) (pid : ℕ) : Type 0 where
  pub each : (before later : List Entry) (place : ℕ) (p : TracedProcess) → h ≡ before ++ later
      → All WasNotInterrupted (exchanges k before) → place < length (functions_at k o before).traced
      → (traced_at (functions_at k o before) place).pid ≡ pid
      → is_opened (functions_at k o before).stage place ≡ true → (traced_at (functions_at k o before) place).old ≢ 0
      → live_process (state_after first before).system pid ≡ Some p → IsFrozen p

-- The event came in an entry of a history, the only one of that entry that truss is to show, and truss had no answer
-- that told it: since then no read of the status of the process, or of the statuses of its lwps, gave truss bytes.
pub record ComesUnread (k : ℕ) (o : Options) (first : TracedState) (h : List Entry) (pid : ℕ) (event : LwpEvent)
    : Type 0 where
  pub before : List Entry
  pub entry : Entry
  pub later : List Entry
  pub is : h ≡ before ++ entry ∷ later
  pub came : to_show_in (functions_at k o before) (state_after first before) pid entry ≡ event ∷ []
  pub status : (between behind : List Entry) (e : Entry) → later ≡ between ++ e ∷ behind
      → ReadsFile k pid Status (state_after first (before ++ entry ∷ between)) e → ⊥
  pub lwps : (between behind : List Entry) (e : Entry) → later ≡ between ++ e ∷ behind
      → ReadsFile k pid Lstatus (state_after first (before ++ entry ∷ between)) e → ⊥

-- At most the last event is missing among those that were shown: truss has not read it yet, in a process that lives and
-- that it watches; or SIGKILL ended the process after the event.
pub data MayMiss (k : ℕ) (o : Options) (first : TracedState) (h : List Entry) (pid : ℕ) : List LwpEvent → Type 0 where
  none : MayMiss k o first h pid []
  unread : (event : LwpEvent) → ComesUnread k o first h pid event → watches (functions_at k o h) pid ≡ true
      → (p : TracedProcess) → live_process (state_after first h).system pid ≡ Some p
      → MayMiss k o first h pid (event ∷ [])
  ended : (event : LwpEvent) (w : ComesUnread k o first h pid event)
      → live_process (state_after first h).system pid ≡ None
      → WasKilled pid (state_after first (w.before ++ w.entry ∷ [])) w.later → MayMiss k o first h pid (event ∷ [])

-- The events of a process that truss has shown are those that came while it watched the process, that the options
-- select, and that are no faults of its own, each once and in their order, but for the last one at most. Once truss has
-- finished, one is missing only of a process that has ended; so none is unread then.
pub record ListsItsEvents (k : ℕ) (o : Options) (first : TracedState) (h : List Entry) (pid : ℕ) : Type 0 where
  pub missing : List LwpEvent
  pub are : events_to_show k pid (first_truss o) first h ≡ shown pid (functions_at k o h) ++ missing
  pub few : MayMiss k o first h pid missing
  pub at_last : next_function_call_of (functions_at k o h) ≡ None → missing ≢ []
      → live_process (state_after first h).system pid ≡ None
