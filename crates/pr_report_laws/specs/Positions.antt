use Rattle.std.specs.Prelude.{◌≡◌, ◌≢◌, ◌==◌, ℕ, suc, Bool, true, false, List, [], ◌∷◌, ◌++◌, Some, if◌then◌else◌}
use Rattle.pr_line.specs.Events.{event_of}
use Rattle.pr_line.specs.declared.events.Event.{Event}
use Rattle.pr_line.specs.declared.options.Options.{Options}
use Rattle.pr_model.specs.Events.{Logged}
use Rattle.pr_model.specs.Legal.{state_after}
use Rattle.pr_model.specs.State.{TracedLwp, TracedProcess, TracedState, live_process, lwp_of}
use Rattle.pr_model.specs.Statuses.{lwpstatus_of}
use Rattle.pr_model.specs.declared.events.Entry.{Entry}
use Rattle.pr_truss.specs.Trusses.{traced_at}
use Rattle.pr_truss.specs.declared.stages.AfterClosing.TheVariants.{RunParent}
use Rattle.pr_truss.specs.declared.stages.Stage.{Stage}
use Rattle.pr_truss.specs.declared.stages.Stage.TheVariants.{ReadingStatus, ReadingText, OpeningChildControl, OpeningChild, Running, Closing}
use Rattle.pr_truss_laws.specs.Exchanges.{truss_at}
use Rattle.pr_truss_laws.specs.Stills.{IsQuiet, StandsOnEvent, will_stop}
use Rattle.pr_report_laws.specs.AtBirth.{IsTracedBy, Waits, has_met}
use Rattle.pr_report_laws.specs.Holds.{CameHeld, HasHold}
use Rattle.pr_report_laws.specs.Reads.{AreRead, traced, traces}
use Rattle.pr_report_laws.specs.Shown.{LwpEvent}
use Rattle.pr_report_laws.specs.Watching.{place_of}

-- How a process stands with truss, between one entry of a history and the next: the invariant behind what truss shows.
-- At most one event of the process is unread, and from a stop that truss was told of to the PCRUN nothing of it moves.

-- ---- what came, and what truss was told of it

-- Which events are picked; those of them that came so far; and those that truss was told so far.
pub record Tally : Type 0 where
  pub picks : Event → Bool
  pub came : List LwpEvent
  pub told : List LwpEvent

-- truss was told all that came
abbrev pub IsWhole : Tally → Type 0
IsWhole y = y.came ≡ y.told

-- an event, if it is picked
abbrev pub if_in : (Event → Bool) → LwpEvent → List LwpEvent
if_in picks e = if picks e.event then e ∷ [] else []

-- an event of an lwp that truss is still to be told, if it is picked
abbrev pub unread : Tally → ℕ → Event → List LwpEvent
unread y id event = if_in y.picks (record { id = id; event = event })

-- ---- an event that stands

-- an lwp that will stop before it does anything, and stands on no event that it met
pub record IsHeld (l : TracedLwp) : Type 0 where
  pub stops : will_stop l ≡ true
  pub met_nothing : has_met l ≡ false

-- An lwp of a process stands on an event that its status tells, and each other one is held.
pub record HasEvent (p : TracedProcess) (id : ℕ) (event : Event) : Type 0 where
  pub lwp : TracedLwp
  pub there : lwp_of p id ≡ Some lwp
  pub stands : StandsOnEvent lwp
  pub tells : event_of (lwpstatus_of p id lwp) ≡ Some event
  pub others : (other : ℕ) (k : TracedLwp) → other ≢ id → lwp_of p other ≡ Some k → IsHeld k

-- ---- what truss has to do with a process at a place

-- truss has read the stop of the process, and has not run it yet
abbrev pub has_read : Stage → ℕ → Bool
has_read (ReadingText at lwp from len) place = at == place
has_read (OpeningChildControl parent child) place = parent == place
has_read (OpeningChild parent at step) place = parent == place
has_read (Running at) place = at == place
has_read (Closing at (RunParent parent)) place = parent == place
has_read _ place = false

-- a poll named the process
abbrev pub is_named : Stage → ℕ → Bool
is_named (ReadingStatus at) place = at == place
is_named _ place = false

-- How a live process stands that truss watches at a place, where it counts so many stops as old: those that stood
-- before it came, and that it has not run yet.
pub data Position (o : Options) (stage : Stage) (place old : ℕ) (p : TracedProcess)
    (tally : Tally) : Type 0 where
  -- Truss has read the stop, and runs the process next. Nothing of it moves until then, and truss was told all of it.
  stop_read : has_read stage place ≡ true → Waits p (suc old) → IsWhole tally → Position o stage place old p tally
  -- Old stops are left. Nothing of the process moves, and truss was told all of it.
  old_stops : (n : ℕ) → has_read stage place ≡ false → old ≡ suc n → Waits p (suc n) → IsWhole tally
      → Position o stage place old p tally
  -- No lwp of it stands on an event, and no poll has named it. Truss was told all of it.
  goes : has_read stage place ≡ false → is_named stage place ≡ false → old ≡ 0 → IsQuiet p → IsWhole tally
      → Position o stage place old p tally
  -- An lwp of it stands on an event that truss has not read yet, and that is all that truss was not told. Each other
  -- lwp will stop before it does anything; and once a poll has named the process nothing of it moves.
  has_event : (id : ℕ) (event : Event) → has_read stage place ≡ false → old ≡ 0 → HasEvent p id event
      → (is_named stage place ≡ true → Waits p 1) → tally.came ≡ tally.told ++ unread tally id event
      → Position o stage place old p tally

-- ---- after a history

-- How a live process stands after a history in which truss has hold of it. It is traced as the options ask, truss has
-- it at this place, and what it has read of the process are these events.
pub record StandsSo (k : ℕ) (o : Options) (pid : ℕ) (p : TracedProcess) (s : TracedState) (h : List Entry)
    : Type 0 where
  pub traced_so : IsTracedBy o p
  pub place : ℕ
  pub at : place_of (truss_at k o h) pid ≡ Some place
  pub events : List LwpEvent
  pub read : AreRead k pid s h events
  pub logged : List Logged
  pub held : CameHeld k o pid s h logged
  pub position : Position o (truss_at k o h).stage place (traced_at (truss_at k o h) place).old p
      (record { picks = traces o; came = traced o pid logged; told = events })

-- Wherever truss has hold of a process that lives, it stands so.
pub record StandsWithTruss (k : ℕ) (o : Options) (pid : ℕ) (s : TracedState) (h : List Entry) : Type 0 where
  pub each : (p : TracedProcess) → HasHold k o pid s h → live_process (state_after s h).system pid ≡ Some p
      → StandsSo k o pid p s h
