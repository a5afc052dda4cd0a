-- At most one event of a process is unread, and from the poll that names the process to its PCRUN nothing of it moves,
-- nor from the last look at it to the close of its control file.
use Rattle.std.specs.Prelude.{◌≡◌, ◌≢◌, ◌<◌, ◌==◌, ◌++◌, ℕ, Bool, true, false, All, List, None, Some, length}
use Rattle.pr_line.specs.declared.options.Options.{Options}
use Rattle.pr_model.specs.Legal.{state_after}
use Rattle.pr_model.specs.State.{TracedLwp, TracedProcess, TracedState, live_process, lwp_of}
use Rattle.pr_model.specs.declared.events.Entry.{Entry}
use Rattle.pr_model.specs.declared.stops.Stop.TheVariants.{Faulted}
use Rattle.pr_num.specs.declared.faults.Flt.{Flt}
use Rattle.pr_report_laws.specs.AtBirth.{has_met}
use Rattle.pr_report_laws.specs.Positions.{IsHeld}
use Rattle.pr_report_laws.specs.Watching.{is_away}
use Rattle.pr_truss.specs.Trusses.{traced_at}
use Rattle.pr_truss.specs.declared.stages.Stage.{Stage}
use Rattle.pr_truss.specs.declared.stages.Stage.TheVariants.{ReadingStatus, ReadingText, Running}
use Rattle.pr_truss_laws.specs.Exchanges.{exchanges}
use Rattle.pr_truss_laws.specs.Stills.{IsFrozen, StandsOnEvent}
use Rattle.pr_function_laws.specs.Opened.{WasNotInterrupted, functions_at, is_opened}

-- ---- the events of a process

-- no lwp of a process stands on an event that it met
abbrev pub HasMetNothing : TracedProcess → Type 0
HasMetNothing p = (id : ℕ) (l : TracedLwp) → lwp_of p id ≡ Some l → has_met l ≡ false

-- an lwp that a fault stopped, if one did, is not suspended
abbrev pub IsAwakeAtFault : TracedLwp → Type 0
IsAwakeAtFault l = (f : Flt) → l.control.stop ≡ Some (Faulted f) → l.suspended ≡ false

-- An lwp of a process stands on an event that it met, and each other one is held: it met nothing, and will stop before
-- it does anything. Where that event is a fault, the lwp is not suspended, and the process has lent its memory to
-- nobody.
pub record HasMetAlone (p : TracedProcess) (id : ℕ) : Type 0 where
  pub lwp : TracedLwp
  pub there : lwp_of p id ≡ Some lwp
  pub stands : StandsOnEvent lwp
  pub awake : IsAwakeAtFault lwp
  pub not_lent : (f : Flt) → lwp.control.stop ≡ Some (Faulted f) → p.borrower ≡ None
  pub others : (other : ℕ) (k : TracedLwp) → other ≢ id → lwp_of p other ≡ Some k → IsHeld k

-- at most one lwp of a process stands on an event that it met, and then each other one is held
pub data HasOneEventAtMost (p : TracedProcess) : Type 0 where
  unmet : HasMetNothing p → HasOneEventAtMost p
  met : (id : ℕ) → HasMetAlone p id → HasOneEventAtMost p

-- ---- along a history

-- whether truss looks at a stop of the process at a place, which a poll named, until it runs the process
abbrev pub is_looked_at : Stage → ℕ → Bool
is_looked_at (ReadingStatus at) place = at == place
is_looked_at (ReadingText at l from len) place = at == place
is_looked_at (Running at) place = at == place
is_looked_at _ place = false

-- So it is of each process that lives, from the end of its opening on, until truss is interrupted or closes its files.
-- Of the stops that stood before truss came truss counts each, and runs it by itself: while some are left, and while
-- the last one is run, more than one lwp may stand on an event. Once truss was interrupted so it is of each process
-- that was attached until truss has looked at it for the last time; from then on, until truss closes its control file,
-- nothing of it moves.
pub record HasOneEventEach (k : ℕ) (o : Options) (first : TracedState) (h : List Entry) : Type 0 where
  pub few : (before later : List Entry) (place : ℕ) (p : TracedProcess) → h ≡ before ++ later
      → All WasNotInterrupted (exchanges k before) → place < length (functions_at k o before).traced
      → is_opened (functions_at k o before).stage place ≡ true → (functions_at k o before).stage ≢ Running place
      → (traced_at (functions_at k o before) place).old ≡ 0
      → live_process (state_after first before).system (traced_at (functions_at k o before) place).pid ≡ Some p
      → HasOneEventAtMost p
  pub still : (before later : List Entry) (place : ℕ) (p : TracedProcess) → h ≡ before ++ later
      → All WasNotInterrupted (exchanges k before) → is_looked_at (functions_at k o before).stage place ≡ true
      → live_process (state_after first before).system (traced_at (functions_at k o before) place).pid ≡ Some p
      → IsFrozen p
  pub left : (before later : List Entry) (place : ℕ) (p : TracedProcess) → h ≡ before ++ later
      → (functions_at k o before).leaving ≡ true → place < length (functions_at k o before).traced
      → (traced_at (functions_at k o before) place).attached ≡ true
      → is_away true (functions_at k o before).stage place ≡ false
      → (traced_at (functions_at k o before) place).old ≡ 0
      → live_process (state_after first before).system (traced_at (functions_at k o before) place).pid ≡ Some p
      → HasOneEventAtMost p
  pub looked_last : (before later : List Entry) (place : ℕ) (p : TracedProcess) → h ≡ before ++ later
      → (functions_at k o before).leaving ≡ true → place < length (functions_at k o before).traced
      → (traced_at (functions_at k o before) place).attached ≡ true
      → is_away true (functions_at k o before).stage place ≡ true
      → live_process (state_after first before).system (traced_at (functions_at k o before) place).pid ≡ Some p
      → IsFrozen p
