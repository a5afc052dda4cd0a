-- What waits to be planted again: truss with calls of functions forgets none of it.
use Rattle.std.specs.Prelude.{◌≡◌, ◌≢◌, ◌<◌, ◌++◌, ℕ, Bool, true, false, List, ◌∷◌, Some, length, option_and_then, slice_get}
use Rattle.pr_line.specs.declared.events.Event.{Event}
use Rattle.pr_line.specs.declared.options.Options.{Options}
use Rattle.pr_model.specs.Replies.{bytes_in, handle_in}
use Rattle.pr_rec.specs.declared.lwps.LwpStatus.{LwpStatus}
use Rattle.pr_truss.specs.Asides.{marks_at}
use Rattle.pr_truss.specs.FunctionEvents.{fresh_event, function_event}
use Rattle.pr_truss.specs.NextCalls.{open_control}
use Rattle.pr_truss.specs.Records.{event_stops, status_lwp}
use Rattle.pr_truss.specs.Replies.{answer_of}
use Rattle.pr_truss.specs.Trusses.{TrussState, first_truss, traced_at}
use Rattle.pr_truss.specs.declared.asides.Aside.TheVariants.{Nothing}
use Rattle.pr_truss.specs.declared.function_events.FunctionEvent.{FunctionEvent}
use Rattle.pr_truss.specs.declared.function_events.FunctionEvent.TheVariants.{BeforeCopy, AfterCopy, Replaced}
use Rattle.pr_truss.specs.declared.replies.Answer.TheVariants.{Accepted}
use Rattle.pr_truss.specs.declared.stages.Stage.TheVariants.{ReadingLwps, ReadingStatus}
use Rattle.pr_truss_laws.specs.Exchanges.{Exchange, IsGranted}
use Rattle.pr_function_laws.specs.Runs.{functions_after}

-- an lwp is before or behind a call that copies or replaces the memory
abbrev pub is_of_copy : FunctionEvent → Bool
is_of_copy BeforeCopy = true
is_of_copy AfterCopy = true
is_of_copy Replaced = true
is_of_copy e = false

-- Truss reads the status of the process at a place, or, where it leaves its processes, the statuses of the lwps of the
-- first one; and this lwp is told: the one that the status shows, or the first of the lwps that stands on an event.
pub data ReadsLwpAt (t : TrussState) (x : Exchange) (place : ℕ) (l : LwpStatus) : Type 0 where
  of_status : t.stage ≡ ReadingStatus place → option_and_then status_lwp (bytes_in x.reply) ≡ Some l
      → ReadsLwpAt t x place l
  of_lwps : t.stage ≡ ReadingLwps → place ≡ 0 → slice_get (event_stops (bytes_in x.reply)) 0 ≡ Some l
      → ReadsLwpAt t x place l

-- In this exchange truss is told of an event of the process with this control file that it has not looked at, before or
-- behind a call that copies or replaces the memory.
pub record ReadsOfCopy (control : ℕ) (t : TrussState) (x : Exchange) : Type 0 where
  pub place : ℕ
  pub its : (traced_at t place).control ≡ control
  pub within : place < length t.traced
  pub idle : t.aside ≡ Nothing
  pub accepted : answer_of x.reply ≡ Accepted
  pub l : LwpStatus
  pub reads : ReadsLwpAt t x place l
  pub event : Event
  pub fresh : fresh_event (traced_at t place) l ≡ Some event
  pub of_copy : is_of_copy (function_event t.options (marks_at t place) l.id event) ≡ true

-- This exchange tells of no such event, and is no open of a control file that gives its handle to another.
pub record LeavesCopiesAlone (control : ℕ) (t : TrussState) (x : Exchange) : Type 0 where
  pub reads_none : ReadsOfCopy control t x → ⊥
  pub gives_none : (pid : ℕ) → x.call ≡ open_control pid → IsGranted x → handle_in x.reply ≢ control

-- Truss has the process at a place, and has no other with its control file.
pub record HasItsControlAlone (t : TrussState) (place : ℕ) : Type 0 where
  pub within : place < length t.traced
  pub alone : (other : ℕ) → other < length t.traced → (traced_at t other).control ≡ (traced_at t place).control
      → other ≡ place

-- What waits to be planted again in a process, waits: wherever truss has the process, and as long as it reads no event
-- of it that is before or behind a call that copies or replaces the memory, the same waits, whatever else truss reads,
-- plants, lifts and runs meanwhile, and also where it is interrupted and leaves its processes. So all that stood at the
-- entry of a fork waits until its exit is read, by `waits` of TreatsItsEvents; and by its `each` that is planted again
-- then. The process is told by its control file, for it comes to another place where one before it has ended.
pub record KeepsWhatWaits (o : Options) (xs : List Exchange) : Type 0 where
  pub each : (before between after : List Exchange) (place now : ℕ) → xs ≡ before ++ (between ++ after)
      → HasItsControlAlone (functions_after (first_truss o) before) place
      → ((early late : List Exchange) (x : Exchange) → between ≡ early ++ x ∷ late
      → LeavesCopiesAlone (traced_at (functions_after (first_truss o) before) place).control
      (functions_after (first_truss o) (before ++ early)) x)
      → now < length (functions_after (first_truss o) (before ++ between)).traced
      → (traced_at (functions_after (first_truss o) (before ++ between)) now).control
      ≡ (traced_at (functions_after (first_truss o) before) place).control
      → (marks_at (functions_after (first_truss o) (before ++ between)) now).lifted
      ≡ (marks_at (functions_after (first_truss o) before) place).lifted
