use Rattle.std.specs.Prelude.{◌≡◌, ◌⊎◌, ℕ, Bool, List, [], ◌∷◌, ◌++◌, Some, filter, slice_get}
use Rattle.pr_line.specs.Selections.{is_selected}
use Rattle.pr_line.specs.declared.events.Event.{Event}
use Rattle.pr_line.specs.declared.events.Event.TheVariants.{Entered, Left, Received, Incurred}
use Rattle.pr_line.specs.declared.options.Options.{Options}
use Rattle.pr_model.specs.Events.{Logged}
use Rattle.pr_model.specs.Legal.{after}
use Rattle.pr_model.specs.State.{TracedState}
use Rattle.pr_model.specs.declared.calls.File.TheVariants.{Lstatus, Status}
use Rattle.pr_model.specs.declared.events.Entry.{Entry}
use Rattle.pr_num.specs.Faults.{fault_number}
use Rattle.pr_num.specs.Sets.{has_number}
use Rattle.pr_num.specs.Signals.{signal_number}
use Rattle.pr_num.specs.Syscalls.{syscall_number}
use Rattle.pr_rec.specs.declared.lwps.LwpStatus.{LwpStatus}
use Rattle.pr_truss.specs.Messages.{traced_entries, traced_exits, traced_faults, traced_signals}
use Rattle.pr_truss.specs.Records.{event_stops, status_lwp}
use Rattle.pr_truss.specs.Trusses.{first_truss}
use Rattle.pr_truss_laws.specs.Exchanges.{truss_at}
use Rattle.pr_report_laws.specs.Attachments.{ReadsFile}
use Rattle.pr_report_laws.specs.Reported.{IsMissed}
use Rattle.pr_report_laws.specs.Shown.{LwpEvent, event_told, picked, shown}
use Rattle.pr_report_laws.specs.Watching.{events_watched}

-- What truss has read of a process: the events at which its reads showed an lwp of the process. What it reports of the
-- process is chosen from these, and they are what it traces of the process.

-- ---- traced

-- whether truss traces an event: whether its call, its signal or its fault is in the traced set of its kind
unfoldable pub traces : Options → Event → Bool
traces o (Entered call arguments) = has_number (traced_entries o) (syscall_number call)
traces o (Left call arguments result) = has_number (traced_exits o) (syscall_number call)
traces o (Received signal disposition info) = has_number (traced_signals o) (signal_number signal)
traces o (Incurred fault pc) = has_number (traced_faults o) (fault_number fault)

-- of logged events those that truss traces, of one process
abbrev pub traced : Options → ℕ → List Logged → List LwpEvent
traced o pid logged = picked (traces o) pid logged

-- ---- a read

-- In an entry truss read the status of a process, and the lwp that it tells of stands on this event.
pub record ReadsStatusOf (k pid : ℕ) (s : TracedState) (e : Entry) (event : LwpEvent) : Type 0 where
  pub read : ReadsFile k pid Status s e
  pub lwp : LwpStatus
  pub tells : status_lwp read.bytes ≡ Some lwp
  pub on : event_told lwp ≡ Some event

-- In an entry truss read the statuses of the lwps of a process, and the first of them that stands on an event stands on
-- this one.
pub record ReadsLwpsOf (k pid : ℕ) (s : TracedState) (e : Entry) (event : LwpEvent) : Type 0 where
  pub read : ReadsFile k pid Lstatus s e
  pub lwp : LwpStatus
  pub first : slice_get (event_stops (Some read.bytes)) 0 ≡ Some lwp
  pub on : event_told lwp ≡ Some event

pub data ReadsEvent (k pid : ℕ) (s : TracedState) (e : Entry) (event : LwpEvent) : Type 0 where
  by_status : ReadsStatusOf k pid s e event → ReadsEvent k pid s e event
  by_lwps : ReadsLwpsOf k pid s e event → ReadsEvent k pid s e event

-- Each of these events has an entry of its own among these, in this order, in which truss read it.
pub data AreRead (k pid : ℕ) : TracedState → List Entry → List LwpEvent → Type 0 where
  none : {s : TracedState} → AreRead k pid s [] []
  later : {s : TracedState} {e : Entry} {h : List Entry} {events : List LwpEvent} → AreRead k pid (after s e) h events
      → AreRead k pid s (e ∷ h) events
  now : {s : TracedState} {e : Entry} {h : List Entry} {event : LwpEvent} {events : List LwpEvent}
      → ReadsEvent k pid s e event → AreRead k pid (after s e) h events → AreRead k pid s (e ∷ h) (event ∷ events)

-- ---- what was read, and what is shown

-- whether the options select the event of an lwp
abbrev pub is_chosen_of : Options → LwpEvent → Bool
is_chosen_of o e = is_selected o e.event

-- What truss has read of a process: each event at which it found an lwp by a read of its own, in order. The events that
-- came while it watched the process, and that it traces, are just these, save perhaps the last one, where it is missed.
-- What it has shown of the process is just what it read and the options select.
pub record HasRead (k : ℕ) (o : Options) (pid : ℕ) (s : TracedState) (h : List Entry) : Type 0 where
  pub events : List LwpEvent
  pub read : AreRead k pid s h events
  pub missing : List LwpEvent
  pub came : traced o pid (events_watched k pid (first_truss o) s h) ≡ events ++ missing
  pub few : (missing ≡ []) ⊎ IsMissed (traces o) k o pid s h missing
  pub shows : shown pid (truss_at k o h) ≡ filter (is_chosen_of o) events
