use Rattle.std.specs.Prelude.{◌≡◌, ◌⊎◌, ℕ, Bool, List, [], ◌∷◌, ◌++◌, Some, filter}
use Rattle.pr_line.specs.Selections.{is_selected}
use Rattle.pr_line.specs.declared.events.Event.{Event}
use Rattle.pr_line.specs.declared.options.Options.{Options}
use Rattle.pr_model.specs.Events.{Logged, events_of}
use Rattle.pr_model.specs.Legal.{state_after}
use Rattle.pr_model.specs.State.{TracedProcess, TracedState, live_process, process_of}
use Rattle.pr_model.specs.declared.calls.File.TheVariants.{Lstatus, Status}
use Rattle.pr_model.specs.declared.events.Entry.{Entry}
use Rattle.pr_num.specs.Signals.{signal_number}
use Rattle.pr_num.specs.declared.signals.Sig.TheVariants.{Kill}
use Rattle.pr_truss_laws.specs.Exchanges.{truss_at}
use Rattle.pr_report_laws.specs.Attachments.{ReadsFile}
use Rattle.pr_report_laws.specs.Holds.{CameHeld, HasHold}
use Rattle.pr_report_laws.specs.Reads.{AreRead, is_chosen_of, traced, traces}
use Rattle.pr_report_laws.specs.Shown.{LwpEvent, picked, selected, shown}

-- What truss has read and shown of a process is what came of it while truss had hold of it.

-- ---- what may be missing

-- A process ended in an entry of a history, with SIGKILL as its wait status, while truss had hold of it.
pub record DiedHeld (k : ℕ) (o : Options) (pid : ℕ) (s : TracedState) (h : List Entry) : Type 0 where
  pub before : List Entry
  pub entry : Entry
  pub later : List Entry
  pub is : h ≡ before ++ entry ∷ later
  pub held : HasHold k o pid s before
  pub process : TracedProcess
  pub lived : live_process (state_after s before).system pid ≡ Some process
  pub zombie : TracedProcess
  pub left : process_of (state_after s (before ++ entry ∷ [])).system pid ≡ Some zombie
  pub status : zombie.ended ≡ Some (signal_number Kill)

-- An event of which truss had no answer: it was the only one of those that are picked in the entry in which it came,
-- while truss had hold of the process, and since then no read of the status of the process, or of the statuses of its
-- lwps, gave truss bytes.
pub record IsUnanswered (picks : Event → Bool) (k : ℕ) (o : Options) (pid : ℕ) (s : TracedState) (h : List Entry)
    (event : LwpEvent) : Type 0 where
  pub before : List Entry
  pub entry : Entry
  pub later : List Entry
  pub is : h ≡ before ++ entry ∷ later
  pub held : HasHold k o pid s before
  pub came : picked picks pid (events_of (state_after s before) entry) ≡ event ∷ []
  pub status : (between behind : List Entry) (e : Entry) → later ≡ between ++ e ∷ behind
      → ReadsFile k pid Status (state_after s (before ++ entry ∷ between)) e → ⊥
  pub lwps : (between behind : List Entry) (e : Entry) → later ≡ between ++ e ∷ behind
      → ReadsFile k pid Lstatus (state_after s (before ++ entry ∷ between)) e → ⊥

-- Why one of the events that are picked is missing: truss has hold of the process still, or SIGKILL ended the process
-- while truss had hold of it; and truss had no answer that told it.
pub record IsLacking (picks : Event → Bool) (k : ℕ) (o : Options) (pid : ℕ) (s : TracedState) (h : List Entry)
    (missing : List LwpEvent) : Type 0 where
  pub event : LwpEvent
  pub one : missing ≡ event ∷ []
  pub cause : HasHold k o pid s h ⊎ DiedHeld k o pid s h
  pub unread : IsUnanswered picks k o pid s h event

-- ---- what was shown

-- What was selected of what came in the hold was shown, each event once and in order, and nothing else was; save
-- perhaps the last event, where it is lacking.
pub record ShowsHeld (k : ℕ) (o : Options) (pid : ℕ) (s : TracedState) (h : List Entry) : Type 0 where
  pub logged : List Logged
  pub held : CameHeld k o pid s h logged
  pub missing : List LwpEvent
  pub is : selected o pid logged ≡ shown pid (truss_at k o h) ++ missing
  pub few : (missing ≡ []) ⊎ IsLacking (is_selected o) k o pid s h missing

-- ---- what was read

-- What truss has read of a process: each event at which it found an lwp by a read of its own, in order. What came in
-- the hold, and is traced, is just this, save perhaps the last event, where it is lacking. What was shown of the
-- process is just what was read and the options select.
pub record ReadsHeld (k : ℕ) (o : Options) (pid : ℕ) (s : TracedState) (h : List Entry) : Type 0 where
  pub events : List LwpEvent
  pub read : AreRead k pid s h events
  pub logged : List Logged
  pub held : CameHeld k o pid s h logged
  pub missing : List LwpEvent
  pub came : traced o pid logged ≡ events ++ missing
  pub few : (missing ≡ []) ⊎ IsLacking (traces o) k o pid s h missing
  pub shows : shown pid (truss_at k o h) ≡ filter (is_chosen_of o) events
