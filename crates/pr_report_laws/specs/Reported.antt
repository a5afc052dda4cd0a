use Rattle.std.specs.Prelude.{◌≡◌, ◌⊎◌, ℕ, Bool, true, List, [], ◌∷◌, ◌++◌, Some}
use Rattle.pr_line.specs.Selections.{is_selected}
use Rattle.pr_line.specs.declared.events.Event.{Event}
use Rattle.pr_line.specs.declared.options.Options.{Options}
use Rattle.pr_model.specs.Events.{events_of}
use Rattle.pr_model.specs.Legal.{state_after}
use Rattle.pr_model.specs.State.{TracedProcess, TracedState, live_process, process_of}
use Rattle.pr_model.specs.declared.calls.File.TheVariants.{Lstatus, Status}
use Rattle.pr_model.specs.declared.events.Entry.{Entry}
use Rattle.pr_num.specs.Signals.{signal_number}
use Rattle.pr_num.specs.declared.signals.Sig.TheVariants.{Kill}
use Rattle.pr_truss.specs.Trusses.{TrussState, first_truss}
use Rattle.pr_truss_laws.specs.Exchanges.{exchanges, truss_after, truss_at}
use Rattle.pr_report_laws.specs.Attachments.{ReadsFile}
use Rattle.pr_report_laws.specs.Shown.{LwpEvent, picked, selected, shown}
use Rattle.pr_report_laws.specs.Watching.{events_watched, watches}

-- What truss has shown of a process is what was selected of its events while truss watched it.

-- A process ended in an entry of a history, with SIGKILL as its wait status, while truss watched it.
pub record IsKilled (k pid : ℕ) (t : TrussState) (s : TracedState) (h : List Entry) : Type 0 where
  pub before : List Entry
  pub entry : Entry
  pub later : List Entry
  pub is : h ≡ before ++ entry ∷ later
  pub watched : watches (truss_after t (exchanges k before)) pid ≡ true
  pub process : TracedProcess
  pub lived : live_process (state_after s before).system pid ≡ Some process
  pub zombie : TracedProcess
  pub left : process_of (state_after s (before ++ entry ∷ [])).system pid ≡ Some zombie
  pub status : zombie.ended ≡ Some (signal_number Kill)

-- An event of a process of which truss had no answer: it was the only one of those that are picked in the entry in
-- which it came, while truss watched the process, and since then no read of the status of the process, or of the
-- statuses of its lwps, gave truss bytes.
pub record IsUnread (picks : Event → Bool) (k : ℕ) (o : Options) (pid : ℕ) (s : TracedState) (h : List Entry)
    (event : LwpEvent) : Type 0 where
  pub before : List Entry
  pub entry : Entry
  pub later : List Entry
  pub is : h ≡ before ++ entry ∷ later
  pub watched : watches (truss_at k o before) pid ≡ true
  pub came : picked picks pid (events_of (state_after s before) entry) ≡ event ∷ []
  pub status : (between behind : List Entry) (e : Entry) → later ≡ between ++ e ∷ behind
      → ReadsFile k pid Status (state_after s (before ++ entry ∷ between)) e → ⊥
  pub lwps : (between behind : List Entry) (e : Entry) → later ≡ between ++ e ∷ behind
      → ReadsFile k pid Lstatus (state_after s (before ++ entry ∷ between)) e → ⊥

-- Why one of the events that are picked is missing: truss still watches the process, or SIGKILL ended the process while
-- truss watched it; and truss had no answer that told it.
pub record IsMissed (picks : Event → Bool) (k : ℕ) (o : Options) (pid : ℕ) (s : TracedState) (h : List Entry)
    (missing : List LwpEvent) : Type 0 where
  pub event : LwpEvent
  pub one : missing ≡ event ∷ []
  pub cause : (watches (truss_at k o h) pid ≡ true) ⊎ IsKilled k pid (first_truss o) s h
  pub unread : IsUnread picks k o pid s h event

-- What was selected while truss watched the process was shown, each event once and in order, and nothing else was; save
-- perhaps the last event, where it is missed.
pub record IsReported (k : ℕ) (o : Options) (pid : ℕ) (s : TracedState) (h : List Entry) : Type 0 where
  pub missing : List LwpEvent
  pub is : selected o pid (events_watched k pid (first_truss o) s h) ≡ shown pid (truss_at k o h) ++ missing
  pub few : (missing ≡ []) ⊎ IsMissed (is_selected o) k o pid s h missing
