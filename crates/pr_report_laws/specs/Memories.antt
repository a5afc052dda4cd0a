use Rattle.std.specs.Prelude.{◌≡◌, ◌⊎◌, ℕ, true, List, [], ◌∷◌, ◌++◌, Option, None, Some, option_and_then}
use Rattle.std.specs.List.{filter_map}
use Rattle.pr_api.specs.Entries.{call_entry}
use Rattle.pr_line.specs.ArgumentTexts.{Came}
use Rattle.pr_line.specs.Events.{event_of}
use Rattle.pr_line.specs.declared.options.Options.{Options}
use Rattle.pr_model.specs.Events.{events_of}
use Rattle.pr_model.specs.Handles.{handle_of}
use Rattle.pr_model.specs.Legal.{state_after}
use Rattle.pr_model.specs.Reads.{file_read}
use Rattle.pr_model.specs.Replies.{bytes_in}
use Rattle.pr_model.specs.State.{TracedProcess, TracedState, live_process, process_of}
use Rattle.pr_model.specs.declared.calls.Call.TheVariants.{Read}
use Rattle.pr_model.specs.declared.calls.File.TheVariants.{Mem}
use Rattle.pr_model.specs.declared.calls.Reply.{Reply}
use Rattle.pr_model.specs.declared.events.Entry.{Entry}
use Rattle.pr_model.specs.declared.handles.Held.{Held}
use Rattle.pr_num.specs.Signals.{signal_number}
use Rattle.pr_num.specs.declared.signals.Sig.TheVariants.{Kill}
use Rattle.pr_rec.specs.declared.lwps.LwpStatus.{LwpStatus}
use Rattle.pr_truss.specs.Stops.{asked_range, text_of}
use Rattle.pr_truss.specs.Trusses.{first_truss}
use Rattle.pr_truss.specs.declared.reports.Report.{Report}
use Rattle.pr_truss.specs.declared.reports.Report.TheVariants as report
use Rattle.pr_truss_laws.specs.Exchanges.{truss_at}
use Rattle.pr_report_laws.specs.Shown.{LwpEvent, event_reported, event_told, selected}
use Rattle.pr_report_laws.specs.Watching.{events_watched, watches}

-- The memory that stands in the line of an event is that of one state: of the one in which truss read it. Where truss
-- shows the selected events, that is the memory of the state right after the event.

-- the memory that the line of the event asks for that a status tells
abbrev pub range_asked : Options → LwpStatus → Option (ℕ × ℕ)
range_asked o l = option_and_then (asked_range o) (event_of l)

-- Truss read a range of the memory of a process in a history, when it had made just these reports, and this text is
-- what stands there in the state in which it did: none where the process has ended, or where the first byte is not
-- mapped.
pub record IsMemoryRead (k : ℕ) (o : Options) (pid from len : ℕ) (s : TracedState) (h : List Entry)
    (earlier : List Report) (text : Came) : Type 0 where
  pub before : List Entry
  pub handle : ℕ
  pub reply : Reply
  pub later : List Entry
  pub is : h ≡ before ++ call_entry k (Read handle from len) reply ∷ later
  pub reported : (truss_at k o before).reports ≡ earlier
  pub held : Held
  pub there : handle_of (state_after s before).opens k handle ≡ Some held
  pub of : held.pid ≡ pid
  pub file : held.file ≡ Mem
  pub stood : text ≡ text_of len (bytes_in (file_read (state_after s before).system pid 0 from len Mem))

-- The text that is reported with an event, after these reports, is the memory that its line asks for; an event whose
-- line asks for none has no text.
pub data IsTextOf (k : ℕ) (o : Options) (s : TracedState) (h : List Entry) (earlier : List Report) (pid : ℕ)
    (l : LwpStatus) (text : Came) : Type 0 where
  unasked : range_asked o l ≡ None → text ≡ None → IsTextOf k o s h earlier pid l text
  read : (from len : ℕ) → range_asked o l ≡ Some (from, len) → IsMemoryRead k o pid from len s h earlier text
      → IsTextOf k o s h earlier pid l text

-- the same of a report, where it is one of an event
abbrev pub HasItsText : ℕ → Options → TracedState → List Entry → List Report → Report → Type 0
HasItsText k o s h earlier (report.CannotStart program errno) = Unit {0}
HasItsText k o s h earlier (report.CannotTrace pid errno) = Unit {0}
HasItsText k o s h earlier (report.Event pid l text) = IsTextOf k o s h earlier pid l text
HasItsText k o s h earlier (report.Called pid lwp function arguments) = Unit {0}

-- Each of these reports has its text: what stands with an event was read when truss had made all reports before it and
-- no other.
pub record HaveTheirTexts (k : ℕ) (o : Options) (s : TracedState) (h : List Entry)
    (reports : List Report) : Type 0 where
  pub each : (earlier later : List Report) (x : Report) → reports ≡ earlier ++ x ∷ later → HasItsText k o s h earlier x

-- ---- the state that the memory is of

-- In an entry of these, from a state on, a process ended with SIGKILL as its wait status.
pub record WasKilled (pid : ℕ) (s : TracedState) (h : List Entry) : Type 0 where
  pub before : List Entry
  pub entry : Entry
  pub later : List Entry
  pub is : h ≡ before ++ entry ∷ later
  pub process : TracedProcess
  pub lived : live_process (state_after s before).system pid ≡ Some process
  pub over : live_process (state_after s (before ++ entry ∷ [])).system pid ≡ None
  pub zombie : TracedProcess
  pub left : process_of (state_after s (before ++ entry ∷ [])).system pid ≡ Some zombie
  pub status : zombie.ended ≡ Some (signal_number Kill)

-- The memory of this report, which truss made after these reports, is that of its event. Before truss read the memory
-- the event came in an entry of the history, while truss watched the process; what was selected before that entry is
-- just what truss had reported of the process when it read. The text is what stood in the memory of the process in the
-- state that the entry left, in which the process lives; or SIGKILL ended the process between the entry and the read.
pub record IsOfItsEvent (k : ℕ) (o : Options) (pid from len : ℕ) (s : TracedState) (h : List Entry)
    (reports : List Report) (l : LwpStatus) (text : Came) : Type 0 where
  pub read : IsMemoryRead k o pid from len s h reports text
  pub earlier : List Entry
  pub entry : Entry
  pub between : List Entry
  pub is : read.before ≡ earlier ++ entry ∷ between
  pub watched : watches (truss_at k o earlier) pid ≡ true
  pub event : LwpEvent
  pub told : event_told l ≡ Some event
  pub came : selected o pid (events_of (state_after s earlier) entry) ≡ event ∷ []
  pub in_order : selected o pid (events_watched k pid (first_truss o) s earlier)
      ≡ filter_map (event_reported pid) reports
  pub process : TracedProcess
  pub lives : live_process (state_after s (earlier ++ entry ∷ [])).system pid ≡ Some process
  pub stayed : (text ≡ text_of len
      (bytes_in (file_read (state_after s (earlier ++ entry ∷ [])).system pid 0 from len Mem)))
      ⊎ WasKilled pid (state_after s (earlier ++ entry ∷ [])) between

-- The memory of each of these reports that is of an event of this process is that of its event.
pub record AreOfTheirEvents (k : ℕ) (o : Options) (pid : ℕ) (s : TracedState) (h : List Entry)
    (reports : List Report) : Type 0 where
  pub each : (earlier later : List Report) (l : LwpStatus) (text : Came) (from len : ℕ)
      → reports ≡ earlier ++ report.Event pid l text ∷ later → range_asked o l ≡ Some (from, len)
      → IsOfItsEvent k o pid from len s h earlier l text
