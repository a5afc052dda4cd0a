use Rattle.std.specs.Prelude.{◌≡◌, ◌⊎◌, ℕ, List, [], ◌∷◌, ◌++◌, Some}
use Rattle.std.specs.List.{filter_map}
use Rattle.pr_line.specs.ArgumentTexts.{Came}
use Rattle.pr_line.specs.declared.options.Options.{Options}
use Rattle.pr_model.specs.Events.{Logged, events_of}
use Rattle.pr_model.specs.Legal.{state_after}
use Rattle.pr_model.specs.Reads.{file_read}
use Rattle.pr_model.specs.Replies.{bytes_in}
use Rattle.pr_model.specs.State.{TracedProcess, TracedState, live_process}
use Rattle.pr_model.specs.declared.calls.File.TheVariants.{Mem}
use Rattle.pr_model.specs.declared.events.Entry.{Entry}
use Rattle.pr_rec.specs.declared.lwps.LwpStatus.{LwpStatus}
use Rattle.pr_truss.specs.Stops.{text_of}
use Rattle.pr_truss.specs.declared.reports.Report.{Report}
use Rattle.pr_truss.specs.declared.reports.Report.TheVariants as report
use Rattle.pr_report_laws.specs.Holds.{CameHeld, HasHold}
use Rattle.pr_report_laws.specs.Memories.{IsMemoryRead, WasKilled, range_asked}
use Rattle.pr_report_laws.specs.Shown.{LwpEvent, event_reported, event_told, selected}

-- The memory that stands in the line of an event is that of the state right after the event, which came while truss had
-- hold of the process.

-- The memory of this report, which truss made after these reports, is that of its event. Before truss read the memory
-- the event came in an entry of the history, while truss had hold of the process; what was selected in the hold before
-- that entry is just what truss had reported of the process when it read. The text is what stood in the memory of the
-- process in the state that the entry left, in which the process lives; or SIGKILL ended the process between the entry
-- and the read.
pub record StandsAtItsEvent (k : ℕ) (o : Options) (pid from len : ℕ) (s : TracedState) (h : List Entry)
    (reports : List Report) (l : LwpStatus) (text : Came) : Type 0 where
  pub read : IsMemoryRead k o pid from len s h reports text
  pub earlier : List Entry
  pub entry : Entry
  pub between : List Entry
  pub is : read.before ≡ earlier ++ entry ∷ between
  pub held : HasHold k o pid s earlier
  pub event : LwpEvent
  pub told : event_told l ≡ Some event
  pub came : selected o pid (events_of (state_after s earlier) entry) ≡ event ∷ []
  pub logged : List Logged
  pub since : CameHeld k o pid s earlier logged
  pub in_order : selected o pid logged ≡ filter_map (event_reported pid) reports
  pub process : TracedProcess
  pub lives : live_process (state_after s (earlier ++ entry ∷ [])).system pid ≡ Some process
  pub stayed : (text ≡ text_of len
      (bytes_in (file_read (state_after s (earlier ++ entry ∷ [])).system pid 0 from len Mem)))
      ⊎ WasKilled pid (state_after s (earlier ++ entry ∷ [])) between

-- The memory of each of these reports that is of an event of this process is that of its event.
pub record StandAtTheirEvents (k : ℕ) (o : Options) (pid : ℕ) (s : TracedState) (h : List Entry)
    (reports : List Report) : Type 0 where
  pub each : (earlier later : List Report) (l : LwpStatus) (text : Came) (from len : ℕ)
      → reports ≡ earlier ++ report.Event pid l text ∷ later → range_asked o l ≡ Some (from, len)
      → StandsAtItsEvent k o pid from len s h earlier l text
