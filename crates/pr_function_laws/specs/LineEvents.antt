-- That the memory in a line of truss with calls of functions is that of the event of the line.
use Rattle.std.specs.Prelude.{◌≡◌, ◌++◌, ℕ, true, List, [], ◌∷◌, None, Some}
use Rattle.std.specs.List.{filter_map}
use Rattle.pr_line.specs.ArgumentTexts.{Came}
use Rattle.pr_line.specs.declared.options.Options.{Options}
use Rattle.pr_model.specs.Legal.{state_after}
use Rattle.pr_model.specs.Reads.{file_read}
use Rattle.pr_model.specs.Replies.{bytes_in}
use Rattle.pr_model.specs.State.{TracedProcess, TracedState, live_process}
use Rattle.pr_model.specs.declared.calls.File.TheVariants.{Mem}
use Rattle.pr_model.specs.declared.events.Entry.{Entry}
use Rattle.pr_rec.specs.declared.lwps.LwpStatus.{LwpStatus}
use Rattle.pr_report_laws.specs.Memories.{WasKilled, range_asked}
use Rattle.pr_report_laws.specs.Shown.{LwpEvent, event_reported, event_told}
use Rattle.pr_report_laws.specs.Watching.{watches}
use Rattle.pr_truss.specs.Stops.{text_of}
use Rattle.pr_truss.specs.Trusses.{first_truss}
use Rattle.pr_truss.specs.declared.reports.Report.{Report}
use Rattle.pr_truss.specs.declared.reports.Report.TheVariants as report
use Rattle.pr_truss_laws.specs.Exchanges.{exchanges}
use Rattle.pr_function_laws.specs.LineMoments.{HasSameMemory}
use Rattle.pr_function_laws.specs.LineTexts.{IsTextRead, WasReadLately}
use Rattle.pr_function_laws.specs.ListedEvents.{events_to_show, to_show_in}
use Rattle.pr_function_laws.specs.Opened.{functions_at}

-- ---- the state that the memory is of

-- Truss came to the text of a line behind a front of a history. It read the memory of the process, which lives then,
-- and has the memory that it had at a moment before, when it was this one; so the text is what stood there at that
-- moment. Or SIGKILL ended the process between that moment and the end of the front; then truss read nothing.
pub data IsTextSince (k : ℕ) (o : Options) (pid from len : ℕ) (s : TracedState) (h : List Entry)
    (reports : List Report) (text : Came) (moment : TracedState) (process : TracedProcess) (between front : List Entry)
    : Type 0 where
  read : (r : IsTextRead k o pid from len s h reports text) → r.before ≡ front → (later : TracedProcess)
      → live_process (state_after s front).system pid ≡ Some later
      → HasSameMemory pid moment (state_after s front) process later
      → text ≡ text_of len (bytes_in (file_read moment.system pid 0 from len Mem))
      → IsTextSince k o pid from len s h reports text moment process between front
  over : (r : IsTextRead k o pid from len s h reports text) → r.before ≡ front
      → live_process (state_after s front).system pid ≡ None → WasKilled pid moment between
      → IsTextSince k o pid from len s h reports text moment process between front

-- The memory of this report, which truss made after these reports, is that of its event. Truss came to the text behind
-- some entries of the history, and had read the event lately in them; it made no call since then, so that it planted
-- and lifted no breakpoint. The event came in an entry before that read, while truss watched the process; what truss
-- was to show of the process before that entry is just what it had reported of it. The text is as in IsTextSince, from
-- the state that the entry left, in which the process lives.
pub record IsOfItsEventIn (k : ℕ) (o : Options) (pid from len : ℕ) (s : TracedState) (h : List Entry)
    (reports : List Report) (l : LwpStatus) (text : Came) : Type 0 where
  pub front : List Entry
  pub later : List Entry
  pub is : h ≡ front ++ later
  pub event : LwpEvent
  pub told : event_told l ≡ Some event
  pub lately : WasReadLately k o pid s front event
  pub at_once : exchanges k lately.since ≡ []
  pub earlier : List Entry
  pub entry : Entry
  pub between : List Entry
  pub before : lately.before ≡ earlier ++ entry ∷ between
  pub watched : watches (functions_at k o earlier) pid ≡ true
  pub came : to_show_in (functions_at k o earlier) (state_after s earlier) pid entry ≡ event ∷ []
  pub in_order : events_to_show k pid (first_truss o) s earlier ≡ filter_map (event_reported pid) reports
  pub process : TracedProcess
  pub lives : live_process (state_after s (earlier ++ entry ∷ [])).system pid ≡ Some process
  pub stayed : IsTextSince k o pid from len s h reports text (state_after s (earlier ++ entry ∷ [])) process
      (between ++ lately.entry ∷ lately.since) front

-- The memory of each of these reports that is of an event of this process is that of its event.
pub record AreOfTheirEventsIn (k : ℕ) (o : Options) (pid : ℕ) (s : TracedState) (h : List Entry)
    (reports : List Report) : Type 0 where
  pub each : (earlier later : List Report) (l : LwpStatus) (text : Came) (from len : ℕ)
      → reports ≡ earlier ++ report.Event pid l text ∷ later → range_asked o l ≡ Some (from, len)
      → IsOfItsEventIn k o pid from len s h earlier l text
