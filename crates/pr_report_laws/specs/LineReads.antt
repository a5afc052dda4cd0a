use Rattle.std.specs.Prelude.{◌≡◌, ℕ, List, [], ◌∷◌, ◌++◌, None, Some}
use Rattle.pr_line.specs.declared.options.Options.{Options}
use Rattle.pr_model.specs.Legal.{state_after}
use Rattle.pr_model.specs.State.{TracedState}
use Rattle.pr_model.specs.declared.calls.Call.TheVariants.{Read}
use Rattle.pr_model.specs.declared.calls.File.TheVariants.{Mem}
use Rattle.pr_model.specs.declared.calls.Reply.{Reply}
use Rattle.pr_model.specs.declared.events.Entry.{Entry}
use Rattle.pr_rec.specs.declared.lwps.LwpStatus.{LwpStatus}
use Rattle.pr_truss.specs.Reports.{all_reports}
use Rattle.pr_truss.specs.declared.reports.Report.{Report}
use Rattle.pr_truss.specs.declared.reports.Report.TheVariants as report
use Rattle.pr_truss_laws.specs.Exchanges.{exchange_of, exchanges, truss_at}
use Rattle.pr_report_laws.specs.Attachments.{HasFile}
use Rattle.pr_report_laws.specs.Memories.{range_asked}
use Rattle.pr_report_laws.specs.Reads.{ReadsEvent}
use Rattle.pr_report_laws.specs.Shown.{LwpEvent, event_told}

-- Truss reads memory for the line of an event alone.

-- The last call of truss in these entries read this event of a process.
pub record WasReadLast (k pid : ℕ) (first : TracedState) (h : List Entry) (event : LwpEvent) : Type 0 where
  pub before : List Entry
  pub entry : Entry
  pub since : List Entry
  pub is : h ≡ before ++ entry ∷ since
  pub reads : ReadsEvent k pid (state_after first before) entry event
  pub last : exchanges k since ≡ []

-- The last event that truss has reported is one of this process, and its line asks for this memory, which is still to
-- come. With its last call truss read that event, so that it has run nobody since.
pub record AwaitsMemory (k : ℕ) (o : Options) (pid from len : ℕ) (first : TracedState) (h : List Entry) : Type 0 where
  pub earlier : List Report
  pub lwp : LwpStatus
  pub last : all_reports (truss_at k o h) ≡ earlier ++ report.Event pid lwp None ∷ []
  pub asks : range_asked o lwp ≡ Some (from, len)
  pub event : LwpEvent
  pub tells : event_told lwp ≡ Some event
  pub read : WasReadLast k pid first h event

-- So it is wherever truss reads the memory of a process.
pub record ReadsForItsLines (k : ℕ) (o : Options) (first : TracedState) (h : List Entry) : Type 0 where
  pub each : (before later : List Entry) (e : Entry) (pid handle from len : ℕ) (reply : Reply) → h ≡ before ++ e ∷ later
      → exchange_of k e ≡ Some (record { call = Read handle from len; reply = reply })
      → HasFile k pid Mem handle (state_after first before) → AwaitsMemory k o pid from len first before
