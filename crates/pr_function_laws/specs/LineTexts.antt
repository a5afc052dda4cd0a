-- For what truss with calls of functions reads memory, and what stands in its lines.
use Rattle.std.specs.Prelude.{◌≡◌, ◌++◌, ℕ, All, List, [], ◌∷◌, None, Some}
use Rattle.pr_line.specs.ArgumentTexts.{Came}
use Rattle.pr_line.specs.declared.options.Options.{Options}
use Rattle.pr_model.specs.Legal.{state_after}
use Rattle.pr_model.specs.Reads.{file_read}
use Rattle.pr_model.specs.Replies.{bytes_in}
use Rattle.pr_model.specs.State.{TracedState}
use Rattle.pr_model.specs.declared.calls.Call.TheVariants as call
use Rattle.pr_model.specs.declared.calls.File.TheVariants.{Ctl, Mem}
use Rattle.pr_model.specs.declared.calls.Reply.{Reply}
use Rattle.pr_model.specs.declared.events.Entry.{Entry}
use Rattle.pr_rec.specs.declared.lwps.LwpStatus.{LwpStatus}
use Rattle.pr_report_laws.specs.Attachments.{HasFile}
use Rattle.pr_report_laws.specs.Holds.{IsToldOfEnd}
use Rattle.pr_report_laws.specs.Memories.{range_asked}
use Rattle.pr_report_laws.specs.Reads.{ReadsEvent}
use Rattle.pr_report_laws.specs.Shown.{LwpEvent, event_told}
use Rattle.pr_truss.specs.Reports.{all_reports}
use Rattle.pr_truss.specs.Stops.{text_of}
use Rattle.pr_truss.specs.declared.reports.Report.{Report}
use Rattle.pr_truss.specs.declared.reports.Report.TheVariants as report
use Rattle.pr_truss_laws.specs.Exchanges.{Exchange, exchange_of, exchanges}
use Rattle.pr_function_laws.specs.Opened.{functions_at}
use Rattle.pr_function_laws.specs.Ordinary.{PlantsLater, ordinary_among}

-- ---- for what it reads

-- PCWRITE by this control file of a breakpoint, or of the first instruction of a function
pub record IsPatch (o : Options) (control : ℕ) (x : Exchange) : Type 0 where
  pub patches : PlantsLater o control x.call

-- Truss read this event of a process in one of these entries. By each call of it since then it planted or lifted a
-- breakpoint in that process; so it has run nobody since.
pub record WasReadLately (k : ℕ) (o : Options) (pid : ℕ) (first : TracedState) (h : List Entry) (event : LwpEvent)
    : Type 0 where
  pub before : List Entry
  pub entry : Entry
  pub since : List Entry
  pub is : h ≡ before ++ entry ∷ since
  pub reads : ReadsEvent k pid (state_after first before) entry event
  pub control : ℕ
  pub has : HasFile k pid Ctl control (state_after first h)
  pub patches : All (IsPatch o control) (exchanges k since)

-- The last event that truss has reported is one of this process, and its line asks for this memory, which is still to
-- come. Truss read that event lately.
pub record AwaitsText (k : ℕ) (o : Options) (pid from len : ℕ) (first : TracedState) (h : List Entry) : Type 0 where
  pub earlier : List Report
  pub lwp : LwpStatus
  pub last : all_reports (functions_at k o h) ≡ earlier ++ report.Event pid lwp None ∷ []
  pub asks : range_asked o lwp ≡ Some (from, len)
  pub event : LwpEvent
  pub tells : event_told lwp ≡ Some event
  pub read : WasReadLately k o pid first h event

-- So it is wherever truss reads the memory file of a process. The code of functions it reads by messages, and not so.
pub record ReadsForItsLinesOf (k : ℕ) (o : Options) (first : TracedState) (h : List Entry) : Type 0 where
  pub each : (before later : List Entry) (e : Entry) (pid handle from len : ℕ) (reply : Reply)
      → h ≡ before ++ e ∷ later
      → exchange_of k e ≡ Some (record { call = call.Read handle from len; reply = reply })
      → HasFile k pid Mem handle (state_after first before) → AwaitsText k o pid from len first before

-- And then truss has made no call since it read that event; so it has planted and lifted no breakpoint.
pub record ReadsAtOnceOf (k : ℕ) (o : Options) (first : TracedState) (h : List Entry) : Type 0 where
  pub each : (before later : List Entry) (e : Entry) (pid handle from len : ℕ) (reply : Reply)
      → h ≡ before ++ e ∷ later
      → exchange_of k e ≡ Some (record { call = call.Read handle from len; reply = reply })
      → HasFile k pid Mem handle (state_after first before) → (w : AwaitsText k o pid from len first before)
      → exchanges k w.read.since ≡ []

-- ---- what stands in its lines

-- Truss read a range of the memory of a process in a history, when it had made just these reports beside those of
-- calls. This text is what stands there in the state in which it did, with the breakpoints that stand there then: none
-- where the process has ended, or where the first byte is not mapped.
pub record IsTextRead (k : ℕ) (o : Options) (pid from len : ℕ) (s : TracedState) (h : List Entry)
    (earlier : List Report) (text : Came) : Type 0 where
  pub before : List Entry
  pub entry : Entry
  pub later : List Entry
  pub is : h ≡ before ++ entry ∷ later
  pub handle : ℕ
  pub reply : Reply
  pub reads : exchange_of k entry ≡ Some (record { call = call.Read handle from len; reply = reply })
  pub reported : ordinary_among (functions_at k o before).reports ≡ earlier
  pub has : HasFile k pid Mem handle (state_after s before)
  pub stood : text ≡ text_of len (bytes_in (file_read (state_after s before).system pid 0 from len Mem))

-- A call of truss to a process was refused, since the process has ended, when it had made just these reports beside
-- those of calls; so it read no memory, and there is no text.
pub record IsTextLost (k : ℕ) (o : Options) (pid : ℕ) (s : TracedState) (h : List Entry) (earlier : List Report)
    (text : Came) : Type 0 where
  pub before : List Entry
  pub entry : Entry
  pub later : List Entry
  pub is : h ≡ before ++ entry ∷ later
  pub reported : ordinary_among (functions_at k o before).reports ≡ earlier
  pub told : IsToldOfEnd k pid (state_after s before) entry
  pub none : text ≡ None

-- The text that is reported with an event, after these reports, is the memory that its line asks for; an event whose
-- line asks for none has no text.
pub data IsTextIn (k : ℕ) (o : Options) (s : TracedState) (h : List Entry) (earlier : List Report) (pid : ℕ)
    (l : LwpStatus) (text : Came) : Type 0 where
  unasked : range_asked o l ≡ None → text ≡ None → IsTextIn k o s h earlier pid l text
  read : (from len : ℕ) → range_asked o l ≡ Some (from, len) → IsTextRead k o pid from len s h earlier text
      → IsTextIn k o s h earlier pid l text
  lost : (from len : ℕ) → range_asked o l ≡ Some (from, len) → IsTextLost k o pid s h earlier text
      → IsTextIn k o s h earlier pid l text

-- the same of a report, where it is one of an event
abbrev pub HasItsTextIn : ℕ → Options → TracedState → List Entry → List Report → Report → Type 0
HasItsTextIn k o s h earlier (report.CannotStart program errno) = Unit {0}
HasItsTextIn k o s h earlier (report.CannotTrace pid errno) = Unit {0}
HasItsTextIn k o s h earlier (report.Event pid l text) = IsTextIn k o s h earlier pid l text
HasItsTextIn k o s h earlier (report.Called pid lwp function arguments) = Unit {0}

-- Each of these reports has its text: what stands with an event was read when truss had made all reports before it and
-- no other, beside those of calls.
pub record HaveTheirTextsIn (k : ℕ) (o : Options) (s : TracedState) (h : List Entry)
    (reports : List Report) : Type 0 where
  pub each : (earlier later : List Report) (x : Report) → reports ≡ earlier ++ x ∷ later
      → HasItsTextIn k o s h earlier x
