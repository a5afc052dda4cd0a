use Rattle.std.specs.Prelude.{◌≡◌, ℕ, true, false, List, [], ◌∷◌, ◌++◌, Option, None, Some, codes, decimal, slice_get}
use Rattle.std.specs.List.{flat_map}
use Rattle.pr_line.specs.EventLines.{event_text}
use Rattle.pr_line.specs.Events.{event_of}
use Rattle.pr_line.specs.FunctionLines.{function_text}
use Rattle.pr_line.specs.Selections.{is_selected}
use Rattle.pr_line.specs.declared.events.Event.{Event}
use Rattle.pr_line.specs.declared.functions.Function.{Function}
use Rattle.pr_line.specs.declared.options.Options.{Options}
use Rattle.pr_model.specs.declared.calls.Call.TheVariants.{Read}
use Rattle.pr_num.specs.Errnos.{errno_name}
use Rattle.pr_num.specs.declared.errnos.Errno.{Errno}
use Rattle.pr_rec.specs.declared.lwps.LwpStatus.{LwpStatus}
use Rattle.pr_text.specs.TextLines.{newline}
use Rattle.pr_truss.specs.NextCalls.{next_call_of}
use Rattle.pr_truss.specs.Printing.{printed}
use Rattle.pr_truss.specs.Reports.{all_reports}
use Rattle.pr_truss.specs.Stops.{asked_range}
use Rattle.pr_truss.specs.Trusses.{TrussState, first_truss}
use Rattle.pr_truss.specs.declared.reports.Report.{Report}
use Rattle.pr_truss.specs.declared.reports.Report.TheVariants as report
use Rattle.pr_truss_laws.specs.Exchanges.{Exchange, truss_after}

-- What truss(1) prints: of events those alone that the options select, a line for each, and lines that stay where they
-- stand.

-- ---- the events

-- an lwp stands on an event that the options select
pub record StandsOnSelected (o : Options) (l : LwpStatus) : Type 0 where
  pub event : Event
  pub tells : event_of l ≡ Some event
  pub selected : is_selected o event ≡ true

-- A report is a refusal, or one of an event, and then the lwp in it stands on one that the options select. Of calls of
-- functions a truss without -u reports none.
abbrev pub TellsSelected : Options → Report → Type 0
TellsSelected o (report.Event pid l text) = StandsOnSelected o l
TellsSelected o (report.CannotStart program errno) = Unit {0}
TellsSelected o (report.CannotTrace pid errno) = Unit {0}
TellsSelected o (report.Called pid lwp function arguments) = ⊥

-- The line of an event asks for this memory, and the call that is due reads just that.
pub record ReadsMemoryNext (o : Options) (s : TrussState) (l : LwpStatus) : Type 0 where
  pub event : Event
  pub tells : event_of l ≡ Some event
  pub from : ℕ
  pub len : ℕ
  pub asks : asked_range o event ≡ Some (from, len)
  pub handle : ℕ
  pub due : next_call_of s ≡ Some (Read handle from len)

-- What is printed is what was reported, and behind that at most one event of which the memory is still to be read: the
-- call of its stage reads just that.
pub data ReportsNoOther (o : Options) (s : TrussState) : Type 0 where
  all_told : all_reports s ≡ s.reports → ReportsNoOther o s
  one_more : (pid : ℕ) (l : LwpStatus) → all_reports s ≡ s.reports ++ report.Event pid l None ∷ []
      → ReadsMemoryNext o s l → ReportsNoOther o s

pub record PrintsWhatItReports (o : Options) (xs : List Exchange) : Type 0 where
  pub each : (before after : List Exchange) → xs ≡ before ++ after
      → ReportsNoOther o (truss_after (first_truss o) before)

-- ---- the lines

-- a text begins with this one
pub record BeginsWith (front text : List ℕ) : Type 0 where
  pub more : List ℕ
  pub is : text ≡ front ++ more

-- What truss prints after these exchanges begins with what it would have printed after any of them, where it had no
-- memory to read for a line then. So its lines stand in the order in which it learnt them. With -c it prints counts.
pub record KeepsItsLines (o : Options) (xs : List Exchange) : Type 0 where
  pub each : o.count ≡ false → (before after : List Exchange) → xs ≡ before ++ after
      → all_reports (truss_after (first_truss o) before) ≡ (truss_after (first_truss o) before).reports
      → BeginsWith (printed (truss_after (first_truss o) before)) (printed (truss_after (first_truss o) xs))

-- ---- what stands in them

-- a refusal: what was refused, of what, and why
abbrev pub refusal_line : List ℕ → List ℕ → Errno → List ℕ
refusal_line what name errno =
    codes "truss: cannot " ++ what ++ name ++ codes ": " ++ errno_name errno ++ newline ∷ []

-- a call of a function: its text, if the options name a function there
abbrev pub line_of_call : Options → ℕ → ℕ → List ℕ → Option Function → List ℕ
line_of_call o pid lwp arguments None = []
line_of_call o pid lwp arguments (Some f) = function_text o pid lwp f.name arguments ++ newline ∷ []

-- The line of a report. That of an event is its text, as the options ask for it, with the process, the lwp as it was
-- read, and the memory that was read for it. That of a call is its text, with the process, the lwp, the name of the
-- function at this place among those of the options, and the arguments.
abbrev pub line_of : Options → Report → List ℕ
line_of o (report.CannotStart program errno) = refusal_line (codes "start ") program errno
line_of o (report.CannotTrace pid errno) = refusal_line (codes "trace ") (decimal pid) errno
line_of o (report.Event pid l text) = event_text o pid l text ++ newline ∷ []
line_of o (report.Called pid lwp function arguments) =
    line_of_call o pid lwp arguments (slice_get o.functions function)

-- Without -c truss prints one line for each report, in their order, and nothing else.
pub record PrintsItsReports (o : Options) (xs : List Exchange) : Type 0 where
  pub is : o.count ≡ false
      → printed (truss_after (first_truss o) xs) ≡ flat_map (line_of o) (all_reports (truss_after (first_truss o) xs))
