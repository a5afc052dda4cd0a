use Rattle.std.specs.Prelude.{◌==◌, ℕ, Bool, List, Option, Some, None, option_and_then, option_map, if◌then◌else◌}
use Rattle.std.specs.List.{filter_map}
use Rattle.pr_line.specs.Events.{event_of}
use Rattle.pr_line.specs.Selections.{is_selected}
use Rattle.pr_line.specs.declared.events.Event.{Event}
use Rattle.pr_line.specs.declared.options.Options.{Options}
use Rattle.pr_model.specs.Events.{Logged}
use Rattle.pr_rec.specs.declared.lwps.LwpStatus.{LwpStatus}
use Rattle.pr_truss.specs.Reports.{all_reports}
use Rattle.pr_truss.specs.Trusses.{TrussState}
use Rattle.pr_truss.specs.declared.reports.Report.{Report}
use Rattle.pr_truss.specs.declared.reports.Report.TheVariants as report
use Rattle.pr_truss_laws.specs.Told.{told}

-- What truss has shown of a process, and what of its events was selected: each event with the lwp that it is of.

-- an event of an lwp
pub record LwpEvent : Type 0 where
  pub id : ℕ
  pub event : Event

-- ---- shown

-- the event that a status tells, of the lwp that it is of
abbrev pub event_told : LwpStatus → Option LwpEvent
event_told l = option_map (λ e. record { id = l.id; event = e }) (event_of l)

-- the event that is reported of a process, where a report is one of it
unfoldable pub event_reported : ℕ → Report → Option LwpEvent
event_reported pid (report.CannotStart program errno) = None
event_reported pid (report.CannotTrace of errno) = None
event_reported pid (report.Event of l text) = if of == pid then event_told l else None
event_reported pid (report.Called of lwp function arguments) = None

-- The events that truss has reported of a process, also one whose memory is still to be read. With -c they are counted,
-- and have no lines.
unfoldable pub shown : ℕ → TrussState → List LwpEvent
shown pid t = filter_map (event_reported pid) (all_reports t)

-- ---- what is picked of a log

-- an event, if it is one of those that are picked
abbrev pub if_picked : (Event → Bool) → Event → Option Event
if_picked picks e = if picks e then Some e else None

-- a logged event of a process, if it is told and picked
unfoldable pub event_picked : (Event → Bool) → ℕ → Logged → Option LwpEvent
event_picked picks pid l =
    if l.pid == pid
    then option_map (λ e. record { id = l.id; event = e }) (option_and_then (if_picked picks) (told l.event))
    else None

-- of logged events those that are picked, of one process
unfoldable pub picked : (Event → Bool) → ℕ → List Logged → List LwpEvent
picked picks pid logged = filter_map (event_picked picks pid) logged

-- those that the options select
abbrev pub selected : Options → ℕ → List Logged → List LwpEvent
selected o pid logged = picked (is_selected o) pid logged
