-- What replies tell truss(1) of calls of functions (-u).
use Rattle.std.specs.Prelude.{◌++◌, ℕ, Bool, true, false, Option, Some, None, List, [], ◌∷◌, filter, option_and_then, slice_get}
use Rattle.pr_line.specs.declared.events.Event.{Event}
use Rattle.pr_model.specs.Replies.{bytes_in}
use Rattle.pr_model.specs.declared.calls.Reply.{Reply}
use Rattle.pr_rec.specs.declared.lwps.LwpStatus.{LwpStatus}
use Rattle.pr_truss.specs.Asides.{marks_at}
use Rattle.pr_truss.specs.FunctionEvents.{fresh_event, function_event}
use Rattle.pr_truss.specs.FunctionFeeding.{fed_functions}
use Rattle.pr_truss.specs.Records.{event_stops, status_lwp}
use Rattle.pr_truss.specs.Trusses.{TrussState, traced_at}
use Rattle.pr_truss.specs.declared.asides.Aside.{Aside}
use Rattle.pr_truss.specs.declared.asides.Aside.TheVariants.{Nothing}
use Rattle.pr_truss.specs.declared.function_events.FunctionEvent.{FunctionEvent}
use Rattle.pr_truss.specs.declared.function_events.FunctionEvent.TheVariants.{Completed}
use Rattle.pr_truss.specs.declared.reports.Report.{Report}
use Rattle.pr_truss.specs.declared.reports.Report.TheVariants.{Called}
use Rattle.pr_truss.specs.declared.stages.Stage.{Stage}
use Rattle.pr_truss.specs.declared.stages.Stage.TheVariants.{ReadingStatus, ReadingLwps}

-- ---- among reports

abbrev pub is_call : Report → Bool
is_call (Called pid lwp function arguments) = true
is_call report = false

-- the calls of functions, in their order
unfoldable pub calls_among : List Report → List Report
calls_among reports = filter is_call reports

-- ---- in one reply

-- A call is told where its first instruction has run: the lwp whose step is under way stands at the trace trap of it.
-- Its breakpoint alone tells none.
abbrev pub call_of_event : ℕ → FunctionEvent → List Report
call_of_event pid (Completed step) = Called pid step.lwp step.function step.arguments ∷ []
call_of_event pid event = []

-- what was looked at already, or stood before truss came, tells none
abbrev pub call_of_fresh : TrussState → ℕ → ℕ → Option Event → List Report
call_of_fresh s place lwp None = []
call_of_fresh s place lwp (Some e) =
    call_of_event (traced_at s place).pid (function_event s.options (marks_at s place) lwp e)

-- what the lwp tells that was read, if one was
abbrev pub call_of_lwp : TrussState → ℕ → Option LwpStatus → List Report
call_of_lwp s place None = []
call_of_lwp s place (Some l) = call_of_fresh s place l.id (fresh_event (traced_at s place) l)

-- A reply tells of a call where a status was read that a poll named, or the lwps of the process that truss leaves.
abbrev pub call_read : TrussState → Reply → Stage → List Report
call_read s r (ReadingStatus place) = call_of_lwp s place (option_and_then status_lwp (bytes_in r))
call_read s r ReadingLwps = call_of_lwp s 0 (slice_get (event_stops (bytes_in r)) 0)
call_read s r stage = []

-- a reply to what comes before the call of the step tells none
abbrev pub call_beside : TrussState → Reply → Aside → List Report
call_beside s r Nothing = call_read s r s.stage
call_beside s r aside = []

-- the call of a function of which a reply tells, if it tells of one
unfoldable pub call_told : TrussState → Reply → List Report
call_told s r = call_beside s r s.aside

-- ---- in all replies

-- truss after these replies
abbrev pub after_replies : TrussState → List Reply → TrussState
after_replies s [] = s
after_replies s (r ∷ rs) = after_replies (fed_functions s r) rs

-- the calls of which they tell, one reply after another
abbrev pub calls_told : TrussState → List Reply → List Report
calls_told s [] = []
calls_told s (r ∷ rs) = call_told s r ++ calls_told (fed_functions s r) rs
