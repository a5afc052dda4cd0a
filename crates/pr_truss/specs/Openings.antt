-- How truss(1) opens the processes that it was given, or made.
use Rattle.std.specs.Prelude.{◌-◌, ℕ, true, Option, Some, None, List, length, if◌then◌else◌}
use Rattle.pr_line.specs.declared.options.Options.{Options}
use Rattle.pr_model.specs.declared.calls.Reply.{Reply}
use Rattle.pr_model.specs.declared.calls.Reply.TheVariants as reply
use Rattle.pr_num.specs.declared.errnos.Errno.{Errno}
use Rattle.pr_num.specs.declared.errnos.Errno.TheVariants.{Noent}
use Rattle.pr_truss.specs.Closings.{with_next_opening, with_going_on, with_interrupt}
use Rattle.pr_truss.specs.Processes.{newly_traced}
use Rattle.pr_truss.specs.Records.{event_stops}
use Rattle.pr_model.specs.Replies.{handle_in, until_in, bytes_in}
use Rattle.pr_truss.specs.Trusses.{TrussState, traced_at, with_stage, with_traced, with_opened, with_report}
use Rattle.pr_truss.specs.declared.processes.Traced.{Traced}
use Rattle.pr_truss.specs.declared.replies.Answer.{Answer}
use Rattle.pr_truss.specs.declared.replies.Answer.TheVariants.{Accepted, Interrupted, Gone, Refused}
use Rattle.pr_truss.specs.declared.reports.Report.TheVariants.{CannotStart, CannotTrace}
use Rattle.pr_truss.specs.declared.stages.AfterClosing.TheVariants.{OpenNext}
use Rattle.pr_truss.specs.declared.stages.OpeningStep.{OpeningStep}
use Rattle.pr_truss.specs.declared.stages.OpeningStep.TheVariants.{OpenStatus, OpenLstatus, OpenMemory, ClearModes, SetRelease, Stop, AwaitStop, ReadLwps, TraceSignals, TraceFaults, TraceEntries, TraceExits, Follow, Start}
use Rattle.pr_truss.specs.declared.stages.Stage.TheVariants.{OpeningControl, Opening, Closing}

-- ---- the sequence

-- what comes after a step that was done; none after the last
unfoldable pub step_after : Options → Reply → OpeningStep → Option OpeningStep
step_after o r OpenStatus = Some OpenLstatus
step_after o r OpenLstatus = Some OpenMemory
step_after o r OpenMemory = Some ClearModes
step_after o r ClearModes = Some SetRelease
step_after o r SetRelease = Some Stop
step_after o r Stop = Some (AwaitStop (until_in r))
step_after o r (AwaitStop until) = Some ReadLwps
step_after o r ReadLwps = Some TraceSignals
step_after o r TraceSignals = Some TraceFaults
step_after o r TraceFaults = Some TraceEntries
step_after o r TraceEntries = Some TraceExits
step_after o r TraceExits = Some (if o.follow then Follow else Start)
step_after o r Follow = Some Start
step_after o r Start = None

-- What truss learns of the process from the reply to a step: the handles of its files; that it stopped; and how many of
-- its next stops are old. Of the lwps that stand on events the first is run with the opening, and the others stop truss
-- later: these are old.
unfoldable pub learnt : Traced → Reply → OpeningStep → Traced
learnt t r OpenStatus = record t { status = Some (handle_in r) }
learnt t r OpenLstatus = record t { lstatus = Some (handle_in r) }
learnt t r OpenMemory = record t { memory = Some (handle_in r) }
learnt t r (AwaitStop until) = record t { attached = true }
learnt t r ReadLwps = record t { old = length (event_stops (bytes_in r)) - 1 }
learnt t r ClearModes = t
learnt t r SetRelease = t
learnt t r Stop = t
learnt t r TraceSignals = t
learnt t r TraceFaults = t
learnt t r TraceEntries = t
learnt t r TraceExits = t
learnt t r Follow = t
learnt t r Start = t

abbrev pub at_step : TrussState → ℕ → Option OpeningStep → TrussState
at_step s place None = with_next_opening s
at_step s place (Some step) = with_stage s (Opening place step)

unfoldable pub with_step_done : TrussState → ℕ → Reply → OpeningStep → TrussState
with_step_done s place r step =
    at_step (with_traced s place (learnt (traced_at s place) r step)) place (step_after s.options r step)

-- ---- refusals

-- A refusal is reported, and what was opened of the process is closed.
unfoldable pub with_refused_step : TrussState → ℕ → Errno → TrussState
with_refused_step s place errno =
    with_stage (with_report s (CannotTrace (traced_at s place).pid errno)) (Closing place OpenNext)

-- The stop on which a process stands was looked at, or stood before truss came: it is not reported any more.
unfoldable pub with_stop_seen : TrussState → ℕ → TrussState
with_stop_seen s place = with_traced s place (record (traced_at s place) { seen = true })

-- what the reply to a step makes of truss
unfoldable pub with_step_answered : TrussState → ℕ → OpeningStep → Reply → Answer → TrussState
with_step_answered s place opening r Accepted = with_step_done s place r opening
with_step_answered s place opening r Interrupted = with_interrupt (with_stop_seen s place)
with_step_answered s place opening r Gone = with_refused_step s place Noent
with_step_answered s place opening r (Refused errno) = with_refused_step s place errno

-- ---- the control file of a process, with which its opening begins

-- a process is traced from now on, and its opening goes on with its status
unfoldable pub with_control : TrussState → ℕ → ℕ → TrussState
with_control s pid control =
    with_stage (with_opened s (newly_traced pid control)) (Opening (length s.traced) OpenStatus)

unfoldable pub with_refused_control : TrussState → ℕ → Errno → TrussState
with_refused_control s pid errno = with_next_opening (with_report s (CannotTrace pid errno))

unfoldable pub with_control_answered : TrussState → ℕ → Reply → Answer → TrussState
with_control_answered s pid r Accepted = with_control s pid (handle_in r)
with_control_answered s pid r Interrupted = with_interrupt s
with_control_answered s pid r Gone = with_refused_control s pid Noent
with_control_answered s pid r (Refused errno) = with_refused_control s pid errno

-- ---- the process of a program

-- the process that was made
abbrev pub pid_in : Reply → ℕ
pid_in (reply.Pid pid) = pid
pid_in _ = 0

unfoldable pub with_refused_start : TrussState → List ℕ → Errno → TrussState
with_refused_start s program errno = with_going_on (with_report s (CannotStart program errno))

unfoldable pub with_start_answered : TrussState → List ℕ → Reply → Answer → TrussState
with_start_answered s program r Accepted = with_stage s (OpeningControl (pid_in r))
with_start_answered s program r Interrupted = with_interrupt s
with_start_answered s program r Gone = with_refused_start s program Noent
with_start_answered s program r (Refused errno) = with_refused_start s program errno
