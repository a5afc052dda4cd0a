-- How truss(1) follows the children of forks (-f), and how it sets them free.
use Rattle.std.specs.Prelude.{ℕ, true, Option, Some, None, length}
use Rattle.pr_model.specs.declared.calls.Reply.{Reply}
use Rattle.pr_num.specs.declared.errnos.Errno.{Errno}
use Rattle.pr_num.specs.declared.errnos.Errno.TheVariants.{Noent}
use Rattle.pr_truss.specs.Closings.{with_interrupt, with_closing}
use Rattle.pr_truss.specs.Openings.{with_stop_seen}
use Rattle.pr_truss.specs.Processes.{newly_traced}
use Rattle.pr_model.specs.Replies.{handle_in}
use Rattle.pr_truss.specs.Replies.{answer_of}
use Rattle.pr_truss.specs.Trusses.{TrussState, traced_at, with_stage, with_traced, with_opened, with_report}
use Rattle.pr_truss.specs.declared.processes.Traced.{Traced}
use Rattle.pr_truss.specs.declared.replies.Answer.{Answer}
use Rattle.pr_truss.specs.declared.replies.Answer.TheVariants.{Accepted, Interrupted, Gone, Refused}
use Rattle.pr_truss.specs.declared.reports.Report.TheVariants.{CannotTrace}
use Rattle.pr_truss.specs.declared.stages.AfterClosing.TheVariants.{RunParent}
use Rattle.pr_truss.specs.declared.stages.ChildStep.{ChildStep}
use Rattle.pr_truss.specs.declared.stages.ChildStep.TheVariants.{SetRelease, OpenStatus, OpenLstatus, OpenMemory, Start}
use Rattle.pr_truss.specs.declared.stages.FreeingStep.{FreeingStep}
use Rattle.pr_truss.specs.declared.stages.FreeingStep.TheVariants as freeing
use Rattle.pr_truss.specs.declared.stages.Stage.TheVariants.{OpeningChild, Running, Closing, FreeingChild}

-- ---- a child that is traced

-- what comes after a step that was done; none after the last
unfoldable pub child_step_after : ChildStep → Option ChildStep
child_step_after SetRelease = Some OpenStatus
child_step_after OpenStatus = Some OpenLstatus
child_step_after OpenLstatus = Some OpenMemory
child_step_after OpenMemory = Some Start
child_step_after Start = None

-- What truss learns of a child from the reply to a step. It is attached once all its files are open.
unfoldable pub child_learnt : Traced → Reply → ChildStep → Traced
child_learnt t r SetRelease = t
child_learnt t r OpenStatus = record t { status = Some (handle_in r) }
child_learnt t r OpenLstatus = record t { lstatus = Some (handle_in r) }
child_learnt t r OpenMemory = record t { memory = Some (handle_in r); attached = true }
child_learnt t r Start = t

abbrev pub at_child_step : TrussState → ℕ → ℕ → Option ChildStep → TrussState
at_child_step s parent place None = with_stage s (Running parent)
at_child_step s parent place (Some step) = with_stage s (OpeningChild parent place step)

unfoldable pub with_child_step_done : TrussState → ℕ → ℕ → Reply → ChildStep → TrussState
with_child_step_done s parent place r step =
    at_child_step (with_traced s place (child_learnt (traced_at s place) r step)) parent place (child_step_after step)

-- A refusal is reported, what was opened of the child is closed, and its parent runs.
unfoldable pub with_refused_child_step : TrussState → ℕ → ℕ → Errno → TrussState
with_refused_child_step s parent place errno =
    with_stage (with_report s (CannotTrace (traced_at s place).pid errno)) (Closing place (RunParent parent))

-- the reply to a step up to the opens
unfoldable pub with_child_step_answered : TrussState → ℕ → ℕ → ChildStep → Reply → Answer → TrussState
with_child_step_answered s parent place step r Accepted = with_child_step_done s parent place r step
with_child_step_answered s parent place step r Interrupted = with_interrupt (with_stop_seen s parent)
with_child_step_answered s parent place step r Gone = with_refused_child_step s parent place Noent
with_child_step_answered s parent place step r (Refused errno) = with_refused_child_step s parent place errno

-- The reply to the child's PCRUN. A refusal is passed over, but for one that says that the child has ended.
unfoldable pub with_child_started : TrussState → ℕ → ℕ → Answer → TrussState
with_child_started s parent place Accepted = with_stage s (Running parent)
with_child_started s parent place (Refused errno) = with_stage s (Running parent)
with_child_started s parent place Interrupted = with_stage s (Running parent)
with_child_started s parent place Gone = with_stage s (Closing place (RunParent parent))

unfoldable pub with_child_answered : TrussState → ℕ → ℕ → ChildStep → Reply → Answer → TrussState
with_child_answered s parent place Start r answer = with_child_started s parent place answer
with_child_answered s parent place SetRelease r answer = with_child_step_answered s parent place SetRelease r answer
with_child_answered s parent place OpenStatus r answer = with_child_step_answered s parent place OpenStatus r answer
with_child_answered s parent place OpenLstatus r answer = with_child_step_answered s parent place OpenLstatus r answer
with_child_answered s parent place OpenMemory r answer = with_child_step_answered s parent place OpenMemory r answer

-- ---- the control file of a child, with which its opening begins

-- the child is traced from now on
unfoldable pub with_child_control : TrussState → ℕ → ℕ → ℕ → TrussState
with_child_control s parent child control =
    with_stage (with_opened s (newly_traced child control)) (OpeningChild parent (length s.traced) SetRelease)

unfoldable pub with_refused_child : TrussState → ℕ → ℕ → Errno → TrussState
with_refused_child s parent child errno = with_stage (with_report s (CannotTrace child errno)) (Running parent)

unfoldable pub with_child_control_answered : TrussState → ℕ → ℕ → Reply → Answer → TrussState
with_child_control_answered s parent child r Accepted = with_child_control s parent child (handle_in r)
with_child_control_answered s parent child r Interrupted = with_interrupt (with_stop_seen s parent)
with_child_control_answered s parent child r Gone = with_refused_child s parent child Noent
with_child_control_answered s parent child r (Refused errno) = with_refused_child s parent child errno

-- ---- a child that is set free

unfoldable pub with_refused_freeing : TrussState → ℕ → Errno → TrussState
with_refused_freeing s child errno = with_closing (with_report s (CannotTrace child errno)) 0

unfoldable pub with_freeing_begun : TrussState → ℕ → Reply → Answer → TrussState
with_freeing_begun s child r Accepted = with_stage s (FreeingChild child (freeing.SetRelease (handle_in r)))
with_freeing_begun s child r Interrupted = with_closing s 0
with_freeing_begun s child r Gone = with_refused_freeing s child Noent
with_freeing_begun s child r (Refused errno) = with_refused_freeing s child errno

-- A refused open is reported, unless by an interrupt. Other refusals are passed over.
unfoldable pub with_freeing_answered : TrussState → ℕ → FreeingStep → Reply → TrussState
with_freeing_answered s child freeing.OpenControl r = with_freeing_begun s child r (answer_of r)
with_freeing_answered s child (freeing.SetRelease control) r = with_stage s (FreeingChild child (freeing.Close control))
with_freeing_answered s child (freeing.Close control) r = with_closing s 0
