-- How a breakpoint comes back once the lwp that was stepped over it has stopped.
use Rattle.std.specs.Prelude.{◌≡◌, ◌<◌, ℕ, false, Some, length, option_and_then}
use Rattle.pr_line.specs.Functions.{function_limit}
use Rattle.pr_line.specs.declared.events.Event.{Event}
use Rattle.pr_model.specs.Replies.{bytes_in}
use Rattle.pr_rec.specs.declared.lwps.LwpStatus.{LwpStatus}
use Rattle.pr_truss.specs.Asides.{marks_at}
use Rattle.pr_truss.specs.FunctionEvents.{fresh_event, function_event}
use Rattle.pr_truss.specs.Records.{status_lwp}
use Rattle.pr_truss.specs.Replies.{answer_of}
use Rattle.pr_truss.specs.Trusses.{TrussState, traced_at}
use Rattle.pr_truss.specs.declared.asides.Aside.TheVariants.{Nothing}
use Rattle.pr_truss.specs.declared.function_events.FunctionEvent.{FunctionEvent}
use Rattle.pr_truss.specs.declared.function_events.FunctionEvent.TheVariants.{AtBreakpoint, Completed, Other, TraceTrap, BeforeCopy, AfterCopy, Replaced}
use Rattle.pr_truss.specs.declared.marks.Stepped.{Stepped}
use Rattle.pr_truss.specs.declared.replies.Answer.TheVariants.{Accepted}
use Rattle.pr_truss.specs.declared.stages.Stage.TheVariants.{ReadingStatus}
use Rattle.pr_truss_laws.specs.Exchanges.{Exchange}

-- an event by which a step ends: the trace trap of it, a signal, another fault, or another breakpoint
abbrev pub EndsStep : FunctionEvent → Type 0
EndsStep (AtBreakpoint function) = Unit {0}
EndsStep (Completed step) = Unit {0}
EndsStep Other = Unit {0}
EndsStep TraceTrap = ⊥
EndsStep BeforeCopy = ⊥
EndsStep AfterCopy = ⊥
EndsStep Replaced = ⊥

-- Truss, which does not leave its processes, reads the status of the process at a place, in which a step over a
-- function is under way, and is told of an event by which it ends.
pub record ReadsStepEnd (t : TrussState) (x : Exchange) (place : ℕ) (step : Stepped) : Type 0 where
  pub reads : t.stage ≡ ReadingStatus place
  pub idle : t.aside ≡ Nothing
  pub stays : t.leaving ≡ false
  pub within : place < length t.traced
  pub under_way : (marks_at t place).stepped ≡ Some step
  pub function : step.function < function_limit
  pub accepted : answer_of x.reply ≡ Accepted
  pub l : LwpStatus
  pub told : option_and_then status_lwp (bytes_in x.reply) ≡ Some l
  pub event : Event
  pub fresh : fresh_event (traced_at t place) l ≡ Some event
  pub ends : EndsStep (function_event t.options (marks_at t place) l.id event)
