use Rattle.std.specs.Prelude.{◌≡◌, ℕ, Some, option_and_then}
use Rattle.pr_line.specs.declared.events.Event.{Event}
use Rattle.pr_model.specs.Replies.{bytes_in}
use Rattle.pr_model.specs.declared.calls.Reply.{Reply}
use Rattle.pr_rec.specs.declared.lwps.LwpStatus.{LwpStatus}
use Rattle.pr_truss.specs.Asides.{marks_at}
use Rattle.pr_truss.specs.FunctionEvents.{fresh_event, function_event}
use Rattle.pr_truss.specs.Records.{status_lwp}
use Rattle.pr_truss.specs.Replies.{answer_of}
use Rattle.pr_truss.specs.Trusses.{TrussState, traced_at}
use Rattle.pr_truss.specs.declared.asides.Aside.TheVariants.{Nothing}
use Rattle.pr_truss.specs.declared.function_events.FunctionEvent.TheVariants.{Replaced}
use Rattle.pr_truss.specs.declared.replies.Answer.TheVariants.{Accepted}
use Rattle.pr_truss.specs.declared.stages.Stage.TheVariants.{ReadingStatus}

-- A reply tells truss, which reads the status of the process at a place, that its memory was replaced by exec, or that
-- a child has it too by vfork.
pub record TellsReplaced (t : TrussState) (place : ℕ) (r : Reply) : Type 0 where
  pub reads : t.stage ≡ ReadingStatus place
  pub idle : t.aside ≡ Nothing
  pub accepted : answer_of r ≡ Accepted
  pub l : LwpStatus
  pub told : option_and_then status_lwp (bytes_in r) ≡ Some l
  pub event : Event
  pub fresh : fresh_event (traced_at t place) l ≡ Some event
  pub replaced : function_event t.options (marks_at t place) l.id event ≡ Replaced
