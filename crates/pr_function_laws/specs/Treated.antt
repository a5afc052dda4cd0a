-- What truss with calls of functions calls next where it has read the status of a process: what it plants and lifts
-- before it runs the process.
use Rattle.std.specs.Prelude.{◌≡◌, ◌<◌, ◌++◌, ℕ, false, List, [], ◌∷◌, Option, None, Some, length, option_and_then, if◌then◌else◌}
use Rattle.pr_line.specs.Selections.{is_selected}
use Rattle.pr_line.specs.declared.events.Event.{Event}
use Rattle.pr_line.specs.declared.options.Options.{Options}
use Rattle.pr_model.specs.Replies.{bytes_in, number_of}
use Rattle.pr_model.specs.declared.calls.Call.{Call}
use Rattle.pr_model.specs.declared.calls.Call.TheVariants as call
use Rattle.pr_num.specs.Control.{clear_fault, single_step}
use Rattle.pr_num.specs.Sets.{union_word}
use Rattle.pr_num.specs.declared.messages.Message.TheVariants as message
use Rattle.pr_rec.specs.declared.lwps.LwpStatus.{LwpStatus}
use Rattle.pr_truss.specs.Asides.{marks_at}
use Rattle.pr_truss.specs.FunctionCalls.{plant_call}
use Rattle.pr_truss.specs.FunctionEvents.{fresh_event, function_event}
use Rattle.pr_truss.specs.Marks.{no_functions, put_back, standing, with_function, with_step}
use Rattle.pr_truss.specs.Messages.{message_call}
use Rattle.pr_truss.specs.Records.{status_lwp}
use Rattle.pr_truss.specs.Replies.{answer_of}
use Rattle.pr_truss.specs.Stops.{asked_range}
use Rattle.pr_truss.specs.Trusses.{TrussState, first_truss, traced_at}
use Rattle.pr_truss.specs.declared.asides.Aside.TheVariants.{Nothing}
use Rattle.pr_truss.specs.declared.function_events.FunctionEvent.{FunctionEvent}
use Rattle.pr_truss.specs.declared.function_events.FunctionEvent.TheVariants.{AtBreakpoint, Completed, Other, TraceTrap, BeforeCopy, AfterCopy, Replaced}
use Rattle.pr_truss.specs.declared.marks.Stepped.{Stepped}
use Rattle.pr_truss.specs.declared.processes.Traced.{Traced}
use Rattle.pr_truss.specs.declared.replies.Answer.TheVariants.{Accepted}
use Rattle.pr_truss.specs.declared.stages.Stage.TheVariants.{ReadingStatus}
use Rattle.pr_truss_laws.specs.Exchanges.{Exchange}
use Rattle.pr_function_laws.specs.Coming.{Anything, Come, ComeWhileItLives, close_calls, lift_calls, plant_calls}
use Rattle.pr_function_laws.specs.Returns.{ReadsStepEnd}
use Rattle.pr_function_laws.specs.Runs.{functions_after}

-- ---- the read

-- Truss, which does not leave its processes, reads the status of the process at a place next.
pub record ReadsStatus (t : TrussState) (place : ℕ) : Type 0 where
  pub reads : t.stage ≡ ReadingStatus place
  pub idle : t.aside ≡ Nothing
  pub stays : t.leaving ≡ false
  pub within : place < length t.traced

-- ---- the calls

-- the memory that the line of an event asks for is read, where the options select it
abbrev pub text_from : ℕ → Option (ℕ × ℕ) → List Call
text_from memory None = []
text_from memory (Some range) = call.Read memory range.0 range.1 ∷ []

abbrev pub text_calls : Options → Traced → Event → List Call
text_calls o t e = text_from (number_of t.memory) (if is_selected o e then asked_range o e else None)

-- the process is run with these run flags
abbrev pub run_calls : Traced → ℕ → List Call
run_calls t flags = message_call t.control (message.Run flags) ∷ []

-- What comes of an event, a row a kind. A breakpoint that was lifted for a step is planted again once the step is over,
-- whatever ended it; one that an lwp stands at is lifted for it, and the lwp is stepped alone. At the entry of a call
-- that copies or replaces the memory all that stand are lifted, and the lwp is run alone; at its exit, if the process
-- has its memory still, all that were lifted are planted again. Then the process is run: with the flags of the row, and
-- with none where the event is not truss's own, so that a fault or a signal of the program's own reaches it.
abbrev pub event_calls : Options → Traced → Event → FunctionEvent → List Call
event_calls o t e (AtBreakpoint function) =
    plant_calls o t.control (put_back t.marks)
    ++ (lift_calls o t.control (with_function no_functions function)
    ++ run_calls t (union_word clear_fault single_step))
event_calls o t e (Completed step) = plant_calls o t.control (put_back t.marks) ++ run_calls t clear_fault
event_calls o t e TraceTrap = run_calls t clear_fault
event_calls o t e BeforeCopy = lift_calls o t.control t.marks.planted ++ (text_calls o t e ++ run_calls t single_step)
event_calls o t e AfterCopy =
    plant_calls o t.control (with_step t.marks.stepped t.marks.lifted)
    ++ (text_calls o t e ++ run_calls t 0)
event_calls o t e Replaced = text_calls o t e ++ run_calls t 0
event_calls o t e Other = plant_calls o t.control (put_back t.marks) ++ (text_calls o t e ++ run_calls t 0)

-- A stop on request, and one that stood before truss came or was looked at already, are run with no run flags, and
-- change nothing of the breakpoints. So it is where no lwp was read.
abbrev pub stop_calls : Options → Traced → LwpStatus → Option Event → List Call
stop_calls o t l None = run_calls t 0
stop_calls o t l (Some e) = event_calls o t e (function_event o t.marks l.id e)

abbrev pub lwp_calls : Options → Traced → Option LwpStatus → List Call
lwp_calls o t None = run_calls t 0
lwp_calls o t (Some l) = stop_calls o t l (fresh_event t l)

-- ---- in all exchanges

-- In this exchange truss reads the status of the process at a place, and is told of an event that it has not looked at
-- and that comes before a call which copies or replaces the memory.
pub record ReadsCopy (t : TrussState) (place : ℕ) (x : Exchange) : Type 0 where
  pub status : ReadsStatus t place
  pub accepted : answer_of x.reply ≡ Accepted
  pub l : LwpStatus
  pub told : option_and_then status_lwp (bytes_in x.reply) ≡ Some l
  pub event : Event
  pub fresh : fresh_event (traced_at t place) l ≡ Some event
  pub copies : function_event t.options (marks_at t place) l.id event ≡ BeforeCopy

-- Wherever truss reads an event by which a step ends, its next call plants that breakpoint again. And wherever it reads
-- a status these calls come next, each once, until it runs the process; or it is told that the process has ended, and
-- closes its files. Where it reads an event before a call that copies or replaces the memory, all that stand wait to be
-- planted again from then on.
pub record TreatsItsEvents (o : Options) (xs : List Exchange) : Type 0 where
  pub again : (before after : List Exchange) (x : Exchange) (place : ℕ) (step : Stepped) → xs ≡ before ++ x ∷ after
      → ReadsStepEnd (functions_after (first_truss o) before) x place step
      → Come
      (plant_call o (traced_at (functions_after (first_truss o) before) place).control step.function ∷ []) Anything
      after
  pub each : (before after : List Exchange) (x : Exchange) (place : ℕ) → xs ≡ before ++ x ∷ after
      → ReadsStatus (functions_after (first_truss o) before) place → answer_of x.reply ≡ Accepted
      → ComeWhileItLives
      (lwp_calls o (traced_at (functions_after (first_truss o) before) place)
      (option_and_then status_lwp (bytes_in x.reply))) Anything
      (Come (close_calls (traced_at (functions_after (first_truss o) before) place)) Anything) after
  pub waits : (before after : List Exchange) (x : Exchange) (place : ℕ) → xs ≡ before ++ x ∷ after
      → ReadsCopy (functions_after (first_truss o) before) place x
      → (marks_at (functions_after (first_truss o) (before ++ x ∷ [])) place).lifted
      ≡ standing (marks_at (functions_after (first_truss o) before) place)
