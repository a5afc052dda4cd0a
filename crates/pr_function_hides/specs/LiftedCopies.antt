-- What a fork, a vfork and an exec find of the breakpoints of truss, where they are granted.
use Rattle.std.specs.Prelude.{◌≡◌, ◌<◌, ◌++◌, ℕ, true, List, ◌∷◌, Some, length, option_and_then, slice_get}
use Rattle.pr_function_hides.specs.Copying.{AreOutOfCopies, IsEmpty, IsLifted, makes_copy}
use Rattle.pr_function_laws.specs.Opened.{functions_at}
use Rattle.pr_line.specs.declared.events.Event.{Event}
use Rattle.pr_line.specs.declared.options.Options.{Options}
use Rattle.pr_model.specs.Legal.{state_after}
use Rattle.pr_model.specs.Replies.{bytes_in}
use Rattle.pr_model.specs.State.{TracedProcess, TracedState, live_process}
use Rattle.pr_model.specs.declared.events.Act.TheVariants.{Turn}
use Rattle.pr_model.specs.declared.events.Actor.TheVariants.{Lwp}
use Rattle.pr_model.specs.declared.events.Entry.{Entry}
use Rattle.pr_model.specs.declared.events.Turned.{Turned}
use Rattle.pr_rec.specs.declared.lwps.LwpStatus.{LwpStatus}
use Rattle.pr_truss.specs.Asides.{marks_at}
use Rattle.pr_truss.specs.FunctionEvents.{fresh_event, function_event}
use Rattle.pr_truss.specs.Records.{event_stops, status_lwp}
use Rattle.pr_truss.specs.Replies.{answer_of}
use Rattle.pr_truss.specs.Trusses.{traced_at}
use Rattle.pr_truss.specs.declared.asides.Aside.TheVariants.{Nothing}
use Rattle.pr_truss.specs.declared.function_events.FunctionEvent.TheVariants.{Replaced}
use Rattle.pr_truss.specs.declared.replies.Answer.TheVariants.{Accepted}
use Rattle.pr_truss.specs.declared.stages.OpeningStep.TheVariants.{AwaitStop}
use Rattle.pr_truss.specs.declared.stages.Stage.TheVariants.{Opening, ReadingLwps, ReadingStatus}
use Rattle.pr_truss_laws.specs.Exchanges.{Exchange, exchange_of}

-- Whenever truss waits for the stop of a process that it opens, and is granted that wait, no lwp of the process is at a
-- fork, a vfork or an exec. Of its other waits, by which it leaves its processes, nothing is asked.
pub record OpensOutOfCopies (k : ℕ) (o : Options) (first : TracedState) (h : List Entry) : Type 0 where
  pub out : (front back : List Entry) (e : Entry) (x : Exchange) (place until : ℕ) (p : TracedProcess)
      → h ≡ front ++ e ∷ back → exchange_of k e ≡ Some x
      → (functions_at k o front).stage ≡ Opening place (AwaitStop until) → answer_of x.reply ≡ Accepted
      → live_process (state_after first front).system (traced_at (functions_at k o front) place).pid ≡ Some p
      → AreOutOfCopies p

-- In a process that truss traces, that it opens or leaves, or whose files it closes, no breakpoint is marked as planted
-- where a turn makes such a call, which is granted. And where the status of a process tells that its memory was
-- replaced, or that a child has it too, all is lifted; where the first lwp on an event tells so, in the statuses by
-- which truss leaves the process, none is marked.
pub record CopiesFindNone (k : ℕ) (o : Options) (first : TracedState) (h : List Entry) : Type 0 where
  pub copies : (front back : List Entry) (place id : ℕ) (turned : Turned)
      → h
      ≡ front ++ record { actor = Lwp (traced_at (functions_at k o front) place).pid id; act = Turn turned } ∷ back
      → place < length (functions_at k o front).traced → makes_copy turned.did ≡ true
      → IsEmpty (marks_at (functions_at k o front) place).planted
  pub replaced : (front back : List Entry) (e : Entry) (x : Exchange) (place : ℕ) (l : LwpStatus) (event : Event)
      → h ≡ front ++ e ∷ back → exchange_of k e ≡ Some x → place < length (functions_at k o front).traced
      → (functions_at k o front).stage ≡ ReadingStatus place → (functions_at k o front).aside ≡ Nothing
      → answer_of x.reply ≡ Accepted → option_and_then status_lwp (bytes_in x.reply) ≡ Some l
      → fresh_event (traced_at (functions_at k o front) place) l ≡ Some event
      → function_event o (marks_at (functions_at k o front) place) l.id event ≡ Replaced
      → IsLifted (marks_at (functions_at k o front) place)
  pub last : (front back : List Entry) (e : Entry) (x : Exchange) (l : LwpStatus) (event : Event)
      → h ≡ front ++ e ∷ back → exchange_of k e ≡ Some x → 0 < length (functions_at k o front).traced
      → (functions_at k o front).stage ≡ ReadingLwps → (functions_at k o front).aside ≡ Nothing
      → answer_of x.reply ≡ Accepted → slice_get (event_stops (bytes_in x.reply)) 0 ≡ Some l
      → fresh_event (traced_at (functions_at k o front) 0) l ≡ Some event
      → function_event o (marks_at (functions_at k o front) 0) l.id event ≡ Replaced
      → IsEmpty (marks_at (functions_at k o front) 0).planted
