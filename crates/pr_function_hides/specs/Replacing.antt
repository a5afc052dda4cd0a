-- That truss writes nothing to a process any more once an exec replaced its memory, or a vfork gave it to a child.
use Rattle.std.specs.Prelude.{◌≡◌, ◌<◌, ◌++◌, ℕ, true, All, List, ◌∷◌, Ok, Some, length}
use Rattle.pr_api.specs.Entries.{call_entry}
use Rattle.pr_function_hides.specs.CountedFunctions.{takes_memory}
use Rattle.pr_function_laws.specs.Opened.{WasNotInterrupted, functions_at, is_opened}
use Rattle.pr_line.specs.declared.options.Options.{Options}
use Rattle.pr_model.specs.Handles.{handle_of}
use Rattle.pr_model.specs.Legal.{state_after}
use Rattle.pr_model.specs.State.{TracedProcess, TracedState, live_process}
use Rattle.pr_model.specs.declared.calls.Call.TheVariants as call
use Rattle.pr_model.specs.declared.calls.Reply.{Reply}
use Rattle.pr_model.specs.declared.events.Act.TheVariants.{Turn}
use Rattle.pr_model.specs.declared.events.Actor.TheVariants.{Lwp}
use Rattle.pr_model.specs.declared.events.Entry.{Entry}
use Rattle.pr_model.specs.declared.events.Turned.{Turned}
use Rattle.pr_model.specs.declared.handles.Held.{Held}
use Rattle.pr_num.specs.Messages.{first_message}
use Rattle.pr_num.specs.declared.messages.Message.TheVariants as message
use Rattle.pr_truss.specs.Trusses.{traced_at}
use Rattle.pr_truss_laws.specs.Exchanges.{exchanges}

-- In one of these entries, before which truss had opened the process whole and did not close its files, an lwp of the
-- process made a vfork or an exec, which was granted.
pub record WasReplaced (k : ℕ) (o : Options) (front : List Entry) (pid : ℕ) : Type 0 where
  pub before : List Entry
  pub later : List Entry
  pub id : ℕ
  pub t : Turned
  pub is : front ≡ before ++ record { actor = Lwp pid id; act = Turn t } ∷ later
  pub takes : takes_memory t.did ≡ true
  pub place : ℕ
  pub within : place < length (functions_at k o before).traced
  pub own : (traced_at (functions_at k o before) place).pid ≡ pid
  pub opened : is_opened (functions_at k o before).stage place ≡ true

-- As long as truss has not been interrupted, and the process lives, truss sends no PCWRITE to it from then on: it
-- plants nothing there, and lifts nothing.
pub record WritesNoneOnceReplaced (k : ℕ) (o : Options) (first : TracedState) (h : List Entry) : Type 0 where
  pub none : (front back : List Entry) (handle : ℕ) (bytes : List ℕ) (r : Reply) (held : Held) (p : TracedProcess)
      (at size len : ℕ) → h ≡ front ++ call_entry k (call.Ctl handle bytes) r ∷ back
      → All WasNotInterrupted (exchanges k front) → handle_of (state_after first front).opens k handle ≡ Some held
      → live_process (state_after first front).system held.pid ≡ Some p → WasReplaced k o front held.pid
      → first_message bytes ≡ Ok (message.Write at size, len) → ⊥
