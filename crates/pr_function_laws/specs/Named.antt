-- The process that a poll named, until truss with calls of functions runs it or closes a file of it: by the entries of
-- a history alone.
use Rattle.std.specs.Prelude.{◌≡◌, ◌≤◌, ◌++◌, ℕ, List, ◌∷◌, Some, length}
use Rattle.pr_line.specs.declared.options.Options.{Options}
use Rattle.pr_model.specs.Handles.{handle_of}
use Rattle.pr_model.specs.Legal.{after, state_after}
use Rattle.pr_model.specs.State.{TracedState}
use Rattle.pr_model.specs.declared.calls.Call.TheVariants as call
use Rattle.pr_model.specs.declared.calls.Reply.{Reply}
use Rattle.pr_model.specs.declared.events.Entry.{Entry}
use Rattle.pr_model.specs.declared.handles.Held.{Held}
use Rattle.pr_num.specs.declared.messages.Message.TheVariants as message
use Rattle.pr_report_laws.specs.Named.{IsNamedIn}
use Rattle.pr_truss.specs.Messages.{message_call}
use Rattle.pr_truss_laws.specs.Exchanges.{exchange_of, exchanges}
use Rattle.pr_function_laws.specs.Soon.{calls_until_end}

-- In an entry the controller sends PCRUN by this handle, with whatever run flags, or closes a handle that it has of the
-- process.
pub data RunsOrClosesIn (k pid handle : ℕ) (s : TracedState) (e : Entry) : Type 0 where
  runs : (flags : ℕ) (r : Reply)
      → exchange_of k e ≡ Some (record { call = message_call handle (message.Run flags); reply = r })
      → RunsOrClosesIn k pid handle s e
  closes : (number : ℕ) (r : Reply) (held : Held)
      → exchange_of k e ≡ Some (record { call = call.Close number; reply = r })
      → handle_of s.opens k number ≡ Some held → held.pid ≡ pid → RunsOrClosesIn k pid handle s e

-- In none of these entries, from this state on, does it do so.
pub record IsAwaited (k pid handle : ℕ) (s : TracedState) (h : List Entry) : Type 0 where
  pub none : (before later : List Entry) (e : Entry) → h ≡ before ++ e ∷ later
      → RunsOrClosesIn k pid handle (state_after s before) e → ⊥

-- Wherever in a history a poll of this controller names a process by a handle that it has of it, at most twelve of its
-- calls, and two more for each function, come before it runs that process or closes a handle of it.
pub record IsSoonRunOrClosed (k : ℕ) (o : Options) (s : TracedState) (h : List Entry) : Type 0 where
  pub each : (before between later : List Entry) (e : Entry) (pid handle : ℕ) → h ≡ before ++ e ∷ (between ++ later)
      → IsNamedIn k pid handle (state_after s before) e
      → IsAwaited k pid handle (after (state_after s before) e) between
      → length (exchanges k between) ≤ calls_until_end o

-- Before it polls again the controller runs the process that a poll of it has named, or closes a handle of it.
pub record RunsBeforeItPollsOf (k : ℕ) (s : TracedState) (h : List Entry) : Type 0 where
  pub each : (before between later : List Entry) (e f : Entry) (pid handle : ℕ) (handles : List ℕ) (r : Reply)
      → h ≡ before ++ e ∷ (between ++ f ∷ later) → IsNamedIn k pid handle (state_after s before) e
      → IsAwaited k pid handle (after (state_after s before) e) between
      → exchange_of k f ≡ Some (record { call = call.Poll handles; reply = r }) → ⊥
