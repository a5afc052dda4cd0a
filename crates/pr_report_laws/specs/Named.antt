use Rattle.std.specs.Prelude.{◌≡◌, ◌≤◌, ℕ, List, [], ◌∷◌, ◌++◌, Some, length}
use Rattle.pr_model.specs.Handles.{handle_of}
use Rattle.pr_model.specs.Legal.{after, state_after}
use Rattle.pr_model.specs.State.{TracedState}
use Rattle.pr_model.specs.declared.calls.Call.TheVariants as call
use Rattle.pr_model.specs.declared.calls.File.TheVariants.{Status}
use Rattle.pr_model.specs.declared.calls.Reply.{Reply}
use Rattle.pr_model.specs.declared.calls.Reply.TheVariants as reply
use Rattle.pr_model.specs.declared.events.Entry.{Entry}
use Rattle.pr_model.specs.declared.handles.Held.{Held}
use Rattle.pr_num.specs.Limits.{read_limit}
use Rattle.pr_num.specs.declared.messages.Message.TheVariants as message
use Rattle.pr_truss.specs.Messages.{message_call}
use Rattle.pr_truss_laws.specs.Exchanges.{Exchange, exchange_of, exchanges}
use Rattle.pr_report_laws.specs.Attachments.{HasFile}

-- The process that a poll named, until its tracer runs it or closes a file of it: by the entries of a history alone.

-- In an entry a poll of this controller was replied that this handle is ready, which it has of the process.
pub record IsNamedIn (k pid handle : ℕ) (s : TracedState) (e : Entry) : Type 0 where
  pub handles : List ℕ
  pub is : exchange_of k e ≡ Some (record { call = call.Poll handles; reply = reply.Ready handle })
  pub held : Held
  pub there : handle_of s.opens k handle ≡ Some held
  pub of : held.pid ≡ pid

-- The first of these exchanges, if there is one, is a read of the status of a process, whole, by a handle that the
-- controller has of it in this state.
abbrev pub ReadsStatusFirst : ℕ → ℕ → TracedState → List Exchange → Type 0
ReadsStatusFirst k pid s [] = Unit {0}
ReadsStatusFirst k pid s (x ∷ xs) =
    (number : ℕ) × (HasFile k pid Status number s × (x.call ≡ call.Read number 0 read_limit))

-- Right after a poll of this controller has named a process it reads the status of that process.
pub record LooksAtWhatIsNamed (k : ℕ) (s : TracedState) (h : List Entry) : Type 0 where
  pub each : (before later : List Entry) (e : Entry) (pid handle : ℕ) → h ≡ before ++ e ∷ later
      → IsNamedIn k pid handle (state_after s before) e
      → ReadsStatusFirst k pid (after (state_after s before) e) (exchanges k later)

-- In an entry the controller sends PCRUN by this handle, or closes a handle that it has of the process.
pub data IsRunOrClosedIn (k pid handle : ℕ) (s : TracedState) (e : Entry) : Type 0 where
  runs : (r : Reply) → exchange_of k e ≡ Some (record { call = message_call handle (message.Run 0); reply = r })
      → IsRunOrClosedIn k pid handle s e
  closes : (number : ℕ) (r : Reply) (held : Held)
      → exchange_of k e ≡ Some (record { call = call.Close number; reply = r })
      → handle_of s.opens k number ≡ Some held → held.pid ≡ pid → IsRunOrClosedIn k pid handle s e

-- In none of these entries, from this state on, does it do so.
pub record IsWaitedFor (k pid handle : ℕ) (s : TracedState) (h : List Entry) : Type 0 where
  pub none : (before later : List Entry) (e : Entry) → h ≡ before ++ e ∷ later
      → IsRunOrClosedIn k pid handle (state_after s before) e → ⊥

-- Wherever in a history a poll of this controller names a process, at most twelve of its calls come before it runs that
-- process or closes a handle of it.
pub record IsSoonDone (k : ℕ) (s : TracedState) (h : List Entry) : Type 0 where
  pub soon : (before between later : List Entry) (e : Entry) (pid handle : ℕ) → h ≡ before ++ e ∷ (between ++ later)
      → IsNamedIn k pid handle (state_after s before) e
      → IsWaitedFor k pid handle (after (state_after s before) e) between → length (exchanges k between) ≤ 12

-- Before it polls again the controller runs the process that a poll of it has named, or closes a handle of it.
pub record RunsBeforeItPolls (k : ℕ) (s : TracedState) (h : List Entry) : Type 0 where
  pub each : (before between later : List Entry) (e f : Entry) (pid handle : ℕ) (handles : List ℕ) (r : Reply)
      → h ≡ before ++ e ∷ (between ++ f ∷ later) → IsNamedIn k pid handle (state_after s before) e
      → IsWaitedFor k pid handle (after (state_after s before) e) between
      → exchange_of k f ≡ Some (record { call = call.Poll handles; reply = r }) → ⊥
