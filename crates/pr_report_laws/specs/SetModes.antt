use Rattle.std.specs.Prelude.{◌≡◌, ℕ, true, List, ◌∷◌, ◌++◌, Some, None}
use Rattle.pr_model.specs.Handles.{handle_of, is_control}
use Rattle.pr_model.specs.Legal.{state_after}
use Rattle.pr_model.specs.State.{TracedState}
use Rattle.pr_model.specs.declared.calls.Reply.{Reply}
use Rattle.pr_model.specs.declared.events.Entry.{Entry}
use Rattle.pr_model.specs.declared.handles.Held.{Held}
use Rattle.pr_num.specs.Control.{rlc_mode}
use Rattle.pr_num.specs.declared.messages.Message.TheVariants.{Set}
use Rattle.pr_truss.specs.Messages.{message_call}
use Rattle.pr_truss_laws.specs.Exchanges.{errno_in, exchange_of}

-- Of which processes truss has set PR_RLC, by its messages and their replies alone.

-- In an entry truss sets PR_RLC of the process of a control file that it has open with this handle, and is not refused.
pub record SetsRelease (k number : ℕ) (held : Held) (s : TracedState) (e : Entry) : Type 0 where
  pub reply : Reply
  pub is : exchange_of k e ≡ Some (record { call = message_call number (Set rlc_mode); reply = reply })
  pub granted : errno_in reply ≡ None
  pub there : handle_of s.opens k number ≡ Some held
  pub control : is_control held.file ≡ true

-- It did so in this history, and has had the file open since.
pub record HasSetRelease (k number : ℕ) (held : Held) (s : TracedState) (h : List Entry) : Type 0 where
  pub before : List Entry
  pub entry : Entry
  pub later : List Entry
  pub is : h ≡ before ++ entry ∷ later
  pub sets : SetsRelease k number held (state_after s before) entry
  pub open_since : (first rest : List Entry) → later ≡ first ++ rest
      → handle_of (state_after s (before ++ entry ∷ first)).opens k number ≡ Some held
