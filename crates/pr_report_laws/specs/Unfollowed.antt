use Rattle.std.specs.Prelude.{◌≡◌, ℕ, List, [], ◌∷◌, ◌++◌, Some}
use Rattle.pr_model.specs.Handles.{handle_of}
use Rattle.pr_model.specs.State.{TracedState}
use Rattle.pr_model.specs.declared.calls.File.TheVariants.{Ctl}
use Rattle.pr_model.specs.declared.calls.Reply.{Reply}
use Rattle.pr_model.specs.declared.events.Entry.{Entry}
use Rattle.pr_model.specs.declared.handles.Held.{Held}
use Rattle.pr_num.specs.Control.{fork_mode}
use Rattle.pr_num.specs.declared.messages.Message.TheVariants.{Unset}
use Rattle.pr_truss.specs.Messages.{message_call}
use Rattle.pr_truss_laws.specs.Exchanges.{Exchange, exchanges}

-- The last call of truss in this history is the message that clears PR_FORK of a process, to a control file of it that
-- is open in this state.
pub record HasUnfollowed (k pid : ℕ) (s : TracedState) (h : List Entry) : Type 0 where
  pub earlier : List Exchange
  pub handle : ℕ
  pub reply : Reply
  pub is : exchanges k h ≡ earlier ++ record { call = message_call handle (Unset fork_mode); reply = reply } ∷ []
  pub held : Held
  pub there : handle_of s.opens k handle ≡ Some held
  pub of : held.pid ≡ pid
  pub file : held.file ≡ Ctl
