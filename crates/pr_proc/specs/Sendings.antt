use Rattle.std.specs.Prelude.{◌≡◌, ℕ, None, IsSome, IfSome, IsTrue}
use Rattle.pr_num.specs.declared.signals.Sig.{Sig}
use Rattle.pr_model.specs.Generation.{with_deletions}
use Rattle.pr_model.specs.SignalCalls as calls
use Rattle.pr_model.specs.State.{TracedSystem, live_process}
use Rattle.pr_post.specs.Room.{has_room_for}
use Rattle.pr_proc.specs.declared.sending.Sending.{Sending}
use Rattle.pr_proc.specs.declared.sending.Sending.TheVariants.{Refused, Nothing, Sent}

-- What comes of sending a signal, in the words of the definitions.

abbrev pub sending_meant : Sending → calls.Sending
sending_meant (Refused e) = calls.refuses e
sending_meant Nothing = calls.sends_nothing
sending_meant (Sent id g) = calls.sends g

-- a signal can be sent to the process that a number names, which is its id: it is live, and has room for it once the
-- signal has deleted others
pub record IsSent (s : TracedSystem) (target id : ℕ) (g : Sig) : Type 0 where
  pub named : id ≡ target
  pub lives : IsSome (live_process s id)
  pub room : IfSome (live_process s id) (λ p. IsTrue (has_room_for None g (with_deletions g p)))
