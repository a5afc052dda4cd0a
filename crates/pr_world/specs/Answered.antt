-- What a controller's move is, of the kernel and of that controller alone.
use Rattle.std.specs.Prelude.{◌≡◌, ℕ, Some}
use Rattle.pr_api.specs.Views.{KernelView}
use Rattle.pr_api.specs.Entries.{last_reply_of}
use Rattle.pr_api.specs.Steps.{IsCalled}
use Rattle.pr_model.specs.declared.calls.Call.{Call}
use Rattle.pr_model.specs.declared.calls.Reply.{Reply}
use Rattle.pr_world.specs.Controllers.{after_reply, next_call}
use Rattle.pr_world.specs.ControllerStates.{ControllerState}

-- The controller of a number made its next call, the kernel added the entry of it, and the controller got the reply.
pub record Answered (k : ℕ) (old new : KernelView) (before after : ControllerState) : Type 0 where
  pub call : Call
  pub reply : Reply
  pub next : next_call before ≡ Some call
  pub called : IsCalled k call old new
  pub replied : last_reply_of new.history ≡ Some reply
  pub fed : after ≡ after_reply before reply
