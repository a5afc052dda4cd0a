use Rattle.std.specs.Prelude.{◌≡◌, ℕ, All, List, [], ◌∷◌, ◌++◌}
use Rattle.pr_line.specs.declared.options.Options.{Options}
use Rattle.pr_model.specs.declared.calls.Call.{Call}
use Rattle.pr_model.specs.declared.calls.Call.TheVariants as call
use Rattle.pr_model.specs.declared.calls.File.TheVariants.{Mem}
use Rattle.pr_model.specs.declared.calls.Mode.TheVariants.{Read}
use Rattle.pr_model.specs.declared.calls.Reply.{Reply}
use Rattle.pr_model.specs.declared.calls.Reply.TheVariants as reply
use Rattle.pr_num.specs.Control.{fork_mode}
use Rattle.pr_num.specs.declared.messages.Message.TheVariants as message
use Rattle.pr_truss.specs.Messages.{message_call, traced_exits}
use Rattle.pr_truss_laws.specs.Exchanges.{Exchange}
use Rattle.pr_truss_laws.specs.Soon.{IsNoPoll}

-- Truss runs just what a poll has named, once for each poll, and what it has opened.

-- The call that comes right before the PCRUN with which an opening ends: of a process that truss was given, and of the
-- child of a fork.
pub data EndsOpening (o : Options) (control : ℕ) : Call → Type 0 where
  traced : EndsOpening o control (message_call control (message.Sexit (traced_exits o)))
  followed : EndsOpening o control (message_call control (message.Set fork_mode))
  as_child : {pid : ℕ} → EndsOpening o control (call.Open pid 0 Mem Read)

-- These exchanges end with such a call, so that of the opening nothing is left but its PCRUN.
pub record HasEnded (o : Options) (control : ℕ) (xs : List Exchange) : Type 0 where
  pub earlier : List Exchange
  pub last : Exchange
  pub is : xs ≡ earlier ++ last ∷ []
  pub ends : EndsOpening o control last.call

-- Each PCRUN among the later of these exchanges, to whichever process, ends an opening.
pub record RunsWhatItOpens (o : Options) (earlier later : List Exchange) : Type 0 where
  pub each : (before after : List Exchange) (control : ℕ) (reply : Reply)
      → later ≡ before ++ record { call = message_call control (message.Run 0); reply = reply } ∷ after
      → HasEnded o control (earlier ++ before)

-- The last poll among these exchanges was replied that this handle is ready, and since then nothing was run but what
-- was opened. So no two runs are of one poll.
pub record WasNamedLast (o : Options) (handle : ℕ) (xs : List Exchange) : Type 0 where
  pub before : List Exchange
  pub handles : List ℕ
  pub after : List Exchange
  pub is : xs ≡ before ++ record { call = call.Poll handles; reply = reply.Ready handle } ∷ after
  pub none : All IsNoPoll after
  pub once : RunsWhatItOpens o (before ++ record { call = call.Poll handles; reply = reply.Ready handle } ∷ []) after

-- When truss runs a process by the handle of its control file.
pub data MayRun (o : Options) (control : ℕ) (xs : List Exchange) : Type 0 where
  named : WasNamedLast o control xs → MayRun o control xs
  opened : HasEnded o control xs → MayRun o control xs

pub record RunsWhatWasNamed (o : Options) (xs : List Exchange) : Type 0 where
  pub each : (before after : List Exchange) (control : ℕ) (reply : Reply)
      → xs ≡ before ++ record { call = message_call control (message.Run 0); reply = reply } ∷ after
      → MayRun o control before
