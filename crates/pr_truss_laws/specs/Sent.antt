use Rattle.std.specs.Prelude.{◌≡◌, ℕ, Bool, true, false, List, [], ◌∷◌, ◌++◌}
use Rattle.pr_line.specs.declared.options.Options.{Options}
use Rattle.pr_model.specs.declared.calls.Call.{Call}
use Rattle.pr_model.specs.declared.calls.Call.TheVariants as call
use Rattle.pr_model.specs.declared.calls.File.TheVariants.{Ctl, Mem}
use Rattle.pr_model.specs.declared.calls.Mode.TheVariants.{Read, WriteExcl}
use Rattle.pr_num.specs.Control.{fork_mode, rlc_mode}
use Rattle.pr_num.specs.Messages.{spelling}
use Rattle.pr_num.specs.declared.messages.Message.TheVariants as message
use Rattle.pr_truss.specs.Messages.{all_modes, message_call, traced_entries, traced_exits, traced_faults, traced_signals}
use Rattle.pr_truss_laws.specs.Exchanges.{Exchange}

-- What truss(1) sends to a process: to run it; to begin to leave it; and all else while it opens the process, each
-- message right after the call that comes before it there.

-- The call that comes right before a message of an opening, or before the wait for the stop. The process was opened, or
-- the child of a fork. Only where truss follows children does it have them traced. Where a process is opened whole,
-- `WasOpened` and its like say more.
pub data Precedes (o : Options) : Call → Call → Type 0 where
  clears : {pid control : ℕ} → Precedes o (call.Open pid 0 Mem Read) (message_call control (message.Unset all_modes))
  releases : {control : ℕ}
      → Precedes o (message_call control (message.Unset all_modes)) (message_call control (message.Set rlc_mode))
  releases_child : {pid control : ℕ}
      → Precedes o (call.Open pid 0 Ctl WriteExcl) (message_call control (message.Set rlc_mode))
  stops : {control : ℕ}
      → Precedes o (message_call control (message.Set rlc_mode)) (message_call control message.Stop)
  waits : {control until : ℕ}
      → Precedes o (message_call control message.Stop) (call.CtlWait control until (spelling message.Stop []))
  traces_signals : {handle from len control : ℕ}
      → Precedes o (call.Read handle from len) (message_call control (message.Strace (traced_signals o)))
  traces_faults : {control : ℕ} → Precedes o (message_call control (message.Strace (traced_signals o)))
      (message_call control (message.Sfault (traced_faults o)))
  traces_entries : {control : ℕ} → Precedes o (message_call control (message.Sfault (traced_faults o)))
      (message_call control (message.Sentry (traced_entries o)))
  traces_exits : {control : ℕ} → Precedes o (message_call control (message.Sentry (traced_entries o)))
      (message_call control (message.Sexit (traced_exits o)))
  follows : {control : ℕ} → o.follow ≡ true → Precedes o (message_call control (message.Sexit (traced_exits o)))
      (message_call control (message.Set fork_mode))

-- What may be sent right after this call.
pub data MaySendNext (o : Options) (last : Call) : Call → Type 0 where
  runs : {control : ℕ} → MaySendNext o last (message_call control (message.Run 0))
  unfollows : {control : ℕ} → MaySendNext o last (message_call control (message.Unset fork_mode))
  opens : {c : Call} → Precedes o last c → MaySendNext o last c

-- whether a call sends a message
abbrev pub sends : Call → Bool
sends (call.Ctl handle bytes) = true
sends (call.CtlWait handle until bytes) = true
sends _ = false

-- The last of these exchanges is one after whose call this one may come.
pub record IsInOrder (o : Options) (xs : List Exchange) (c : Call) : Type 0 where
  pub earlier : List Exchange
  pub last : Exchange
  pub is : xs ≡ earlier ++ last ∷ []
  pub may : MaySendNext o last.call c

-- Each message is sent so.
pub record SendsInOrder (o : Options) (xs : List Exchange) : Type 0 where
  pub each : (before after : List Exchange) (x : Exchange) → xs ≡ before ++ x ∷ after → sends x.call ≡ true
      → IsInOrder o before x.call
