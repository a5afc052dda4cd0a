use Rattle.std.specs.Prelude.{◌≡◌, ◌==◌, ℕ, Bool, not, filter, List, [], ◌∷◌, ◌++◌, Option, Some, None}
use Rattle.pr_model.specs.Replies.{handle_in}
use Rattle.pr_model.specs.declared.calls.Call.{Call}
use Rattle.pr_model.specs.declared.calls.Call.TheVariants as call
use Rattle.pr_model.specs.declared.calls.File.TheVariants.{Ctl}
use Rattle.pr_model.specs.declared.calls.Reply.{Reply}
use Rattle.pr_num.specs.declared.errnos.Errno.{Errno}
use Rattle.pr_truss_laws.specs.Exchanges.{Exchange, errno_in}

-- Truss polls its processes in the order in which it opened them.

-- ---- the control files that are open

-- whether a handle is another one than that which was closed
abbrev pub is_other : ℕ → ℕ → Bool
is_other closed handle = not (handle == closed)

-- an open that was granted puts its handle behind the others
abbrev pub with_granted : List ℕ → ℕ → Option Errno → List ℕ
with_granted handles handle None = handles ++ handle ∷ []
with_granted handles handle (Some errno) = handles

-- Which control files a controller has open after a call, where it had these open before it: a granted open puts one
-- behind them, and a close takes one out. A close of a file that is open is never refused, and no other call opens or
-- closes.
abbrev pub controls_then : List ℕ → Call → Reply → List ℕ
controls_then handles (call.Open pid id Ctl mode) r = with_granted handles (handle_in r) (errno_in r)
controls_then handles (call.Close closed) r = filter (is_other closed) handles
controls_then handles _ r = handles

-- the same after some exchanges
abbrev pub controls_from : List ℕ → List Exchange → List ℕ
controls_from handles [] = handles
controls_from handles (x ∷ xs) = controls_from (controls_then handles x.call x.reply) xs

-- The handles of the control files that a controller has open after these exchanges, in the order of their opens, where
-- it had none open at first.
abbrev pub controls_after : List Exchange → List ℕ
controls_after xs = controls_from [] xs

-- ---- the polls

-- Each poll among these exchanges lists just the control files that are open then, in the order of their opens.
pub record PollsInOrder (xs : List Exchange) : Type 0 where
  pub each : (before after : List Exchange) (handles : List ℕ) (reply : Reply)
      → xs ≡ before ++ record { call = call.Poll handles; reply = reply } ∷ after → handles ≡ controls_after before
