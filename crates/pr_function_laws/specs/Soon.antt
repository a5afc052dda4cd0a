-- How soon truss with calls of functions runs a process that a poll named.
use Rattle.std.specs.Prelude.{◌≡◌, ◌≢◌, ◌≤◌, ◌+◌, ◌*◌, ◌++◌, ℕ, Bool, true, false, All, List, ◌∷◌, Some, length, position}
use Rattle.pr_line.specs.declared.options.Options.{Options}
use Rattle.pr_model.specs.declared.calls.Call.{Call}
use Rattle.pr_model.specs.declared.calls.Call.TheVariants as call
use Rattle.pr_model.specs.declared.calls.Reply.TheVariants as reply
use Rattle.pr_num.specs.declared.errnos.Errno.TheVariants.{Intr}
use Rattle.pr_num.specs.declared.messages.Message.TheVariants as message
use Rattle.pr_truss.specs.Messages.{message_call}
use Rattle.pr_truss.specs.Stops.{has_control}
use Rattle.pr_truss.specs.Trusses.{TrussState, first_truss, traced_at}
use Rattle.pr_truss.specs.declared.processes.Traced.{Traced}
use Rattle.pr_truss_laws.specs.Exchanges.{Exchange}
use Rattle.pr_truss_laws.specs.Polled.{IsNoFileOf}
use Rattle.pr_function_laws.specs.Runs.{functions_after}

-- a poll was replied that the control file of the process at this place is ready
pub record IsNamed (s : TrussState) (x : Exchange) (place : ℕ) : Type 0 where
  pub handles : List ℕ
  pub polls : x.call ≡ call.Poll handles
  pub handle : ℕ
  pub ready : x.reply ≡ reply.Ready handle
  pub there : position (has_control handle) s.traced ≡ Some place

-- a call that neither runs a process, with whatever run flags, nor closes a file of it
pub record IsNoEndOf (t : Traced) (x : Exchange) : Type 0 where
  pub not_run : (flags : ℕ) → x.call ≢ message_call t.control (message.Run flags)
  pub not_closed : (handle : ℕ) → x.call ≡ call.Close handle → IsNoFileOf t handle

-- the calls that wait
abbrev pub may_wait : Call → Bool
may_wait (call.CtlWait handle until bytes) = true
may_wait (call.Poll handles) = true
may_wait (call.Until moment) = true
may_wait _ = false

-- Only a call that waits was interrupted. So it is of each call in a legal history.
pub record IsCalm (x : Exchange) : Type 0 where
  pub waits : x.reply ≡ reply.Fail Intr → may_wait x.call ≡ true

-- How many calls come at most before such an end: those of truss without functions, and the writes by which breakpoints
-- are planted and lifted, two for each function at most.
abbrev pub calls_until_end : Options → ℕ
calls_until_end o = 12 + 2 * length o.functions

-- Wherever a poll named a process, at most so many calls come before truss runs it or closes a file of it.
pub record IsSoonDone (o : Options) (xs : List Exchange) : Type 0 where
  pub each : (before between after : List Exchange) (x : Exchange) (place : ℕ)
      → xs ≡ before ++ x ∷ (between ++ after) → IsNamed (functions_after (first_truss o) before) x place
      → All (IsNoEndOf (traced_at (functions_after (first_truss o) before) place)) between
      → length between ≤ calls_until_end o
