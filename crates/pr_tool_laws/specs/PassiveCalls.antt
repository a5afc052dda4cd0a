use Rattle.std.specs.Prelude.{ℕ, List, IfOk, IsTrue}
use Rattle.pr_model.specs.Passive.{is_passive_message}
use Rattle.pr_model.specs.declared.calls.Call.{Call}
use Rattle.pr_model.specs.declared.calls.Call.TheVariants as call
use Rattle.pr_num.specs.Messages.{first_message}

-- Calls that send passive messages alone.

-- The control message with which bytes begin is passive. Bytes that begin with none are refused.
abbrev pub BeginsPassively : List ℕ → Type 0
BeginsPassively bytes = IfOk (first_message bytes) (λ first. IsTrue (is_passive_message first.0))

-- a call that sends a passive message, or none
unfoldable pub IsPassiveCall : Call → Type 0
IsPassiveCall (call.Ctl handle bytes) = BeginsPassively bytes
IsPassiveCall (call.CtlWait handle until bytes) = BeginsPassively bytes
IsPassiveCall _ = Unit {0}
