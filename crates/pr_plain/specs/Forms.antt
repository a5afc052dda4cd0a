-- The forms of calls, turns and replies. Each form begins with a word of its own.
use Rattle.std.specs.Prelude.{ℕ, Bool, true, false, List, [], ◌∷◌}
use Rattle.pr_model.specs.declared.calls.Call.{Call}
use Rattle.pr_model.specs.declared.calls.Call.TheVariants as call
use Rattle.pr_model.specs.declared.calls.Reply.{Reply}
use Rattle.pr_model.specs.declared.calls.Reply.TheVariants as reply
use Rattle.pr_model.specs.declared.events.Did.{Did}
use Rattle.pr_model.specs.declared.events.Did.TheVariants.{Stopped, Ran, Entered, Made, Slept, Woke, Returned, Faulted, Posted, Took, Acted}

-- the first of some words
abbrev pub first_word : List (List ℕ) → List ℕ
first_word [] = []
first_word (w ∷ ws) = w

-- whether two calls are of one form
unfoldable pub same_call : Call → Call → Bool
same_call (call.Open p l f m) (call.Open q k g n) = true
same_call (call.Close h) (call.Close j) = true
same_call (call.Ctl h b) (call.Ctl j c) = true
same_call (call.CtlWait h u b) (call.CtlWait j v c) = true
same_call (call.Read h a l) (call.Read j b m) = true
same_call (call.Poll h) (call.Poll j) = true
same_call (call.Interrupt k) (call.Interrupt j) = true
same_call (call.Spawn p h) (call.Spawn q j) = true
same_call (call.Kill p s) (call.Kill q t) = true
same_call (call.Until m) (call.Until n) = true
same_call call.List call.List = true
same_call _ _ = false

-- whether two turns are of one form
unfoldable pub same_did : Did → Did → Bool
same_did Stopped Stopped = true
same_did Ran Ran = true
same_did (Entered c) (Entered d) = true
same_did (Made c r) (Made d s) = true
same_did (Slept c) (Slept d) = true
same_did (Woke c r) (Woke d s) = true
same_did (Returned c) (Returned d) = true
same_did (Faulted f) (Faulted g) = true
same_did (Posted f) (Posted g) = true
same_did (Took s) (Took t) = true
same_did (Acted s h) (Acted t j) = true
same_did _ _ = false

-- whether two replies are of one form
unfoldable pub same_reply : Reply → Reply → Bool
same_reply (reply.Handle h) (reply.Handle j) = true
same_reply reply.Done reply.Done = true
same_reply (reply.Used m) (reply.Used n) = true
same_reply (reply.Half m) (reply.Half n) = true
same_reply (reply.Bytes b) (reply.Bytes c) = true
same_reply (reply.Pid p) (reply.Pid q) = true
same_reply (reply.Ready h) (reply.Ready j) = true
same_reply (reply.Fail e) (reply.Fail f) = true
same_reply _ _ = false
