-- What has a text that is read back: numbers that are words of their types, bytes that are bytes, and programs whose
-- names have the form of a scenario's. An entry that the program holds has all of that but the last.
use Rattle.std.specs.Prelude.{ℕ, ◌^◌, ◌&&◌, nat_lt, Bool, true}
use Rattle.std.specs.List.{list_all}
use Rattle.pr_text.specs.Names.{is_name}
use Rattle.pr_model.specs.declared.calls.Call.{Call}
use Rattle.pr_model.specs.declared.calls.Call.TheVariants as call
use Rattle.pr_model.specs.declared.calls.Reply.{Reply}
use Rattle.pr_model.specs.declared.calls.Reply.TheVariants as reply
use Rattle.pr_model.specs.declared.events.Act.{Act}
use Rattle.pr_model.specs.declared.events.Act.TheVariants as act
use Rattle.pr_model.specs.declared.events.Actor.{Actor}
use Rattle.pr_model.specs.declared.events.Actor.TheVariants.{Controller, Lwp, Clock}
use Rattle.pr_model.specs.declared.events.Did.{Did}
use Rattle.pr_model.specs.declared.events.Did.TheVariants.{Made, Woke}
use Rattle.pr_model.specs.declared.events.Entry.{Entry}
use Rattle.pr_model.specs.declared.events.Res.{Res}
use Rattle.pr_model.specs.declared.events.Res.TheVariants.{Value, Error, Ended}

-- a number below 2^64, one below 2^32, and a byte
abbrev pub is_number : ℕ → Bool
is_number n = nat_lt n (2 ^ 64)

abbrev pub is_id : ℕ → Bool
is_id n = nat_lt n (2 ^ 32)

abbrev pub is_byte : ℕ → Bool
is_byte b = nat_lt b 256

unfoldable pub actor_form : Actor → Bool
actor_form (Controller k) = is_id k
actor_form (Lwp p l) = is_id p && is_id l
actor_form Clock = true

unfoldable pub result_form : Res → Bool
result_form (Value n) = is_number n
result_form (Error e) = true
result_form Ended = true

unfoldable pub did_form : Did → Bool
did_form (Made c r) = result_form r
did_form (Woke c r) = result_form r
did_form _ = true

unfoldable pub call_form : Call → Bool
call_form (call.Open pid lwp file mode) = is_id pid && is_id lwp
call_form (call.Close h) = is_id h
call_form (call.Ctl h bytes) = is_id h && list_all is_byte bytes
call_form (call.CtlWait h until bytes) = is_id h && (is_number until && list_all is_byte bytes)
call_form (call.Read h at len) = is_id h && (is_number at && is_number len)
call_form (call.Poll handles) = list_all is_id handles
call_form (call.Interrupt k) = is_id k
call_form (call.Spawn program held) = is_name program
call_form (call.Kill pid sig) = is_id pid && is_number sig
call_form (call.Until moment) = is_number moment
call_form call.List = true

unfoldable pub reply_form : Reply → Bool
reply_form (reply.Handle h) = is_id h
reply_form reply.Done = true
reply_form (reply.Used n) = is_number n
reply_form (reply.Half n) = is_number n
reply_form (reply.Bytes bytes) = list_all is_byte bytes
reply_form (reply.Pid p) = is_id p
reply_form (reply.Ready h) = is_id h
reply_form (reply.Fail e) = true

unfoldable pub act_form : Act → Bool
act_form (act.Call c r) = call_form c && reply_form r
act_form (act.Turn t) = did_form t.did
act_form (act.Tick n) = is_number n

unfoldable pub has_form : Entry → Bool
has_form e = actor_form e.actor && act_form e.act
