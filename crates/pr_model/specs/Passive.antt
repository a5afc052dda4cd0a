use Rattle.std.specs.Prelude.{◌==◌, ◌||◌, ℕ, Bool, true, false, not, List, Result, Ok, Err, IsTrue, All}
use Rattle.pr_num.specs.Control.{has_flags, klc_mode, stop_again}
use Rattle.pr_num.specs.Messages.{first_message}
use Rattle.pr_num.specs.declared.messages.MsgFault.{MsgFault}
use Rattle.pr_num.specs.declared.messages.Message.{Message}
use Rattle.pr_num.specs.declared.messages.Message.TheVariants.{Stop, Dstop, Wstop, Twstop, Run, Csig, Cfault, Ssig, Kill, Unkill, Shold, Strace, Sfault, Sentry, Sexit, Set, Unset, Sreg, Svaddr, Watch, Agent, Read, Write}
use Rattle.pr_model.specs.declared.calls.Call as calls
use Rattle.pr_model.specs.declared.calls.Call.TheVariants as call
use Rattle.pr_model.specs.declared.calls.Reply.{Reply}
use Rattle.pr_model.specs.declared.calls.Reply.TheVariants as reply
use Rattle.pr_model.specs.declared.events.Act.{Act}
use Rattle.pr_model.specs.declared.events.Act.TheVariants as act
use Rattle.pr_model.specs.declared.events.Entry.{Entry}

-- Passive histories: of control messages controllers sent only those that stop, run, read and trace, and set no mode
-- but PR_FORK, PR_RLC and PR_ASYNC. Every other call is passive too: processes that are made and signals that are sent
-- from outside are steps of the untraced machine as well. A call that was refused did nothing.

-- whether a message is one of those
unfoldable pub is_passive_message : Message → Bool
is_passive_message Stop = true
is_passive_message Dstop = true
is_passive_message Wstop = true
is_passive_message (Twstop ms) = true
-- with no run flag, or PRSTOP alone
is_passive_message (Run flags) = (flags == 0) || (flags == stop_again)
is_passive_message Csig = false
is_passive_message Cfault = false
is_passive_message (Ssig signal) = false
is_passive_message (Kill signal) = false
is_passive_message (Unkill signal) = false
is_passive_message (Shold signals) = false
is_passive_message (Strace signals) = true
is_passive_message (Sfault faults) = true
is_passive_message (Sentry calls) = true
is_passive_message (Sexit calls) = true
is_passive_message (Set modes) = not (has_flags modes klc_mode)
is_passive_message (Unset modes) = true
is_passive_message (Sreg regs) = false
is_passive_message (Svaddr pc) = false
is_passive_message (Watch at size flags) = false
is_passive_message (Agent regs) = false
is_passive_message (Read at len) = true
is_passive_message (Write at len) = false

-- whether what bytes begin with is passive; bytes that begin with no message are refused
abbrev pub is_passive_write : Result (Message × ℕ) MsgFault → Bool
is_passive_write (Ok (m, length)) = is_passive_message m
is_passive_write (Err fault) = false

-- whether a call is passive, where it got this reply
abbrev pub is_passive_call : calls.Call → Reply → Bool
is_passive_call c (reply.Fail e) = true
is_passive_call (call.Ctl handle bytes) r = is_passive_write (first_message bytes)
is_passive_call (call.CtlWait handle until bytes) r = is_passive_write (first_message bytes)
is_passive_call c r = true

abbrev pub is_passive_act : Act → Bool
is_passive_act (act.Call c r) = is_passive_call c r
is_passive_act (act.Turn t) = true
is_passive_act (act.Tick n) = true

-- whether every entry of a history is passive
abbrev pub IsPassive : List Entry → Type 0
IsPassive h = All (λ (e : Entry). IsTrue (is_passive_act e.act)) h
