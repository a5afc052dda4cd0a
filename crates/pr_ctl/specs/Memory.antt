use Rattle.std.specs.Prelude.{ℕ, Bool, true, false, List, Result, Ok, Err}
use Rattle.pr_num.specs.declared.errnos.Errno.TheVariants.{Io}
use Rattle.pr_num.specs.declared.mappings.BadByte.{BadByte}
use Rattle.pr_num.specs.declared.messages.Message.{Message}
use Rattle.pr_num.specs.declared.messages.Message.TheVariants.{Agent, Read, Write}
use Rattle.pr_num.specs.declared.messages.MsgFault.{MsgFault}
use Rattle.pr_model.specs.declared.calls.Reply.{Reply}
use Rattle.pr_model.specs.declared.calls.Reply.TheVariants.{Bytes, Fail}

-- the reply to PCREAD, where these bytes are mapped or one of them is not
abbrev pub memory_reply : Result (List ℕ) BadByte → Reply
memory_reply (Err bad) = Fail Io
memory_reply (Ok bytes) = Bytes bytes

-- whether a message is handled without taking memory: all but those that answer bytes, write bytes or make an lwp
abbrev pub is_in_place : Message → Bool
is_in_place (Read at size) = false
is_in_place (Write at size) = false
is_in_place (Agent regs) = false
is_in_place _ = true

-- whether the message with which bytes begin is, if they begin with one
abbrev pub begins_in_place : Result (Message × ℕ) MsgFault → Bool
begins_in_place (Err fault) = true
begins_in_place (Ok (m, len)) = is_in_place m
