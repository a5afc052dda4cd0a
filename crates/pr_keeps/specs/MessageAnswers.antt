use Rattle.std.specs.Prelude.{◌≡◌, ℕ, Bool, true, false, not, List, Ok}
use Rattle.pr_num.specs.declared.errnos.Errno.{Errno}
use Rattle.pr_num.specs.declared.errnos.Errno.TheVariants.{Inval, Busy, Io, Nomem, Again}
use Rattle.pr_num.specs.declared.messages.Message.{Message}
use Rattle.pr_num.specs.declared.messages.Message.TheVariants.{Twstop, Run, Kill, Sreg, Svaddr, Watch, Agent, Read, Write}
use Rattle.pr_model.specs.ControlMessages.{waits}
use Rattle.pr_model.specs.Messages.{Controlled, mapped_bytes, refused, wait_end}
use Rattle.pr_model.specs.State.{TracedProcess, TracedSystem}
use Rattle.pr_model.specs.declared.calls.Reply.TheVariants.{Used, Half, Bytes}
use Rattle.pr_keeps.specs.MessageEdits.{MessageEdit}

-- What a control message replies, beside its edit: a closed list. It is refused and changes nothing, or it makes its
-- edit and is used up, goes on with a wait, or has read bytes.

-- with which errno a message may be refused; no other message is refused, and none with another errno
pub data MessageRefusal : Message → Errno → Type 0 where
  -- EBUSY: it needs a stop, or memory that is not lent
  run_busy : {flags : ℕ} → MessageRefusal (Run flags) Busy
  registers_busy : {regs : List ℕ} → MessageRefusal (Sreg regs) Busy
  address_busy : {pc : ℕ} → MessageRefusal (Svaddr pc) Busy
  watch_busy : {at size flags : ℕ} → MessageRefusal (Watch at size flags) Busy
  agent_busy : {regs : List ℕ} → MessageRefusal (Agent regs) Busy
  write_busy : {at size : ℕ} → MessageRefusal (Write at size) Busy
  -- EINVAL: the area overlaps one
  watch_taken : {at size flags : ℕ} → MessageRefusal (Watch at size flags) Inval
  -- ENOMEM, EAGAIN: there is no room
  watch_full : {at size flags : ℕ} → MessageRefusal (Watch at size flags) Nomem
  agent_full : {regs : List ℕ} → MessageRefusal (Agent regs) Nomem
  kill_full : {number : ℕ} → MessageRefusal (Kill number) Again
  -- EIO: not all of the range is mapped
  read_unmapped : {at size : ℕ} → MessageRefusal (Read at size) Io
  write_unmapped : {at size : ℕ} → MessageRefusal (Write at size) Io

-- whether a message that is not refused is used up: it neither waits nor reads
abbrev pub is_used_up : Message → Bool
is_used_up (Read at size) = false
is_used_up m = not (waits m)

-- the moment at which the wait ends that a message goes on with; 0: it has no end
abbrev pub end_of_wait : TracedSystem → ℕ → TracedProcess → Message → ℕ
end_of_wait s pid p (Twstop ms) = wait_end s pid p ms
end_of_wait s pid p _ = 0

-- of a message of so many bytes, with these after its operands
pub data MessageAnswer (s : TracedSystem) (pid : ℕ) (p : TracedProcess) (tail : List ℕ) (len : ℕ)
    : Message → Controlled → Type 0 where
  -- nothing changes
  refuses : {m : Message} {e : Errno} → MessageRefusal m e → MessageAnswer s pid p tail len m (refused s e)
  uses_up : {m : Message} {t : TracedSystem} → is_used_up m ≡ true → MessageEdit s pid p m tail t
      → MessageAnswer s pid p tail len m (record { system = t; reply = Used len })
  goes_on : {m : Message} {t : TracedSystem} → waits m ≡ true → MessageEdit s pid p m tail t
      → MessageAnswer s pid p tail len m (record { system = t; reply = Half (end_of_wait s pid p m) })
  -- nothing changes
  reads : {at size : ℕ} {bytes : List ℕ} → mapped_bytes s pid p at size ≡ Ok bytes
      → MessageAnswer s pid p tail len (Read at size) (record { system = s; reply = Bytes bytes })
