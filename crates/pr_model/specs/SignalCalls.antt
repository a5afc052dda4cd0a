use Rattle.std.specs.Prelude.{◌==◌, ◌&&◌, ◌-◌, ◌^◌, ℕ, Bool, true, false, List, [], ◌∷◌, Option, Some, None, length, nat_lt, slice_get, take, if◌then◌else◌}
use Rattle.pr_num.specs.Signals.{signal_number, signal_of_number, holdable_word}
use Rattle.pr_num.specs.declared.errnos.Errno.{Errno}
use Rattle.pr_num.specs.declared.errnos.Errno.TheVariants.{Inval, Perm, Srch, Again}
use Rattle.pr_num.specs.declared.signals.Sig.{Sig}
use Rattle.pr_num.specs.declared.signals.Sig.TheVariants.{Kill, Stop}
use Rattle.pr_model.specs.Changes.{Effect, gives, fails, ends, ends_process, signals, disposition_is, held_is, resumes}
use Rattle.pr_model.specs.Machines.{Machine}
use Rattle.pr_parts.specs.PendingSignals.{Pending, has_room}
use Rattle.pr_model.specs.Readers.{Life, gone, a_zombie, live}
use Rattle.pr_model.specs.Signals.{generated, is_kill, disposition_of}
use Rattle.pr_model.specs.State.{SystemOf}
use Rattle.pr_model.specs.declared.frames.Frame.{Frame}
use Rattle.pr_num.specs.declared.infos.Info.{Info}
use Rattle.pr_num.specs.Limits.{signal_count}

-- The system calls on signals, a definition a call. Each tries its refusals in their order.

-- What comes of sending a signal of a number to a process, by a process, by a controller, or from outside: it is
-- refused, nothing is sent, or the signal is.
pub data Sending : Type 0 where
  refuses : Errno → Sending
  sends_nothing : Sending
  sends : Sig → Sending

-- EINVAL: no such signal; EPERM: process 0; ESRCH: no such process; EAGAIN: no room in its queue. Signal 0 sends
-- nothing, and a zombie is sent nothing.
unfoldable pub sending : ℕ → ℕ → Life → Sending
sending target number life =
    if nat_lt signal_count number then refuses Inval else (if target == 0 then refuses Perm else of life)
  where
    with_room : Pending → Option Sig → Sending
    with_room pending None = sends_nothing
    with_room pending (Some s) = if has_room s pending then sends s else refuses Again

    of : Life → Sending
    of gone = refuses Srch
    of a_zombie = sends_nothing
    of (live pending) = with_room pending (signal_of_number number)

-- SIGKILL to the caller's own process ends it
unfoldable pub sent_effect : ℕ → ℕ → Info → Sending → Effect
sent_effect own target info (refuses e) = fails e
sent_effect own target info sends_nothing = gives 0 []
sent_effect own target info (sends s) =
    if is_kill s && (target == own) then ends (ends_process (signal_number s)) else gives 0 (signals target s info ∷ [])

-- what comes of it in the system, where it is sent from outside
unfoldable pub with_sent : {C H K : Type 0} → Machine C H K → ℕ → Info → Sending → SystemOf C H K → SystemOf C H K
with_sent m target info (refuses e) system = system
with_sent m target info sends_nothing system = system
with_sent m target info (sends s) system = generated m target None s info system

-- kill(2) and sigqueue(3C)
unfoldable pub send_effect : ℕ → ℕ → ℕ → Info → Life → Effect
send_effect own target number info life = sent_effect own target info (sending target number life)

-- whether a disposition of a signal can be changed: all but those of SIGKILL and SIGSTOP
abbrev pub can_be_caught : Sig → Bool
can_be_caught Kill = false
can_be_caught Stop = false
can_be_caught _ = true

-- sigaction(2): gives the old disposition. EINVAL: no such signal, or SIGKILL or SIGSTOP.
unfoldable pub sigaction_effect : List ℕ → ℕ → ℕ → Effect
sigaction_effect dispositions number disposition = of (signal_of_number number)
  where
    of : Option Sig → Effect
    of None = fails Inval
    of (Some s) =
        if can_be_caught s then gives (disposition_of dispositions s)
        (disposition_is s disposition ∷ []) else fails Inval

-- sigprocmask(2): gives the old held set. EINVAL: a bit beyond the signals. SIGKILL and SIGSTOP are never held.
unfoldable pub sigmask_effect : ℕ → ℕ → Effect
sigmask_effect held word =
    if nat_lt word (2 ^ signal_count) then gives held (held_is (holdable_word word) ∷ []) else fails Inval

-- the return from a handler: the last frame's registers and held set come back. EINVAL: no handler runs.
unfoldable pub sigreturn_effect : List Frame → Effect
sigreturn_effect frames = of (slice_get frames (length frames - 1))
  where
    of : Option Frame → Effect
    of None = fails Inval
    of (Some frame) = gives 0 (resumes frame (take (length frames - 1) frames) ∷ [])
