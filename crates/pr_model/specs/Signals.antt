use Rattle.std.specs.Prelude.{◌-◌, ℕ, Bool, true, false, List, ◌∷◌, [], ◌++◌, Option, is_some, slice_index, slice_set, unwrap_or, if◌then◌else◌}
use Rattle.pr_num.specs.Sets.{minus_word, with_number}
use Rattle.pr_num.specs.Signals.{signal_number, least_signal}
use Rattle.pr_num.specs.declared.signals.Sig.{Sig}
use Rattle.pr_num.specs.declared.signals.Sig.TheVariants.{Kill}
use Rattle.pr_parts.specs.SignalRules.{takeable_signal, action_of}
use Rattle.pr_parts.specs.declared.actions.Action.{Action}
use Rattle.pr_model.specs.Generation.{signalled}
use Rattle.pr_model.specs.Lives.{with_ended}
use Rattle.pr_model.specs.Machines.{Machine}
use Rattle.pr_parts.specs.PendingSignals.{Pending, pending_set, info_of}
use Rattle.pr_model.specs.Registers.{with_pc}
use Rattle.pr_model.specs.State.{LwpOf, ProcessOf, SystemOf, with_process}
use Rattle.pr_model.specs.declared.frames.Frame.{Frame}
use Rattle.pr_num.specs.declared.infos.Info.{Info}
use Rattle.pr_num.specs.Infos.{no_info}
use Rattle.pr_model.specs.declared.lwps.Current.{Current}

-- Signals (signal.h(3HEAD), sigaction(2)): how one is generated, which one an lwp takes, and what is done with it.
-- Nothing else speaks of how signals are kept.

-- whether a signal is SIGKILL
abbrev pub is_kill : Sig → Bool
is_kill Kill = true
is_kill _ = false

-- ---- generating

-- Generation: SIGKILL ends the process at once, and any other signal pends for the process, or for the lwp of an id in
-- it. Every signal is generated so: by kill and sigqueue, by PCKILL, from outside, by faults, SIGCLD and SIGPIPE. A
-- zombie is sent nothing.
module _ {C H K : Type 0} (m : Machine C H K) where
  unfoldable pub generated : ℕ → Option ℕ → Sig → Info → SystemOf C H K → SystemOf C H K
  generated pid target s info system =
      if is_kill s then with_ended m pid (signal_number s) system else with_process pid (signalled target s info) system

-- ---- taking

-- the least signal that pends for an lwp alone and that it does not hold; and the least such of its process
unfoldable pub own_takeable : {H K : Type 0} → LwpOf H K → Option Sig
own_takeable l = least_signal (minus_word (pending_set l.pending) l.held)

module _ {C H K : Type 0} where
  unfoldable pub shared_takeable : ProcessOf C H K → LwpOf H K → Option Sig
  shared_takeable p l = least_signal (minus_word (pending_set p.pending) l.held)

  -- The signal that an lwp takes next: its own come before those of its process, and the least number before others.
  unfoldable pub takeable : ProcessOf C H K → LwpOf H K → Option Sig
  takeable p l = takeable_signal (pending_set l.pending) (pending_set p.pending) l.held

  -- whether there is one
  abbrev pub has_takeable : ProcessOf C H K → LwpOf H K → Bool
  has_takeable p l = is_some (takeable p l)

-- a signal that is taken becomes the current one, with its information
abbrev pub current_of : Sig → Pending → Current
current_of s pending = record { signal = s; info = unwrap_or (info_of s pending) no_info }

-- ---- acting

-- what is done with a signal under the dispositions of a process
unfoldable pub disposition_of : List ℕ → Sig → ℕ
disposition_of dispositions s = slice_index dispositions (signal_number s - 1)

abbrev pub action_for : List ℕ → Sig → Action
action_for dispositions s = action_of s (disposition_of dispositions s)

-- another disposition of a signal
abbrev pub with_disposition : Sig → ℕ → List ℕ → List ℕ
with_disposition s disposition dispositions = slice_set dispositions (signal_number s - 1) disposition

-- What a handler comes back to is saved in a frame, after those that stand: the registers and the held set.
abbrev pub with_frame : List ℕ → ℕ → List Frame → List Frame
with_frame regs held frames = frames ++ record { regs = regs; held = held } ∷ []

-- The registers with which a handler begins: r1 to r4 are the signal and its information, and pc is its address.
unfoldable pub handler_registers : Current → ℕ → List ℕ → List ℕ
handler_registers c handler regs =
    with_pc handler
    (slice_set
    (slice_set (slice_set (slice_set regs 1 (signal_number c.signal)) 2 c.info.code) 3 c.info.pid) 4 c.info.value)

-- a handler runs with its signal held beside those that are held already
unfoldable pub handler_held : Current → ℕ → ℕ
handler_held c held = with_number held (signal_number c.signal)
