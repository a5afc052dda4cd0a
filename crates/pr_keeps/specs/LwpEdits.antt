use Rattle.std.specs.Prelude.{◌≡◌, ℕ, Bool, true, false, List, Some, None, is_none}
use Rattle.pr_num.specs.Control.{has_flags, clear_signal, clear_fault, single_step, abort_call}
use Rattle.pr_num.specs.Infos.{by_controller}
use Rattle.pr_num.specs.Signals.{signal_of_number}
use Rattle.pr_num.specs.declared.messages.Message.{Message}
use Rattle.pr_num.specs.declared.messages.Message.TheVariants.{Stop, Dstop, Run, Csig, Cfault, Ssig, Unkill, Shold, Sreg, Svaddr}
use Rattle.pr_num.specs.declared.signals.Sig.{Sig}
use Rattle.pr_model.specs.Messages.{lwp_without_one, with_held_set, with_registers, with_address}
use Rattle.pr_model.specs.Running.{without_current, without_fault, with_step, with_abort, with_directive, without_directive, let_go, was_requested}
use Rattle.pr_model.specs.State.{TracedLwp}
use Rattle.pr_model.specs.Stops.{has_event_stop}
use Rattle.pr_model.specs.declared.stops.Stop.TheVariants.{Requested}

-- What a control message makes of one lwp: a closed list of edits. What each of them keeps, every message keeps.

-- whether a message clears the current signal of an lwp, the fault of one, and whether it directs one to stop
abbrev pub clears_current : Message → Bool
clears_current Csig = true
clears_current (Ssig number) = is_none (signal_of_number number)
clears_current (Run flags) = has_flags flags clear_signal
clears_current _ = false

abbrev pub clears_fault : Message → Bool
clears_fault Cfault = true
clears_fault (Run flags) = has_flags flags clear_fault
clears_fault _ = false

abbrev pub directs : Message → Bool
directs Stop = true
directs Dstop = true
directs (Run flags) = true
directs _ = false

-- one edit of an lwp, with what is known of the message and of the lwp then
pub data LwpEdit : Message → TracedLwp → TracedLwp → Type 0 where
  drops_signal : {m : Message} {l : TracedLwp} → clears_current m ≡ true → LwpEdit m l (without_current l)
  drops_fault : {m : Message} {l : TracedLwp} → clears_fault m ≡ true → LwpEdit m l (without_fault l)
  -- it is directed to stop, or is so no more
  directs_it : {m : Message} {l : TracedLwp} → directs m ≡ true → LwpEdit m l (with_directive l)
  undirects : {flags : ℕ} {l : TracedLwp} → LwpEdit (Run flags) l (without_directive l)
  -- it runs: its stop is over; its stop counts as requested from now on; its requested stop is over
  lets_go : {flags : ℕ} {l : TracedLwp} → LwpEdit (Run flags) l (let_go l)
  requests : {flags : ℕ} {l : TracedLwp} → has_event_stop l ≡ true
      → LwpEdit (Run flags) l (record l { control = record l.control { stop = Some Requested } })
  ends_request : {flags : ℕ} {l : TracedLwp} → was_requested l.control.stop ≡ true
      → LwpEdit (Run flags) l (record l { control = record l.control { stop = None } })
  -- marks of PCRUN
  steps : {flags : ℕ} {l : TracedLwp} → has_flags flags single_step ≡ true → LwpEdit (Run flags) l (with_step l)
  aborts : {flags : ℕ} {l : TracedLwp} → has_flags flags abort_call ≡ true → LwpEdit (Run flags) l (with_abort l)
  -- its signals
  signal_is : {number : ℕ} {g : Sig} {l : TracedLwp} → signal_of_number number ≡ Some g
      → LwpEdit (Ssig number) l (record l { current = Some (record { signal = g; info = by_controller }) })
  takes_back : {number : ℕ} {g : Sig} {l : TracedLwp} → signal_of_number number ≡ Some g
      → LwpEdit (Unkill number) l (lwp_without_one g l)
  holds : {signals : ℕ} {l : TracedLwp} → LwpEdit (Shold signals) l (with_held_set signals l)
  -- its registers
  registers_are : {regs : List ℕ} {l : TracedLwp} → LwpEdit (Sreg regs) l (with_registers regs l)
  goes_to : {pc : ℕ} {l : TracedLwp} → LwpEdit (Svaddr pc) l (with_address pc l)

-- edits of an lwp, one after another
pub data LwpEdits (m : Message) (l : TracedLwp) : TracedLwp → Type 0 where
  as_it_is : LwpEdits m l l
  then_edit : {k j : TracedLwp} → LwpEdits m l k → LwpEdit m k j → LwpEdits m l j
