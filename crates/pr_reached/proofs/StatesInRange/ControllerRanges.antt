use Rattle.std.proofs.Common.{◌≡◌, ℕ, Some, None, Ok, List, ◌-◌, drop, arith}
use Rattle.std.specs.List.{All}
use Rattle.std.proofs.lemmas.List.Elements.{All-drop, All-nil, All-take}
use Rattle.pr_codec.proofs.SpellingLemmas.{read_is_spelt}
use Rattle.pr_num.proofs.ByIdLaws.{All-map_each}
use Rattle.pr_num.specs.Infos.{killed_by}
use Rattle.pr_num.specs.Messages.{first_message, tail_length, unpadded_length}
use Rattle.pr_num.specs.Words.{IsByte}
use Rattle.pr_num.specs.Signals.{signal_number}
use Rattle.pr_num.specs.declared.messages.Message.{Message}
use Rattle.pr_num.specs.declared.signals.Sig.TheVariants.{Kill}
use Rattle.pr_keeps.specs.CallEdits as edit
use Rattle.pr_keeps.specs.CallEdits.{CallEdit, CloseEdit}
use Rattle.pr_keeps.proofs.CallLemmas.{call-edit, close-edit}
use Rattle.pr_lawful.proofs.LawfulTurns.EndLemmas.{found-live}
use Rattle.pr_model.specs.Calls.{Answer, answer_to}
use Rattle.pr_model.specs.ControlMessages.{tail_of}
use Rattle.pr_model.specs.Handles.{released, released_control, released_lwp, with_closed, with_opened}
use Rattle.pr_model.specs.State.{TracedState, TracedSystem}
use Rattle.pr_model.specs.declared.calls.Call.{Call}
use Rattle.pr_reached.proofs.StatesInRange.CallRanges.{named-range}
use Rattle.pr_reached.proofs.StatesInRange.ChangeRanges.{spawned-range}
use Rattle.pr_reached.proofs.StatesInRange.EndRanges.{generated-range, signal-word, this_ended-range, live-range}
use Rattle.pr_reached.proofs.StatesInRange.MessageRanges.{IsReadMessage, edit-range}
use Rattle.pr_reached.proofs.StatesInRange.ProcessRanges.{KeepsLwp, KeepsProcess, LwpInRange, changed-one, with_marks}
use Rattle.pr_reached.specs.ByteHistories.{IsOfBytes}
use Rattle.pr_reached.specs.InRange.{IsAreaInRange, IsInRange}

-- Each edit of a call of a controller leaves a state in range, where the bytes that it writes are bytes: a line a kind
-- of edit.

-- ---- the last close for writing

released_lwp-keeps : KeepsLwp released_lwp
unfolding released_lwp
released_lwp-keeps l h = with_marks l _ h

released-keeps : KeepsProcess released
unfolding released released_control
released-keeps x h = record {
  program = h.program;
  made_at = h.made_at;
  ended = h.ended;
  space = h.space;
  dispositions = h.dispositions;
  pending = h.pending;
  lwps = All-map_each LwpInRange LwpInRange released_lwp (λ e it. released_lwp-keeps e.1 it) x.lwps h.lwps;
  control = record {
    signals = omega arith;
    faults = omega arith;
    entries = omega arith;
    exits = omega arith;
    modes = h.control.modes;
    areas = All-nil IsAreaInRange;
    few_areas = omega arith;
  };
}

closed-range : (s : TracedSystem) (pid : ℕ) (t : TracedSystem) → CloseEdit s pid t → IsInRange s → IsInRange t
closed-range s pid t edit.nothing h = h
closed-range s pid t (edit.kills p live mode) h =
    this_ended-range s pid p (signal_number Kill) (signal-word Kill) (live-range s pid p h live) h
closed-range s pid t (edit.releases p live spares mode) h = changed-one s pid released released-keeps h

-- ---- the message with which bytes begin

read-message : (bytes : List ℕ) (m : Message) (len : ℕ) → All IsByte bytes → first_message bytes ≡ Ok (m, len)
    → IsReadMessage m (tail_of m bytes)
read-message bytes m len all read =
    let spelt = (read_is_spelt bytes m len all read).1.1 in
    let from = unpadded_length m - tail_length m in
    record {
      words = spelt.words;
      count = spelt.count;
      columns = spelt.columns;
      tail_bytes = All-take IsByte (unpadded_length m - from) (drop from bytes) (All-drop IsByte from bytes all);
    }

-- ---- the calls

pub edited-range : (s : TracedState) (by : ℕ) (c : Call) (t : TracedState) → CallEdit s by c t → IsOfBytes c
    → IsInRange s.system → IsInRange t.system
unfolding with_opened
edited-range s by c t edit.looks all h = h
edited-range s by c t (edit.opens free grants) all h = h
edited-range s by c t (edit.closes {handle = handle} {held = held} at) all h =
    closed-range s.system held.pid (with_closed held handle s).system (close-edit s handle held) h
edited-range s by c t (edit.controls {bytes = bytes} {held = held} {p = p} {m = m} {t = u} it e) all h =
    edit-range s.system held.pid p m (tail_of m bytes) u e (found-live s.system held.pid p it.live).0
    (read-message bytes m it.length all it.read) h
edited-range s by c t edit.sees_interrupt all h = h
edited-range s by c t (edit.interrupts there) all h = h
edited-range s by c t (edit.spawns {name = name} {held = held} {program = program} named grants) all h =
    spawned-range s.system program held (named-range s.system.programs name program h.programs named) h
edited-range s by c t (edit.sends {pid = pid} {g = g} is) all h =
    generated-range s.system pid None g (killed_by 0) (omega arith) h

pub controller-range : (s : TracedState) (h : IsInRange s.system) (by : ℕ) (c : Call) (a : Answer) → IsOfBytes c
    → answer_to s by c ≡ Some a → IsInRange a.state.system
controller-range s h by c a all is = edited-range s by c a.state (call-edit s by c a is) all h
