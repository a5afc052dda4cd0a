use Rattle.std.proofs.Common.{◌≡◌, ℕ, List, Some, None, refl, sym, subst}
use Rattle.pr_keeps.proofs.CallLemmas.{call-edit, close-edit}
use Rattle.pr_keeps.proofs.KeepsLemmas.{all-replaced}
use Rattle.pr_keeps.proofs.UsageLemmas.{edits-usage}
use Rattle.pr_keeps.specs.CallEdits as edit
use Rattle.pr_keeps.specs.CallEdits.{CallEdit, CloseEdit}
use Rattle.pr_keeps.specs.MessageEdits.{MessageEdit, nothing, a_process, an_end, a_signal}
use Rattle.pr_num.specs.Infos.{by_controller, killed_by}
use Rattle.pr_num.specs.Signals.{signal_number}
use Rattle.pr_num.specs.declared.messages.Message.{Message}
use Rattle.pr_num.specs.declared.signals.Sig.TheVariants.{Kill}
use Rattle.pr_model.proofs.StateLemmas.{live_process-found}
use Rattle.pr_model.specs.Calls.{Answer, answer_to}
use Rattle.pr_model.specs.ControlMessages.{tail_of}
use Rattle.pr_model.specs.Handles.{released, released_control, with_closed, with_opened}
use Rattle.pr_model.specs.Lives.{bare_process, new_process, with_spawned}
use Rattle.pr_model.specs.Machines.{nothing_set, traced}
use Rattle.pr_model.specs.State.{TracedProcess, TracedState, TracedSystem, process_of, with_process}
use Rattle.pr_model.specs.declared.calls.Call.{Call}
use Rattle.pr_proc.specs.Counts.{HasUsedAtMost, UsedAtMost}
use Rattle.pr_kern.proofs.SoundLemmas.{KeepsUsage, sound-generated, sound-with_made, sound-with_process, sound-with_this_ended}
use Rattle.pr_kern.specs.Soundness.{IsSound}

-- Each edit of a call of a controller leaves a system sound: a line a kind of edit.

edit-sound : (n : ℕ) (s : TracedSystem) (pid : ℕ) (p : TracedProcess) (m : Message) (tail : List ℕ) (t : TracedSystem)
    → MessageEdit s pid p m tail t → process_of s pid ≡ Some p → IsSound n s → IsSound n t
unfolding with_process
edit-sound n s pid p m tail t nothing found sound = sound
edit-sound n s pid p m tail t (a_process f edits) found sound =
    let used = edits-usage m tail p (f p) edits in
    record {
      clock = sound.clock;
      counts = record {
        each =
            all-replaced (HasUsedAtMost n) pid f p s.processes found (λ it. subst (UsedAtMost n) (sym used) it)
            sound.counts.each;
      };
    }
edit-sound n s pid p m tail t an_end found sound = sound-with_this_ended n pid p (signal_number Kill) s sound
edit-sound n s pid p m tail t (a_signal target g is room) found sound =
    sound-generated n pid target g by_controller s sound

released-keeps : KeepsUsage released
unfolding KeepsUsage released released_control
released-keeps p = refl

closed-sound : (n : ℕ) (s : TracedSystem) (pid : ℕ) (t : TracedSystem) → CloseEdit s pid t → IsSound n s → IsSound n t
closed-sound n s pid t edit.nothing sound = sound
closed-sound n s pid t (edit.kills p live mode) sound = sound-with_this_ended n pid p (signal_number Kill) s sound
closed-sound n s pid t (edit.releases p live spares mode) sound =
    sound-with_process n pid released s released-keeps sound

edited-sound : (n : ℕ) (s : TracedState) (by : ℕ) (c : Call) (t : TracedState) → CallEdit s by c t
    → IsSound n s.system → IsSound n t.system
unfolding with_opened with_spawned new_process bare_process traced nothing_set
edited-sound n s by c t edit.looks sound = sound
edited-sound n s by c t (edit.opens free grants) sound = sound
edited-sound n s by c t (edit.closes {handle = handle} {held = h} at) sound =
    closed-sound n s.system h.pid (with_closed h handle s).system (close-edit s handle h) sound
edited-sound n s by c t (edit.controls {bytes = bytes} {held = h} {p = p} {m = m} {t = u} it e) sound =
    edit-sound n s.system h.pid p m (tail_of m bytes) u e (live_process-found s.system h.pid p it.live) sound
edited-sound n s by c t edit.sees_interrupt sound = sound
edited-sound n s by c t (edit.interrupts there) sound = sound
edited-sound n s by c t (edit.spawns {held = held} {program = program} named grants) sound =
    sound-with_made n (new_process traced program s.system.clock held) s.system refl sound
edited-sound n s by c t (edit.sends {pid = pid} {g = g} is) sound =
    sound-generated n pid None g (killed_by 0) s.system sound

-- an answer leaves a sound system sound
pub answer-sound : (n : ℕ) (s : TracedState) (by : ℕ) (c : Call) (a : Answer) → answer_to s by c ≡ Some a
    → IsSound n s.system → IsSound n a.state.system
answer-sound n s by c a is sound = edited-sound n s by c a.state (call-edit s by c a is) sound
