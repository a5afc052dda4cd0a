use Rattle.std.proofs.Common.{◌≡◌, ◌≢◌, ℕ, true, false, eqb, Option, Some, None, List, refl, sym, subst, ◌∙◌, arith}
use Rattle.std.proofs.lemmas.Bool.{eqb-false, or_parts}
use Rattle.pr_num.specs.Infos.{by_controller, killed_by}
use Rattle.pr_num.specs.Signals.{signal_number}
use Rattle.pr_num.specs.declared.messages.Message.{Message}
use Rattle.pr_num.specs.declared.signals.Sig.TheVariants.{Kill}
use Rattle.pr_keeps.specs.CallEdits as edit
use Rattle.pr_keeps.specs.CallEdits.{CallEdit, CloseEdit}
use Rattle.pr_keeps.specs.MessageEdits as message
use Rattle.pr_keeps.specs.MessageEdits.{MessageEdit}
use Rattle.pr_keeps.specs.ProcessEdits as process
use Rattle.pr_keeps.specs.ProcessEdits.{ProcessEdit}
use Rattle.pr_keeps.proofs.CallLemmas.{call-edit, close-edit}
use Rattle.pr_keeps.proofs.KeepsLemmas.{process-edits-relate}
use Rattle.pr_model.proofs.StateLemmas.{live_process-found}
use Rattle.pr_model.specs.Calls.{Answer, answer_to}
use Rattle.pr_model.specs.Changes.{with_space}
use Rattle.pr_model.specs.ControlMessages.{tail_of}
use Rattle.pr_model.specs.Handles.{released, with_closed, with_opened}
use Rattle.pr_model.specs.Legal.{ticked}
use Rattle.pr_model.specs.Lives.{bare_process, new_process, with_spawned}
use Rattle.pr_model.specs.Machines.{traced}
use Rattle.pr_model.specs.Messages.{with_agent}
use Rattle.pr_model.specs.Readers.{children_of}
use Rattle.pr_model.specs.State.{TracedProcess, TracedState, TracedSystem, process_of, with_lwp}
use Rattle.pr_model.specs.declared.calls.Call.{Call}
use Rattle.pr_model.specs.declared.handles.Held.{Held}
use Rattle.pr_ready_laws.specs.Left.{IsLeft}
use Rattle.pr_ready_laws.specs.Touched.{call_changes_files, call_touches, is_kin, is_kin_of, is_with_kin, is_with_kin_of, process_held}
use Rattle.pr_ready_laws.proofs.EndLemmas.{SameFamily, family-next, leaves-ended, leaves-generated}
use Rattle.pr_ready_laws.proofs.LeftLemmas.{Leaves, leaves-apart, leaves-made, leaves-other, leaves-self}

-- What a call of a controller leaves of a process that it does not touch, and what a tick leaves.

-- ---- messages

edit-family : (m : Message) (tail : List ℕ) (x y : TracedProcess) → ProcessEdit m tail x y → SameFamily x y
unfolding with_lwp with_agent with_space
edit-family m tail x y (process.one_lwp id f edits) = (refl, refl)
edit-family m tail x y (process.each_lwp f edits) = (refl, refl)
edit-family m tail x y (process.control_is e) = (refl, refl)
edit-family m tail x y (process.takes_back is) = (refl, refl)
edit-family m tail x y (process.gets_agent none room) = (refl, refl)
edit-family m tail x y (process.is_written own mapped) = (refl, refl)

module _ (pid : ℕ) (user : pid ≢ 0) (s : TracedSystem) where
  -- the parent of a process that is not touched is another one
  parent-apart : (target : ℕ) (p : TracedProcess) → process_of s target ≡ Some p → is_with_kin s target pid ≡ false
      → (target ≢ pid) × (is_kin p pid ≡ false)
  unfolding is_with_kin
  parent-apart target p found apart =
      let parts = or_parts (eqb target pid) (is_kin_of (process_of s target) pid) apart in (
        eqb-false target pid parts.0,
        subst (λ (o : Option TracedProcess). is_kin_of o pid ≡ false) found parts.1,
      )

  edited-leaves : (target : ℕ) (p : TracedProcess) (m : Message) (tail : List ℕ) (t : TracedSystem)
      → process_of s target ≡ Some p → is_with_kin s target pid ≡ false → MessageEdit s target p m tail t
      → Leaves pid true false s t
  edited-leaves target p m tail t found apart message.nothing = leaves-self pid true false s
  edited-leaves target p m tail t found apart (message.a_process f edits) =
      let kin = parent-apart target p found apart in
      let same =
      process-edits-relate m tail SameFamily (λ x. (refl, refl)) family-next (edit-family m tail) p (f p) edits in
      let parent : p.parent ≢ pid = eqb-false p.parent pid (or_parts (eqb p.parent pid) _ kin.1).0 in
      leaves-apart pid true false target f p s found kin.0 parent (λ is. parent (sym same.0 ∙ is))
  edited-leaves target p m tail t found apart message.an_end =
      let kin = parent-apart target p found apart in
      leaves-ended pid true false user refl target p p (signal_number Kill) s found refl kin.0 kin.1
  edited-leaves target p m tail t found apart (message.a_signal own g is room) =
      leaves-generated pid true false user refl target own g by_controller s apart

  -- ---- closes

  closed-leaves : (target : ℕ) (t : TracedSystem) → is_with_kin s target pid ≡ false → CloseEdit s target t
      → Leaves pid true false s t
  unfolding released
  closed-leaves target t apart edit.nothing = leaves-self pid true false s
  closed-leaves target t apart (edit.kills p live mode) =
      let found = live_process-found s target p live in
      let kin = parent-apart target p found apart in
      leaves-ended pid true false user refl target p p (signal_number Kill) s found refl kin.0 kin.1
  closed-leaves target t apart (edit.releases p live spares mode) =
      let kin = parent-apart target p (live_process-found s target p live) apart in
      leaves-other pid true false target released s kin.0 (λ x. (refl, refl))

-- ---- the calls

edited : (s : TracedState) (pid by : ℕ) (c : Call) (t : TracedState) → pid ≢ 0 → call_touches s by c pid ≡ false
    → CallEdit s by c t → Leaves pid (call_changes_files c) false s.system t.system
unfolding with_opened call_touches with_spawned new_process bare_process
edited s pid by c t user apart edit.looks = leaves-self pid (call_changes_files c) false s.system
edited s pid by c t user apart (edit.opens free grants) = leaves-self pid false false s.system
edited s pid by c t user apart (edit.closes {handle = handle} {held = held} at) =
    closed-leaves pid user s.system held.pid (with_closed held handle s).system
    (subst (λ (o : Option Held). is_with_kin_of s.system (process_held o) pid ≡ false) at apart)
    (close-edit s handle held)
edited s pid by c t user apart (edit.controls {bytes = bytes} {held = held} {p = p} {m = m} {t = u} it e) =
    edited-leaves pid user s.system held.pid p m (tail_of m bytes) u (live_process-found s.system held.pid p it.live)
    (subst (λ (o : Option Held). is_with_kin_of s.system (process_held o) pid ≡ false) it.handle_is apart) e
edited s pid by c t user apart edit.sees_interrupt = leaves-self pid (call_changes_files c) false s.system
edited s pid by c t user apart (edit.interrupts there) = leaves-self pid false false s.system
edited s pid by c t user apart (edit.spawns {held = held} {program = program} named grants) =
    leaves-made pid false false (new_process traced program s.system.clock held) s.system
    (eqb-false s.system.made pid (or_parts (eqb s.system.made pid) false apart).0) refl
edited s pid by c t user apart (edit.sends {pid = target} {g = g} is) =
    leaves-generated pid true false user refl target None g (killed_by 0) s.system apart

pub call-leaves : (s : TracedState) (pid by : ℕ) (c : Call) (a : Answer) → pid ≢ 0 → answer_to s by c ≡ Some a
    → call_touches s by c pid ≡ false → IsLeft pid (call_changes_files c) false s.system a.state.system
call-leaves s pid by c a user is apart = edited s pid by c a.state user apart (call-edit s by c a is)

-- ---- the clock

pub tick-leaves : (pid : ℕ) (s : TracedSystem) → IsLeft pid false true s (ticked s)
unfolding children_of
tick-leaves pid s = record {
  process = λ q there live. (q, (there, refl));
  children = λ all. all;
  same_files = λ none. refl;
  same_clock = λ none. cc;
  goes_on = omega arith;
}
