use Rattle.std.proofs.Common.{◌≡◌, ◌≢◌, ℕ, ◌<◌, false, Some, None, List, length, refl, sym, subst, ◌∙◌, arith, inr, lit≤}
use Rattle.std.proofs.lemmas.List.Elements.{All-nil}
use Rattle.std.proofs.lemmas.Option.{same_Some}
use Rattle.pr_num.proofs.BoolLemmas.{and_false}
use Rattle.pr_num.proofs.ByIdLemmas.{rises_from-inserted}
use Rattle.pr_num.proofs.ByIdLaws.{All-inserted, length-inserted}
use Rattle.pr_num.proofs.SetLemmas.{has_number-without}
use Rattle.pr_num.specs.Agents.{agent_id}
use Rattle.pr_num.specs.Infos.{by_controller}
use Rattle.pr_num.specs.Limits.{lwp_limit, all_signals}
use Rattle.pr_num.specs.Sets.{has_number}
use Rattle.pr_num.specs.Signals.{signal_number}
use Rattle.pr_num.specs.declared.messages.Message.{Message}
use Rattle.pr_num.specs.declared.signals.Sig.TheVariants.{Kill}
use Rattle.pr_parts.specs.AddressSpaces.{with_bytes}
use Rattle.pr_parts.specs.PendingSignals.{without_one}
use Rattle.pr_parts.proofs.SpaceLemmas.{mapped_size-with_bytes}
use Rattle.pr_keeps.specs.LwpEdits as lwp
use Rattle.pr_keeps.specs.LwpEdits.{LwpEdit, LwpEdits}
use Rattle.pr_keeps.specs.MessageEdits.{MessageEdit, nothing, a_process, an_end, a_signal}
use Rattle.pr_keeps.specs.ProcessEdits as process
use Rattle.pr_keeps.specs.ProcessEdits.{ControlEdit, ProcessEdit, ProcessEdits}
use Rattle.pr_keeps.proofs.KeepsLemmas.{lwp-edits-keep, process-edits-keep}
use Rattle.pr_model.specs.Changes.{with_space}
use Rattle.pr_model.specs.Lawful.{IsLawfulFrame, IsLawfulLwp, IsLawfulSystem}
use Rattle.pr_model.specs.Lives.{new_lwp}
use Rattle.pr_model.specs.Messages.{lwp_without_one, with_held_set, with_registers, with_address, tracing_signals, tracing_faults, tracing_entries, tracing_exits, with_modes, without_modes, with_areas, agent_lwp, with_agent}
use Rattle.pr_model.specs.Running.{without_current, without_fault, with_step, with_abort, with_directive, without_directive, let_go}
use Rattle.pr_model.specs.State.{TracedControl, TracedLwp, TracedProcess, TracedSystem, has_agent, process_of}
use Rattle.pr_lawful.proofs.LawfulTurns.EndLemmas.{ended-lawful, generated-lawful}
use Rattle.pr_lawful.proofs.ProcessParts.HoldableLemmas.{holdable-holdable}
use Rattle.pr_parts.proofs.HeapPlaceLemmas.{LeavesHeapPlace-with_bytes}
use Rattle.pr_rec.specs.InRange.{IsInfo}
use Rattle.pr_lawful.proofs.ProcessParts.InfoLemmas.{no-infos, taken-infos}
use Rattle.pr_lawful.proofs.ProcessParts.LocalLemmas.{KeepsLwp, live-empty, StaysLawful, kept-same, kept-next, same_rest, same_lwps, kept-parts, keeps-lwp, keeps-each}
use Rattle.pr_lawful.proofs.ProcessParts.SignalLemmas.{MayPend}
use Rattle.pr_lawful.proofs.ProcessParts.SystemLemmas.{replaced, kept-replaces}

-- Each edit of a control message leaves a lawful system lawful: a line a kind of edit.

pub controller-info : IsInfo by_controller
controller-info = record { code = omega arith; pid = omega arith }

-- ---- lwps

module _ (next id : ℕ) where
  -- what makes an lwp lawful is left
  alike : (l k : TracedLwp) → k.held ≡ l.held → k.frames ≡ l.frames → k.pending ≡ l.pending → k.current ≡ l.current
      → IsLawfulLwp next (id, l) → IsLawfulLwp next (id, k)
  alike l k held frames pending current h = record {
    id = h.id;
    held = rw held h.held;
    frames = rw frames h.frames;
    few_frames = rw frames h.few_frames;
    pending = rw pending h.pending;
    current = rw current h.current;
  }

  edited-lwp : (m : Message) (l k : TracedLwp) → LwpEdit m l k → IsLawfulLwp next (id, l) → IsLawfulLwp next (id, k)
  unfolding without_current without_fault with_directive without_directive let_go with_step with_abort lwp_without_one
      with_held_set with_registers with_address
  edited-lwp m l k (lwp.drops_signal is) h =
      record {
        id = h.id;
        held = h.held;
        frames = h.frames;
        few_frames = h.few_frames;
        pending = h.pending;
        current = tt;
      }
  edited-lwp m l k (lwp.signal_is is) h = record {
    id = h.id;
    held = h.held;
    frames = h.frames;
    few_frames = h.few_frames;
    pending = h.pending;
    current = controller-info;
  }
  edited-lwp m l k (lwp.takes_back {g = g} is) h = record {
    id = h.id;
    held = h.held;
    frames = h.frames;
    few_frames = h.few_frames;
    pending = taken-infos g l.pending h.pending;
    current = h.current;
  }
  edited-lwp m l k (lwp.holds {signals = signals}) h = record {
    id = h.id;
    held = holdable-holdable signals;
    frames = h.frames;
    few_frames = h.few_frames;
    pending = h.pending;
    current = h.current;
  }
  edited-lwp m l k _ h = alike l k refl refl refl refl h

edits-keep : (m : Message) (f : TracedLwp → TracedLwp) → ((l : TracedLwp) → LwpEdits m l (f l)) → KeepsLwp f
edits-keep m f edits next id l h =
    lwp-edits-keep m (λ k. IsLawfulLwp next (id, k)) (edited-lwp next id m) l (f l) (edits l) h

-- ---- what is set on a process

-- SIGKILL is not traced
signals-traced : (signals : ℕ) (c : TracedControl)
    → has_number (tracing_signals signals c).traced_signals (signal_number Kill) ≡ false
unfolding tracing_signals signal_number
signals-traced signals c =
    has_number-without signals 9 9 (lit≤ tt) (lit≤ tt) (lit≤ tt) (lit≤ tt) ∙ and_false (has_number signals 9)

edited-control : (m : Message) (c d : TracedControl) → ControlEdit m c d
    → has_number c.traced_signals (signal_number Kill) ≡ false
    → has_number d.traced_signals (signal_number Kill) ≡ false
unfolding tracing_faults tracing_entries tracing_exits with_modes without_modes with_areas
edited-control m c d (process.signals {set = signals}) untraced = signals-traced signals c
edited-control m c d _ untraced = untraced

-- ---- processes

control-kept : (pid : ℕ) (x : TracedProcess) (c : TracedControl)
    → (has_number x.control.traced_signals (signal_number Kill) ≡ false
    → has_number c.traced_signals (signal_number Kill) ≡ false) → StaysLawful pid x (record x { control = c })
control-kept pid x c traced_too = record {
  lawful = λ it. record {
    has_lwps = record { some = it.has_lwps.some };
    empty_zombie = record {
      no_lwps = it.empty_zombie.no_lwps;
      no_memory = it.empty_zombie.no_memory;
      no_loan = it.empty_zombie.no_loan;
      no_files = it.empty_zombie.no_files;
    };
    rising = it.rising;
    lwps = it.lwps;
    next_lwp = it.next_lwp;
    few_lwps = it.few_lwps;
    descriptors = it.descriptors;
    traced = traced_too it.traced;
    uncaught = it.uncaught;
    pending = it.pending;
    heap_place = it.heap_place;
    small_space = it.small_space;
  };
  parent = refl;
  ended = refl;
  size = refl;
  fds = refl;
}

module _ (pid : ℕ) (p : TracedProcess) (live : p.ended ≡ None) where
  agent-kept : (regs : List ℕ) → has_agent p ≡ false → length p.lwps < lwp_limit → StaysLawful pid p (with_agent regs p)
  unfolding with_agent agent_lwp new_lwp
  agent-kept regs none room =
      let count = length-inserted agent_id (agent_lwp regs) p.lwps in
      record {
        lawful = λ it. record {
          has_lwps = record { some = λ user is. omega arith };
          empty_zombie = live-empty (with_agent regs p) live;
          rising = rises_from-inserted 0 agent_id (agent_lwp regs) p.lwps (omega arith) it.rising none;
          lwps =
              All-inserted (IsLawfulLwp p.next_lwp) agent_id (agent_lwp regs) p.lwps
              (record {
                id = inr refl;
                held = holdable-holdable all_signals;
                frames = All-nil IsLawfulFrame;
                few_frames = omega arith;
                pending = no-infos;
                current = tt;
              }) it.lwps;
          next_lwp = it.next_lwp;
          few_lwps = omega arith;
          descriptors = it.descriptors;
          traced = it.traced;
          uncaught = it.uncaught;
          pending = it.pending;
          heap_place = it.heap_place;
          small_space = it.small_space;
        };
        parent = refl;
        ended = refl;
        size = refl;
        fds = refl;
      }

  written-kept : (at : ℕ) (bytes : List ℕ) → StaysLawful pid p (with_space (with_bytes at bytes p.space) p)
  unfolding with_space
  written-kept at bytes = record {
    lawful = λ it. record {
      has_lwps = record { some = it.has_lwps.some };
      empty_zombie = live-empty (with_space (with_bytes at bytes p.space) p) live;
      rising = it.rising;
      lwps = it.lwps;
      next_lwp = it.next_lwp;
      few_lwps = it.few_lwps;
      descriptors = it.descriptors;
      traced = it.traced;
      uncaught = it.uncaught;
      pending = it.pending;
      heap_place = LeavesHeapPlace-with_bytes at bytes p.space it.heap_place;
      small_space = let few = it.small_space in let same = mapped_size-with_bytes at bytes p.space in omega arith;
    };
    parent = refl;
    ended = refl;
    size = mapped_size-with_bytes at bytes p.space;
    fds = refl;
  }

  edited-process : (m : Message) (tail : List ℕ) (y : TracedProcess) → ProcessEdit m tail p y → StaysLawful pid p y
  edited-process m tail y (process.one_lwp id f edits) = keeps-lwp id f (edits-keep m f edits) pid p
  edited-process m tail y (process.each_lwp f edits) = keeps-each f (edits-keep m f edits) pid p
  edited-process m tail y (process.control_is {c = c} e) = control-kept pid p c (edited-control m p.control c e)
  edited-process m tail y (process.takes_back {g = g} is) =
      kept-parts pid p (record p { pending = without_one g p.pending }) refl
      (same_rest p _ refl refl refl refl refl (taken-infos g p.pending)) (same_lwps p _ refl refl) refl refl
  edited-process m tail y (process.gets_agent {regs = regs} none room) = agent-kept regs none room
  edited-process m tail y (process.is_written {at = at} unlent mapped) = written-kept at tail

edits-kept : (pid : ℕ) (p : TracedProcess) → p.ended ≡ None → (m : Message) (tail : List ℕ) (y : TracedProcess)
    → ProcessEdits m tail p y → StaysLawful pid p y
edits-kept pid p live m tail y edits =
    process-edits-keep m tail (λ x. StaysLawful pid p x)
    (λ x z e kept. kept-next pid p x z kept (edited-process pid x (kept.ended ∙ live) m tail z e)) p y edits
    (kept-same pid p)

-- ---- the system

pub edit-lawful : (s : TracedSystem) (pid : ℕ) (p : TracedProcess) (m : Message) (tail : List ℕ) (t : TracedSystem)
    → IsLawfulSystem s → pid ≢ 0 → process_of s pid ≡ Some p → p.ended ≡ None → MessageEdit s pid p m tail t
    → IsLawfulSystem t
edit-lawful s pid p m tail t h user found live nothing = h
edit-lawful s pid p m tail t h user found live (a_process f edits) =
    replaced s s.files pid f p h user found (kept-replaces s pid p (f p) h (edits-kept pid p live m tail (f p) edits))
edit-lawful s pid p m tail t h user found live an_end = ended-lawful s pid p (signal_number Kill) h user found
edit-lawful s pid p m tail t h user found live (a_signal target g is room) =
    generated-lawful s pid target g by_controller
    (record {
      found = λ x at.
          subst (λ y. MayPend y target g by_controller) (same_Some p x (sym found ∙ at))
          (record { fits = controller-info; room = room });
    })
    h user
