use Rattle.std.proofs.Common.{◌≡◌, ◌≢◌, ℕ, true, is_ok, None, Some, List, length, Ok, refl, sym, subst, ap, ◌∙◌, arith, inl, inr}
use Rattle.std.proofs.lemmas.Bool.{cases_eq}
use Rattle.std.proofs.lemmas.Option.{same_Some}
use Rattle.std.specs.Option.{option_map}
use Rattle.pr_keeps.proofs.CallLemmas.{call-edit, close-edit}
use Rattle.pr_keeps.proofs.KeepsLemmas.{process-edits-relate}
use Rattle.pr_keeps.specs.CallEdits as edit
use Rattle.pr_keeps.specs.CallEdits.{CallEdit, CloseEdit}
use Rattle.pr_keeps.specs.MessageEdits as message
use Rattle.pr_keeps.specs.MessageEdits.{MessageEdit}
use Rattle.pr_keeps.specs.ProcessEdits as process
use Rattle.pr_keeps.specs.ProcessEdits.{ProcessEdit}
use Rattle.pr_model.proofs.StateLemmas.{live_process-found}
use Rattle.pr_model.specs.Calls.{Answer, answer_to}
use Rattle.pr_model.specs.Changes.{with_space}
use Rattle.pr_model.specs.ControlMessages.{tail_of}
use Rattle.pr_model.specs.Handles.{handle_of, is_control, released, with_closed, with_opened}
use Rattle.pr_model.specs.Lawful.{IsLawful, IsLawfulSystem}
use Rattle.pr_model.specs.Legal.{IsLegalEntry, after}
use Rattle.pr_model.specs.Lives.{new_process, with_spawned}
use Rattle.pr_model.specs.LwpTurns.{LwpTurn, turn_of}
use Rattle.pr_model.specs.Machines.{traced}
use Rattle.pr_model.specs.Messages.{with_agent}
use Rattle.pr_model.specs.State.{TracedProcess, TracedState, TracedSystem, live_process, process_of, with_lwp, with_process}
use Rattle.pr_model.specs.declared.calls.Call.{Call}
use Rattle.pr_model.specs.declared.calls.Call.TheVariants as call
use Rattle.pr_model.specs.declared.events.Act.{Act}
use Rattle.pr_model.specs.declared.events.Act.TheVariants as act
use Rattle.pr_model.specs.declared.events.Actor.{Actor}
use Rattle.pr_model.specs.declared.events.Actor.TheVariants.{Controller, Lwp, Clock}
use Rattle.pr_model.specs.declared.handles.Held.{Held}
use Rattle.pr_num.proofs.ByIdLaws.{under-change_under}
use Rattle.pr_num.specs.Infos.{by_controller, killed_by}
use Rattle.pr_num.specs.Messages.{first_message}
use Rattle.pr_num.specs.Signals.{signal_number}
use Rattle.pr_num.specs.Spaces.{bytes_for}
use Rattle.pr_num.specs.declared.messages.Message.{Message}
use Rattle.pr_num.specs.declared.messages.Message.TheVariants as sent
use Rattle.pr_num.specs.declared.signals.Sig.TheVariants.{Kill}
use Rattle.pr_parts.specs.AddressSpaces.{with_bytes}
use Rattle.pr_truss_laws.proofs.Machine.FrameLemmas.{ByKill, Passes, end-passes, generated-passes, made-passes, other-passes, passed-alone, turn-leaves, was-made}
use Rattle.pr_truss_laws.proofs.Machine.OutlastLemmas.{ticked-live}
use Rattle.pr_truss_laws.specs.Stills.{IsUndisturbed}

-- What every entry but a turn of its own makes of a process that has its memory to itself: the memory stays, or PCWRITE
-- writes to it.

module _ (R : TracedProcess → TracedProcess → Type 0)
    (same : (x y : TracedProcess) → y.borrower ≡ x.borrower → y.space ≡ x.space → R x y)
    (next : (x y z : TracedProcess) → R x y → R y z → R x z) where
  self : (x : TracedProcess) → R x x
  self x = same x x refl refl

  -- a message that writes these bytes relates the process before and after
  abbrev pub Relates : Message → List ℕ → Type 0
  Relates m tail =
      (at size : ℕ) → m ≡ sent.Write at size → (x : TracedProcess) → x.borrower ≡ None
      → is_ok (bytes_for 0 x.space at (length tail)) ≡ true → R x (with_space (with_bytes at tail x.space) x)

  edit-relates : (m : Message) (tail : List ℕ) → Relates m tail → (x y : TracedProcess) → ProcessEdit m tail x y → R x y
  unfolding with_agent with_lwp
  edit-relates m tail writes x y (process.one_lwp id f edits) = same x _ refl refl
  edit-relates m tail writes x y (process.each_lwp f edits) = same x _ refl refl
  edit-relates m tail writes x y (process.control_is e) = same x _ refl refl
  edit-relates m tail writes x y (process.takes_back is) = same x _ refl refl
  edit-relates m tail writes x y (process.gets_agent none room) = same x _ refl refl
  edit-relates m tail writes x y (process.is_written {at = at} {size = size} own mapped) =
      writes at size refl x own mapped

  module _ (pid : ℕ) (p q : TracedProcess) (own : p.borrower ≡ None) where
    -- others leave it, or end it
    passes-relate : (s t : TracedSystem) → live_process s pid ≡ Some p → live_process t pid ≡ Some q
        → Passes pid ByKill s t → R p q
    passes-relate s t before later passes =
        let alone : IsUndisturbed p q = passed-alone pid ByKill s t p q passes before later in
        let memory = alone.memory in
        let kept = memory.own own in
        same p q (kept.0 ∙ sym own) kept.1

    stays-related : (s : TracedSystem) → live_process s pid ≡ Some p → live_process s pid ≡ Some q → R p q
    stays-related s before later =
        let is : q ≡ p = same_Some q p (sym later ∙ before) in
        same p q (ap (λ (x : TracedProcess). x.borrower) is) (ap (λ (x : TracedProcess). x.space) is)

    -- the process is changed, or another one
    changed-relates : (target : ℕ) (f : TracedProcess → TracedProcess) (s : TracedSystem)
        → live_process s pid ≡ Some p → live_process (with_process target f s) pid ≡ Some q
        → (target ≡ pid → R p (f p)) → R p q
    unfolding with_process
    changed-relates target f s before later relates = elim (cases_eq target pid) [
      | inl same_one ↦ here same_one (relates same_one)
      | inr other ↦ passes-relate s (with_process target f s) before later (other-passes pid ByKill target f s other)
    ]
      where
        here : target ≡ pid → R p (f p) → R p q
        here same_one it =
            let was = live_process-found s pid p before in
            let now = live_process-found (with_process target f s) pid q later in
            let is : option_map f (Some p) ≡ Some q =
            sym (ap (option_map f) was) ∙ sym (under-change_under pid f s.processes)
            ∙ ap (λ n. process_of (with_process n f s) pid) (sym same_one) ∙ now in
            subst (R p) (same_Some (f p) q is) it

    message-relates : (s : TracedSystem) (target : ℕ) (x : TracedProcess) (m : Message) (tail : List ℕ)
        (t : TracedSystem) → (target ≡ pid → Relates m tail)
        → live_process s target ≡ Some x → live_process s pid ≡ Some p → live_process t pid ≡ Some q
        → MessageEdit s target x m tail t → R p q
    message-relates s target x m tail t writes there before later message.nothing = stays-related s before later
    message-relates s target x m tail t writes there before later (message.a_process f edits) =
        changed-relates target f s before later
        (λ same_one. subst (λ (y : TracedProcess). R y (f y))
        (same_Some x p (sym there ∙ ap (live_process s) same_one ∙ before))
        (process-edits-relate m tail R self next (edit-relates m tail (writes same_one)) x (f x) edits))
    message-relates s target x m tail t writes there before later message.an_end =
        passes-relate s t before later (end-passes pid ByKill target x (signal_number Kill) s (λ same_one. refl))
    message-relates s target x m tail t writes there before later (message.a_signal to g is room) =
        passes-relate s t before later (generated-passes pid ByKill target to g by_controller s refl)

    closed-relates : (s : TracedSystem) (target : ℕ) (t : TracedSystem) → live_process s pid ≡ Some p
        → live_process t pid ≡ Some q → CloseEdit s target t → R p q
    unfolding released
    closed-relates s target t before later edit.nothing = stays-related s before later
    closed-relates s target t before later (edit.kills x live mode) =
        passes-relate s t before later (end-passes pid ByKill target x (signal_number Kill) s (λ same_one. refl))
    closed-relates s target t before later (edit.releases x live spares mode) =
        changed-relates target released s before later (λ same_one. same p _ refl refl)

    -- the message of a call to the process, if it writes, relates it
    abbrev pub CallRelates : TracedState → ℕ → Call → Type 0
    CallRelates s by c =
        (handle : ℕ) (bytes : List ℕ) (held : Held) (m : Message) (len : ℕ) → c ≡ call.Ctl handle bytes
        → handle_of s.opens by handle ≡ Some held → is_control held.file ≡ true → held.pid ≡ pid
        → first_message bytes ≡ Ok (m, len) → Relates m (tail_of m bytes)

    call-relates : (s : TracedState) (by : ℕ) (c : Call) (t : TracedState) → IsLawfulSystem s.system
        → CallRelates s by c
        → live_process s.system pid ≡ Some p → live_process t.system pid ≡ Some q → CallEdit s by c t → R p q
    unfolding with_opened with_spawned
    call-relates s by c t lawful writes before later edit.looks = stays-related s.system before later
    call-relates s by c t lawful writes before later (edit.opens free grants) = stays-related s.system before later
    call-relates s by c t lawful writes before later (edit.closes {handle = handle} {held = h} at) =
        closed-relates s.system h.pid (with_closed h handle s).system before later (close-edit s handle h)
    call-relates s by c t lawful writes before later
        (edit.controls {handle = handle} {bytes = bytes} {held = h} {p = x} {m = m} {t = u} it e) =
        message-relates s.system h.pid x m (tail_of m bytes) u
        (λ same_one. writes handle bytes h m it.length refl it.handle_is it.controls same_one it.read) it.live before
        later e
    call-relates s by c t lawful writes before later edit.sees_interrupt = stays-related s.system before later
    call-relates s by c t lawful writes before later (edit.interrupts there) = stays-related s.system before later
    call-relates s by c t lawful writes before later (edit.spawns {held = held} {program = program} named grants) =
        let below = was-made pid s.system p lawful (live_process-found s.system pid p before) in
        passes-relate s.system t.system before later
        (made-passes pid ByKill (new_process traced program s.system.clock held) s.system
        (λ same_one. absurd (omega (arith, below, same_one))))
    call-relates s by c t lawful writes before later (edit.sends {pid = target} {g = g} is) =
        passes-relate s.system t.system before later
        (generated-passes pid ByKill target None g (killed_by 0) s.system refl)

    -- ---- every entry but a turn of its own

    abbrev pub EntryRelates : TracedState → Actor → Act → Type 0
    EntryRelates s (Controller by) (act.Call c r) = CallRelates s by c
    EntryRelates s actor it = Unit {0}

    pub entry-relates : (n : ℕ) (s : TracedState) (actor : Actor) (it : Act) → IsLawful s
        → IsLegalEntry n s (record { actor = actor; act = it }) → ((id : ℕ) → actor ≢ Lwp pid id)
        → EntryRelates s actor it → live_process s.system pid ≡ Some p
        → live_process (after s (record { actor = actor; act = it })).system pid ≡ Some q → R p q
    unfolding IsLegalEntry after
    entry-relates n s (Controller by) (act.Call c r) lawful legal other writes before later =
        let a : Answer = record { state = legal.1.0; reply = r } in
        let answer : answer_to s by c ≡ Some a = legal.1.1 in
        call-relates s by c a.state lawful.system writes before (rw answer at later) (call-edit s by c a answer)
    entry-relates n s (Lwp acting id) (act.Turn turned) lawful legal other writes before later =
        let t : LwpTurn = record { system = legal.0; turned = turned } in
        let taken : turn_of s.system acting id ≡ Some t = legal.1 in
        let alone : IsUndisturbed p q =
        turn-leaves s.system pid acting id t p q lawful.system before
        (λ same_one. other id (ap (λ m. Lwp m id) same_one)) taken (rw taken at later) in
        let memory = alone.memory in
        let kept = memory.own own in
        same p q (kept.0 ∙ sym own) kept.1
    entry-relates n s Clock (act.Tick moment) lawful legal other writes before later =
        stays-related s.system before (sym (ticked-live s pid) ∙ later)
    entry-relates n s _ _ lawful legal other writes before later = absurd legal
