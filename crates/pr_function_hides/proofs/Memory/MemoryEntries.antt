use Rattle.std.proofs.Common.{◌≡◌, ◌≢◌, ◌⊎◌, ℕ, true, false, is_some, Option, Some, None, Result, Ok, List, [], ◌∷◌, length, refl, sym, subst, ap, ◌∙◌, inl, inr}
use Rattle.std.proofs.lemmas.Option.{none-some, same_Some}
use Rattle.pr_function_hides.proofs.Memory.MemoryTurns.{AreSpared, IsSpared, row-shows}
use Rattle.pr_function_hides.proofs.Memory.PassedMemory.{Passes, edit-passes, found-ends, generated-passes, live-ends, made-passes, plain-passes, processes-pass, same-passes}
use Rattle.pr_function_hides.proofs.Memory.SharedMemory.{HasMemoryOf, Shows, borrower-stands, its_own, itself, lent_on, of_borrower, seen-shows, shows-seen}
use Rattle.pr_function_hides.proofs.CodeThere.TurnStands.{FreeAll, Frees, SpaceStands, SpacesStand, Stands, row-frees, row-stands}
use Rattle.pr_function_hides.specs.CountedFunctions.{LeavesAlone, takes_memory}
use Rattle.pr_hidden.proofs.PatchedSpaces.ByteLemmas.{spares-range}
use Rattle.pr_hidden.proofs.PatchedSpaces.PatchLemmas.{patched-store}
use Rattle.pr_hidden.specs.Covers.{Patch}
use Rattle.pr_hidden.specs.Sparing.{AreWithin, are_spared}
use Rattle.pr_keeps.proofs.CallLemmas.{call-edit, close-edit}
use Rattle.pr_keeps.proofs.KeepsLemmas.{process-edits-relate}
use Rattle.pr_keeps.proofs.RowLemmas.{owns-or-stops}
use Rattle.pr_keeps.specs.CallEdits as edit
use Rattle.pr_keeps.specs.CallEdits.{CallEdit, CloseEdit}
use Rattle.pr_keeps.specs.MessageEdits as message
use Rattle.pr_keeps.specs.MessageEdits.{MessageEdit}
use Rattle.pr_keeps.specs.ProcessEdits as process
use Rattle.pr_keeps.specs.ProcessEdits.{ProcessEdit}
use Rattle.pr_lawful.proofs.ProcessParts.SystemLemmas.{next-free}
use Rattle.pr_lawful.proofs.LawfulTurns.TurnLemmas.{acting as acting_in}
use Rattle.pr_laws.proofs.RefusalLemmas.{refused-leaves}
use Rattle.pr_laws.specs.Refusals.{LeavesIfRefused}
use Rattle.pr_lending.proofs.ProcessLoans.LoanLemmas.{borrower-found, space-found}
use Rattle.pr_lending.specs.Lending.{AreLending}
use Rattle.pr_model.proofs.StateLemmas.{live_process-found}
use Rattle.pr_model.proofs.TurnLemmas.{TakesTurn, turn-taken}
use Rattle.pr_model.specs.Calls.{Answer, answer_to}
use Rattle.pr_model.specs.Changes.{Change, becomes, space_is, with_space}
use Rattle.pr_model.specs.ControlMessages.{tail_of}
use Rattle.pr_model.specs.Handles.{handle_of, is_control, released, with_closed, with_opened}
use Rattle.pr_model.specs.Lawful.{IsLawful, IsLawfulSystem}
use Rattle.pr_model.specs.Legal.{IsLegalEntry, after}
use Rattle.pr_model.specs.Lives.{new_process, with_spawned}
use Rattle.pr_model.specs.LwpTurns.{LwpTurn, settled, turn_of}
use Rattle.pr_model.specs.Machines.{traced}
use Rattle.pr_model.specs.Messages.{with_agent}
use Rattle.pr_model.specs.Readers.{borrower_at, space_at, space_seen}
use Rattle.pr_model.specs.Rows.{Row, requested_row, row_for}
use Rattle.pr_model.specs.State.{TracedLwp, TracedProcess, TracedState, TracedSystem, live_process, lwp_of, process_of, with_lwp}
use Rattle.pr_model.specs.Transitions.{requested}
use Rattle.pr_model.specs.declared.calls.Call.{Call}
use Rattle.pr_model.specs.declared.calls.Call.TheVariants as call
use Rattle.pr_model.specs.declared.calls.Reply.{Reply}
use Rattle.pr_model.specs.declared.calls.Reply.TheVariants as reply
use Rattle.pr_model.specs.declared.events.Act.{Act}
use Rattle.pr_model.specs.declared.events.Act.TheVariants as act
use Rattle.pr_model.specs.declared.events.Actor.{Actor}
use Rattle.pr_model.specs.declared.events.Actor.TheVariants.{Controller, Lwp, Clock}
use Rattle.pr_model.specs.declared.handles.Held.{Held}
use Rattle.pr_num.specs.Infos.{by_controller, killed_by}
use Rattle.pr_num.specs.Messages.{first_message}
use Rattle.pr_num.specs.Signals.{signal_number}
use Rattle.pr_num.specs.Spaces.{Space}
use Rattle.pr_num.specs.declared.errnos.Errno.{Errno}
use Rattle.pr_num.specs.declared.messages.Message.{Message}
use Rattle.pr_num.specs.declared.messages.Message.TheVariants as sent
use Rattle.pr_num.specs.declared.messages.MsgFault.{MsgFault}
use Rattle.pr_num.specs.declared.signals.Sig.TheVariants.{Kill}
use Rattle.pr_parts.specs.AddressSpaces.{with_bytes}

-- What each entry makes of the memory that a process shows: where code stood that whoever has the memory leaves alone,
-- it stands still.

-- ---- those that have the memory

module _ (P : Space → Type 0) (s : TracedSystem) (pid : ℕ) where
  -- each of them shows it
  shows-in : (x : ℕ) → HasMemoryOf s pid x → Shows P s pid → Shows P s x
  shows-in x itself it = it
  shows-in x (lent_on {a = a} there is) it = by (shows-in a there it)
    where
      by : Shows P s a → Shows P s x
      by (its_own none holds) = absurd (none-some x (sym none ∙ is))
      by (of_borrower b lends rest) = subst (Shows P s) (same_Some b x (sym lends ∙ is)) rest

  -- the last of them has it
  last-has : (x : ℕ) → HasMemoryOf s pid x → borrower_at s x ≡ None → Shows P s pid → P (space_at s x)
  last-has x there none it = by (shows-in x there it)
    where
      by : Shows P s x → P (space_at s x)
      by (its_own own holds) = holds
      by (of_borrower b lends rest) = absurd (none-some b (sym none ∙ lends))

-- ---- a call of a controller

module _ (P : Space → Type 0) (bare : P []) (pid : ℕ) where
  -- what a message writes leaves it
  abbrev Writes : Message → List ℕ → Type 0
  Writes m tail =
      (at size : ℕ) → m ≡ sent.Write at size → (space : Space) → P space → P (with_bytes at tail space)

  -- a process is edited, and lends as before; where it is among those that have the memory, and has it itself, it shows
  -- it still
  record IsEdited (among : Type 0) (x y : TracedProcess) : Type 0 where
    lends : y.borrower ≡ x.borrower
    keeps : among → x.borrower ≡ None → P x.space → P y.space

  edited-same : (among : Type 0) (x y : TracedProcess) → y.borrower ≡ x.borrower → y.space ≡ x.space
      → IsEdited among x y
  edited-same among x y lends space =
      record { lends = lends; keeps = λ there none holds. subst P (sym space) holds }

  edited-next : (among : Type 0) (x y z : TracedProcess) → IsEdited among x y → IsEdited among y z
      → IsEdited among x z
  edited-next among x y z one two = record {
    lends = two.lends ∙ one.lends;
    keeps = λ there none holds. two.keeps there (one.lends ∙ none) (one.keeps there none holds);
  }

  edit-keeps : (among : Type 0) (m : Message) (tail : List ℕ) → (among → Writes m tail) → (x y : TracedProcess)
      → ProcessEdit m tail x y → IsEdited among x y
  unfolding with_agent with_lwp with_space
  edit-keeps among m tail writes x y (process.one_lwp id f edits) = edited-same among x _ refl refl
  edit-keeps among m tail writes x y (process.each_lwp f edits) = edited-same among x _ refl refl
  edit-keeps among m tail writes x y (process.control_is e) = edited-same among x _ refl refl
  edit-keeps among m tail writes x y (process.takes_back is) = edited-same among x _ refl refl
  edit-keeps among m tail writes x y (process.gets_agent none room) = edited-same among x _ refl refl
  edit-keeps among m tail writes x y (process.is_written {at = at} {size = size} own mapped) =
      record { lends = refl; keeps = λ there none holds. writes there at size refl x.space holds }

  message-passes : (s : TracedSystem) → AreLending s → (target : ℕ) (x : TracedProcess) (m : Message)
      (tail : List ℕ) (t : TracedSystem) → process_of s target ≡ Some x → (HasMemoryOf s pid target → Writes m tail)
      → MessageEdit s target x m tail t → Passes P pid s t
  message-passes s lending target x m tail t found writes message.nothing = same-passes P pid s
  message-passes s lending target x m tail t found writes (message.a_process f edits) =
      edit-passes P pid target f s (λ z there. let w = of z there in w.lends)
      (λ z there among none holds. let w = of z there in w.keeps among none holds)
    where
      of : (z : TracedProcess) → process_of s target ≡ Some z → IsEdited (HasMemoryOf s pid target) z (f z)
      of z there =
          subst (λ (y : TracedProcess). IsEdited (HasMemoryOf s pid target) y (f y)) (same_Some x z (sym found ∙ there))
          (process-edits-relate m tail (IsEdited (HasMemoryOf s pid target))
          (λ y. edited-same (HasMemoryOf s pid target) y y refl refl)
          (edited-next (HasMemoryOf s pid target)) (edit-keeps (HasMemoryOf s pid target) m tail writes) x (f x) edits)
  message-passes s lending target x m tail t found writes message.an_end =
      found-ends P pid bare s lending target x (signal_number Kill) found
  message-passes s lending target x m tail t found writes (message.a_signal to g is room) =
      generated-passes P pid bare s lending target to g by_controller

  closed-passes : (s : TracedSystem) → AreLending s → (target : ℕ) (t : TracedSystem) → CloseEdit s target t
      → Passes P pid s t
  unfolding released
  closed-passes s lending target t edit.nothing = same-passes P pid s
  closed-passes s lending target t (edit.kills p live mode) =
      live-ends P pid bare s lending target p (signal_number Kill) live
  closed-passes s lending target t (edit.releases p live spares mode) =
      plain-passes P pid target released s (λ z. refl) (λ z none. refl)

  module _ (s : TracedState) (lawful : IsLawfulSystem s.system) (lending : AreLending s.system)
      (stands : (z : TracedProcess) × (process_of s.system pid ≡ Some z)) where
    in-stands : (x : ℕ) → HasMemoryOf s.system pid x → (z : TracedProcess) × (process_of s.system x ≡ Some z)
    in-stands x itself = stands
    in-stands x (lent_on {a = a} before is) = borrower-stands P s.system lawful lending a x is

    -- a message to one of those that have the memory writes beside it
    abbrev WritesBeside : ℕ → Call → Type 0
    WritesBeside by c =
        (handle : ℕ) (bytes : List ℕ) (held : Held) (m : Message) (len : ℕ) → c ≡ call.Ctl handle bytes
        → handle_of s.opens by handle ≡ Some held → is_control held.file ≡ true
        → HasMemoryOf s.system pid held.pid
        → first_message bytes ≡ Ok (m, len) → Writes m (tail_of m bytes)

    call-passes : (by : ℕ) (c : Call) (t : TracedState) → WritesBeside by c → CallEdit s by c t
        → Passes P pid s.system t.system
    unfolding with_opened with_spawned
    call-passes by c t writes edit.looks = same-passes P pid s.system
    call-passes by c t writes (edit.opens free grants) = same-passes P pid s.system
    call-passes by c t writes (edit.closes {handle = handle} {held = h} at) =
        closed-passes s.system lending h.pid (with_closed h handle s).system (close-edit s handle h)
    call-passes by c t writes (edit.controls {handle = handle} {bytes = bytes} {held = h} {p = x} {m = m} {t = u} it e)
        =
        message-passes s.system lending h.pid x m (tail_of m bytes) u (live_process-found s.system h.pid x it.live)
        (λ among. writes handle bytes h m it.length refl it.handle_is it.controls among it.read) e
    call-passes by c t writes edit.sees_interrupt = same-passes P pid s.system
    call-passes by c t writes (edit.interrupts there) = same-passes P pid s.system
    call-passes by c t writes (edit.spawns {held = held} {program = program} named grants) =
        made-passes P pid bare s.system lending in-stands (new_process traced program s.system.clock held)
        (next-free s.system lawful)
    call-passes by c t writes (edit.sends {pid = target} {g = g} is) =
        generated-passes P pid bare s.system lending target None g (killed_by 0)

-- ---- a call that is refused

refused-or : (r : Reply) → ((e : Errno) × (r ≡ reply.Fail e)) ⊎ ((e : Errno) → r ≢ reply.Fail e)
refused-or (reply.Fail e) = inl (e, refl)
refused-or _ = inr (λ e same. cc)

-- leaves the system
refused-system : (s : TracedState) (by : ℕ) (t : TracedState) (e : Errno)
    → LeavesIfRefused s by (record { state = t; reply = reply.Fail e }) → t.system ≡ s.system
refused-system s by t e (inl same) = ap (λ (x : TracedState). x.system) same
refused-system s by t e (inr seen) = ap (λ (x : TracedState). x.system) seen.1

-- ---- the code of a function

module _ (f : Patch) (within : AreWithin (f ∷ [])) where
  abbrev P : Space → Type 0
  P = Stands f

  bare-stands : P []
  unfolding with_bytes
  bare-stands = refl

  one-spared : (pid : ℕ) (s : TracedSystem) (acting : ℕ) (c : Change)
      → (HasMemoryOf s pid acting → SpaceStands f within c) → (acting ≡ pid → Frees f within c)
      → IsSpared P pid s acting c
  one-spared pid s acting (space_is space) stand free = stand
  one-spared pid s acting (becomes program) stand free = free
  one-spared pid s acting _ stand free = tt

  all-spared : (pid : ℕ) (s : TracedSystem) (acting : ℕ) (cs : List Change)
      → (HasMemoryOf s pid acting → SpacesStand f within cs) → (acting ≡ pid → FreeAll f within cs)
      → AreSpared P pid s acting cs
  all-spared pid s acting [] stand free = tt
  all-spared pid s acting (c ∷ cs) stand free = (
    one-spared pid s acting c (λ there. (stand there).0) (λ own. (free own).0),
    all-spared pid s acting cs (λ there. (stand there).1) (λ own. (free own).1),
  )

  -- ---- a turn

  module _ (s : TracedSystem) (pid acting id : ℕ) (t : LwpTurn) (lawful : IsLawfulSystem s) (lending : AreLending s)
      (alive : (z : TracedProcess) × (live_process s pid ≡ Some z)) (turn : turn_of s acting id ≡ Some t)
      (alone : (p : TracedProcess) (l : TracedLwp) → live_process s acting ≡ Some p → lwp_of p id ≡ Some l
      → HasMemoryOf s pid acting → l.control.directed ≡ false → LeavesAlone f p l)
      (leaves : acting ≡ pid → takes_memory t.turned.did ≡ false) where
    turn-shows : Shows P s pid → Shows P t.system pid
    unfolding settled requested_row requested
    turn-shows it = by (turn-taken s acting id t turn)
      where
        by : TakesTurn s acting id t → Shows P t.system pid
        by w =
            let a = acting_in s acting id w.process w.lwp lawful w.live w.there in
            subst (λ (v : LwpTurn). Shows P v.system pid) (sym w.is)
            (row-shows P bare-stands pid s lending (ap (λ (o : Option TracedProcess). is_some o) alive.1)
            (alive.0, live_process-found s pid alive.0 alive.1) acting w.process id w.lwp a owns (spared owns) it)
          where
            row : Row
            row = row_for s acting w.process id w.lwp

            owns : (row ≡ requested_row) ⊎ (w.process.borrower ≡ None)
            owns = owns-or-stops s acting w.process id w.lwp w.free

            did : t.turned.did ≡ row.did
            did = ap (λ (v : LwpTurn). v.turned.did) w.is

            spared : (row ≡ requested_row) ⊎ (w.process.borrower ≡ None)
                → AreSpared P pid s acting row.transition.changes
            spared (inl stop) = subst (λ (r : Row). AreSpared P pid s acting r.transition.changes) (sym stop) tt
            spared (inr own) =
                let found = live_process-found s acting w.process w.live in
                all-spared pid s acting row.transition.changes
                (λ among.
                row-stands f within s acting w.process id w.lwp
                (subst P (space-found s acting w.process found)
                (last-has P s pid acting among (borrower-found s acting w.process found ∙ own) it))
                (λ going. alone w.process w.lwp w.live w.there among going))
                (λ same. row-frees f within s acting w.process id w.lwp (sym (ap takes_memory did) ∙ leaves same))

  -- ---- every entry

  -- Whoever has the memory of a process leaves the code alone in its turn, and PCWRITE to it, where it is not refused,
  -- is beside it; and the process itself makes no vfork and no exec.
  abbrev pub IsBeside : TracedState → ℕ → Actor → Act → Type 0
  IsBeside s pid (Controller by) (act.Call c r) =
      (handle : ℕ) (bytes : List ℕ) (held : Held) (at size len : ℕ) → c ≡ call.Ctl handle bytes
      → ((e : Errno) → r ≢ reply.Fail e) → handle_of s.opens by handle ≡ Some held → is_control held.file ≡ true
      → HasMemoryOf s.system pid held.pid
      → first_message bytes ≡ Ok (sent.Write at size, len)
      → are_spared (f ∷ []) at (length (tail_of (sent.Write at size) bytes)) ≡ true
  IsBeside s pid (Lwp acting id) (act.Turn t) =
      ((p : TracedProcess) (l : TracedLwp) → live_process s.system acting ≡ Some p → lwp_of p id ≡ Some l
      → HasMemoryOf s.system pid acting → l.control.directed ≡ false → LeavesAlone f p l)
      × (acting ≡ pid → takes_memory t.did ≡ false)
  IsBeside s pid actor it = Unit {0}

  module _ (s : TracedState) (pid : ℕ) (lawful : IsLawfulSystem s.system) (lending : AreLending s.system)
      (alive : (z : TracedProcess) × (live_process s.system pid ≡ Some z)) where
    stands-there : (z : TracedProcess) × (process_of s.system pid ≡ Some z)
    stands-there = (alive.0, live_process-found s.system pid alive.0 alive.1)

    written : (m : Message) (bytes : List ℕ)
        → ((at size : ℕ) → m ≡ sent.Write at size
        → are_spared (f ∷ []) at (length (tail_of (sent.Write at size) bytes)) ≡ true)
        → Writes P bare-stands pid m (tail_of m bytes)
    written m bytes spared at size is space holds =
        let tail : List ℕ = tail_of m bytes in
        let free : are_spared (f ∷ []) at (length tail) ≡ true =
        subst (λ x. are_spared (f ∷ []) at (length (tail_of x bytes)) ≡ true) (sym is) (spared at size is) in
        patched-store (f ∷ []) at tail (spares-range (f ∷ []) at (length tail) within free) space
        ∙ ap (with_bytes at tail) holds

    entry-shows : (n : ℕ) (actor : Actor) (it : Act) → IsLegalEntry n s (record { actor = actor; act = it })
        → IsBeside s pid actor it → Shows P s.system pid
        → Shows P (after s (record { actor = actor; act = it })).system pid
    unfolding IsLegalEntry after
    entry-shows n (Controller by) (act.Call c r) legal beside it = rw answer (of (refused-or r))
      where
        a : Answer
        a = record { state = legal.1.0; reply = r }

        answer : answer_to s by c ≡ Some a
        answer = legal.1.1

        of : ((e : Errno) × (r ≡ reply.Fail e)) ⊎ ((e : Errno) → r ≢ reply.Fail e) → Shows P a.state.system pid
        of (inl refused) =
            subst (λ (x : TracedSystem). Shows P x pid)
            (sym (refused-system s by a.state refused.0
            (subst (λ y. LeavesIfRefused s by (record { state = a.state; reply = y })) refused.1
            (refused-leaves s by c a answer)))) it
        of (inr taken) =
            let w =
            call-passes P bare-stands pid s lawful lending stands-there by c a.state
            (λ handle bytes held m len is there controls among read.
            written m bytes
            (λ at size write.
            beside handle bytes held at size len is taken there controls among
            (read ∙ ap (λ (x : Message). let ok : Result (Message × ℕ) MsgFault = Ok (x, len) in ok) write)))
            (call-edit s by c a answer) in
            w.shows it
    entry-shows n (Lwp acting id) (act.Turn turned) legal beside it =
        let t : LwpTurn = record { system = legal.0; turned = turned } in
        let taken : turn_of s.system acting id ≡ Some t = legal.1 in
        rw taken (turn-shows s.system pid acting id t lawful lending alive taken beside.0 beside.1 it)
    entry-shows n Clock (act.Tick moment) legal beside it =
        let w = processes-pass P pid s.system _ refl in w.shows it
    entry-shows n _ _ legal beside it = absurd legal

  -- the code stands still in what controllers are shown of a process that lives
  pub shown-stays : (n : ℕ) (s : TracedState) (actor : Actor) (it : Act) → IsLawful s → AreLending s.system
      → IsLegalEntry n s (record { actor = actor; act = it })
      → IsLawful (after s (record { actor = actor; act = it }))
      → AreLending (after s (record { actor = actor; act = it })).system → (pid : ℕ) → IsBeside s pid actor it
      → (p : TracedProcess) → live_process s.system pid ≡ Some p → (q : TracedProcess)
      → live_process (after s (record { actor = actor; act = it })).system pid ≡ Some q
      → Stands f (space_seen s.system p)
      → Stands f (space_seen (after s (record { actor = actor; act = it })).system q)
  shown-stays n s actor it lawful lending legal lawful_later lending_later pid beside p live q later holds =
      let u : TracedState = after s (record { actor = actor; act = it }) in
      shows-seen P u.system lawful_later.system lending_later pid q (live_process-found u.system pid q later)
      (entry-shows s pid lawful.system lending (p, live) n actor it legal beside
      (seen-shows P s.system lawful.system lending pid p (live_process-found s.system pid p live) holds))
