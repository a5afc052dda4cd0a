use Rattle.std.proofs.Common.{slice_get, ◌≡◌, ◌==◌, ◌&&◌, ◌≤◌, ◌∷◌, ℕ, true, length, List, [], Option, Some, None, refl, sym, subst, ap, ◌∙◌, arith}
use Rattle.std.proofs.lemmas.Bool.{eq-eqb, false≢true}
use Rattle.pr_keeps.proofs.CallLemmas.{call-edit, close-edit}
use Rattle.pr_keeps.proofs.KeepsLemmas.{choice}
use Rattle.pr_keeps.specs.CallEdits as edit
use Rattle.pr_keeps.specs.CallEdits.{CallEdit, CloseEdit}
use Rattle.pr_keeps.specs.MessageEdits as message
use Rattle.pr_keeps.specs.MessageEdits.{MessageEdit}
use Rattle.pr_model.proofs.TurnLemmas.{turn-taken}
use Rattle.pr_model.specs.Calls.{Answer, answer_to}
use Rattle.pr_model.specs.Changes.{Change, Ending, all_changed, becomes, changed, ended, ends_lwp, ends_process, files_are, forks, reaps, signals, signals_itself, space_is}
use Rattle.pr_model.specs.ControlMessages.{tail_of}
use Rattle.pr_model.specs.Handles.{released, with_closed, with_opened}
use Rattle.pr_model.specs.Legal.{IsLegalEntry, after, after_call, after_turn}
use Rattle.pr_model.specs.Lives.{Birth, by_fork, by_vfork, ended_if_live, with_child, with_ended, with_loan_back, with_loans_passed, with_lwp_ended, with_made, with_parent_signalled, with_program, with_reaped, with_spawned, with_this_ended}
use Rattle.pr_model.specs.LwpTurns.{LwpTurn, settled, turn_of}
use Rattle.pr_model.specs.Machines.{traced}
use Rattle.pr_model.specs.Rows.{Row, row_for}
use Rattle.pr_model.specs.Signals.{generated, is_kill}
use Rattle.pr_model.specs.State.{TracedLwp, TracedProcess, TracedState, TracedSystem, live_process, with_lwp_of, with_process, with_process_if}
use Rattle.pr_model.specs.Transitions.{Transition, after_transition, ended_if}
use Rattle.pr_model.specs.declared.calls.Call.{Call}
use Rattle.pr_model.specs.declared.events.Act.{Act}
use Rattle.pr_model.specs.declared.events.Act.TheVariants as act
use Rattle.pr_model.specs.declared.events.Actor.{Actor}
use Rattle.pr_model.specs.declared.events.Actor.TheVariants.{Controller, Lwp, Clock}
use Rattle.pr_num.specs.declared.files.OpenFile.{OpenFile}
use Rattle.pr_num.specs.Files.{Descriptors, FileTable, with_all_closed}
use Rattle.pr_num.specs.Signals.{signal_number}
use Rattle.pr_num.specs.declared.infos.Info.{Info}
use Rattle.pr_num.specs.declared.messages.Message.{Message}
use Rattle.pr_num.specs.declared.signals.Sig.{Sig}
use Rattle.pr_num.specs.declared.signals.Sig.TheVariants.{Kill}
use Rattle.pr_parts.specs.FileTables.{at_place, count_at, open_of, stands_for, users_at, users_of}
use Rattle.pr_lawful.proofs.LawfulTurns.EndLemmas.{found-live}
use Rattle.pr_lawful.proofs.ProcessParts.HandleLemmas.{any-at, count-some}
use Rattle.pr_lawful.proofs.ProcessParts.SystemLemmas.{descriptors-open}
use Rattle.pr_file_laws.proofs.TableLemmas.{from_flat}
use Rattle.pr_model.specs.Lawful.{IsLawfulSystem}
use Rattle.pr_probe_laws.specs.ShownDescriptors.{kind_at}
use Rattle.pr_ready_laws.proofs.ReachLemmas.{allows_all, row-within}
use Rattle.pr_ready_laws.specs.Reach.{Reach, reach_of}
use Rattle.pr_ready_laws.specs.Touched.{target_in}
use Rattle.pr_probe_laws.proofs.Files.FileKinds.{Fade, Keeps, Stay, all_closed-fades, all_shared-fades, fade-fade, fade-same, fade-stay, stay-fade, stay-same}
use Rattle.pr_probe_laws.proofs.Files.FileRows.{SparesChange, SparesFirst, row-spares}

-- Every entry leaves to each open file what it is, or closes it.

-- ---- what is the same of the files

process-files : (pid : ℕ) (f : TracedProcess → TracedProcess) (s : TracedSystem)
    → (with_process pid f s).files ≡ s.files
unfolding with_process
process-files pid f s = refl

if-files : (o : Option ℕ) (f : TracedProcess → TracedProcess) (s : TracedSystem)
    → (with_process_if o f s).files ≡ s.files
if-files None f s = refl
if-files (Some pid) f s = process-files pid f s

-- two tables that fade where the second is given by another name
fade-as : (t u v : FileTable) → v ≡ u → Fade t u → Fade t v
fade-as t u v same it = subst (Fade t) (sym same) it

-- ---- ends and signals

passed-files : (gone : ℕ) (p : TracedProcess) (s : TracedSystem) → (with_loans_passed gone p s).files ≡ s.files
unfolding with_loans_passed
passed-files gone p s = if-files p.lender _ _ ∙ if-files p.borrower _ s

parent-files : (parent gone status : ℕ) (s : TracedSystem)
    → (with_parent_signalled parent gone status s).files ≡ s.files
unfolding with_parent_signalled
parent-files parent gone status s =
    choice (λ (u : TracedSystem). u.files ≡ s.files) (parent == 0) s _ (λ system. refl)
    (λ user. process-files parent _ s)

ended-fades : (gone : ℕ) (p : TracedProcess) (status : ℕ) (s : TracedSystem)
    → Fade s.files (with_this_ended traced gone p status s).files
unfolding with_this_ended
ended-fades gone p status s =
    fade-as s.files (with_all_closed s.files p.fds) _
    (parent-files p.parent gone status _ ∙ passed-files gone p _) (all_closed-fades s.files p.fds)

generated-fades : (target : ℕ) (own : Option ℕ) (g : Sig) (info : Info) (s : TracedSystem)
    → Fade s.files (generated traced target own g info s).files
unfolding generated with_ended
generated-fades target own g info s =
    choice (λ (u : TracedSystem). Fade s.files u.files) (is_kill g) _ _
    (λ kill. by (live_process s target))
    (λ pends. fade-as s.files s.files _ (process-files target _ s) (fade-same s.files))
  where
    by : (o : Option TracedProcess) → Fade s.files (ended_if_live traced target (signal_number g) s o).files
    by None = fade-same s.files
    by (Some p) = ended-fades target p (signal_number g) s

-- ---- changes

module _ (pid : ℕ) (p : TracedProcess) (id : ℕ) (l : TracedLwp) where
  same-stay : (s u : TracedSystem) → u.files ≡ s.files → Stay s.files u.files
  same-stay s u same = subst (Stay s.files) (sym same) (stay-same s.files)

  own-stay : (f : TracedProcess → TracedProcess) (s : TracedSystem) → Stay s.files (with_process pid f s).files
  own-stay f s = same-stay s (with_process pid f s) (process-files pid f s)

  child-stay : (birth : Birth) (args : List ℕ) (s : TracedSystem)
      → Stay s.files (with_child traced birth pid p l args s).files
  unfolding with_child with_made with_process
  child-stay by_fork args s = fade-stay _ _ (all_shared-fades s.files p.fds)
  child-stay by_vfork args s = fade-stay _ _ (all_shared-fades s.files p.fds)

  change-stay : (s : TracedSystem) (c : Change) → SparesChange s.files c
      → Stay s.files (changed traced pid p id l c s).files
  unfolding changed with_reaped with_process
  change-stay s (files_are files fds) it = it
  change-stay s (signals target g info) it =
      choice (λ (u : TracedSystem). Stay s.files u.files) (is_kill g && (target == pid)) s _
      (λ own. stay-same s.files) (λ other. fade-stay _ _ (generated-fades target None g info s))
  change-stay s (signals_itself g info) it =
      choice (λ (u : TracedSystem). Stay s.files u.files) (is_kill g) s _
      (λ kill. stay-same s.files) (λ other. fade-stay _ _ (generated-fades pid (Some id) g info s))
  change-stay s (forks birth args) it =
      choice (λ (u : TracedSystem). Stay s.files u.files) (s.made == pid) s _
      (λ own. stay-same s.files) (λ other. child-stay birth args s)
  change-stay s (reaps child) it =
      choice (λ (u : TracedSystem). Stay s.files u.files) (child == pid) s _
      (λ own. stay-same s.files) (λ other. stay-same s.files)
  change-stay s (becomes program) it =
      let f = with_program traced id l program in
      let ran : TracedSystem = with_process pid f s in
      same-stay s (with_process_if p.lender (with_loan_back pid p) ran)
      (if-files p.lender (with_loan_back pid p) ran ∙ process-files pid f s)
  change-stay s _ it = stay-same s.files

  changes-stay : (reach : Reach) (target : Option ℕ) (s : TracedSystem) (cs : List Change) → SparesFirst s.files cs
      → allows_all reach target cs ≡ true → Stay s.files (all_changed traced pid p id l cs s).files
  unfolding all_changed changed
  changes-stay reach target s [] it may = stay-same s.files
  changes-stay reach target s (c ∷ []) it may = change-stay s c it
  changes-stay reach target s (c ∷ space_is space ∷ []) it may =
      stay-fade s.files (changed traced pid p id l c s).files _ (change-stay s c it)
      (fade-as _ _ _ (process-files pid _ (changed traced pid p id l c s))
      (fade-same (changed traced pid p id l c s).files))
  changes-stay reach target s _ it may = absurd (false≢true may)

  ending-fades : (how : Option Ending) (s : TracedSystem) → Fade s.files (ended_if traced pid p id l how s).files
  unfolding ended with_lwp_ended
  ending-fades None s = fade-same s.files
  ending-fades (Some (ends_process status)) s = ended-fades pid p status s
  ending-fades (Some ends_lwp) s =
      choice (λ (u : TracedSystem). Fade s.files u.files) (length p.lwps == 1) _ _
      (λ last. ended-fades pid p 0 s)
      (λ others. fade-as s.files s.files _ (process-files pid _ s) (fade-same s.files))

  transition-stay : (reach : Reach) (target : Option ℕ) (s : TracedSystem) (t : Transition)
      → SparesFirst s.files t.changes → allows_all reach target t.changes ≡ true
      → Stay s.files (after_transition traced pid p id l t s).files
  unfolding after_transition with_lwp_of
  transition-stay reach target s t it may =
      let made : TracedSystem = all_changed traced pid p id l t.changes s in
      stay-fade s.files made.files _ (changes-stay reach target s t.changes it may)
      (fade-fade made.files _ _ (fade-as made.files made.files _ (process-files pid _ made) (fade-same made.files))
      (ending-fades t.ending _))

  settled-stay : (s : TracedSystem) (row : Row) (target : Option ℕ) → SparesFirst s.files row.transition.changes
      → allows_all (reach_of row.did) target row.transition.changes ≡ true
      → Stay s.files (settled s pid p id l row).system.files
  unfolding settled
  settled-stay s row target it may =
      subst (Stay s.files) (sym (process-files pid _ _ ∙ process-files pid _ _))
      (transition-stay (reach_of row.did) target s row.transition it may)

-- ---- turns

turn-stay : (s : TracedSystem) (pid id : ℕ) (t : LwpTurn) → turn_of s pid id ≡ Some t → Stay s.files t.system.files
turn-stay s pid id t turn =
    let it = turn-taken s pid id t turn in
    let p : TracedProcess = it.process in
    let l : TracedLwp = it.lwp in
    subst (λ (u : LwpTurn). Stay s.files u.system.files) (sym it.is)
    (settled-stay pid p id l s (row_for s pid p id l) (target_in l.phase l.regs) (row-spares s pid p id l)
    (row-within s pid p id l).changes)

-- ---- calls

message-fades : (s : TracedSystem) (pid : ℕ) (p : TracedProcess) (m : Message) (tail : List ℕ) (t : TracedSystem)
    → MessageEdit s pid p m tail t → Fade s.files t.files
message-fades s pid p m tail t message.nothing = fade-same s.files
message-fades s pid p m tail t (message.a_process f edits) =
    fade-as s.files s.files _ (process-files pid f s) (fade-same s.files)
message-fades s pid p m tail t message.an_end = ended-fades pid p (signal_number Kill) s
message-fades s pid p m tail t (message.a_signal own g is room) = generated-fades pid own g _ s

close-fades : (s : TracedSystem) (pid : ℕ) (t : TracedSystem) → CloseEdit s pid t → Fade s.files t.files
close-fades s pid t edit.nothing = fade-same s.files
close-fades s pid t (edit.kills p live mode) = ended-fades pid p (signal_number Kill) s
close-fades s pid t (edit.releases p live spares mode) =
    fade-as s.files s.files _ (process-files pid released s) (fade-same s.files)

edit-fades : (s : TracedState) (by : ℕ) (c : Call) (t : TracedState) → CallEdit s by c t
    → Fade s.system.files t.system.files
unfolding with_opened with_spawned with_made
edit-fades s by c t edit.looks = fade-same s.system.files
edit-fades s by c t (edit.opens free grants) = fade-same s.system.files
edit-fades s by c t (edit.closes {handle = handle} {held = held} at) =
    close-fades s.system held.pid (with_closed held handle s).system (close-edit s handle held)
edit-fades s by c t (edit.controls {bytes = bytes} {held = held} {p = p} {m = m} {t = u} it e) =
    message-fades s.system held.pid p m (tail_of m bytes) u e
edit-fades s by c t edit.sees_interrupt = fade-same s.system.files
edit-fades s by c t (edit.interrupts there) = fade-same s.system.files
edit-fades s by c t (edit.spawns named grants) = fade-same s.system.files
edit-fades s by c t (edit.sends {pid = target} {g = g} is) = generated-fades target None g _ s.system

pub call-stay : (s : TracedState) (by : ℕ) (c : Call) (a : Answer) → answer_to s by c ≡ Some a
    → Stay s.system.files a.state.system.files
call-stay s by c a is = fade-stay _ _ (edit-fades s by c a.state (call-edit s by c a is))

-- ---- entries

pub entry-stay : (n : ℕ) (s : TracedState) (actor : Actor) (it : Act)
    → IsLegalEntry n s (record { actor = actor; act = it })
    → Stay s.system.files (after s (record { actor = actor; act = it })).system.files
unfolding IsLegalEntry after
entry-stay n s (Controller k) (act.Call c r) legal =
    subst (λ (o : Option Answer). Stay s.system.files (after_call s o).system.files) (sym legal.1.1)
    (call-stay s k c _ legal.1.1)
entry-stay n s (Lwp pid id) (act.Turn turned) legal =
    subst (λ (o : Option LwpTurn). Stay s.system.files (after_turn s o).system.files) (sym legal.1)
    (turn-stay s.system pid id _ legal.1)
entry-stay n s Clock (act.Tick m) legal = stay-same s.system.files
entry-stay n s _ _ legal = absurd legal

-- ---- what descriptors stand for

-- in a lawful system a file is open there
pub opened-there : (s : TracedSystem) (pid : ℕ) (p : TracedProcess) → IsLawfulSystem s → live_process s pid ≡ Some p
    → (d place : ℕ) → at_place p.fds d ≡ Some place
    → (o : OpenFile) × (at_place s.files.opens place ≡ Some o)
opened-there s pid p lawful live d place is =
    let some : 1 ≤ count_at p.fds place = count-some (stands_for place) p.fds
    (any-at (stands_for place) p.fds d (Some place) (from_flat (slice_get p.fds d) place is)
    (eq-eqb place place refl)) in
    let open_in = descriptors-open s pid p lawful (found-live s pid p live).0 in
    by (at_place s.files.opens place) refl (omega (arith, some, open_in.each place))
  where
    by : (x : Option OpenFile) → at_place s.files.opens place ≡ x → 1 ≤ users_at s.files place
        → (o : OpenFile) × (at_place s.files.opens place ≡ Some o)
    by (Some o) there few = (o, there)
    by None none few =
        let no_users : users_at s.files place ≡ 0 = ap users_of none in absurd (omega (arith, no_users, few))

pub kinds-stay : (s u : TracedSystem) (pid : ℕ) (p q : TracedProcess) → IsLawfulSystem s → IsLawfulSystem u
    → live_process s pid ≡ Some p → live_process u pid ≡ Some q → q.fds ≡ p.fds → Stay s.files u.files → (d : ℕ)
    → kind_at u.files q.fds d ≡ kind_at s.files p.fds d
unfolding kind_at open_of
kinds-stay s u pid p q lawful later before after_it same stay d = by (at_place p.fds d) refl
  where
    by : (x : Option ℕ) → at_place p.fds d ≡ x → kind_at u.files q.fds d ≡ kind_at s.files p.fds d
    by None is = rw (same, is) refl
    by (Some place) is =
        let old = opened-there s pid p lawful before d place is in
        let now = opened-there u pid q later after_it d place (ap (λ (fds : Descriptors). at_place fds d) same ∙ is) in
        let kept : now.0.target ≡ old.0.target =
        subst (λ (x : Option OpenFile). Keeps x (Some now.0)) old.1
        (subst (λ (y : Option OpenFile). Keeps (at_place s.files.opens place) y) now.1 (stay.each place)) in
        rw (same, is, old.1, now.1, kept) refl
