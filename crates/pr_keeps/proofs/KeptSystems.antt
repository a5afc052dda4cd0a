use Rattle.std.proofs.Common.{◌≡◌, ◌==◌, ◌&&◌, ℕ, Bool, false, length, Option, Some, None, List, [], ◌∷◌, refl, sym, subst}
use Rattle.pr_keeps.proofs.CallLemmas.{close-edit}
use Rattle.pr_keeps.proofs.KeepsLemmas.{choice}
use Rattle.pr_keeps.proofs.KeptHistories.{AnyEntry, AnyState, KeepsEach}
use Rattle.pr_keeps.proofs.LoanLemmas.{lent-keeps, loans_passed-keep, process_if-keeps}
use Rattle.pr_keeps.specs.CallEdits as edit
use Rattle.pr_keeps.specs.CallEdits.{CallEdit, CloseEdit}
use Rattle.pr_keeps.specs.MessageEdits as message
use Rattle.pr_keeps.specs.MessageEdits.{MessageEdit}
use Rattle.pr_keeps.specs.ProcessEdits.{ProcessEdits}
use Rattle.pr_model.proofs.StateLemmas.{live_process-found}
use Rattle.pr_model.proofs.TurnLemmas.{turn-taken}
use Rattle.pr_model.specs.Changes as change
use Rattle.pr_model.specs.Changes.{Change, Ending, all_changed, changed, ended, resumed, with_disposition_of, with_fds, with_held, with_job_stop, with_shared_taken, with_space, with_suspended}
use Rattle.pr_model.specs.ControlMessages.{tail_of}
use Rattle.pr_model.specs.Generation.{signalled}
use Rattle.pr_model.specs.Handles.{released, with_closed, with_opened}
use Rattle.pr_model.specs.Legal.{ticked}
use Rattle.pr_model.specs.Lives.{Birth, ended_if_live, forked, lent_to, new_process, orphaned, with_child, with_ended, with_lender_of, with_lent, with_loan_back, with_loans_passed, with_lwp_ended, with_made, with_new_lwp, with_parent_signalled, with_program, with_reaped, with_spawned, with_this_ended, without_lwp, zombie}
use Rattle.pr_model.specs.LwpTurns.{LwpTurn, settled, turn_of, with_counted}
use Rattle.pr_model.specs.Machines.{traced}
use Rattle.pr_model.specs.Moves.{moved}
use Rattle.pr_model.specs.Points.{after_meeting}
use Rattle.pr_model.specs.Rows.{Row, row_for}
use Rattle.pr_model.specs.Signals.{generated, is_kill}
use Rattle.pr_model.specs.State.{TracedLwp, TracedProcess, TracedState, TracedSystem, live_process, lwp_of, process_of, with_lwp, with_lwp_of, with_process}
use Rattle.pr_model.specs.Transitions.{Transition, after_transition, ended_if}
use Rattle.pr_model.specs.declared.calls.Call.{Call}
use Rattle.pr_model.specs.declared.frames.Frame.{Frame}
use Rattle.pr_num.specs.ById.{map_each}
use Rattle.pr_num.specs.Files.{Descriptors, with_all_closed}
use Rattle.pr_num.specs.Infos.{by_controller, killed_by, of_child}
use Rattle.pr_num.specs.Programs.{Program}
use Rattle.pr_num.specs.Signals.{signal_number}
use Rattle.pr_num.specs.Spaces.{Space}
use Rattle.pr_num.specs.declared.infos.Info.{Info}
use Rattle.pr_num.specs.declared.messages.Message.{Message}
use Rattle.pr_num.specs.declared.signals.Sig.{Sig}
use Rattle.pr_num.specs.declared.signals.Sig.TheVariants.{Cld, Kill}
use Rattle.pr_parts.specs.FileCalls.{with_all_shared}

-- What is kept where one process is changed, made or reaped, each call, turn and tick keeps: whatever these make of a
-- system comes of a closed list of steps of one process.

-- nothing is known of an lwp
abbrev pub AnyLwp : ℕ → TracedLwp → Type 0
AnyLwp id l = Unit {0}

-- ---- one process

-- What is done to a process in its place, but by a message and by the turn of its own lwp. KnownLwp is what is so of
-- the lwp whose turn it is.
pub data ProcessStep (KnownLwp : ℕ → TracedLwp → Type 0) : (TracedProcess → TracedProcess) → Type 0 where
  -- a signal pends for it; it ends; another that ended was its parent; its last writer has closed
  told : (target : Option ℕ) (g : Sig) (info : Info) → is_kill g ≡ false
      → ProcessStep KnownLwp (signalled target g info)
  dies : (status : ℕ) → ProcessStep KnownLwp (zombie traced status)
  loses_parent : (gone : ℕ) → ProcessStep KnownLwp (orphaned gone)
  is_released : ProcessStep KnownLwp released
  -- its memory is lent, and comes back; it gets another lender
  lends : (child : ℕ) → ProcessStep KnownLwp (lent_to child)
  gets_back : (gone : ℕ) (p : TracedProcess) → ProcessStep KnownLwp (with_loan_back gone p)
  gets_lender : (gone : ℕ) (p : TracedProcess) → ProcessStep KnownLwp (with_lender_of gone p)
  -- what a turn changes of it
  fds_are : (fds : Descriptors) → ProcessStep KnownLwp (with_fds fds)
  space_is : (space : Space) → ProcessStep KnownLwp (with_space space)
  takes_shared : (g : Sig) → ProcessStep KnownLwp (with_shared_taken g)
  stops_job : (g : Sig) → ProcessStep KnownLwp (with_job_stop g)
  disposition_is : (g : Sig) (disposition : ℕ) → ProcessStep KnownLwp (with_disposition_of g disposition)
  becomes : (id : ℕ) (l : TracedLwp) (program : Program) → KnownLwp id l
      → ProcessStep KnownLwp (with_program traced id l program)
  -- its lwps
  held_is : (id held : ℕ) → ProcessStep KnownLwp (with_lwp id (with_held held))
  resumes : (id : ℕ) (frame : Frame) (frames : List Frame) → ProcessStep KnownLwp (with_lwp id (resumed frame frames))
  suspends : (id : ℕ) (suspended : Bool) → ProcessStep KnownLwp (with_lwp id (with_suspended suspended))
  gets_lwp : (id : ℕ) (regs : List ℕ) (held : ℕ) → ProcessStep KnownLwp (with_new_lwp traced id regs held)
  loses_lwp : (id : ℕ) → ProcessStep KnownLwp (without_lwp id)

-- a process that is made
pub data Newborn (KnownLwp : ℕ → TracedLwp → Type 0) : TracedProcess → Type 0 where
  spawned : (program : Program) (clock : ℕ) (held : Bool) → Newborn KnownLwp (new_process traced program clock held)
  forks : (birth : Birth) (pid : ℕ) (p : TracedProcess) (id : ℕ) (l : TracedLwp) (args : List ℕ) (clock : ℕ)
      → KnownLwp id l → Newborn KnownLwp (forked traced birth pid p l args clock)

-- what a turn does to its own process, at last: its lwp moves, it is counted, and it stops at a point or not
pub data TurnStep (id : ℕ) (row : Row) : (TracedProcess → TracedProcess) → Type 0 where
  moves : TurnStep id row (with_lwp id (moved traced row.transition.move))
  counts : TurnStep id row (with_counted row.did row.begun)
  meets : TurnStep id row (after_meeting row.point id)

-- ---- the principle

module _ (KnownLwp : ℕ → TracedLwp → Type 0) (S : TracedSystem → Type 0) where
  -- what is to be shown of what is kept of a system: a row a kind of thing that is done to it
  pub record KeepsSystem : Type 0 where
    -- its files or its clock change
    pub same : (s t : TracedSystem) → t.processes ≡ s.processes → t.made ≡ s.made → t.programs ≡ s.programs → S s → S t
    pub step : (s : TracedSystem) (pid : ℕ) (f : TracedProcess → TracedProcess) → ProcessStep KnownLwp f → S s
        → S (with_process pid f s)
    pub each : (s : TracedSystem) (f : TracedProcess → TracedProcess) → ProcessStep KnownLwp f → S s
        → S (record s { processes = map_each f s.processes })
    -- a message edits a process
    pub edits : (s : TracedSystem) (pid : ℕ) (p : TracedProcess) (m : Message) (tail : List ℕ)
        → (f : TracedProcess → TracedProcess) → process_of s pid ≡ Some p → ProcessEdits m tail p (f p) → S s
        → S (with_process pid f s)
    pub makes : (s : TracedSystem) (p : TracedProcess) → Newborn KnownLwp p → S s → S (with_made p s)
    pub reaps : (s : TracedSystem) (pid : ℕ) → S s → S (with_reaped pid s)

  module _ (keeps : KeepsSystem) where
    -- ---- ends

    back-keeps : (pid : ℕ) (p : TracedProcess) (other : ℕ) (s : TracedSystem) → S s
        → S (with_process other (with_loan_back pid p) s)
    back-keeps pid p other s h = keeps.step s other (with_loan_back pid p) (gets_back pid p) h

    passed-keeps : (pid : ℕ) (p : TracedProcess) (s : TracedSystem) → S s → S (with_loans_passed pid p s)
    passed-keeps pid p =
        loans_passed-keep S pid p (back-keeps pid p)
        (λ other s h. keeps.step s other (with_lender_of pid p) (gets_lender pid p) h)

    pub this_ended-keeps : (pid : ℕ) (p : TracedProcess) (status : ℕ) (s : TracedSystem) → S s
        → S (with_this_ended traced pid p status s)
    unfolding with_this_ended with_parent_signalled with_process
    this_ended-keeps pid p status s h =
        let died : TracedSystem = with_process pid (zombie traced status) s in
        let left : TracedSystem = record died { processes = map_each (orphaned pid) died.processes } in
        let over : TracedSystem = record left { files = with_all_closed s.files p.fds } in
        let alone : S left =
        keeps.each died (orphaned pid) (loses_parent pid) (keeps.step s pid (zombie traced status) (dies status) h) in
        let passed = passed-keeps pid p over (keeps.same left over refl refl refl alone) in
        choice S (p.parent == 0) _ _ (λ none. passed)
        (λ some.
        keeps.step (with_loans_passed pid p over) p.parent (signalled None Cld (of_child pid status))
        (told None Cld (of_child pid status) refl) passed)

    if_live-keeps : (pid status : ℕ) (s : TracedSystem) (o : Option TracedProcess) → S s
        → S (ended_if_live traced pid status s o)
    if_live-keeps pid status s None h = h
    if_live-keeps pid status s (Some p) h = this_ended-keeps pid p status s h

    pub generated-keeps : (pid : ℕ) (target : Option ℕ) (g : Sig) (info : Info) (s : TracedSystem) → S s
        → S (generated traced pid target g info s)
    unfolding generated with_ended
    generated-keeps pid target g info s h =
        choice S (is_kill g) _ _ (λ kill. if_live-keeps pid (signal_number g) s (live_process s pid) h)
        (λ other. keeps.step s pid (signalled target g info) (told target g info other) h)

    pub ended-keeps : (pid : ℕ) (p : TracedProcess) (id : ℕ) (how : Ending) (s : TracedSystem) → S s
        → S (ended traced pid p id how s)
    unfolding ended with_lwp_ended
    ended-keeps pid p id (change.ends_process status) s h = this_ended-keeps pid p status s h
    ended-keeps pid p id change.ends_lwp s h =
        choice S (length p.lwps == 1) _ _ (λ last. this_ended-keeps pid p 0 s h)
        (λ more. keeps.step s pid (without_lwp id) (loses_lwp id) h)

    -- ---- beginnings

    pub spawned-keeps : (program : Program) (held : Bool) (s : TracedSystem) → S s
        → S (with_spawned traced program held s)
    unfolding with_spawned
    spawned-keeps program held s h =
        keeps.makes s (new_process traced program s.clock held) (spawned program s.clock held) h

    child-keeps : (birth : Birth) (pid : ℕ) (p : TracedProcess) (id : ℕ) (l : TracedLwp) (args : List ℕ)
        → (s : TracedSystem) → KnownLwp id l → S s → S (with_child traced birth pid p l args s)
    unfolding with_child
    child-keeps birth pid p id l args s own h =
        let shared : TracedSystem = record s { files = with_all_shared s.files p.fds } in
        keeps.makes (with_lent birth pid s.made shared) (forked traced birth pid p l args s.clock)
        (forks birth pid p id l args s.clock own)
        (lent-keeps S birth pid s.made (λ t it. keeps.step t pid (lent_to s.made) (lends s.made) it) shared
        (keeps.same s shared refl refl refl h))

    -- ---- a turn

    module _ (pid : ℕ) (p : TracedProcess) (id : ℕ) (l : TracedLwp) (own : KnownLwp id l) where
      pub changed-keeps : (c : Change) (s : TracedSystem) → S s → S (changed traced pid p id l c s)
      unfolding changed
      changed-keeps (change.files_are files fds) s h =
          let filed : TracedSystem = record s { files = files } in
          keeps.step filed pid (with_fds fds) (fds_are fds) (keeps.same s filed refl refl refl h)
      changed-keeps (change.space_is space) s h = keeps.step s pid (with_space space) (space_is space) h
      changed-keeps (change.signals target g info) s h =
          choice S (is_kill g && (target == pid)) _ _ (λ itself. h) (λ other. generated-keeps target None g info s h)
      changed-keeps (change.signals_itself g info) s h =
          choice S (is_kill g) _ _ (λ kill. h) (λ other. generated-keeps pid (Some id) g info s h)
      changed-keeps (change.takes_shared g) s h = keeps.step s pid (with_shared_taken g) (takes_shared g) h
      changed-keeps (change.job_stops g) s h = keeps.step s pid (with_job_stop g) (stops_job g) h
      changed-keeps (change.disposition_is g d) s h =
          keeps.step s pid (with_disposition_of g d) (disposition_is g d) h
      changed-keeps (change.held_is held) s h = keeps.step s pid (with_lwp id (with_held held)) (held_is id held) h
      changed-keeps (change.resumes frame frames) s h =
          keeps.step s pid (with_lwp id (resumed frame frames)) (resumes id frame frames) h
      changed-keeps (change.forks birth args) s h =
          choice S (s.made == pid) _ _ (λ itself. h) (λ apart. child-keeps birth pid p id l args s own h)
      changed-keeps (change.reaps child) s h =
          choice S (child == pid) _ _ (λ itself. h) (λ apart. keeps.reaps s child h)
      changed-keeps (change.becomes program) s h =
          process_if-keeps S p.lender (with_loan_back pid p) (back-keeps pid p)
          (with_process pid (with_program traced id l program) s)
          (keeps.step s pid (with_program traced id l program) (becomes id l program own) h)
      changed-keeps (change.makes_lwp new regs held) s h =
          keeps.step s pid (with_new_lwp traced new regs held) (gets_lwp new regs held) h
      changed-keeps (change.suspends other it) s h =
          keeps.step s pid (with_lwp other (with_suspended it)) (suspends other it) h

      pub all_changed-keeps : (cs : List Change) (s : TracedSystem) → S s → S (all_changed traced pid p id l cs s)
      unfolding all_changed
      all_changed-keeps [] s h = h
      all_changed-keeps (c ∷ cs) s h = all_changed-keeps cs (changed traced pid p id l c s) (changed-keeps c s h)

      ended_if-keeps : (o : Option Ending) (s : TracedSystem) → S s → S (ended_if traced pid p id l o s)
      ended_if-keeps None s h = h
      ended_if-keeps (Some how) s h = ended-keeps pid p id how s h

      -- the move of the lwp itself is kept by what is shown of it
      pub transition-keeps : (t : Transition)
          → ((s : TracedSystem) → S s → S (with_process pid (with_lwp id (moved traced t.move)) s))
          → (s : TracedSystem) → S s → S (after_transition traced pid p id l t s)
      unfolding after_transition with_lwp_of
      transition-keeps t own_move s h =
          ended_if-keeps t.ending (with_process pid (with_lwp id (moved traced t.move)) _)
          (own_move (all_changed traced pid p id l t.changes s) (all_changed-keeps t.changes s h))

      -- so are the counts, and the stop at a point
      pub settled-keeps : (row : Row)
          → ((f : TracedProcess → TracedProcess) → TurnStep id row f → (s : TracedSystem) → S s
          → S (with_process pid f s)) → (s : TracedSystem) → S s → S (settled s pid p id l row).system
      unfolding settled
      settled-keeps row own_steps s h =
          let made : TracedSystem = after_transition traced pid p id l row.transition s in
          let moved_one = own_steps (with_lwp id (moved traced row.transition.move)) moves in
          own_steps (after_meeting row.point id) meets (with_process pid (with_counted row.did row.begun) made)
          (own_steps (with_counted row.did row.begun) counts made (transition-keeps row.transition moved_one s h))

    -- ---- calls

    pub message-keeps : (s : TracedSystem) (pid : ℕ) (p : TracedProcess) (m : Message) (tail : List ℕ)
        → (t : TracedSystem) → process_of s pid ≡ Some p → MessageEdit s pid p m tail t → S s → S t
    message-keeps s pid p m tail t found message.nothing h = h
    message-keeps s pid p m tail t found (message.a_process f made) h = keeps.edits s pid p m tail f found made h
    message-keeps s pid p m tail t found message.an_end h = this_ended-keeps pid p (signal_number Kill) s h
    message-keeps s pid p m tail t found (message.a_signal target g is room) h =
        generated-keeps pid target g by_controller s h

    pub closed-keeps : (s : TracedSystem) (pid : ℕ) (t : TracedSystem) → CloseEdit s pid t → S s → S t
    closed-keeps s pid t edit.nothing h = h
    closed-keeps s pid t (edit.kills p live mode) h = this_ended-keeps pid p (signal_number Kill) s h
    closed-keeps s pid t (edit.releases p live spares mode) h = keeps.step s pid released is_released h

    pub call-keeps : (s : TracedState) (by : ℕ) (c : Call) (t : TracedState) → CallEdit s by c t → S s.system
        → S t.system
    unfolding with_opened
    call-keeps s by c t edit.looks h = h
    call-keeps s by c t (edit.opens free grants) h = h
    call-keeps s by c t (edit.closes {handle = handle} {held = held} at) h =
        closed-keeps s.system held.pid (with_closed held handle s).system (close-edit s handle held) h
    call-keeps s by c t (edit.controls {bytes = bytes} {held = held} {p = p} {m = m} {t = u} it e) h =
        message-keeps s.system held.pid p m (tail_of m bytes) u (live_process-found s.system held.pid p it.live) e h
    call-keeps s by c t edit.sees_interrupt h = h
    call-keeps s by c t (edit.interrupts there) h = h
    call-keeps s by c t (edit.spawns {held = held} {program = program} named grants) h =
        spawned-keeps program held s.system h
    call-keeps s by c t (edit.sends {pid = pid} {g = g} is) h = generated-keeps pid None g (killed_by 0) s.system h

    pub tick-keeps : (s : TracedSystem) → S s → S (ticked s)
    tick-keeps s h = keeps.same s (ticked s) refl refl refl h

  -- ---- turns that keep it whole

  pub record KeepsTurns : Type 0 where
    pub known : (s : TracedSystem) (pid : ℕ) (p : TracedProcess) (id : ℕ) (l : TracedLwp) → S s
        → live_process s pid ≡ Some p → lwp_of p id ≡ Some l → KnownLwp id l
    pub own : (s : TracedSystem) (pid : ℕ) (p : TracedProcess) (id : ℕ) (l : TracedLwp)
        → (f : TracedProcess → TracedProcess) → TurnStep id (row_for s pid p id l) f → (t : TracedSystem) → S t
        → S (with_process pid f t)

  module _ (keeps : KeepsSystem) (turns : KeepsTurns) where
    pub turn-keeps : (s : TracedSystem) (pid id : ℕ) (t : LwpTurn) → turn_of s pid id ≡ Some t → S s → S t.system
    turn-keeps s pid id t turn h =
        let it = turn-taken s pid id t turn in
        let p : TracedProcess = it.process in
        let l : TracedLwp = it.lwp in
        subst (λ (v : LwpTurn). S v.system) (sym it.is)
        (settled-keeps keeps pid p id l (turns.known s pid p id l h it.live it.there) (row_for s pid p id l)
        (turns.own s pid p id l) s h)

    pub keeps-each : (n : ℕ) → KeepsEach n AnyState AnyEntry (λ s. S s.system)
    keeps-each n = record {
      call = λ s by c r t before such e h. call-keeps keeps s by c t e h;
      turn = λ s pid id t before such turn h. turn-keeps s.system pid id t turn h;
      tick = λ s before below h. tick-keeps keeps s.system h;
    }
