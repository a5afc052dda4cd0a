use Rattle.std.proofs.Common.{[], ◌≡◌, ◌==◌, ◌&&◌, ◌+◌, ℕ, true, false, is_none, is_some, length, Option, Some, None, List, ◌∷◌, refl, sym, subst}
use Rattle.std.proofs.lemmas.List.Elements.{All-cons, All-nil}
use Rattle.std.specs.List.{All}
use Rattle.pr_erasure.proofs.SeenTurns.ProperLemmas.{row-proper}
use Rattle.pr_erasure.specs.Suiting.{AreProper, IsProper}
use Rattle.pr_keeps.proofs.LoanLemmas.{lent-keeps, loans_passed-keep, process_if-keeps}
use Rattle.pr_model.proofs.StateLemmas.{live_process-found}
use Rattle.pr_model.proofs.TurnLemmas.{turn-taken}
use Rattle.pr_model.specs.Changes.{Change, Ending, all_changed, becomes, changed, disposition_is, ended, ends_lwp, ends_process, files_are, forks, held_is, job_stops, makes_lwp, reaps, resumed, resumes, signals, signals_itself, space_is, suspends, takes_shared, with_disposition_of, with_fds, with_held, with_job_stop, with_shared_taken, with_space, with_suspended}
use Rattle.pr_model.specs.Generation.{ends_job_stop, lwp_with_pending, lwp_without_pending, signalled, with_deletions, with_pending, without_job_stop, without_pending}
use Rattle.pr_model.specs.Lives.{Birth, bare_process, call_of, ended_if_live, forked, forked_lwp, is_id, lent_to, new_lwp, orphaned, started, with_child, with_ended, with_lender_of, with_lent, with_loan_back, with_loans_passed, with_lwp_ended, with_made, with_new_lwp, with_parent_signalled, with_program, with_reaped, with_this_ended, without_lwp, zombie}
use Rattle.pr_model.specs.LwpTurns.{LwpTurn, counted, settled, turn_of, with_counted}
use Rattle.pr_model.specs.Machines.{birth_marks, birth_stop, call_over, child_control, exec_control, fault_incurred, fault_posted, no_marks, step_taken, stopped_as_directed, traced, zombie_control}
use Rattle.pr_model.specs.Moves as move
use Rattle.pr_model.specs.Moves.{Move, moved}
use Rattle.pr_model.specs.Points.{after_meeting, is_traced, stop_at, stopped_at, with_others_directed, with_stop_at}
use Rattle.pr_model.specs.Rows.{Row, row_for}
use Rattle.pr_model.specs.Signals.{generated, is_kill}
use Rattle.pr_model.specs.State.{TracedControl, TracedLwp, TracedProcess, TracedSystem, live_process, lwp_of, with_lwp, with_lwp_of, with_process}
use Rattle.pr_model.specs.Stops.{directed, has_event_stop, with_all_directed}
use Rattle.pr_model.specs.Transitions.{Transition, after_transition, ended_if}
use Rattle.pr_model.specs.declared.lwps.LwpControl.{LwpControl}
use Rattle.pr_model.specs.declared.processes.Usage.{Usage}
use Rattle.pr_model.specs.declared.stops.Point.{Point}
use Rattle.pr_model.specs.declared.stops.Stop.{Stop}
use Rattle.pr_num.proofs.BoolLemmas.{either}
use Rattle.pr_num.proofs.ByIdLaws.{All-change_under, All-inserted, All-map_each, All-under, All-without_id}
use Rattle.pr_num.specs.Agents.{agent_id}
use Rattle.pr_num.specs.ById.{change_under, inserted, map_each}
use Rattle.pr_num.specs.Control.{async_mode, has_flags}
use Rattle.pr_num.specs.Files.{with_all_closed}
use Rattle.pr_num.specs.Infos.{of_child}
use Rattle.pr_num.specs.Programs.{Program}
use Rattle.pr_num.specs.Signals.{signal_number}
use Rattle.pr_num.specs.declared.infos.Info.{Info}
use Rattle.pr_num.specs.declared.signals.Sig.{Sig}
use Rattle.pr_num.specs.declared.signals.Sig.TheVariants.{Cld}
use Rattle.pr_parts.specs.FileCalls.{with_all_shared}
use Rattle.pr_parts.specs.SignalRules.{deleted_by}

-- What turns keep of what is set on processes and on their lwps, also where messages do not keep it: what the few edits
-- keep that turns make of it, each turn keeps of all processes of certain ids, which may be all.

-- ---- the edits

-- what turns make of what is set on an lwp
pub data MarksEdit (c : LwpControl) : LwpControl → Type 0 where
  as_they_are : MarksEdit c c
  -- it is directed to stop, stops so, or stops at what it met
  directs : MarksEdit c (record c { directed = true })
  stops : MarksEdit c (stopped_as_directed c)
  meets : (event : Stop) → MarksEdit c (record c { stop = Some event })
  -- its step mark is used up; its call is over
  steps : MarksEdit c (step_taken c)
  ends_call : MarksEdit c (call_over c)

-- what they make of what is set on a process
pub data SettingsEdit (c : TracedControl) : TracedControl → Type 0 where
  counts : (usage : Usage) → SettingsEdit c (record c { usage = usage })
  runs_program : SettingsEdit c (exec_control c)
  dies : SettingsEdit c (zombie_control c)

-- ---- lwps

module _ (Mark : ℕ × TracedLwp → Type 0) where
  -- a change of an lwp that keeps it
  abbrev pub KeepsLwp : (TracedLwp → TracedLwp) → Type 0
  KeepsLwp f = (id : ℕ) (l : TracedLwp) → Mark (id, l) → Mark (id, f l)

  -- one lwp is changed, and every one is
  pub one-lwp : (id : ℕ) (f : TracedLwp → TracedLwp) → KeepsLwp f → (es : List (ℕ × TracedLwp)) → All Mark es
      → All Mark (change_under id f es)
  one-lwp id f keeps es all = All-change_under Mark id f es (λ l found it. keeps id l it) all

  pub each-lwp : (f : TracedLwp → TracedLwp) → KeepsLwp f → (es : List (ℕ × TracedLwp)) → All Mark es
      → All Mark (map_each f es)
  each-lwp f keeps es all = All-map_each Mark Mark f (λ e it. keeps e.0 e.1 it) es all

moved-edit : (m : Move) (l : TracedLwp) → MarksEdit l.control (moved traced m l).control
unfolding moved traced fault_incurred fault_posted
moved-edit move.stops l = stops
moved-edit (move.traps f address regs) l = steps
moved-edit (move.leaves call args result) l = ends_call
moved-edit _ l = as_they_are

-- ---- what is kept

-- Of the processes of these ids: something of what is set on them, and something of each lwp that comes of what is set
-- on it and of its id; and what is said of a process under its id, which is just that.
module _ (Which : ℕ → Type 0) (Settings : TracedControl → Type 0) (Mark : ℕ × TracedLwp → Type 0)
    (P : ℕ × TracedProcess → Type 0) where
  abbrev pub IsSo : TracedProcess → Type 0
  IsSo x = Settings x.control × All Mark x.lwps

  abbrev pub Keeps : (TracedProcess → TracedProcess) → Type 0
  Keeps f = (x : TracedProcess) → IsSo x → IsSo (f x)

  abbrev AreSo : TracedSystem → Type 0
  AreSo s = All P s.processes

  -- what is to be shown
  pub record KeepsSettings : Type 0 where
    pub sets : (c d : TracedControl) → SettingsEdit c d → Settings c → Settings d
    pub child : (c : TracedControl) → Settings (child_control c)
    pub marks : (id : ℕ) (l k : TracedLwp) → MarksEdit l.control k.control → Mark (id, l) → Mark (id, k)
    -- an lwp that is made, and is no agent
    pub new : (id : ℕ) (l : TracedLwp) (event : Option Stop) → (id == agent_id) ≡ false
        → l.control ≡ record (no_marks false) { stop = event } → Mark (id, l)
    pub parts : (pid : ℕ) (x : TracedProcess) → P (pid, x) → Which pid → IsSo x
    pub whole : (pid : ℕ) (x : TracedProcess) → (Which pid → IsSo x) → P (pid, x)

  module _ (keeps : KeepsSettings) where
    -- ---- one process

    alike : (f : TracedLwp → TracedLwp) → ((l : TracedLwp) → MarksEdit l.control (f l).control) → KeepsLwp Mark f
    alike f edit id l it = keeps.marks id l (f l) (edit l) it

    lwp-keeps : (id : ℕ) (f : TracedLwp → TracedLwp) → ((l : TracedLwp) → MarksEdit l.control (f l).control)
        → Keeps (with_lwp id f)
    unfolding with_lwp
    lwp-keeps id f edit x u = (u.0, one-lwp Mark id f (alike f edit) x.lwps u.1)

    pending-keeps : (target : Option ℕ) (g : Sig) (info : Info) → Keeps (with_pending target g info)
    unfolding with_pending lwp_with_pending
    pending-keeps None g info x u = u
    pending-keeps (Some id) g info x u =
        (u.0, one-lwp Mark id (lwp_with_pending g info) (alike (lwp_with_pending g info) (λ l. as_they_are)) x.lwps u.1)

    deletions-keep : (g : Sig) → Keeps (with_deletions g)
    unfolding with_deletions without_job_stop without_pending lwp_without_pending
    deletions-keep g x u =
        let less : TracedProcess = without_pending (deleted_by g) x in
        let f : TracedLwp → TracedLwp = lwp_without_pending (deleted_by g) in
        let gone : IsSo less = (u.0, each-lwp Mark f (alike f (λ l. as_they_are)) x.lwps u.1) in
        either IsSo (deleted_by g == 0) x _ u
        (either IsSo (ends_job_stop g) (record less { job_stop = None }) less gone gone)

    signalled-keeps : (target : Option ℕ) (g : Sig) (info : Info) → Keeps (signalled target g info)
    unfolding signalled
    signalled-keeps target g info x u =
        either IsSo (is_none x.ended) _ x (pending-keeps target g info (with_deletions g x) (deletions-keep g x u)) u

    orphaned-keeps : (gone : ℕ) → Keeps (orphaned gone)
    unfolding orphaned
    orphaned-keeps gone x u = either IsSo (x.parent == gone) (record x { parent = 0 }) x u u

    zombie-keeps : (status : ℕ) → Keeps (zombie traced status)
    unfolding zombie bare_process traced
    zombie-keeps status x u = (keeps.sets x.control (zombie_control x.control) dies u.0, All-nil Mark)

    loan_back-keeps : (gone : ℕ) (p : TracedProcess) → Keeps (with_loan_back gone p)
    unfolding with_loan_back
    loan_back-keeps gone p x u =
        either IsSo (is_id gone x.borrower) (record x { space = p.space; borrower = p.borrower }) x u u

    lender_of-keeps : (gone : ℕ) (p : TracedProcess) → Keeps (with_lender_of gone p)
    unfolding with_lender_of
    lender_of-keeps gone p x u = either IsSo (is_id gone x.lender) (record x { lender = p.lender }) x u u

    new_lwp-keeps : (id : ℕ) (regs : List ℕ) (held : ℕ) → (id == agent_id) ≡ false
        → Keeps (with_new_lwp traced id regs held)
    unfolding with_new_lwp new_lwp traced no_marks
    new_lwp-keeps id regs held plain x u =
        let made : TracedLwp = new_lwp traced regs held (no_marks false) in
        either IsSo (is_some (lwp_of x id)) x (record x { next_lwp = id + 1; lwps = inserted id made x.lwps }) u
        (u.0, All-inserted Mark id made x.lwps (keeps.new id made None plain refl) u.1)

    program-keeps : (id : ℕ) (l : TracedLwp) (program : Program) → Mark (id, l)
        → Keeps (with_program traced id l program)
    unfolding with_program started traced
    program-keeps id l program own x u = (
      keeps.sets x.control (exec_control x.control) runs_program u.0,
      All-cons Mark (id, started traced l) [] (keeps.marks id l (started traced l) as_they_are own) (All-nil Mark),
    )

    born : (birth : Birth) (pid : ℕ) (p : TracedProcess) (l : TracedLwp) (args : List ℕ) (clock : ℕ)
        → IsSo (forked traced birth pid p l args clock)
    unfolding forked forked_lwp traced birth_marks
    born birth pid p l args clock =
        let child : TracedLwp = forked_lwp traced birth args p.control l in
        let own : Mark (1, child) = keeps.new 1 child (birth_stop (call_of birth) p.control) refl refl in
        (keeps.child p.control, All-cons Mark (1, child) [] own (All-nil Mark))

    directed-keeps : KeepsLwp Mark directed
    unfolding directed
    directed-keeps id l it =
        either (λ (k : TracedLwp). Mark (id, k)) (has_event_stop l) l
        (record l { control = record l.control { directed = true } }) it (keeps.marks id l _ directs it)

    meeting-keeps : (point : Option Point) (id : ℕ) → Keeps (after_meeting point id)
    unfolding after_meeting with_stop_at with_others_directed with_all_directed stopped_at
    meeting-keeps None id x u = u
    meeting-keeps (Some point) id x u =
        let at : TracedProcess = with_lwp id (stopped_at point) x in
        let stopped : IsSo at = lwp-keeps id (stopped_at point) (λ l. meets (stop_at point)) x u in
        either IsSo (is_traced x.control point) (with_stop_at point id x) x
        (either IsSo (has_flags at.control.modes async_mode) at (with_all_directed at) stopped
        (stopped.0, each-lwp Mark directed directed-keeps at.lwps stopped.1)) u

    -- ---- systems

    -- a process is changed: another one, or so that it is kept
    pub process-keeps : (pid : ℕ) (f : TracedProcess → TracedProcess) → (Which pid → Keeps f) → (s : TracedSystem)
        → AreSo s → AreSo (with_process pid f s)
    unfolding with_process
    process-keeps pid f keep s u =
        All-change_under P pid f s.processes
        (λ x found it. keeps.whole pid (f x) (λ which. keep which x (keeps.parts pid x it which))) u

    passed-keep : (gone : ℕ) (p : TracedProcess) (s : TracedSystem) → AreSo s → AreSo (with_loans_passed gone p s)
    passed-keep gone p =
        loans_passed-keep AreSo gone p
        (λ other. process-keeps other (with_loan_back gone p) (λ which. loan_back-keeps gone p))
        (λ other. process-keeps other (with_lender_of gone p) (λ which. lender_of-keeps gone p))

    pub this_ended-keeps : (gone : ℕ) (p : TracedProcess) (status : ℕ) (s : TracedSystem) → AreSo s
        → AreSo (with_this_ended traced gone p status s)
    unfolding with_this_ended with_parent_signalled with_process
    this_ended-keeps gone p status s u =
        let died : TracedSystem = with_process gone (zombie traced status) s in
        let left : TracedSystem = record died { processes = map_each (orphaned gone) died.processes } in
        let over : TracedSystem = record left { files = with_all_closed s.files p.fds } in
        let alone : AreSo left =
        All-map_each P P (orphaned gone)
        (λ e it. keeps.whole e.0 (orphaned gone e.1) (λ which. orphaned-keeps gone e.1 (keeps.parts e.0 e.1 it which)))
        died.processes (process-keeps gone (zombie traced status) (λ which. zombie-keeps status) s u) in
        let passed = passed-keep gone p over alone in
        either AreSo (p.parent == 0) (with_loans_passed gone p over) _ passed
        (process-keeps p.parent (signalled None Cld (of_child gone status))
        (λ which. signalled-keeps None Cld (of_child gone status)) (with_loans_passed gone p over) passed)

    if_live-keeps : (pid status : ℕ) (s : TracedSystem) (o : Option TracedProcess) → AreSo s
        → AreSo (ended_if_live traced pid status s o)
    if_live-keeps pid status s None u = u
    if_live-keeps pid status s (Some p) u = this_ended-keeps pid p status s u

    pub generated-keeps : (pid : ℕ) (target : Option ℕ) (g : Sig) (info : Info) (s : TracedSystem) → AreSo s
        → AreSo (generated traced pid target g info s)
    unfolding generated with_ended
    generated-keeps pid target g info s u =
        either AreSo (is_kill g) _ _ (if_live-keeps pid (signal_number g) s (live_process s pid) u)
        (process-keeps pid (signalled target g info) (λ which. signalled-keeps target g info) s u)

    pub made-keeps : (p : TracedProcess) (s : TracedSystem) → IsSo p → AreSo s → AreSo (with_made p s)
    unfolding with_made
    made-keeps p s new u =
        All-inserted P s.made p s.processes (keeps.whole s.made p (λ which. new)) u

    -- ---- a turn of an lwp, of one of these processes or of another

    module _ (acting : ℕ) (p : TracedProcess) (id : ℕ) (l : TracedLwp) (own : Which acting → Mark (id, l)) where
      acts-keep : (f : TracedProcess → TracedProcess) → Keeps f → (s : TracedSystem) → AreSo s
          → AreSo (with_process acting f s)
      acts-keep f keep = process-keeps acting f (λ which. keep)

      child-keeps : (birth : Birth) (args : List ℕ) (s : TracedSystem) → AreSo s
          → AreSo (with_child traced birth acting p l args s)
      unfolding with_child lent_to
      child-keeps birth args s u =
          let shared : TracedSystem = record s { files = with_all_shared s.files p.fds } in
          made-keeps (forked traced birth acting p l args s.clock) (with_lent birth acting s.made shared)
          (born birth acting p l args s.clock)
          (lent-keeps AreSo birth acting s.made (acts-keep (lent_to s.made) (λ x it. it)) shared u)

      changed-keeps : (c : Change) → IsProper c → (s : TracedSystem) → AreSo s
          → AreSo (changed traced acting p id l c s)
      unfolding changed with_fds with_space with_shared_taken with_job_stop with_disposition_of with_held resumed
          with_suspended with_reaped
      changed-keeps (files_are files fds) proper s u =
          acts-keep (with_fds fds) (λ x it. it) (record s { files = files }) u
      changed-keeps (space_is space) proper s u = acts-keep (with_space space) (λ x it. it) s u
      changed-keeps (signals target g info) proper s u =
          either AreSo (is_kill g && (target == acting)) s _ u (generated-keeps target None g info s u)
      changed-keeps (signals_itself g info) proper s u =
          either AreSo (is_kill g) s _ u (generated-keeps acting (Some id) g info s u)
      changed-keeps (takes_shared g) proper s u = acts-keep (with_shared_taken g) (λ x it. it) s u
      changed-keeps (job_stops g) proper s u = acts-keep (with_job_stop g) (λ x it. it) s u
      changed-keeps (disposition_is g d) proper s u = acts-keep (with_disposition_of g d) (λ x it. it) s u
      changed-keeps (held_is held) proper s u =
          acts-keep (with_lwp id (with_held held)) (lwp-keeps id (with_held held) (λ k. as_they_are)) s u
      changed-keeps (resumes frame frames) proper s u =
          acts-keep (with_lwp id (resumed frame frames)) (lwp-keeps id (resumed frame frames) (λ k. as_they_are)) s u
      changed-keeps (forks birth args) proper s u =
          either AreSo (s.made == acting) s (with_child traced birth acting p l args s) u (child-keeps birth args s u)
      changed-keeps (reaps child) proper s u =
          either AreSo (child == acting) s (with_reaped child s) u (All-without_id P child s.processes u)
      changed-keeps (becomes program) proper s u =
          process_if-keeps AreSo p.lender (with_loan_back acting p)
          (λ other. process-keeps other (with_loan_back acting p) (λ which. loan_back-keeps acting p))
          (with_process acting (with_program traced id l program) s)
          (process-keeps acting (with_program traced id l program)
          (λ which. program-keeps id l program (own which)) s u)
      changed-keeps (makes_lwp new regs held) proper s u =
          acts-keep (with_new_lwp traced new regs held) (new_lwp-keeps new regs held proper) s u
      changed-keeps (suspends other it) proper s u =
          acts-keep (with_lwp other (with_suspended it)) (lwp-keeps other (with_suspended it) (λ k. as_they_are)) s u

      all_changed-keeps : (cs : List Change) → AreProper cs → (s : TracedSystem) → AreSo s
          → AreSo (all_changed traced acting p id l cs s)
      unfolding all_changed
      all_changed-keeps [] proper s u = u
      all_changed-keeps (c ∷ cs) proper s u =
          all_changed-keeps cs proper.1 (changed traced acting p id l c s) (changed-keeps c proper.0 s u)

      ended-keeps : (o : Option Ending) (s : TracedSystem) → AreSo s → AreSo (ended_if traced acting p id l o s)
      unfolding ended with_lwp_ended without_lwp
      ended-keeps None s u = u
      ended-keeps (Some (ends_process status)) s u = this_ended-keeps acting p status s u
      ended-keeps (Some ends_lwp) s u =
          either AreSo (length p.lwps == 1) _ _ (this_ended-keeps acting p 0 s u)
          (acts-keep (without_lwp id) (λ x it. (it.0, All-without_id Mark id x.lwps it.1)) s u)

      pub settled-keeps : (row : Row) → AreProper row.transition.changes → (s : TracedSystem) → AreSo s
          → AreSo (settled s acting p id l row).system
      unfolding settled after_transition with_lwp_of with_counted
      settled-keeps row proper s u =
          let t : Transition = row.transition in
          let changes : TracedSystem = all_changed traced acting p id l t.changes s in
          let moves : TracedSystem = with_process acting (with_lwp id (moved traced t.move)) changes in
          let ends : TracedSystem = ended_if traced acting p id l t.ending moves in
          let one : AreSo moves =
          acts-keep (with_lwp id (moved traced t.move)) (lwp-keeps id (moved traced t.move) (moved-edit t.move)) changes
          (all_changed-keeps t.changes proper s u) in
          let two : AreSo (with_process acting (with_counted row.did row.begun) ends) =
          acts-keep (with_counted row.did row.begun)
          (λ x it. (keeps.sets x.control _ (counts (counted row.did row.begun x.control.usage)) it.0, it.1)) ends
          (ended-keeps t.ending moves one) in
          acts-keep (after_meeting row.point id) (meeting-keeps row.point id)
          (with_process acting (with_counted row.did row.begun) ends) two

    -- an lwp of one of them
    pub found-so : (s : TracedSystem) (pid : ℕ) (p : TracedProcess) (id : ℕ) (l : TracedLwp) → AreSo s
        → live_process s pid ≡ Some p → lwp_of p id ≡ Some l → Which pid → Mark (id, l)
    found-so s pid p id l u live there which =
        All-under Mark id l p.lwps
        (keeps.parts pid p (All-under P pid p s.processes u (live_process-found s pid p live)) which).1 there

    pub turn-keeps : (s : TracedSystem) (acting id : ℕ) (t : LwpTurn) → turn_of s acting id ≡ Some t → AreSo s
        → AreSo t.system
    turn-keeps s acting id t turn u =
        let it = turn-taken s acting id t turn in
        subst (λ (x : LwpTurn). AreSo x.system) (sym it.is)
        (settled-keeps acting it.process id it.lwp (found-so s acting it.process id it.lwp u it.live it.there)
        (row_for s acting it.process id it.lwp) (row-proper s acting it.process id it.lwp) s u)
