use Rattle.std.proofs.Common.{◌≡◌, ◌&&◌, ◌+◌, ℕ, Bool, true, false, is_none, is_some, eqb, Option, Some, None, List, [], ◌∷◌, length, cond, refl, sym, subst, ◌∙◌, ap}
use Rattle.std.specs.List.{All}
use Rattle.std.proofs.lemmas.Bool.{false≢true}
use Rattle.std.proofs.lemmas.List.Elements.{All-nil, All-cons}
use Rattle.std.proofs.lemmas.Option.{same_Some, none-some}
use Rattle.pr_num.specs.ById.{change_under, inserted, map_each}
use Rattle.pr_num.specs.Control.{has_flags, async_mode, fork_mode, klc_mode, rlc_mode}
use Rattle.pr_num.specs.Faults.{fault_number}
use Rattle.pr_num.specs.Infos.{of_child}
use Rattle.pr_num.specs.Programs.{Program}
use Rattle.pr_num.specs.Sets.{common_word}
use Rattle.pr_num.specs.Signals.{signal_number}
use Rattle.pr_num.specs.Syscalls.{syscall_number}
use Rattle.pr_num.specs.declared.infos.Info.{Info}
use Rattle.pr_num.specs.declared.signals.Sig.{Sig}
use Rattle.pr_num.specs.declared.signals.Sig.TheVariants.{Cld}
use Rattle.pr_num.proofs.ByIdLaws.{All-under, All-change_under, All-map_each, All-inserted, All-without_id}
use Rattle.pr_num.proofs.SetLemmas.{has_number-zero}
use Rattle.pr_parts.specs.FileCalls.{with_all_shared}
use Rattle.pr_parts.specs.SignalRules.{deleted_by}
use Rattle.pr_keeps.proofs.LoanLemmas.{process_if-keeps, lent-keeps, loans_passed-keep}
use Rattle.pr_model.specs.Changes.{Change, files_are, space_is, signals, signals_itself, takes_shared, job_stops, disposition_is, held_is, resumes, forks, reaps, becomes, makes_lwp, suspends, Ending, ends_process, ends_lwp, with_fds, with_space, with_shared_taken, with_job_stop, with_disposition_of, with_held, resumed, with_suspended, changed, all_changed, ended}
use Rattle.pr_model.specs.Generation.{ends_job_stop, lwp_without_pending, lwp_with_pending, without_pending, without_job_stop, with_deletions, with_pending, signalled}
use Rattle.pr_model.specs.Handles.{has_writer}
use Rattle.pr_model.specs.Lawful.{IsReleasedLwp, IsUntraced, IsReleased}
use Rattle.pr_model.specs.Lives.{Birth, with_lent, bare_process, is_id, lent_to, with_loan_back, with_lender_of, with_made, orphaned, with_parent_signalled, without_lwp, with_reaped, new_lwp, new_process, with_spawned, forked, with_child, started, with_program, with_new_lwp, zombie, with_this_ended, ended_if_live, with_ended, with_lwp_ended}
use Rattle.pr_model.specs.LwpTurns.{with_counted, settled}
use Rattle.pr_model.specs.Machines.{nothing_set, no_marks, child_control, exec_control, call_over, step_taken, fault_incurred, fault_posted, traced}
use Rattle.pr_model.specs.Moves as move
use Rattle.pr_model.specs.Moves.{Move, moved}
use Rattle.pr_model.specs.Points.{is_traced, with_others_directed, with_stop_at, after_meeting}
use Rattle.pr_model.specs.Rows.{Row}
use Rattle.pr_model.specs.Signals.{is_kill, generated}
use Rattle.pr_model.specs.State.{Places, TracedControl, TracedLwp, TracedProcess, TracedSystem, process_of, lwp_of, live_process, with_process, with_lwp, with_lwp_of}
use Rattle.pr_model.specs.Stops.{with_all_directed}
use Rattle.pr_model.specs.Transitions.{Transition, ended_if, after_transition}
use Rattle.pr_model.specs.declared.stops.Point.{Point}
use Rattle.pr_model.specs.declared.stops.Point.TheVariants.{Signal, Fault, Entry, Exit}
use Rattle.pr_lawful.proofs.LawfulTurns.EndLemmas.{buried}
use Rattle.pr_lawful.proofs.ProcessParts.FileLemmas.{choice}
use Rattle.pr_lawful.proofs.LawfulTurns.SuitingLemmas.{SuitsChange, SuitChanges, SuitsTransition, is_stop}
use Rattle.pr_lawful.proofs.LawfulTurns.TransitionLemmas.{stayed}

-- What turns leave of a process without a handle for writing: nothing is asked of it, as its last close left it.

-- ---- lwps

-- a change of an lwp that asks nothing of it
abbrev pub KeepsCalm : (TracedLwp → TracedLwp) → Type 0
KeepsCalm f = (id : ℕ) (l : TracedLwp) → IsReleasedLwp (id, l) → IsReleasedLwp (id, f l)

pub same_control : (f : TracedLwp → TracedLwp) → ((l : TracedLwp) → (f l).control ≡ l.control) → KeepsCalm f
same_control f same id l h = record {
  no_stop = ap (λ k. k.stop) (same l) ∙ h.no_stop;
  not_directed = ap (λ k. k.directed) (same l) ∙ h.not_directed;
  no_step = ap (λ k. k.step) (same l) ∙ h.no_step;
}

-- a line a kind of move
moved-calm : (m : Move) → is_stop m ≡ false → KeepsCalm (moved traced m)
unfolding moved traced call_over step_taken fault_incurred fault_posted
moved-calm move.stays goes_on = same_control (moved traced move.stays) (λ l. refl)
moved-calm move.stops goes_on = cc
moved-calm (move.posts f address) goes_on = same_control (moved traced (move.posts f address)) (λ l. refl)
moved-calm move.returns goes_on = same_control (moved traced move.returns) (λ l. refl)
moved-calm (move.runs regs) goes_on = same_control (moved traced (move.runs regs)) (λ l. refl)
moved-calm (move.enters call regs) goes_on = same_control (moved traced (move.enters call regs)) (λ l. refl)
moved-calm (move.incurs f address) goes_on = same_control (moved traced (move.incurs f address)) (λ l. refl)
moved-calm (move.traps f address regs) goes_on =
    λ id l h. record { no_stop = h.no_stop; not_directed = h.not_directed; no_step = refl }
moved-calm (move.leaves call args result) goes_on =
    λ id l h. record { no_stop = h.no_stop; not_directed = h.not_directed; no_step = h.no_step }
moved-calm (move.sleeps call args since) goes_on = same_control (moved traced (move.sleeps call args since)) (λ l. refl)
moved-calm (move.takes c own) goes_on = same_control (moved traced (move.takes c own)) (λ l. refl)
moved-calm move.drops goes_on = same_control (moved traced move.drops) (λ l. refl)
moved-calm (move.catches frames regs held) goes_on =
    same_control (moved traced (move.catches frames regs held)) (λ l. refl)

-- ---- processes

-- What a process that is changed in its place keeps: it is no live one that was a zombie, has the same modes, and
-- nothing is asked of it that was not before.
pub record StaysCalm (x y : TracedProcess) : Type 0 where
  pub ended : y.ended ≡ None → x.ended ≡ None
  pub modes : y.control.modes ≡ x.control.modes
  pub untraced : IsUntraced x.control → IsUntraced y.control
  pub runs : IsUntraced x.control → All IsReleasedLwp x.lwps → All IsReleasedLwp y.lwps

abbrev pub Calms : (TracedProcess → TracedProcess) → Type 0
Calms f = (x : TracedProcess) → StaysCalm x (f x)

calm-same : (x : TracedProcess) → StaysCalm x x
calm-same x = record { ended = λ is. is; modes = refl; untraced = λ u. u; runs = λ u all. all }

calm-next : (x y z : TracedProcess) → StaysCalm x y → StaysCalm y z → StaysCalm x z
calm-next x y z first next = record {
  ended = λ is. first.ended (next.ended is);
  modes = next.modes ∙ first.modes;
  untraced = λ u. next.untraced (first.untraced u);
  runs = λ u all. next.runs (first.untraced u) (first.runs u all);
}

calm-if : (b : Bool) (x y z : TracedProcess) → StaysCalm x y → StaysCalm x z → StaysCalm x (cond b y z)
calm-if true x y z one other = one
calm-if false x y z one other = other

-- what is set and its lwps stay; its lwps are changed in their places
same_parts : (x y : TracedProcess) → y.ended ≡ x.ended → y.control ≡ x.control → y.lwps ≡ x.lwps → StaysCalm x y
same_parts x y ended control lwps = record {
  ended = λ is. sym ended ∙ is;
  modes = ap (λ (c : TracedControl). c.modes) control;
  untraced = λ u. subst IsUntraced (sym control) u;
  runs = λ u all. subst (All IsReleasedLwp) (sym lwps) all;
}

calm-lwp : (id : ℕ) (f : TracedLwp → TracedLwp) → KeepsCalm f → Calms (with_lwp id f)
unfolding with_lwp
calm-lwp id f keeps x = record {
  ended = λ is. is;
  modes = refl;
  untraced = λ u. u;
  runs = λ u all. All-change_under IsReleasedLwp id f x.lwps (λ l found it. keeps id l it) all;
}

calm-each : (f : TracedLwp → TracedLwp) → KeepsCalm f → Calms (λ x. record x { lwps = map_each f x.lwps })
calm-each f keeps x = record {
  ended = λ is. is;
  modes = refl;
  untraced = λ u. u;
  runs = λ u all. All-map_each IsReleasedLwp IsReleasedLwp f (λ e it. keeps e.0 e.1 it) x.lwps all;
}

-- ---- signals

pending-calm : (target : Option ℕ) (g : Sig) (info : Info) → Calms (with_pending target g info)
unfolding with_pending lwp_with_pending with_lwp
pending-calm None g info x = same_parts x (with_pending None g info x) refl refl refl
pending-calm (Some id) g info x =
    let it = calm-lwp id (lwp_with_pending g info) (same_control (lwp_with_pending g info) (λ l. refl)) x in
    record { ended = it.ended; modes = it.modes; untraced = it.untraced; runs = it.runs }

without_pending-calm : (set : ℕ) → Calms (without_pending set)
unfolding without_pending lwp_without_pending
without_pending-calm set x =
    let it = calm-each (lwp_without_pending set) (same_control (lwp_without_pending set) (λ l. refl)) x in
    record { ended = it.ended; modes = it.modes; untraced = it.untraced; runs = it.runs }

job-calm : (g : Sig) → Calms (without_job_stop g)
unfolding without_job_stop
job-calm g x =
    calm-if (ends_job_stop g) x (record x { job_stop = None }) x
    (same_parts x (record x { job_stop = None }) refl refl refl) (calm-same x)

deletions-calm : (g : Sig) → Calms (with_deletions g)
unfolding with_deletions
deletions-calm g x =
    calm-if (eqb (deleted_by g) 0) x x (without_job_stop g (without_pending (deleted_by g) x)) (calm-same x)
    (calm-next x (without_pending (deleted_by g) x) (without_job_stop g (without_pending (deleted_by g) x))
    (without_pending-calm (deleted_by g) x) (job-calm g (without_pending (deleted_by g) x)))

signalled-calm : (target : Option ℕ) (g : Sig) (info : Info) → Calms (signalled target g info)
unfolding signalled
signalled-calm target g info x =
    calm-if (is_none x.ended) x (with_pending target g info (with_deletions g x)) x
    (calm-next x (with_deletions g x) (with_pending target g info (with_deletions g x)) (deletions-calm g x)
    (pending-calm target g info (with_deletions g x))) (calm-same x)

-- ---- stops

stop-ended : (point : Point) (id : ℕ) (x : TracedProcess) → (with_stop_at point id x).ended ≡ x.ended
unfolding with_stop_at with_others_directed with_all_directed with_lwp
stop-ended point id x =
    choice (λ (y : TracedProcess). y.ended ≡ x.ended) (has_flags x.control.modes async_mode) _ _ (λ async. refl)
    (λ others. refl)

stop-control : (point : Point) (id : ℕ) (x : TracedProcess) → (with_stop_at point id x).control ≡ x.control
unfolding with_stop_at with_others_directed with_all_directed with_lwp
stop-control point id x =
    choice (λ (y : TracedProcess). y.control ≡ x.control) (has_flags x.control.modes async_mode) _ _ (λ async. refl)
    (λ others. refl)

-- ---- the system, beside some open handles

module _ (opens : Places) where
  pub calm-released : (pid : ℕ) (x y : TracedProcess) → StaysCalm x y → IsReleased opens (pid, x)
      → IsReleased opens (pid, y)
  calm-released pid x y calm h = record {
    no_kill = λ live alone. rw calm.modes (h.no_kill (calm.ended live) alone);
    untraced = λ live alone mode. calm.untraced (h.untraced (calm.ended live) alone (rw calm.modes at mode));
    runs =
        λ live alone mode. calm.runs (h.untraced (calm.ended live) alone (rw calm.modes at mode))
        (h.runs (calm.ended live) alone (rw calm.modes at mode));
  }

  -- whatever a process is that a controller has open for writing
  pub writer-released : (pid : ℕ) (x : TracedProcess) → has_writer pid opens ≡ true → IsReleased opens (pid, x)
  writer-released pid x written = record {
    no_kill = λ live alone. absurd (false≢true (sym alone ∙ written));
    untraced = λ live alone mode. absurd (false≢true (sym alone ∙ written));
    runs = λ live alone mode. absurd (false≢true (sym alone ∙ written));
  }

  -- a process with neither mode
  pub modeless-released : (pid : ℕ) (x : TracedProcess) → has_flags x.control.modes klc_mode ≡ false
      → has_flags x.control.modes rlc_mode ≡ false → IsReleased opens (pid, x)
  modeless-released pid x no_kill no_release = record {
    no_kill = λ live alone. no_kill;
    untraced = λ live alone mode. absurd (false≢true (sym no_release ∙ mode));
    runs = λ live alone mode. absurd (false≢true (sym no_release ∙ mode));
  }

  abbrev pub AllReleased : TracedSystem → Type 0
  AllReleased s = All (IsReleased opens) s.processes

  pub process-released : (s : TracedSystem) (pid : ℕ) (f : TracedProcess → TracedProcess)
      → ((x : TracedProcess) → process_of s pid ≡ Some x → IsReleased opens (pid, x) → IsReleased opens (pid, f x))
      → AllReleased s → AllReleased (with_process pid f s)
  unfolding with_process
  process-released s pid f keeps all = All-change_under (IsReleased opens) pid f s.processes keeps all

  pub calms : (s : TracedSystem) (pid : ℕ) (f : TracedProcess → TracedProcess) → Calms f → AllReleased s
      → AllReleased (with_process pid f s)
  calms s pid f calm all = process-released s pid f (λ x found it. calm-released pid x (f x) (calm x) it) all

  either : (b : Bool) (s t : TracedSystem) → AllReleased s → AllReleased t → AllReleased (cond b s t)
  either true s t one other = one
  either false s t one other = other

  -- ---- ends

  pub zombie-released : (pid status : ℕ) (x : TracedProcess) → IsReleased opens (pid, zombie traced status x)
  unfolding zombie bare_process
  zombie-released pid status x = record {
    no_kill = λ live alone. absurd (none-some status (sym live));
    untraced = λ live alone mode. absurd (none-some status (sym live));
    runs = λ live alone mode. absurd (none-some status (sym live));
  }

  orphaned-calm : (gone : ℕ) → Calms (orphaned gone)
  unfolding orphaned
  orphaned-calm gone x =
      calm-if (eqb x.parent gone) x (record x { parent = 0 }) x (same_parts x (record x { parent = 0 }) refl refl refl)
      (calm-same x)

  loan_back-calm : (pid : ℕ) (p : TracedProcess) → Calms (with_loan_back pid p)
  unfolding with_loan_back
  loan_back-calm pid p x =
      let back : TracedProcess = record x { space = p.space; borrower = p.borrower } in
      calm-if (is_id pid x.borrower) x back x (same_parts x back refl refl refl) (calm-same x)

  lender_of-calm : (pid : ℕ) (p : TracedProcess) → Calms (with_lender_of pid p)
  unfolding with_lender_of
  lender_of-calm pid p x =
      let other : TracedProcess = record x { lender = p.lender } in
      calm-if (is_id pid x.lender) x other x (same_parts x other refl refl refl) (calm-same x)

  calms-on : (f : TracedProcess → TracedProcess) → Calms f → (pid : ℕ) (s : TracedSystem) → AllReleased s
      → AllReleased (with_process pid f s)
  calms-on f calm pid s all = calms s pid f calm all

  -- a process ends whose zombie is buried among the others
  pub buried-released : (s : TracedSystem) (pid : ℕ) (p : TracedProcess) (status : ℕ)
      → All (IsReleased opens) (change_under pid (zombie traced status) s.processes)
      → AllReleased (with_this_ended traced pid p status s)
  unfolding with_this_ended with_parent_signalled
  buried-released s pid p status all =
      let left : List (ℕ × TracedProcess) = change_under pid (zombie traced status) s.processes in
      let orphans =
      All-map_each (IsReleased opens) (IsReleased opens) (orphaned pid)
      (λ e it. calm-released e.0 e.1 (orphaned pid e.1) (orphaned-calm pid e.1) it) left all in
      let passed =
      loans_passed-keep AllReleased pid p (calms-on (with_loan_back pid p) (loan_back-calm pid p))
      (calms-on (with_lender_of pid p) (lender_of-calm pid p)) (buried pid p status s) orphans in
      either (eqb p.parent 0) _ _ passed
      (calms _ p.parent (signalled None Cld (of_child pid status))
      (signalled-calm None Cld (of_child pid status)) passed)

  pub ended-released : (s : TracedSystem) (pid : ℕ) (p : TracedProcess) (status : ℕ) → AllReleased s
      → AllReleased (with_this_ended traced pid p status s)
  ended-released s pid p status all =
      buried-released s pid p status
      (All-change_under (IsReleased opens) pid (zombie traced status) s.processes
      (λ x found it. zombie-released pid status x) all)

  with_ended-released : (s : TracedSystem) (pid status : ℕ) → AllReleased s
      → AllReleased (with_ended traced pid status s)
  unfolding with_ended
  with_ended-released s pid status all = by (live_process s pid)
    where
      by : (o : Option TracedProcess) → AllReleased (ended_if_live traced pid status s o)
      by None = all
      by (Some p) = ended-released s pid p status all

  pub generated-released : (s : TracedSystem) (pid : ℕ) (target : Option ℕ) (g : Sig) (info : Info) → AllReleased s
      → AllReleased (generated traced pid target g info s)
  unfolding generated
  generated-released s pid target g info all =
      either (is_kill g) _ _ (with_ended-released s pid (signal_number g) all)
      (calms s pid (signalled target g info) (signalled-calm target g info) all)

  without_lwp-calm : (id : ℕ) → Calms (without_lwp id)
  unfolding without_lwp
  without_lwp-calm id x = record {
    ended = λ is. is;
    modes = refl;
    untraced = λ u. u;
    runs = λ u all. All-without_id IsReleasedLwp id x.lwps all;
  }

  lwp_ended-released : (s : TracedSystem) (pid : ℕ) (p : TracedProcess) (id : ℕ) → AllReleased s
      → AllReleased (with_lwp_ended traced pid p id s)
  unfolding with_lwp_ended
  lwp_ended-released s pid p id all =
      either (eqb (length p.lwps) 1) _ _ (ended-released s pid p 0 all)
      (calms s pid (without_lwp id) (without_lwp-calm id) all)

  -- ---- beginnings

  pub made-released : (s : TracedSystem) (p : TracedProcess) → IsReleased opens (s.made, p) → AllReleased s
      → AllReleased (with_made p s)
  unfolding with_made
  made-released s p new all = All-inserted (IsReleased opens) s.made p s.processes new all

  child-modes : (c : TracedControl)
      → (has_flags (child_control c).modes klc_mode ≡ false) × (has_flags (child_control c).modes rlc_mode ≡ false)
  unfolding child_control nothing_set has_flags common_word
  child-modes c =
      choice (λ (d : TracedControl). (has_flags d.modes klc_mode ≡ false) × (has_flags d.modes rlc_mode ≡ false))
      (has_flags c.modes fork_mode) _ _ (λ inherits. (refl, refl)) (λ starts. (refl, refl))

  forked-released : (birth : Birth) (child pid : ℕ) (p : TracedProcess) (l : TracedLwp) (args : List ℕ) (clock : ℕ)
      → IsReleased opens (child, forked traced birth pid p l args clock)
  unfolding forked traced
  forked-released birth child pid p l args clock =
      let modes = child-modes p.control in
      modeless-released child (forked traced birth pid p l args clock) modes.0 modes.1

  lent-calm : (child : ℕ) → Calms (lent_to child)
  unfolding lent_to
  lent-calm child x = same_parts x (lent_to child x) refl refl refl

  child-released : (birth : Birth) (s : TracedSystem) (pid : ℕ) (p : TracedProcess) (l : TracedLwp) (args : List ℕ)
      → AllReleased s → AllReleased (with_child traced birth pid p l args s)
  unfolding with_child
  child-released birth s pid p l args all =
      let shared : TracedSystem = record s { files = with_all_shared s.files p.fds } in
      let lent = with_lent birth pid s.made shared in
      made-released lent (forked traced birth pid p l args s.clock)
      (forked-released birth lent.made pid p l args s.clock)
      (lent-keeps AllReleased birth pid s.made (calms-on (lent_to s.made) (lent-calm s.made) pid) shared all)

  pub spawned-released : (s : TracedSystem) (program : Program) (held : Bool) → AllReleased s
      → AllReleased (with_spawned traced program held s)
  unfolding with_spawned new_process bare_process traced nothing_set has_flags common_word
  spawned-released s program held all =
      made-released s (new_process traced program s.clock held)
      (modeless-released s.made (new_process traced program s.clock held) refl refl) all

  new_lwp-calm : (new : ℕ) (regs : List ℕ) (held : ℕ) → Calms (with_new_lwp traced new regs held)
  unfolding with_new_lwp new_lwp traced no_marks
  new_lwp-calm new regs held x =
      calm-if (is_some (lwp_of x new)) x x
      (record x { next_lwp = new + 1; lwps = inserted new (new_lwp traced regs held (no_marks false)) x.lwps })
      (calm-same x)
      (record {
        ended = λ is. is;
        modes = refl;
        untraced = λ u. u;
        runs =
            λ u all. All-inserted IsReleasedLwp new (new_lwp traced regs held (no_marks false)) x.lwps
            (record { no_stop = refl; not_directed = refl; no_step = refl }) all;
      })

  -- an lwp of the process runs another program
  program-calm : (id : ℕ) (l : TracedLwp) (program : Program) (x : TracedProcess) → lwp_of x id ≡ Some l
      → StaysCalm x (with_program traced id l program x)
  unfolding with_program started traced exec_control
  program-calm id l program x there = record {
    ended = λ is. is;
    modes = refl;
    untraced =
        λ u. record { signals = u.signals; faults = u.faults; entries = u.entries; exits = u.exits; areas = refl };
    runs = λ u all.
        let it = All-under IsReleasedLwp id l x.lwps all there in
        All-cons IsReleasedLwp (id, started traced l) []
        (record { no_stop = it.no_stop; not_directed = it.not_directed; no_step = it.no_step })
        (All-nil IsReleasedLwp);
  }

  -- ---- changes: a line a kind

  module _ (pid : ℕ) (p : TracedProcess) (id : ℕ) (l : TracedLwp) where
    own : (s : TracedSystem) (other : ℕ) (f : TracedLwp → TracedLwp) → ((x : TracedLwp) → (f x).control ≡ x.control)
        → AllReleased s → AllReleased (with_process pid (with_lwp other f) s)
    own s other f same all = calms s pid (with_lwp other f) (calm-lwp other f (same_control f same)) all

    changed-released : (c : Change) (s : TracedSystem) → SuitsChange pid p id l s c → AllReleased s
        → AllReleased (changed traced pid p id l c s)
    unfolding changed with_fds with_space with_shared_taken with_job_stop with_disposition_of with_held resumed
        with_suspended with_reaped
    changed-released (files_are files fds) s suits all =
        calms (record s { files = files }) pid (with_fds fds) (λ x. same_parts x (with_fds fds x) refl refl refl) all
    changed-released (space_is space) s suits all =
        calms s pid (with_space space) (λ x. same_parts x (with_space space x) refl refl refl) all
    changed-released (signals target g info) s suits all =
        either (is_kill g && eqb target pid) s _ all (generated-released s target None g info all)
    changed-released (signals_itself g info) s suits all =
        either (is_kill g) s _ all (generated-released s pid (Some id) g info all)
    changed-released (takes_shared g) s suits all =
        calms s pid (with_shared_taken g) (λ x. same_parts x (with_shared_taken g x) refl refl refl) all
    changed-released (job_stops g) s suits all =
        calms s pid (with_job_stop g) (λ x. same_parts x (with_job_stop g x) refl refl refl) all
    changed-released (disposition_is g d) s suits all =
        calms s pid (with_disposition_of g d) (λ x. same_parts x (with_disposition_of g d x) refl refl refl) all
    changed-released (held_is held) s suits all = own s id (with_held held) (λ x. refl) all
    changed-released (resumes frame frames) s suits all = own s id (resumed frame frames) (λ x. refl) all
    changed-released (forks birth args) s suits all =
        either (eqb s.made pid) s _ all (child-released birth s pid p l args all)
    changed-released (reaps child) s suits all =
        either (eqb child pid) s _ all (All-without_id (IsReleased opens) child s.processes all)
    changed-released (becomes program) s suits all =
        process_if-keeps AllReleased p.lender (with_loan_back pid p)
        (calms-on (with_loan_back pid p) (loan_back-calm pid p)) (with_process pid (with_program traced id l program) s)
        (process-released s pid (with_program traced id l program) (λ x is it.
        let same = same_Some p x (sym suits.found ∙ is) in
        calm-released pid x (with_program traced id l program x)
        (program-calm id l program x (ap (λ (y : TracedProcess). lwp_of y id) (sym same) ∙ suits.there)) it) all)
    changed-released (makes_lwp new regs held) s suits all =
        calms s pid (with_new_lwp traced new regs held) (new_lwp-calm new regs held) all
    changed-released (suspends other it) s suits all = own s other (with_suspended it) (λ x. refl) all

    all_changed-released : (cs : List Change) (s : TracedSystem) → SuitChanges pid p id l s cs → AllReleased s
        → AllReleased (all_changed traced pid p id l cs s)
    unfolding all_changed
    all_changed-released [] s suits all = all
    all_changed-released (c ∷ cs) s suits all =
        all_changed-released cs (changed traced pid p id l c s) suits.1 (changed-released c s suits.0 all)

    -- ---- transitions

    ending-released : (how : Ending) (s : TracedSystem) → AllReleased s → AllReleased (ended traced pid p id how s)
    unfolding ended
    ending-released (ends_process status) s all = ended-released s pid p status all
    ending-released ends_lwp s all = lwp_ended-released s pid p id all

    -- an lwp stops as directed: something is asked of its process
    stop-released : (m : Move) → lwp_of p id ≡ Some l → l.control.directed ≡ true → IsReleased opens (pid, p)
        → IsReleased opens (pid, with_lwp id (moved traced m) p)
    unfolding with_lwp
    stop-released m there directed h = record {
      no_kill = h.no_kill;
      untraced = h.untraced;
      runs =
          λ live alone mode. let it =
          All-under IsReleasedLwp id l p.lwps (h.runs live alone mode) there in absurd
          (false≢true (sym it.not_directed ∙ directed));
    }

    transition-released : (s : TracedSystem) (t : Transition) → process_of s pid ≡ Some p → lwp_of p id ≡ Some l
        → SuitsTransition s pid p id l t → AllReleased s → AllReleased (after_transition traced pid p id l t s)
    unfolding after_transition with_lwp_of all_changed
    transition-released s t found there suits all = by t.ending refl
      where
        to : TracedSystem
        to = with_lwp_of pid id (moved traced t.move) (all_changed traced pid p id l t.changes s)

        nothing_else : (how : Ending) → t.ending ≡ Some how → to ≡ s
        nothing_else how is =
            let alone = suits.alone how is in
            ap (λ cs. with_lwp_of pid id (moved traced t.move) (all_changed traced pid p id l cs s)) alone.0
            ∙ ap (λ m. with_lwp_of pid id (moved traced m) s) alone.1 ∙ stayed pid id s

        moves : (b : Bool) → is_stop t.move ≡ b → AllReleased to
        moves false is =
            calms (all_changed traced pid p id l t.changes s) pid (with_lwp id (moved traced t.move))
            (calm-lwp id (moved traced t.move) (moved-calm t.move is))
            (all_changed-released t.changes s suits.changes all)
        moves true is =
            let stop = suits.stop is in
            subst (λ cs. AllReleased
            (with_process pid (with_lwp id (moved traced t.move)) (all_changed traced pid p id l cs s)))
            (sym stop.1)
            (process-released s pid (with_lwp id (moved traced t.move)) (λ x at it.
            let same = same_Some p x (sym found ∙ at) in
            subst (λ y. IsReleased opens (pid, with_lwp id (moved traced t.move) y)) same
            (stop-released t.move there stop.0 (subst (λ y. IsReleased opens (pid, y)) (sym same) it))) all)

        by : (o : Option Ending) → t.ending ≡ o → AllReleased (ended_if traced pid p id l o to)
        by None is = moves (is_stop t.move) refl
        by (Some how) is =
            subst (λ u. AllReleased (ended traced pid p id how u)) (sym (nothing_else how is))
            (ending-released how s all)

    -- ---- counts and stops

    -- nothing that is met is traced
    untraced-point : (c : TracedControl) (point : Point) → IsUntraced c → is_traced c point ≡ false
    unfolding is_traced
    untraced-point c (Signal g) u = rw u.signals (has_number-zero (signal_number g))
    untraced-point c (Fault f) u = rw u.faults (has_number-zero (fault_number f))
    untraced-point c (Entry call) u = rw u.entries (has_number-zero (syscall_number call))
    untraced-point c (Exit call) u = rw u.exits (has_number-zero (syscall_number call))

    meeting-calm : (point : Option Point) → Calms (after_meeting point id)
    unfolding after_meeting
    meeting-calm None x = calm-same x
    meeting-calm (Some point) x = by (is_traced x.control point) refl
      where
        by : (b : Bool) → is_traced x.control point ≡ b → StaysCalm x (cond b (with_stop_at point id x) x)
        by false is = calm-same x
        by true is = record {
          ended = λ it. sym (stop-ended point id x) ∙ it;
          modes = ap (λ (c : TracedControl). c.modes) (stop-control point id x);
          untraced = λ u. absurd (false≢true (sym (untraced-point x.control point u) ∙ is));
          runs = λ u all. absurd (false≢true (sym (untraced-point x.control point u) ∙ is));
        }

    pub settled-released : (s : TracedSystem) (row : Row) → process_of s pid ≡ Some p → lwp_of p id ≡ Some l
        → SuitsTransition s pid p id l row.transition → AllReleased s → AllReleased (settled s pid p id l row).system
    unfolding settled with_counted
    settled-released s row found there suits all =
        calms _ pid (after_meeting row.point id) (meeting-calm row.point)
        (calms _ pid (with_counted row.did row.begun) (λ x. record {
          ended = λ is. is;
          modes = refl;
          untraced =
              λ u. record {
                signals = u.signals;
                faults = u.faults;
                entries = u.entries;
                exits = u.exits;
                areas = u.areas;
              };
          runs = λ u it. it;
        })
        (transition-released s row.transition found there suits all))
