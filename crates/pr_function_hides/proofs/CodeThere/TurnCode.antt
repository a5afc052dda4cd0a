use Rattle.std.proofs.Common.{◌≡◌, ◌==◌, ◌&&◌, ℕ, false, cond, is_some, None, Some, Option, List, [], ◌∷◌, length, refl, sym, subst, ap, ◌∙◌}
use Rattle.std.proofs.lemmas.Bool.{eqb-false}
use Rattle.std.proofs.lemmas.Option.{none-some, same_Some}
use Rattle.std.specs.Option.{option_map}
use Rattle.pr_function_hides.proofs.CodeThere.TurnStands.{KeepAll, Keeps, Stands, row-keeps}
use Rattle.pr_function_hides.specs.CountedFunctions.{LeavesAlone, takes_memory}
use Rattle.pr_hidden.specs.Covers.{Patch}
use Rattle.pr_hidden.specs.Sparing.{AreWithin}
use Rattle.pr_keeps.proofs.KeepsLemmas.{choice}
use Rattle.pr_lawful.proofs.LawfulTurns.EndLemmas.{found-live}
use Rattle.pr_model.proofs.TurnLemmas.{turn-taken}
use Rattle.pr_model.specs.Changes.{Change, Ending, all_changed, becomes, changed, disposition_is, ended, ends_lwp, ends_process, files_are, forks, held_is, job_stops, makes_lwp, reaps, resumed, resumes, signals, signals_itself, space_is, suspends, takes_shared, with_disposition_of, with_fds, with_held, with_job_stop, with_shared_taken, with_space, with_suspended}
use Rattle.pr_model.specs.Lives.{by_fork, by_vfork, forked, with_child, with_lwp_ended, with_made, with_new_lwp, with_reaped, without_lwp}
use Rattle.pr_model.specs.LwpTurns.{LwpTurn, settled, turn_of, with_counted}
use Rattle.pr_model.specs.Machines.{traced}
use Rattle.pr_model.specs.Moves.{moved}
use Rattle.pr_model.specs.Points.{after_meeting}
use Rattle.pr_model.specs.Rows.{Row, row_for}
use Rattle.pr_model.specs.Signals.{is_kill}
use Rattle.pr_model.specs.State.{TracedLwp, TracedProcess, TracedSystem, live_process, lwp_of, process_of, with_lwp, with_lwp_of, with_process}
use Rattle.pr_model.specs.Transitions.{Transition, after_transition, ended_if}
use Rattle.pr_num.proofs.ByIdLaws.{under-change_under}
use Rattle.pr_num.specs.Files.{FileTable}
use Rattle.pr_num.specs.Spaces.{Space}
use Rattle.pr_parts.specs.FileCalls.{with_all_shared}
use Rattle.pr_truss_laws.proofs.Machine.FrameLemmas.{Spares, end-spares, ended-same, generated-spares, made-spares, reaped-spares}
use Rattle.pr_truss_laws.proofs.EventStops.OwnTurnLemmas.{meeting-same}
use Rattle.pr_truss_laws.specs.Stills.{IsUndisturbed, KeepsMemory}

-- A turn of an lwp that leaves the code of a function alone: where the process had its memory to itself, and the code
-- stood in it, so it is after the turn, but for a vfork and an exec that was granted.

module _ (f : Patch) where
  -- a process has its memory to itself, and the code stands in it
  pub record HoldsCode (p : TracedProcess) : Type 0 where
    pub own : p.borrower ≡ None
    pub stands : Stands f p.space

  pub holds-same : (x y : TracedProcess) → y.borrower ≡ x.borrower → y.space ≡ x.space → HoldsCode x → HoldsCode y
  holds-same x y lent space h = record {
    own = lent ∙ h.own;
    stands = subst (λ (sp : Space). Stands f sp) (sym space) h.stands;
  }

module _ (f : Patch) (within : AreWithin (f ∷ [])) where
  module _ (pid : ℕ) where
    record HoldsIn (s : TracedSystem) : Type 0 where
      each : (q : TracedProcess) → process_of s pid ≡ Some q → q.ended ≡ None → HoldsCode f q

    holds-spared : (s u : TracedSystem) → Spares pid s u → HoldsIn s → HoldsIn u
    holds-spared s u spares o = record {
      each = λ q there live.
          let a = spares.from q there live in
          let alone : IsUndisturbed a.0 q = a.1.1 in
          let memory : KeepsMemory a.0 q = alone.memory in
          let was = o.each a.0 a.1.0 (sym (ended-same a.0 q alone) ∙ live) in
          let kept = memory.own was.own in
          holds-same f a.0 q (kept.0 ∙ sym was.own) kept.1 was;
    }

    holds-files : (files : FileTable) (s : TracedSystem) → HoldsIn s → HoldsIn (record s { files = files })
    holds-files files s o = record { each = o.each }

    -- what changes of the process leaves it its memory
    holds-changed : (g : TracedProcess → TracedProcess) (s : TracedSystem)
        → ((x : TracedProcess) → HoldsCode f x → HoldsCode f (g x)) → ((x : TracedProcess) → (g x).ended ≡ x.ended)
        → HoldsIn s → HoldsIn (with_process pid g s)
    unfolding with_process
    holds-changed g s holds over o = record {
      each = λ q there live. by (process_of s pid) refl q (sym (under-change_under pid g s.processes) ∙ there) live;
    }
      where
        by : (x : Option TracedProcess) → process_of s pid ≡ x → (q : TracedProcess) → option_map g x ≡ Some q
            → q.ended ≡ None → HoldsCode f q
        by None at q is live = absurd (none-some q is)
        by (Some x) at q is live =
            let same : g x ≡ q = same_Some (g x) q is in
            subst (HoldsCode f) same
            (holds x (o.each x at (sym (over x) ∙ ap (λ (y : TracedProcess). y.ended) same ∙ live)))

    -- where it leaves the memory
    holds-beside : (g : TracedProcess → TracedProcess) (s : TracedSystem)
        → ((x : TracedProcess) → (g x).borrower ≡ x.borrower) → ((x : TracedProcess) → (g x).space ≡ x.space)
        → ((x : TracedProcess) → (g x).ended ≡ x.ended) → HoldsIn s → HoldsIn (with_process pid g s)
    holds-beside g s lent space over o = holds-changed g s (λ x h. holds-same f x (g x) (lent x) (space x) h) over o

    new_lwp-same : {X : Type 0} (view : TracedProcess → X)
        → ((y : TracedProcess) (next : ℕ) (es : List (ℕ × TracedLwp))
        → view (record y { next_lwp = next; lwps = es }) ≡ view y)
        → (fresh held : ℕ) (regs : List ℕ) (x : TracedProcess) → view (with_new_lwp traced fresh regs held x) ≡ view x
    unfolding with_new_lwp
    new_lwp-same view hides fresh held regs x =
        choice (λ (y : TracedProcess). view y ≡ view x) (is_some (lwp_of x fresh)) _ _ (λ there. refl)
        (λ new. hides x _ _)

    module _ (p : TracedProcess) (id : ℕ) (l : TracedLwp) where
      forked-holds : (args : List ℕ) (s : TracedSystem) → HoldsIn s
          → HoldsIn (cond (s.made == pid) s (with_child traced by_fork pid p l args s))
      unfolding with_child
      forked-holds args s o =
          let shared : TracedSystem = record s { files = with_all_shared s.files p.fds } in
          let child : TracedProcess = forked traced by_fork pid p l args s.clock in
          choice HoldsIn (s.made == pid) _ _ (λ own. o)
          (λ apart. holds-spared shared (with_made child shared)
          (made-spares pid child shared (eqb-false s.made pid apart))
          (holds-files (with_all_shared s.files p.fds) s o))

      change-holds : (c : Change) (s : TracedSystem) → Keeps f c → HoldsIn s
          → HoldsIn (changed traced pid p id l c s)
      unfolding changed with_fds with_space with_shared_taken with_job_stop with_disposition_of with_lwp
      change-holds (files_are files fds) s keeps o =
          holds-beside (with_fds fds) (record s { files = files }) (λ x. refl) (λ x. refl) (λ x. refl)
          (holds-files files s o)
      change-holds (space_is space) s keeps o =
          holds-changed (with_space space) s (λ x h. record { own = h.own; stands = keeps }) (λ x. refl) o
      change-holds (signals target g info) s keeps o =
          choice HoldsIn (is_kill g && (target == pid)) _ _ (λ own. o)
          (λ other. holds-spared s _ (generated-spares pid target None g info s) o)
      change-holds (signals_itself g info) s keeps o =
          choice HoldsIn (is_kill g) _ _ (λ kill. o)
          (λ other. holds-spared s _ (generated-spares pid pid (Some id) g info s) o)
      change-holds (takes_shared g) s keeps o =
          holds-beside (with_shared_taken g) s (λ x. refl) (λ x. refl) (λ x. refl) o
      change-holds (job_stops g) s keeps o = holds-beside (with_job_stop g) s (λ x. refl) (λ x. refl) (λ x. refl) o
      change-holds (disposition_is g d) s keeps o =
          holds-beside (with_disposition_of g d) s (λ x. refl) (λ x. refl) (λ x. refl) o
      change-holds (held_is held) s keeps o =
          holds-beside (with_lwp id (with_held held)) s (λ x. refl) (λ x. refl) (λ x. refl) o
      change-holds (resumes frame frames) s keeps o =
          holds-beside (with_lwp id (resumed frame frames)) s (λ x. refl) (λ x. refl) (λ x. refl) o
      change-holds (forks by_fork args) s keeps o = forked-holds args s o
      change-holds (forks by_vfork args) s keeps o = absurd keeps
      change-holds (reaps child) s keeps o =
          choice HoldsIn (child == pid) _ _ (λ own. o)
          (λ apart. holds-spared s (with_reaped child s) (reaped-spares pid child s (eqb-false child pid apart)) o)
      change-holds (becomes program) s keeps o = absurd keeps
      change-holds (makes_lwp fresh regs held) s keeps o =
          holds-beside (with_new_lwp traced fresh regs held) s
          (new_lwp-same (λ (y : TracedProcess). y.borrower) (λ y next es. refl) fresh held regs)
          (new_lwp-same (λ (y : TracedProcess). y.space) (λ y next es. refl) fresh held regs)
          (new_lwp-same (λ (y : TracedProcess). y.ended) (λ y next es. refl) fresh held regs) o
      change-holds (suspends target suspended) s keeps o =
          holds-beside (with_lwp target (with_suspended suspended)) s (λ x. refl) (λ x. refl) (λ x. refl) o

      changes-hold : (cs : List Change) (s : TracedSystem) → KeepAll f cs → HoldsIn s
          → HoldsIn (all_changed traced pid p id l cs s)
      unfolding all_changed
      changes-hold [] s keeps o = o
      changes-hold (c ∷ cs) s keeps o =
          changes-hold cs (changed traced pid p id l c s) keeps.1 (change-holds c s keeps.0 o)

      ending-holds : (how : Option Ending) (s : TracedSystem) → HoldsIn s → HoldsIn (ended_if traced pid p id l how s)
      unfolding ended with_lwp_ended without_lwp
      ending-holds None s o = o
      ending-holds (Some (ends_process status)) s o = holds-spared s _ (end-spares pid pid p status s) o
      ending-holds (Some ends_lwp) s o =
          choice HoldsIn (length p.lwps == 1) _ _ (λ last. holds-spared s _ (end-spares pid pid p 0 s) o)
          (λ more. holds-beside (without_lwp id) s (λ x. refl) (λ x. refl) (λ x. refl) o)

      transition-holds : (t : Transition) (s : TracedSystem) → KeepAll f t.changes → HoldsIn s
          → HoldsIn (after_transition traced pid p id l t s)
      unfolding after_transition with_lwp_of with_lwp
      transition-holds t s keeps o =
          let changes : TracedSystem = all_changed traced pid p id l t.changes s in
          ending-holds t.ending (with_process pid (with_lwp id (moved traced t.move)) changes)
          (holds-beside (with_lwp id (moved traced t.move)) changes (λ x. refl) (λ x. refl) (λ x. refl)
          (changes-hold t.changes s keeps o))

      settled-holds : (row : Row) (s : TracedSystem) → KeepAll f row.transition.changes → HoldsIn s
          → HoldsIn (settled s pid p id l row).system
      unfolding settled with_counted
      settled-holds row s keeps o =
          let made : TracedSystem = after_transition traced pid p id l row.transition s in
          let counted_one : TracedSystem = with_process pid (with_counted row.did row.begun) made in
          holds-beside (after_meeting row.point id) counted_one
          (meeting-same (λ (y : TracedProcess). y.borrower) (λ y es. refl) row.point id)
          (meeting-same (λ (y : TracedProcess). y.space) (λ y es. refl) row.point id)
          (meeting-same (λ (y : TracedProcess). y.ended) (λ y es. refl) row.point id)
          (holds-beside (with_counted row.did row.begun) made (λ x. refl) (λ x. refl) (λ x. refl)
          (transition-holds row.transition s keeps o))

    pub turn-holds : (s : TracedSystem) (id : ℕ) (t : LwpTurn) → turn_of s pid id ≡ Some t
        → takes_memory t.turned.did ≡ false
        → ((p : TracedProcess) (l : TracedLwp) → live_process s pid ≡ Some p → lwp_of p id ≡ Some l
        → l.control.directed ≡ false → LeavesAlone f p l)
        → (p : TracedProcess) → live_process s pid ≡ Some p → HoldsCode f p
        → (q : TracedProcess) → live_process t.system pid ≡ Some q → HoldsCode f q
    unfolding settled
    turn-holds s id t turn takes alone p live holds q later =
        let it = turn-taken s pid id t turn in
        let row : Row = row_for s pid it.process id it.lwp in
        let did : t.turned.did ≡ row.did = ap (λ (v : LwpTurn). v.turned.did) it.is in
        let same : p ≡ it.process = same_Some p it.process (sym live ∙ it.live) in
        let was : HoldsCode f it.process = subst (HoldsCode f) same holds in
        let before = found-live s pid it.process it.live in
        let now = found-live t.system pid q later in
        let start : HoldsIn s = record {
          each = λ x there over. subst (HoldsCode f) (same_Some it.process x (sym before.0 ∙ there)) was;
        } in
        let end : HoldsIn (settled s pid it.process id it.lwp row).system =
        settled-holds it.process id it.lwp row s
        (row-keeps f within s pid it.process id it.lwp was.stands (alone it.process it.lwp it.live it.there)
        (sym (ap takes_memory did) ∙ takes)) start in
        end.each q (ap (λ (v : LwpTurn). process_of v.system pid) (sym it.is) ∙ now.0) now.1
