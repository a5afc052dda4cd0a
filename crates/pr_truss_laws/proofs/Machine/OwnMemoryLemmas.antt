use Rattle.std.proofs.Common.{◌≡◌, ◌≢◌, ◌⊎◌, ◌==◌, ◌&&◌, ℕ, true, false, cond, is_some, None, Some, Option, List, [], ◌∷◌, length, refl, sym, ap, ◌∙◌, inl, inr}
use Rattle.std.proofs.lemmas.Bool.{false≢true, eqb-false}
use Rattle.std.proofs.lemmas.Option.{same_Some, none-some}
use Rattle.std.specs.Option.{option_map}
use Rattle.pr_num.proofs.ByIdLaws.{under-change_under}
use Rattle.pr_num.specs.Files.{FileTable}
use Rattle.pr_parts.specs.FileCalls.{with_all_shared}
use Rattle.pr_keeps.proofs.KeepsLemmas.{choice}
use Rattle.pr_keeps.proofs.RowLemmas.{owns-or-stops}
use Rattle.pr_lawful.proofs.LawfulTurns.EndLemmas.{found-live}
use Rattle.pr_model.proofs.TurnLemmas.{turn-taken}
use Rattle.pr_model.specs.Changes.{Change, changed, files_are, space_is, signals, signals_itself, takes_shared, job_stops, disposition_is, held_is, resumes, forks, reaps, becomes, makes_lwp, suspends, all_changed, ended, Ending, ends_process, ends_lwp, resumed, with_disposition_of, with_fds, with_held, with_job_stop, with_shared_taken, with_space, with_suspended}
use Rattle.pr_model.specs.Lives.{by_fork, by_vfork, forked, with_child, with_lwp_ended, with_made, with_reaped, with_new_lwp, with_program, without_lwp}
use Rattle.pr_model.specs.LwpTurns.{LwpTurn, is_held_back, settled, turn_of, with_counted}
use Rattle.pr_model.specs.Machines.{traced}
use Rattle.pr_model.specs.Moves.{moved}
use Rattle.pr_model.specs.Points.{after_meeting}
use Rattle.pr_model.specs.Rows.{Row, requested_row, row_for}
use Rattle.pr_model.specs.Signals.{is_kill}
use Rattle.pr_model.specs.State.{TracedLwp, TracedProcess, TracedSystem, live_process, lwp_of, process_of, with_lwp, with_lwp_of, with_process}
use Rattle.pr_model.specs.Transitions.{Transition, after_transition, ended_if}
use Rattle.pr_model.specs.declared.events.Did.TheVariants.{Stopped}
use Rattle.pr_truss_laws.proofs.Machine.FrameLemmas.{Spares, end-spares, ended-same, generated-spares, loan_back-spares, made-spares, reaped-spares}
use Rattle.pr_truss_laws.proofs.EventStops.OwnTurnLemmas.{meeting-same}
use Rattle.pr_truss_laws.proofs.Machine.StoresLemmas.{may_have_lent, may_lend, row-stores, stores_after, stores_by}
use Rattle.pr_truss_laws.specs.Stills.{IsUndisturbed, KeepsMemory}

-- A turn of an lwp that did not stop as directed leaves its process its own memory, but for a call of vfork(2).

module _ (pid : ℕ) where
  -- the process of this id, where it lives, has lent its memory to nobody
  pub record OwnsIn (s : TracedSystem) : Type 0 where
    pub own : (q : TracedProcess) → process_of s pid ≡ Some q → q.ended ≡ None → q.borrower ≡ None

  owns-spared : (s u : TracedSystem) → Spares pid s u → OwnsIn s → OwnsIn u
  owns-spared s u spares o = record {
    own = λ q there live.
        let a = spares.from q there live in
        let alone : IsUndisturbed a.0 q = a.1.1 in
        let memory : KeepsMemory a.0 q = alone.memory in
        (memory.own (o.own a.0 a.1.0 (sym (ended-same a.0 q alone) ∙ live))).0;
  }

  owns-files : (files : FileTable) (s : TracedSystem) → OwnsIn s → OwnsIn (record s { files = files })
  owns-files files s o = record { own = o.own }

  -- what changes of the process is not to whom it has lent its memory, nor whether it lives
  owns-changed : (f : TracedProcess → TracedProcess) (s : TracedSystem)
      → ((x : TracedProcess) → (f x).borrower ≡ x.borrower) → ((x : TracedProcess) → (f x).ended ≡ x.ended)
      → OwnsIn s → OwnsIn (with_process pid f s)
  unfolding with_process
  owns-changed f s lent ended o = record {
    own = λ q there live. by (process_of s pid) refl q (sym (under-change_under pid f s.processes) ∙ there) live;
  }
    where
      by : (x : Option TracedProcess) → process_of s pid ≡ x → (q : TracedProcess) → option_map f x ≡ Some q
          → q.ended ≡ None → q.borrower ≡ None
      by None at q is live = absurd (none-some q is)
      by (Some x) at q is live =
          let same : f x ≡ q = same_Some (f x) q is in
          ap (λ (y : TracedProcess). y.borrower) (sym same) ∙ lent x
          ∙ o.own x at (sym (ended x) ∙ ap (λ (y : TracedProcess). y.ended) same ∙ live)

  new_lwp-same : {X : Type 0} (view : TracedProcess → X)
      → ((y : TracedProcess) (next : ℕ) (es : List (ℕ × TracedLwp))
      → view (record y { next_lwp = next; lwps = es }) ≡ view y)
      → (fresh held : ℕ) (regs : List ℕ) (x : TracedProcess) → view (with_new_lwp traced fresh regs held x) ≡ view x
  unfolding with_new_lwp
  new_lwp-same view hides fresh held regs x =
      choice (λ (y : TracedProcess). view y ≡ view x) (is_some (lwp_of x fresh)) _ _ (λ there. refl)
      (λ new. hides x _ _)

  module _ (p : TracedProcess) (id : ℕ) (l : TracedLwp) where
    forked-owns : (args : List ℕ) (s : TracedSystem) → OwnsIn s
        → OwnsIn (cond (s.made == pid) s (with_child traced by_fork pid p l args s))
    unfolding with_child
    forked-owns args s o =
        let shared : TracedSystem = record s { files = with_all_shared s.files p.fds } in
        let child : TracedProcess = forked traced by_fork pid p l args s.clock in
        choice OwnsIn (s.made == pid) _ _ (λ own. o)
        (λ apart. owns-spared shared (with_made child shared)
        (made-spares pid child shared (eqb-false s.made pid apart))
        (owns-files (with_all_shared s.files p.fds) s o))

    change-owns : (c : Change) (s : TracedSystem) → may_lend false c ≡ true → OwnsIn s
        → OwnsIn (changed traced pid p id l c s)
    unfolding changed with_fds with_space with_shared_taken with_job_stop with_disposition_of with_lwp with_program
    change-owns (files_are files fds) s lends o =
        owns-changed (with_fds fds) (record s { files = files }) (λ x. refl) (λ x. refl) (owns-files files s o)
    change-owns (space_is space) s lends o = owns-changed (with_space space) s (λ x. refl) (λ x. refl) o
    change-owns (signals target g info) s lends o =
        choice OwnsIn (is_kill g && (target == pid)) _ _ (λ own. o)
        (λ other. owns-spared s _ (generated-spares pid target None g info s) o)
    change-owns (signals_itself g info) s lends o =
        choice OwnsIn (is_kill g) _ _ (λ kill. o)
        (λ other. owns-spared s _ (generated-spares pid pid (Some id) g info s) o)
    change-owns (takes_shared g) s lends o = owns-changed (with_shared_taken g) s (λ x. refl) (λ x. refl) o
    change-owns (job_stops g) s lends o = owns-changed (with_job_stop g) s (λ x. refl) (λ x. refl) o
    change-owns (disposition_is g d) s lends o =
        owns-changed (with_disposition_of g d) s (λ x. refl) (λ x. refl) o
    change-owns (held_is held) s lends o = owns-changed (with_lwp id (with_held held)) s (λ x. refl) (λ x. refl) o
    change-owns (resumes frame frames) s lends o =
        owns-changed (with_lwp id (resumed frame frames)) s (λ x. refl) (λ x. refl) o
    change-owns (forks by_fork args) s lends o = forked-owns args s o
    change-owns (forks by_vfork args) s lends o = absurd (false≢true lends)
    change-owns (reaps child) s lends o =
        choice OwnsIn (child == pid) _ _ (λ own. o)
        (λ apart. owns-spared s (with_reaped child s) (reaped-spares pid child s (eqb-false child pid apart)) o)
    change-owns (becomes program) s lends o =
        let run : TracedSystem = with_process pid (with_program traced id l program) s in
        owns-spared run _ (loan_back-spares pid pid p run)
        (owns-changed (with_program traced id l program) s (λ x. refl) (λ x. refl) o)
    change-owns (makes_lwp fresh regs held) s lends o =
        owns-changed (with_new_lwp traced fresh regs held) s
        (new_lwp-same (λ (y : TracedProcess). y.borrower) (λ y next es. refl) fresh held regs)
        (new_lwp-same (λ (y : TracedProcess). y.ended) (λ y next es. refl) fresh held regs) o
    change-owns (suspends target suspended) s lends o =
        owns-changed (with_lwp target (with_suspended suspended)) s (λ x. refl) (λ x. refl) o

    changes-own : (cs : List Change) (s : TracedSystem) → stores_after false cs ≡ true → OwnsIn s
        → OwnsIn (all_changed traced pid p id l cs s)
    unfolding all_changed
    changes-own [] s stores o = o
    changes-own (c ∷ []) s stores o = change-owns c s stores o
    changes-own (c ∷ space_is space ∷ []) s stores o =
        change-owns (space_is space) (changed traced pid p id l c s) refl (change-owns c s stores o)
    changes-own _ s stores o = absurd (false≢true stores)

    ending-owns : (how : Option Ending) (s : TracedSystem) → OwnsIn s → OwnsIn (ended_if traced pid p id l how s)
    unfolding ended with_lwp_ended without_lwp
    ending-owns None s o = o
    ending-owns (Some (ends_process status)) s o = owns-spared s _ (end-spares pid pid p status s) o
    ending-owns (Some ends_lwp) s o =
        choice OwnsIn (length p.lwps == 1) _ _ (λ last. owns-spared s _ (end-spares pid pid p 0 s) o)
        (λ more. owns-changed (without_lwp id) s (λ x. refl) (λ x. refl) o)

    transition-owns : (t : Transition) (s : TracedSystem) → stores_after false t.changes ≡ true → OwnsIn s
        → OwnsIn (after_transition traced pid p id l t s)
    unfolding after_transition with_lwp_of with_lwp
    transition-owns t s stores o =
        let changes : TracedSystem = all_changed traced pid p id l t.changes s in
        ending-owns t.ending (with_process pid (with_lwp id (moved traced t.move)) changes)
        (owns-changed (with_lwp id (moved traced t.move)) changes (λ x. refl) (λ x. refl)
        (changes-own t.changes s stores o))

    settled-owns : (row : Row) (s : TracedSystem) → may_have_lent row.did ≡ false → stores_by row ≡ true → OwnsIn s
        → OwnsIn (settled s pid p id l row).system
    unfolding settled with_counted
    settled-owns row s none stores o =
        let made : TracedSystem = after_transition traced pid p id l row.transition s in
        let counted_one : TracedSystem = with_process pid (with_counted row.did row.begun) made in
        owns-changed (after_meeting row.point id) counted_one
        (meeting-same (λ (y : TracedProcess). y.borrower) (λ y es. refl) row.point id)
        (meeting-same (λ (y : TracedProcess). y.ended) (λ y es. refl) row.point id)
        (owns-changed (with_counted row.did row.begun) made (λ x. refl) (λ x. refl)
        (transition-owns row.transition s (rw none at stores) o))

-- what a turn did that stopped as directed
requested-did : requested_row.did ≡ Stopped
unfolding requested_row
requested-did = refl

-- A process that has lent its memory only stops as directed. So after any other turn of its lwps it has its memory to
-- itself, where the turn called no vfork(2).
pub turn-owns : (s : TracedSystem) (pid id : ℕ) (t : LwpTurn) → turn_of s pid id ≡ Some t → t.turned.did ≢ Stopped
    → may_have_lent t.turned.did ≡ false → (q : TracedProcess) → live_process t.system pid ≡ Some q
    → q.borrower ≡ None
unfolding settled
turn-owns s pid id t turn moves none q after =
    let it = turn-taken s pid id t turn in
    let row : Row = row_for s pid it.process id it.lwp in
    let did : t.turned.did ≡ row.did = ap (λ (v : LwpTurn). v.turned.did) it.is in
    let now = found-live t.system pid q after in
    let owns : OwnsIn pid s = before it.process it.live (owner it.process it.lwp it.free (λ is. moves (did ∙ is))) in
    let left : OwnsIn pid (settled s pid it.process id it.lwp row).system =
    settled-owns pid it.process id it.lwp row s (sym (ap may_have_lent did) ∙ none)
    (row-stores s pid it.process id it.lwp) owns in
    left.own q (ap (λ (v : LwpTurn). process_of v.system pid) (sym it.is) ∙ now.0) now.1
  where
    owner : (p : TracedProcess) (l : TracedLwp) → is_held_back p id l ≡ false
        → ((row_for s pid p id l).did ≢ Stopped) → p.borrower ≡ None
    owner p l free moves = by (owns-or-stops s pid p id l free)
      where
        by : (row_for s pid p id l ≡ requested_row) ⊎ (p.borrower ≡ None) → p.borrower ≡ None
        by (inl is) = absurd (moves (ap (λ (r : Row). r.did) is ∙ requested-did))
        by (inr own) = own

    before : (p : TracedProcess) → live_process s pid ≡ Some p → p.borrower ≡ None → OwnsIn pid s
    before p live own =
        let was = found-live s pid p live in
        record {
          own = λ x there alive. ap (λ (y : TracedProcess). y.borrower) (same_Some x p (sym there ∙ was.0)) ∙ own;
        }
