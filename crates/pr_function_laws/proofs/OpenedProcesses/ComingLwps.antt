use Rattle.std.proofs.Common.{[], ◌≡◌, ◌≢◌, ◌==◌, ◌&&◌, ◌+◌, ℕ, Bool, true, false, cond, is_some, None, Some, Option, List, ◌∷◌, length, refl, sym, subst, ap, ◌∙◌, inl, inr}
use Rattle.std.proofs.lemmas.Bool.{cases_eq, eqb-false, eqb-true}
use Rattle.std.proofs.lemmas.Option.{none-some, same_Some}
use Rattle.pr_keeps.proofs.KeepsLemmas.{choice}
use Rattle.pr_keeps.proofs.LoanLemmas.{lent-keeps}
use Rattle.pr_lawful.proofs.LawfulTurns.SuitingLemmas.{SuitsTransition}
use Rattle.pr_lawful.proofs.LawfulTurns.TransitionLemmas.{stayed}
use Rattle.pr_model.specs.Changes.{Change, Ending, all_changed, becomes, changed, disposition_is, ended, ends_lwp, ends_process, files_are, forks, held_is, job_stops, makes_lwp, reaps, resumed, resumes, signals, signals_itself, space_is, suspends, takes_shared, with_disposition_of, with_fds, with_held, with_job_stop, with_shared_taken, with_space, with_suspended}
use Rattle.pr_model.specs.Lawful.{IsLawfulProcess, IsLawfulSystem}
use Rattle.pr_model.specs.Lives.{Birth, forked, lent_to, new_lwp, started, with_child, with_lent, with_lwp_ended, with_made, with_new_lwp, with_program, without_lwp}
use Rattle.pr_model.specs.LwpTurns.{with_counted}
use Rattle.pr_model.specs.Machines.{no_marks, traced}
use Rattle.pr_model.specs.Moves.{moved}
use Rattle.pr_model.specs.Rows.{Row}
use Rattle.pr_model.specs.Signals.{is_kill}
use Rattle.pr_model.specs.State.{TracedLwp, TracedProcess, TracedSystem, lwp_of, process_of, with_lwp, with_lwp_of, with_process}
use Rattle.pr_model.specs.Transitions.{Transition, ended_if}
use Rattle.pr_model.specs.declared.lwps.Phase.TheVariants.{User}
use Rattle.pr_num.proofs.ByIdLaws.{All-under, under-change_under, under-change_under_other, under-inserted, under-inserted_other, under-without_id, under-without_id_other}
use Rattle.pr_num.specs.ById.{IsRising, change_under, inserted, under, without_id}
use Rattle.pr_num.specs.Files.{FileTable}
use Rattle.pr_num.specs.Programs.{Program}
use Rattle.pr_parts.specs.FileCalls.{with_all_shared}
use Rattle.pr_truss_laws.proofs.EventStops.BridgeLemmas.{mapped-some}
use Rattle.pr_truss_laws.proofs.Machine.FrameLemmas.{Spares, end-spares, ended-same, generated-spares, lent-apart, loan_back-spares, made-spares, reaped-spares}
use Rattle.pr_truss_laws.specs.Stills.{IsUndisturbed}

-- Where the lwps of a process come from in a turn of one of them, but for the move of that one and for the stop at a
-- point: what the turn changes beside its lwp leaves the others at the same call, on the same stop and with the same
-- signal.

-- ---- one process

-- a change of an lwp that leaves its stop, its phase and its current signal
pub record Leaves (f : TracedLwp → TracedLwp) : Type 0 where
  pub stops : (l : TracedLwp) → (f l).control.stop ≡ l.control.stop
  pub phase : (l : TracedLwp) → (f l).phase ≡ l.phase
  pub current : (l : TracedLwp) → (f l).current ≡ l.current

-- Where an lwp comes from in the turn of another one: it is new, and in its program; it was there, at the same call, on
-- the same stop and with the same signal; or it is the one whose turn it is.
pub data Came (id : ℕ) (l : TracedLwp) (p : TracedProcess) (n : ℕ) (k : TracedLwp) : Type 0 where
  new : k.control.stop ≡ None → k.phase ≡ User → Came id l p n k
  kept : (m : TracedLwp) → lwp_of p n ≡ Some m → k.control.stop ≡ m.control.stop → k.phase ≡ m.phase
      → k.current ≡ m.current → Came id l p n k
  acts : n ≡ id → k.control.stop ≡ l.control.stop → k.phase ≡ l.phase → Came id l p n k

module _ (id : ℕ) (l : TracedLwp) where
  abbrev pub Come : TracedProcess → TracedProcess → Type 0
  Come p q = (n : ℕ) (k : TracedLwp) → lwp_of q n ≡ Some k → Came id l p n k

  come-self : (p : TracedProcess) → Come p p
  come-self p n k there = kept k there refl refl refl

  come-next : (p q r : TracedProcess) → Come p q → Come q r → Come p r
  come-next p q r one two n k there = by (two n k there)
    where
      on : (m : TracedLwp) → Came id l p n m → k.control.stop ≡ m.control.stop → k.phase ≡ m.phase
          → k.current ≡ m.current → Came id l p n k
      on m (new stops phase) s h c = new (s ∙ stops) (h ∙ phase)
      on m (kept o at stops phase current) s h c = kept o at (s ∙ stops) (h ∙ phase) (c ∙ current)
      on m (acts is stops phase) s h c = acts is (s ∙ stops) (h ∙ phase)

      by : Came id l q n k → Came id l p n k
      by (new stops phase) = new stops phase
      by (kept m at stops phase current) = on m (one n m at) stops phase current
      by (acts is stops phase) = acts is stops phase

  come-alone : (p q : TracedProcess) → IsUndisturbed p q → Come p q
  come-alone p q alone n k there =
      let was = alone.each n k there in
      kept was.0 was.1.0 (ap (λ (x : TracedLwp). x.control.stop) was.1.1) (ap (λ (x : TracedLwp). x.phase) was.1.1)
      (ap (λ (x : TracedLwp). x.current) was.1.1)

  come-lwp : (target : ℕ) (f : TracedLwp → TracedLwp) → Leaves f → (p : TracedProcess) → Come p (with_lwp target f p)
  unfolding with_lwp
  come-lwp target f leaves p n k there = elim (cases_eq target n) [
    | inl same ↦ own same
    | inr other ↦ kept k (sym (under-change_under_other target n f other p.lwps) ∙ there) refl refl refl
  ]
    where
      own : target ≡ n → Came id l p n k
      own same =
          let m =
          mapped-some f (lwp_of p n) k (sym (under-change_under n f p.lwps)
          ∙ subst (λ i. under n (change_under i f p.lwps) ≡ Some k) same there) in
          kept m.0 m.1.0 (ap (λ (x : TracedLwp). x.control.stop) (sym m.1.1) ∙ leaves.stops m.0)
          (ap (λ (x : TracedLwp). x.phase) (sym m.1.1) ∙ leaves.phase m.0)
          (ap (λ (x : TracedLwp). x.current) (sym m.1.1) ∙ leaves.current m.0)

  -- an lwp joins
  joins : (fresh held : ℕ) (regs : List ℕ) (p : TracedProcess)
      → ((with_new_lwp traced fresh regs held p).ended ≡ p.ended) × Come p (with_new_lwp traced fresh regs held p)
  unfolding with_new_lwp new_lwp no_marks traced
  joins fresh held regs p =
      choice (λ (q : TracedProcess). (q.ended ≡ p.ended) × Come p q) (is_some (lwp_of p fresh)) _ _
      (λ stands. (refl, come-self p)) (λ free. (refl, joined))
    where
      fresh_lwp : TracedLwp
      fresh_lwp = new_lwp traced regs held (no_marks false)

      joined : Come p (record p { next_lwp = fresh + 1; lwps = inserted fresh fresh_lwp p.lwps })
      joined n k there = elim (cases_eq fresh n) [
        | inl same ↦ own
            (same_Some fresh_lwp k (sym (under-inserted n fresh_lwp p.lwps)
            ∙ subst (λ i. under n (inserted i fresh_lwp p.lwps) ≡ Some k) same there))
        | inr other ↦ kept k (sym (under-inserted_other fresh n fresh_lwp other p.lwps) ∙ there) refl refl refl
      ]
        where
          own : fresh_lwp ≡ k → Came id l p n k
          own is = new (ap (λ (y : TracedLwp). y.control.stop) (sym is)) (ap (λ (y : TracedLwp). y.phase) (sym is))

  -- it runs another program with this one lwp
  come-program : (program : Program) (p : TracedProcess) → Come p (with_program traced id l program p)
  unfolding with_program started
  come-program program p n k there = by (id == n) refl there
    where
      by : (b : Bool) → (id == n) ≡ b → cond b (Some (started traced l)) None ≡ Some k → Came id l p n k
      by true same is =
          let it = same_Some (started traced l) k is in
          acts (sym (eqb-true id n same)) (ap (λ (y : TracedLwp). y.control.stop) (sym it))
          (ap (λ (y : TracedLwp). y.phase) (sym it))
      by false other is = absurd (none-some k is)

  -- an lwp is gone
  come-gone : (gone : ℕ) (p : TracedProcess) → IsRising p.lwps → Come p (without_lwp gone p)
  unfolding without_lwp
  come-gone gone p rises n k there = elim (cases_eq gone n) [
    | inl same ↦ absurd
        (none-some k (sym (under-without_id 0 n p.lwps rises)
        ∙ subst (λ i. under n (without_id i p.lwps) ≡ Some k) same there))
    | inr other ↦ kept k (sym (under-without_id_other gone n other p.lwps) ∙ there) refl refl refl
  ]

  -- ---- systems

  module _ (pid : ℕ) where
    -- the process of this id, where it lives later, lived before, and its lwps came from there
    pub record Goes (s u : TracedSystem) : Type 0 where
      pub from : (q : TracedProcess) → process_of u pid ≡ Some q → q.ended ≡ None
          → (p : TracedProcess) × ((process_of s pid ≡ Some p) × ((p.ended ≡ None) × Come p q))

    goes-same : (s : TracedSystem) → Goes s s
    goes-same s = record { from = λ q there live. (q, (there, (live, come-self q))) }

    goes-next : (s u v : TracedSystem) → Goes s u → Goes u v → Goes s v
    goes-next s u v one two = record {
      from = λ r there live.
          let b = two.from r there live in
          let a = one.from b.0 b.1.0 b.1.1.0 in
          (a.0, (a.1.0, (a.1.1.0, come-next a.0 b.0 r a.1.1.1 b.1.1.1)));
    }

    goes-spared : (s u : TracedSystem) → Spares pid s u → Goes s u
    goes-spared s u spares = record {
      from = λ q there live.
          let a = spares.from q there live in
          (a.0, (a.1.0, (sym (ended-same a.0 q a.1.1) ∙ live, come-alone a.0 q a.1.1)));
    }

    own-goes : (f : TracedProcess → TracedProcess) (s : TracedSystem)
        → ((x : TracedProcess) → process_of s pid ≡ Some x → ((f x).ended ≡ x.ended) × Come x (f x))
        → Goes s (with_process pid f s)
    unfolding with_process
    own-goes f s keeps = record {
      from = λ q there live.
          let m = mapped-some f (process_of s pid) q (sym (under-change_under pid f s.processes) ∙ there) in
          let k = keeps m.0 m.1.0 in (
            m.0,
            (m.1.0, (sym k.0 ∙ ap (λ (x : TracedProcess). x.ended) m.1.1 ∙ live, subst (Come m.0) m.1.1 k.1)),
          );
    }

    files-go : (files : FileTable) (s : TracedSystem) → Goes s (record s { files = files })
    files-go files s = record { from = λ q there live. (q, (there, (live, come-self q))) }

    lwp-goes : (target : ℕ) (f : TracedLwp → TracedLwp) (s : TracedSystem) → Leaves f
        → Goes s (with_process pid (with_lwp target f) s)
    unfolding with_lwp
    lwp-goes target f s leaves = own-goes (with_lwp target f) s (λ x at. (refl, come-lwp target f leaves x))

    module _ (p : TracedProcess) where
      child-goes : (birth : Birth) (args : List ℕ) (s : TracedSystem) → s.made ≢ pid
          → Goes s (with_child traced birth pid p l args s)
      unfolding with_child lent_to
      child-goes birth args s apart =
          let shared : TracedSystem = record s { files = with_all_shared s.files p.fds } in
          let lent : TracedSystem = with_lent birth pid s.made shared in
          let child : TracedProcess = forked traced birth pid p l args s.clock in
          goes-next s lent (with_made child lent)
          (lent-keeps (Goes s) birth pid s.made
          (λ u before. goes-next s u _ before (own-goes (lent_to s.made) u (λ x at. (refl, come-self x)))) shared
          (files-go (with_all_shared s.files p.fds) s))
          (goes-spared lent _ (made-spares pid child lent (lent-apart pid birth pid s.made shared apart)))

      change-goes : (c : Change) (s : TracedSystem) → Goes s (changed traced pid p id l c s)
      unfolding changed with_fds with_space with_shared_taken with_job_stop with_disposition_of with_held resumed
          with_suspended with_program
      change-goes (files_are files fds) s =
          goes-next s (record s { files = files }) _ (files-go files s)
          (own-goes (with_fds fds) (record s { files = files }) (λ x at. (refl, come-self x)))
      change-goes (space_is space) s = own-goes (with_space space) s (λ x at. (refl, come-self x))
      change-goes (signals target g info) s =
          choice (Goes s) (is_kill g && (target == pid)) _ _ (λ itself. goes-same s)
          (λ other. goes-spared s _ (generated-spares pid target None g info s))
      change-goes (signals_itself g info) s =
          choice (Goes s) (is_kill g) _ _ (λ kill. goes-same s)
          (λ other. goes-spared s _ (generated-spares pid pid (Some id) g info s))
      change-goes (takes_shared g) s = own-goes (with_shared_taken g) s (λ x at. (refl, come-self x))
      change-goes (job_stops g) s = own-goes (with_job_stop g) s (λ x at. (refl, come-self x))
      change-goes (disposition_is g d) s = own-goes (with_disposition_of g d) s (λ x at. (refl, come-self x))
      change-goes (held_is held) s =
          lwp-goes id (with_held held) s (record { stops = λ k. refl; phase = λ k. refl; current = λ k. refl })
      change-goes (resumes frame frames) s =
          lwp-goes id (resumed frame frames) s (record { stops = λ k. refl; phase = λ k. refl; current = λ k. refl })
      change-goes (forks birth args) s =
          choice (Goes s) (s.made == pid) _ _ (λ own. goes-same s)
          (λ other. child-goes birth args s (eqb-false s.made pid other))
      change-goes (reaps child) s =
          choice (Goes s) (child == pid) _ _ (λ own. goes-same s)
          (λ other. goes-spared s _ (reaped-spares pid child s (eqb-false child pid other)))
      change-goes (becomes program) s =
          let run : TracedSystem = with_process pid (with_program traced id l program) s in
          goes-next s run _ (own-goes (with_program traced id l program) s (λ x at. (refl, come-program program x)))
          (goes-spared run _ (loan_back-spares pid pid p run))
      change-goes (makes_lwp fresh regs held) s =
          own-goes (with_new_lwp traced fresh regs held) s (λ x at. joins fresh held regs x)
      change-goes (suspends target suspended) s =
          lwp-goes target (with_suspended suspended) s
          (record { stops = λ k. refl; phase = λ k. refl; current = λ k. refl })

      pub changes-go : (cs : List Change) (s : TracedSystem) → Goes s (all_changed traced pid p id l cs s)
      unfolding all_changed
      changes-go [] s = goes-same s
      changes-go (c ∷ cs) s =
          let next : TracedSystem = changed traced pid p id l c s in
          goes-next s next _ (change-goes c s) (changes-go cs next)

      -- ---- the end and the counts

      -- what ends its lwp changes nothing else
      end-rises : (t : Transition) (s : TracedSystem) → IsLawfulSystem s → SuitsTransition s pid p id l t
          → (x : TracedProcess) (e : Ending) → t.ending ≡ Some e
          → process_of
          (with_lwp_of pid id (moved traced t.move) (all_changed traced pid p id l t.changes s)) pid ≡ Some x
          → IsRising x.lwps
      unfolding all_changed
      end-rises t s h suits x e is at =
          let alone = suits.alone e is in
          let same : with_lwp_of pid id (moved traced t.move) (all_changed traced pid p id l t.changes s) ≡ s =
          ap (λ cs. with_lwp_of pid id (moved traced t.move) (all_changed traced pid p id l cs s)) alone.0
          ∙ ap (λ m. with_lwp_of pid id (moved traced m) s) alone.1 ∙ stayed pid id s in
          let own =
          All-under IsLawfulProcess pid x s.processes h.processes
          (ap (λ (v : TracedSystem). process_of v pid) (sym same) ∙ at) in
          own.rising

      ended-goes : (how : Option Ending) (s : TracedSystem)
          → ((x : TracedProcess) (e : Ending) → how ≡ Some e → process_of s pid ≡ Some x → IsRising x.lwps)
          → Goes s (ended_if traced pid p id l how s)
      unfolding ended with_lwp_ended without_lwp
      ended-goes None s rises = goes-same s
      ended-goes (Some (ends_process status)) s rises = goes-spared s _ (end-spares pid pid p status s)
      ended-goes (Some ends_lwp) s rises =
          choice (Goes s) (length p.lwps == 1) _ _ (λ last. goes-spared s _ (end-spares pid pid p 0 s))
          (λ more. own-goes (without_lwp id) s (λ x at. (refl, come-gone id x (rises x ends_lwp refl at))))

      -- after its move the turn ends its lwp or its process, or neither, and is counted
      pub counted-goes : (row : Row) (s : TracedSystem) → IsLawfulSystem s → SuitsTransition s pid p id l row.transition
          → Goes
          (with_process pid (with_lwp id (moved traced row.transition.move))
          (all_changed traced pid p id l row.transition.changes s))
          (with_process pid (with_counted row.did row.begun) (ended_if traced pid p id l row.transition.ending
          (with_process pid (with_lwp id (moved traced row.transition.move))
          (all_changed traced pid p id l row.transition.changes s))))
      unfolding with_lwp_of with_counted
      counted-goes row s lawful suits =
          let t : Transition = row.transition in
          let changes : TracedSystem = all_changed traced pid p id l t.changes s in
          let moves : TracedSystem = with_process pid (with_lwp id (moved traced t.move)) changes in
          let ends : TracedSystem = ended_if traced pid p id l t.ending moves in
          goes-next moves ends _ (ended-goes t.ending moves (end-rises t s lawful suits))
          (own-goes (with_counted row.did row.begun) ends (λ x at. (refl, come-self x)))
