use Rattle.std.proofs.Common.{◌≡◌, ◌&&◌, ◌+◌, ℕ, Bool, true, false, is_none, is_some, eqb, Option, Some, None, List, [], ◌∷◌, cond, refl, ◌∙◌, ap, inl, inr}
use Rattle.std.proofs.lemmas.Bool.{eqb-true, eq-eqb, cases_Bool}
use Rattle.std.specs.Option.{option_map}
use Rattle.pr_num.specs.Infos.{of_child}
use Rattle.pr_num.specs.declared.infos.Info.{Info}
use Rattle.pr_num.specs.declared.signals.Sig.{Sig}
use Rattle.pr_num.specs.declared.signals.Sig.TheVariants.{Cld}
use Rattle.pr_num.specs.Signals.{signal_number}
use Rattle.pr_num.specs.ById.{under, change_under, map_each, inserted}
use Rattle.pr_num.proofs.ByIdLaws.{under-change_under, under-change_under_other, under-map_each, under-inserted_other, under-without_id_other}
use Rattle.pr_parts.specs.SignalRules.{deleted_by}
use Rattle.pr_keeps.proofs.LoanLemmas.{lent-keeps, loans_passed-keep, process_if-keeps}
use Rattle.pr_model.specs.Changes.{Change, files_are, space_is, signals, signals_itself, takes_shared, job_stops, disposition_is, held_is, resumes, forks, reaps, becomes, makes_lwp, suspends, with_fds, with_space, with_shared_taken, with_job_stop, with_disposition_of, with_held, resumed, with_suspended, changed, all_changed}
use Rattle.pr_model.specs.Generation.{ends_job_stop, lwp_without_pending, lwp_with_pending, without_pending, without_job_stop, with_deletions, with_pending, signalled}
use Rattle.pr_model.specs.Lives.{Birth, is_id, lent_to, with_lent, with_loan_back, with_lender_of, with_loans_passed, with_made, orphaned, with_parent_signalled, with_reaped, new_lwp, with_child, started, with_program, with_new_lwp, zombie, with_this_ended, ended_if_live, with_ended}
use Rattle.pr_model.specs.Machines.{traced}
use Rattle.pr_model.specs.Signals.{is_kill, generated}
use Rattle.pr_model.specs.State.{TracedLwp, TracedProcess, TracedSystem, process_of, live_process, lwp_of, with_process, with_lwp}
use Rattle.pr_model.specs.declared.frames.Frame.{Frame}
use Rattle.pr_model.specs.declared.lwps.Phase.{Phase}
use Rattle.pr_num.proofs.BoolLemmas.{not_both}

-- No change that a turn makes moves its own lwp: it stands, in the phase in which it was.

-- the lwp of an id stands in the process of an id, in a phase
pub record Stands (pid id : ℕ) (phase : Phase) (s : TracedSystem) : Type 0 where
  pub process : TracedProcess
  pub lwp : TracedLwp
  pub found : process_of s pid ≡ Some process
  pub there : lwp_of process id ≡ Some lwp
  pub same : lwp.phase ≡ phase

-- an lwp of an id stands in a process in a phase
pub record Keeps (id : ℕ) (phase : Phase) (p : TracedProcess) : Type 0 where
  pub lwp : TracedLwp
  pub there : lwp_of p id ≡ Some lwp
  pub same : lwp.phase ≡ phase

-- ---- changes of a process that leave it in its phase

module _ (id : ℕ) (phase : Phase) where
  -- an lwp of it is changed, and stays in its phase
  keeps-one : (other : ℕ) (f : TracedLwp → TracedLwp) → ((x : TracedLwp) → (f x).phase ≡ x.phase)
      → (ls : List (ℕ × TracedLwp)) (l : TracedLwp) → under id ls ≡ Some l → l.phase ≡ phase
      → (m : TracedLwp) × ((under id (change_under other f ls) ≡ Some m) × (m.phase ≡ phase))
  keeps-one other f stays ls l there same =
      elim (cases_Bool (eqb other id)) [
        | inl here ↦ let is =
            eqb-true other id here in (
              f l,
              (
                ap (λ n. under id (change_under n f ls)) is ∙ under-change_under id f ls
                    ∙ ap (option_map f) there,
                stays l ∙ same,
              ),
            )
        | inr apart ↦ (l, (under-change_under_other other id f (λ is. absurd (elsewhere is apart)) ls ∙ there, same))
      ]
    where
      elsewhere : other ≡ id → eqb other id ≡ false → ⊥
      elsewhere is apart = not_both _ (eq-eqb other id is) apart

  keeps-lwp : (p : TracedProcess) (other : ℕ) (f : TracedLwp → TracedLwp) → ((x : TracedLwp) → (f x).phase ≡ x.phase)
      → Keeps id phase p → Keeps id phase (with_lwp other f p)
  unfolding with_lwp
  keeps-lwp p other f stays k =
      let it = keeps-one other f stays p.lwps k.lwp k.there k.same in
      record { lwp = it.0; there = it.1.0; same = it.1.1 }

  keeps-lwps : (p : TracedProcess) (f : TracedLwp → TracedLwp) → ((x : TracedLwp) → (f x).phase ≡ x.phase)
      → Keeps id phase p → (m : TracedLwp) × ((under id (map_each f p.lwps) ≡ Some m) × (m.phase ≡ phase))
  keeps-lwps p f stays k = (f k.lwp, (under-map_each id f p.lwps ∙ ap (option_map f) k.there, stays k.lwp ∙ k.same))

  same_lwps : (p q : TracedProcess) → q.lwps ≡ p.lwps → Keeps id phase p → Keeps id phase q
  same_lwps p q same k = record { lwp = k.lwp; there = ap (under id) same ∙ k.there; same = k.same }

  keeps-pending : (target : Option ℕ) (g : Sig) (info : Info) (p : TracedProcess) → Keeps id phase p
      → Keeps id phase (with_pending target g info p)
  unfolding with_pending lwp_with_pending
  keeps-pending None g info p k = record { lwp = k.lwp; there = k.there; same = k.same }
  keeps-pending (Some other) g info p k =
      let it = keeps-one other (lwp_with_pending g info) (λ x. refl) p.lwps k.lwp k.there k.same in
      record { lwp = it.0; there = it.1.0; same = it.1.1 }

  keeps-without : (set : ℕ) (p : TracedProcess) → Keeps id phase p → Keeps id phase (without_pending set p)
  unfolding without_pending lwp_without_pending
  keeps-without set p k =
      let it = keeps-lwps p (lwp_without_pending set) (λ x. refl) k in
      record { lwp = it.0; there = it.1.0; same = it.1.1 }

  keeps-job : (g : Sig) (p : TracedProcess) → Keeps id phase p → Keeps id phase (without_job_stop g p)
  unfolding without_job_stop
  keeps-job g p k =
      elim (ends_job_stop g) as
      (λ b. Keeps id phase
      (cond b (record p { job_stop = None }) p)) [
        | true ↦ record { lwp = k.lwp; there = k.there; same = k.same }
        | false ↦ k
      ]

  keeps-deletions : (g : Sig) (p : TracedProcess) → Keeps id phase p → Keeps id phase (with_deletions g p)
  unfolding with_deletions
  keeps-deletions g p k =
      elim (eqb (deleted_by g) 0) as
      (λ b. Keeps id phase
      (cond b p (without_job_stop g (without_pending (deleted_by g) p)))) [
        | true ↦ k
        | false ↦ keeps-job g
            (without_pending (deleted_by g) p) (keeps-without (deleted_by g) p k)
      ]

  keeps-signalled : (target : Option ℕ) (g : Sig) (info : Info) (p : TracedProcess) → Keeps id phase p
      → Keeps id phase (signalled target g info p)
  unfolding signalled
  keeps-signalled target g info p k =
      elim (is_none p.ended) as
      (λ b. Keeps id phase
      (cond b (with_pending target g info (with_deletions g p)) p)) [
        | true ↦ keeps-pending target g info
            (with_deletions g p) (keeps-deletions g p k)
        | false ↦ k
      ]

  keeps-orphaned : (pid : ℕ) (p : TracedProcess) → Keeps id phase p → Keeps id phase (orphaned pid p)
  unfolding orphaned
  keeps-orphaned pid p k =
      elim (eqb p.parent pid) as
      (λ b. Keeps id phase
      (cond b (record p { parent = 0 }) p)) [
        | true ↦ record { lwp = k.lwp; there = k.there; same = k.same }
        | false ↦
            k
      ]

  keeps-loan_back : (pid : ℕ) (p q : TracedProcess) → Keeps id phase q → Keeps id phase (with_loan_back pid p q)
  unfolding with_loan_back
  keeps-loan_back pid p q k =
      elim (is_id pid q.borrower) as
      (λ b. Keeps id phase (cond b (record q { space = p.space; borrower = p.borrower }) q)) [
        | true ↦ record { lwp = k.lwp; there = k.there; same = k.same }
        | false ↦ k
      ]

  keeps-lender_of : (pid : ℕ) (p q : TracedProcess) → Keeps id phase q → Keeps id phase (with_lender_of pid p q)
  unfolding with_lender_of
  keeps-lender_of pid p q k =
      elim (is_id pid q.lender) as
      (λ b. Keeps id phase (cond b (record q { lender = p.lender }) q)) [
        | true ↦ record { lwp = k.lwp; there = k.there; same = k.same }
        | false ↦ k
      ]

held-stays : (held : ℕ) (x : TracedLwp) → (with_held held x).phase ≡ x.phase
unfolding with_held
held-stays held x = refl

resumed-stays : (frame : Frame) (frames : List Frame) (x : TracedLwp) → (resumed frame frames x).phase ≡ x.phase
unfolding resumed
resumed-stays frame frames x = refl

suspended-stays : (it : Bool) (x : TracedLwp) → (with_suspended it x).phase ≡ x.phase
unfolding with_suspended
suspended-stays it x = refl

-- ---- changes of the system

module _ (pid id : ℕ) (phase : Phase) where
  -- a process of any id is changed so that it keeps the lwp in its phase
  stands-process : (other : ℕ) (f : TracedProcess → TracedProcess)
      → ((q : TracedProcess) → Keeps id phase q → Keeps id phase (f q)) → (s : TracedSystem) → Stands pid id phase s
      → Stands pid id phase (with_process other f s)
  unfolding with_process
  stands-process other f keeps s st =
      elim (cases_Bool (eqb other pid)) [
        | inl here ↦
            let is = eqb-true other pid here in
            let k = keeps st.process (record { lwp = st.lwp; there = st.there; same = st.same }) in
            record {
              process = f st.process;
              lwp = k.lwp;
              found =
                  ap (λ n. under pid (change_under n f s.processes)) is ∙ under-change_under pid f s.processes
                  ∙ ap (option_map f) st.found;
              there = k.there;
              same = k.same;
            }
        | inr apart ↦
            record {
              process = st.process;
              lwp = st.lwp;
              found =
                  under-change_under_other other pid f (λ is. not_both _ (eq-eqb other pid is) apart) s.processes
                  ∙ st.found;
              there = st.there;
              same = st.same;
            }
      ]

  -- a process passes its loans on
  stands-passed : (other : ℕ) (p : TracedProcess) (s : TracedSystem) → Stands pid id phase s
      → Stands pid id phase (with_loans_passed other p s)
  stands-passed other p =
      loans_passed-keep (Stands pid id phase) other p
      (λ any. stands-process any (with_loan_back other p) (keeps-loan_back id phase other p))
      (λ any. stands-process any (with_lender_of other p) (keeps-lender_of id phase other p))

  -- a process lends its memory to its child
  stands-lent : (birth : Birth) (parent child : ℕ) (s : TracedSystem) → Stands pid id phase s
      → Stands pid id phase (with_lent birth parent child s)
  unfolding lent_to
  stands-lent birth parent child =
      lent-keeps (Stands pid id phase) birth parent child
      (stands-process parent (lent_to child) (λ q k. same_lwps id phase q (lent_to child q) refl k))

  same_processes : (s t : TracedSystem) → t.processes ≡ s.processes → Stands pid id phase s → Stands pid id phase t
  same_processes s t same st = record {
    process = st.process;
    lwp = st.lwp;
    found = ap (under pid) same ∙ st.found;
    there = st.there;
    same = st.same;
  }

  -- another process ends
  stands-buried : (other status : ℕ) → eqb other pid ≡ false → (ps : List (ℕ × TracedProcess)) (p : TracedProcess)
      → under pid ps ≡ Some p
      → under pid (map_each (orphaned other) (change_under other (zombie traced status) ps)) ≡ Some (orphaned other p)
  stands-buried other status apart ps p found =
      under-map_each pid (orphaned other) (change_under other (zombie traced status) ps)
      ∙ ap (option_map (orphaned other))
      (under-change_under_other other pid (zombie traced status) (λ is. not_both _ (eq-eqb other pid is) apart) ps
      ∙ found)

  stands-signalled : (parent other status : ℕ) (s : TracedSystem) → Stands pid id phase s
      → Stands pid id phase (with_parent_signalled parent other status s)
  unfolding with_parent_signalled
  stands-signalled parent other status s st =
      elim (eqb parent 0) as
      (λ b. Stands pid id phase (cond b s (with_process parent (signalled None Cld (of_child other status)) s))) [
        | true ↦ st
        | false ↦ stands-process parent (signalled None Cld (of_child other status))
            (keeps-signalled id phase None Cld (of_child other status)) s st
      ]

  stands-ended : (other : ℕ) (p : TracedProcess) (status : ℕ) → eqb other pid ≡ false → (s : TracedSystem)
      → Stands pid id phase s → Stands pid id phase (with_this_ended traced other p status s)
  unfolding with_this_ended
  stands-ended other p status apart s st =
      let k = keeps-orphaned id phase other st.process (record { lwp = st.lwp; there = st.there; same = st.same }) in
      stands-signalled p.parent other status _
      (stands-passed other p _ (record {
        process = orphaned other st.process;
        lwp = k.lwp;
        found = stands-buried other status apart s.processes st.process st.found;
        there = k.there;
        same = k.same;
      }))

  stands-with_ended : (other status : ℕ) → eqb other pid ≡ false → (s : TracedSystem) → Stands pid id phase s
      → Stands pid id phase (with_ended traced other status s)
  unfolding with_ended
  stands-with_ended other status apart s st = by (live_process s other)
    where
      by : (o : Option TracedProcess) → Stands pid id phase (ended_if_live traced other status s o)
      by None = st
      by (Some p) = stands-ended other p status apart s st

  -- a signal is generated for another process, or one but SIGKILL for any
  stands-generated : (other : ℕ) (target : Option ℕ) (g : Sig) (info : Info) (s : TracedSystem)
      → (is_kill g && eqb other pid) ≡ false → Stands pid id phase s
      → Stands pid id phase (generated traced other target g info s)
  unfolding generated
  stands-generated other target g info s kept st = by (is_kill g) kept
    where
      by : (b : Bool) → (b && eqb other pid) ≡ false
          → Stands pid id phase
          (cond b (with_ended traced other (signal_number g) s) (with_process other (signalled target g info) s))
      by true apart = stands-with_ended other (signal_number g) apart s st
      by false apart = stands-process other (signalled target g info) (keeps-signalled id phase target g info) s st

  stands-made : (p : TracedProcess) (s : TracedSystem) → eqb s.made pid ≡ false → Stands pid id phase s
      → Stands pid id phase (with_made p s)
  unfolding with_made
  stands-made p s apart st =
      record {
        process = st.process;
        lwp = st.lwp;
        found =
            under-inserted_other s.made pid p (λ is. not_both _ (eq-eqb s.made pid is) apart) s.processes ∙ st.found;
        there = st.there;
        same = st.same;
      }

  made-lent : (birth : Birth) (parent child : ℕ) (s : TracedSystem) → (with_lent birth parent child s).made ≡ s.made
  unfolding with_process
  made-lent birth parent child s =
      lent-keeps (λ (t : TracedSystem). t.made ≡ s.made) birth parent child (λ t same. same) s refl

  -- a child is made, which may have the memory of its parent
  stands-child : (birth : Birth) (parent : ℕ) (p : TracedProcess) (s : TracedSystem) → eqb s.made pid ≡ false
      → Stands pid id phase s → Stands pid id phase (with_made p (with_lent birth parent s.made s))
  stands-child birth parent p s apart st =
      stands-made p (with_lent birth parent s.made s)
      (ap (λ n. eqb n pid) (made-lent birth parent s.made s) ∙ apart) (stands-lent birth parent s.made s st)

  stands-reaped : (child : ℕ) (s : TracedSystem) → eqb child pid ≡ false → Stands pid id phase s
      → Stands pid id phase (with_reaped child s)
  unfolding with_reaped
  stands-reaped child s apart st =
      record {
        process = st.process;
        lwp = st.lwp;
        found = under-without_id_other child pid (λ is. not_both _ (eq-eqb child pid is) apart) s.processes ∙ st.found;
        there = st.there;
        same = st.same;
      }

  unless-same : (b : Bool) (s new : TracedSystem) → (b ≡ false → Stands pid id phase new) → Stands pid id phase s
      → Stands pid id phase (cond b s new)
  unless-same true s new other st = st
  unless-same false s new other st = other refl

  keeps-new_lwp : (new : ℕ) (regs : List ℕ) (held : ℕ) (p : TracedProcess) → Keeps id phase p
      → Keeps id phase (with_new_lwp traced new regs held p)
  unfolding with_new_lwp
  keeps-new_lwp new regs held p k = by (is_some (lwp_of p new)) refl
    where
      stood : new ≡ id → is_some (lwp_of p new) ≡ true
      stood is = ap (λ n. is_some (under n p.lwps)) is ∙ ap (λ o. is_some o) k.there

      by : (b : Bool) → is_some (lwp_of p new) ≡ b
          → Keeps id phase
          (cond b p
          (record p {
            next_lwp = new + 1;
            lwps = inserted new
                (new_lwp traced regs held (traced.marks false)) p.lwps;
          }))
      by true is = k
      by false none = record {
        lwp = k.lwp;
        there =
            under-inserted_other new id (new_lwp traced regs held (traced.marks false))
            (λ is. not_both _ (stood is) none) p.lwps ∙ k.there;
        same = k.same;
      }

  module _ (p : TracedProcess) (l : TracedLwp) (same : l.phase ≡ phase) where
    keeps-program : (program : _) (q : TracedProcess) → Keeps id phase (with_program traced id l program q)
    unfolding with_program started
    keeps-program program q = record {
      lwp = started traced l;
      there = ap (λ b. cond b (Some (started traced l)) None) (eq-eqb id id refl);
      same = same;
    }

    pub stands-changed : (c : Change) (s : TracedSystem) → Stands pid id phase s
        → Stands pid id phase (changed traced pid p id l c s)
    unfolding changed with_fds with_space with_shared_taken with_job_stop with_disposition_of with_child
    stands-changed (files_are files fds) s st =
        stands-process pid (with_fds fds) (λ q k. same_lwps id phase q (with_fds fds q) refl k)
        (record s { files = files }) (same_processes s _ refl st)
    stands-changed (space_is space) s st =
        stands-process pid (with_space space) (λ q k. same_lwps id phase q (with_space space q) refl k) s st
    stands-changed (signals target g info) s st =
        unless-same (is_kill g && eqb target pid) s _ (λ kept. stands-generated target None g info s kept st) st
    stands-changed (signals_itself g info) s st =
        unless-same (is_kill g) s _
        (λ other. stands-generated pid (Some id) g info s (ap (λ b. b && eqb pid pid) other) st) st
    stands-changed (takes_shared g) s st =
        stands-process pid (with_shared_taken g) (λ q k. same_lwps id phase q (with_shared_taken g q) refl k) s st
    stands-changed (job_stops g) s st =
        stands-process pid (with_job_stop g) (λ q k. same_lwps id phase q (with_job_stop g q) refl k) s st
    stands-changed (disposition_is g d) s st =
        stands-process pid (with_disposition_of g d)
        (λ q k. same_lwps id phase q (with_disposition_of g d q) refl k) s st
    stands-changed (held_is held) s st =
        stands-process pid (with_lwp id (with_held held))
        (λ q k. keeps-lwp id phase q id (with_held held) (held-stays held) k) s st
    stands-changed (resumes frame frames) s st =
        stands-process pid (with_lwp id (resumed frame frames))
        (λ q k. keeps-lwp id phase q id (resumed frame frames) (resumed-stays frame frames) k) s st
    stands-changed (forks birth args) s st =
        unless-same (eqb s.made pid) s _ (λ apart. stands-child birth pid _ _ apart (same_processes s _ refl st)) st
    stands-changed (reaps child) s st = unless-same (eqb child pid) s _ (λ apart. stands-reaped child s apart st) st
    stands-changed (becomes program) s st =
        process_if-keeps (Stands pid id phase) p.lender (with_loan_back pid p)
        (λ any. stands-process any (with_loan_back pid p) (keeps-loan_back id phase pid p)) _
        (stands-process pid (with_program traced id l program) (λ q k. keeps-program program q) s st)
    stands-changed (makes_lwp new regs held) s st =
        stands-process pid (with_new_lwp traced new regs held) (keeps-new_lwp new regs held) s st
    stands-changed (suspends other it) s st =
        stands-process pid (with_lwp other (with_suspended it))
        (λ q k. keeps-lwp id phase q other (with_suspended it) (suspended-stays it) k) s st

    pub stands-all : (cs : List Change) (s : TracedSystem) → Stands pid id phase s
        → Stands pid id phase (all_changed traced pid p id l cs s)
    unfolding all_changed
    stands-all [] s st = st
    stands-all (c ∷ cs) s st = stands-all cs (changed traced pid p id l c s) (stands-changed c s st)
