use Rattle.std.proofs.Common.{◌≡◌, ◌≢◌, ◌==◌, ◌&&◌, ℕ, Bool, true, false, cond, is_none, is_some, None, Some, Option, List, [], ◌∷◌, length, refl, sym, subst, ap, ◌∙◌, arith, inl, inr}
use Rattle.std.proofs.lemmas.Bool.{false≢true, cases_Bool, eqb-true, eqb-false, eq-eqb}
use Rattle.std.proofs.lemmas.Option.{same_Some}
use Rattle.std.specs.Option.{option_and_then, option_map}
use Rattle.pr_parts.specs.FileCalls.{with_all_shared}
use Rattle.pr_keeps.proofs.LoanLemmas.{loans_passed-keep, process_if-keeps}
use Rattle.pr_num.proofs.ByIdLaws.{under-change_under, under-change_under_other, under-inserted, under-inserted_other, under-map_each, under-without_id_other}
use Rattle.pr_num.specs.Agents.{agent_id}
use Rattle.pr_num.specs.ById.{change_under, inserted, map_each, under}
use Rattle.pr_num.specs.Control.{async_mode, has_flags}
use Rattle.pr_num.specs.Files.{with_all_closed}
use Rattle.pr_num.specs.Infos.{of_child}
use Rattle.pr_num.specs.Programs.{Program}
use Rattle.pr_num.specs.Signals.{signal_number}
use Rattle.pr_num.specs.declared.infos.Info.{Info}
use Rattle.pr_num.specs.declared.signals.Sig.{Sig}
use Rattle.pr_num.specs.declared.signals.Sig.TheVariants.{Cld}
use Rattle.pr_parts.specs.SignalRules.{deleted_by}
use Rattle.pr_lawful.proofs.LawfulTurns.EndLemmas.{found-live}
use Rattle.pr_lawful.proofs.ProcessParts.FileLemmas.{choice}
use Rattle.pr_lawful.proofs.LawfulTurns.SuitingLemmas.{SuitChanges, SuitsChange, SuitsLwp, SuitsProgram, SuitsTransition}
use Rattle.pr_lawful.proofs.LawfulTurns.TransitionLemmas.{stayed}
use Rattle.pr_lawful.proofs.LawfulTurns.TurnLemmas.{acting, row-suits}
use Rattle.pr_model.proofs.TurnLemmas.{turn-taken}
use Rattle.pr_model.specs.Changes.{Change, changed, files_are, space_is, signals, signals_itself, takes_shared, job_stops, disposition_is, held_is, resumes, forks, reaps, becomes, makes_lwp, suspends, all_changed, ended, Ending, ends_process, ends_lwp, resumed, with_disposition_of, with_fds, with_held, with_job_stop, with_shared_taken, with_space, with_suspended}
use Rattle.pr_model.specs.Generation.{ends_job_stop, lwp_with_pending, lwp_without_pending, signalled, with_deletions, with_pending, without_job_stop, without_pending}
use Rattle.pr_model.specs.Lawful.{IsLawfulSystem}
use Rattle.pr_model.specs.Lives.{Birth, bare_process, ended_if_live, forked, new_lwp, orphaned, started, with_child, with_ended, with_lwp_ended, with_made, with_new_lwp, with_parent_signalled, with_program, with_reaped, with_this_ended, without_lwp, zombie, by_fork, by_vfork, is_id, lent_to, with_lender_of, with_loan_back, with_loans_passed}
use Rattle.pr_model.specs.LwpTurns.{LwpTurn, settled, turn_of, with_counted}
use Rattle.pr_model.specs.Machines.{no_marks, traced}
use Rattle.pr_model.specs.Moves.{moved}
use Rattle.pr_model.specs.Points.{after_meeting, is_traced, stopped_at, with_others_directed, with_stop_at}
use Rattle.pr_model.specs.Rows.{Row, row_for}
use Rattle.pr_model.specs.Signals.{generated, is_kill}
use Rattle.pr_model.specs.State.{TracedLwp, TracedProcess, TracedSystem, has_agent, if_live, live_process, lwp_of, process_of, with_lwp, with_lwp_of, with_process, with_process_if}
use Rattle.pr_model.specs.Stops.{directed, with_all_directed}
use Rattle.pr_model.specs.Transitions.{after_transition, ended_if}
use Rattle.pr_model.specs.declared.stops.Point.{Point}
use Rattle.pr_truss_laws.proofs.EventStops.BridgeLemmas.{mapped-some}
use Rattle.pr_truss_laws.proofs.Machine.StillLemmas.{if-live-none}

-- A turn leaves its process and its lwp, where it ends none of them; and no agent comes by it.

-- ---- what stands under ids

some-mapped : {X Y : Type 0} (f : X → Y) (o : Option X) → is_some (option_map f o) ≡ is_some o
some-mapped f None = refl
some-mapped f (Some x) = refl

pub changed-ids : {X : Type 0} (target : ℕ) (f : X → X) (es : List (ℕ × X)) (n : ℕ)
    → is_some (under n (change_under target f es)) ≡ is_some (under n es)
changed-ids {X} target f es n =
    elim (cases_Bool (target == n)) [
      | inl same ↦ own (eqb-true target n same)
      | inr apart ↦ ap
          (λ (o : Option X). is_some o) (under-change_under_other target n f (eqb-false target n apart) es)
    ]
  where
    own : target ≡ n → is_some (under n (change_under target f es)) ≡ is_some (under n es)
    own same =
        subst (λ k. is_some (under n (change_under k f es)) ≡ is_some (under n es)) (sym same)
        (ap (λ (o : Option X). is_some o) (under-change_under n f es) ∙ some-mapped f (under n es))

mapped-ids : {X : Type 0} (f : X → X) (es : List (ℕ × X)) (n : ℕ)
    → is_some (under n (map_each f es)) ≡ is_some (under n es)
mapped-ids {X} f es n = ap (λ (o : Option X). is_some o) (under-map_each n f es) ∙ some-mapped f (under n es)

-- ---- processes

-- A process that is left of another one has ended if that one had, has this lwp if that one had it, and has an agent
-- only if that one had.
pub record KeepsOwn (id : ℕ) (p q : TracedProcess) : Type 0 where
  pub ended : q.ended ≡ p.ended
  pub own : is_some (lwp_of p id) ≡ true → is_some (lwp_of q id) ≡ true
  pub no_agent : has_agent p ≡ false → has_agent q ≡ false

module _ (id : ℕ) where
  pub keeps-ids : (p q : TracedProcess) → q.ended ≡ p.ended → ((n : ℕ) → is_some (lwp_of q n) ≡ is_some (lwp_of p n))
      → KeepsOwn id p q
  keeps-ids p q ended same = record {
    ended = ended;
    own = λ there. same id ∙ there;
    no_agent = λ none. same agent_id ∙ none;
  }

  pub keeps-self : (p : TracedProcess) → KeepsOwn id p p
  keeps-self p = keeps-ids p p refl (λ n. refl)

  pub keeps-next : (p q r : TracedProcess) → KeepsOwn id p q → KeepsOwn id q r → KeepsOwn id p r
  keeps-next p q r one two = record {
    ended = two.ended ∙ one.ended;
    own = λ there. two.own (one.own there);
    no_agent = λ none. two.no_agent (one.no_agent none);
  }

  keeps-if : (b : Bool) (p q r : TracedProcess) → KeepsOwn id p q → KeepsOwn id p r → KeepsOwn id p (cond b q r)
  keeps-if true p q r one other = one
  keeps-if false p q r one other = other

  pub keeps-lwp : (target : ℕ) (f : TracedLwp → TracedLwp) (p : TracedProcess) → KeepsOwn id p (with_lwp target f p)
  unfolding with_lwp
  keeps-lwp target f p = keeps-ids p _ refl (changed-ids target f p.lwps)

  keeps-pending : (target : Option ℕ) (g : Sig) (info : Info) (p : TracedProcess)
      → KeepsOwn id p (with_pending target g info p)
  unfolding with_pending
  keeps-pending None g info p = keeps-ids p _ refl (λ n. refl)
  keeps-pending (Some own) g info p = keeps-ids p _ refl (changed-ids own (lwp_with_pending g info) p.lwps)

  -- a signal that is sent
  keeps-signalled : (target : Option ℕ) (g : Sig) (info : Info) (p : TracedProcess)
      → KeepsOwn id p (signalled target g info p)
  unfolding signalled with_deletions without_job_stop without_pending
  keeps-signalled target g info p =
      keeps-if (is_none p.ended) p _ p
      (keeps-next p (with_deletions g p) _
      (keeps-if (deleted_by g == 0) p p _ (keeps-self p)
      (let less : TracedProcess = without_pending (deleted_by g) p in
      keeps-next p less _ (keeps-ids p less refl (mapped-ids (lwp_without_pending (deleted_by g)) p.lwps))
      (keeps-if (ends_job_stop g) less (record less { job_stop = None }) less (keeps-ids less _ refl (λ n. refl))
      (keeps-self less))))
      (keeps-pending target g info (with_deletions g p)))
      (keeps-self p)

  keeps-orphaned : (gone : ℕ) (p : TracedProcess) → KeepsOwn id p (orphaned gone p)
  unfolding orphaned
  keeps-orphaned gone p =
      keeps-if (p.parent == gone) p (record p { parent = 0 }) p (keeps-ids p _ refl (λ n. refl)) (keeps-self p)

  -- memory that was lent: it is given back, and another lends it
  keeps-loan_back : (gone : ℕ) (g p : TracedProcess) → KeepsOwn id p (with_loan_back gone g p)
  unfolding with_loan_back
  keeps-loan_back gone g p =
      keeps-if (is_id gone p.borrower) p (record p { space = g.space; borrower = g.borrower }) p
      (keeps-ids p _ refl (λ n. refl)) (keeps-self p)

  keeps-lender_of : (gone : ℕ) (g p : TracedProcess) → KeepsOwn id p (with_lender_of gone g p)
  unfolding with_lender_of
  keeps-lender_of gone g p =
      keeps-if (is_id gone p.lender) p (record p { lender = g.lender }) p (keeps-ids p _ refl (λ n. refl))
      (keeps-self p)

  -- an lwp more, under an id that is not the agent's
  keeps-new : (fresh held : ℕ) (regs : List ℕ) (p : TracedProcess) → fresh ≢ agent_id
      → KeepsOwn id p (with_new_lwp traced fresh regs held p)
  unfolding with_new_lwp traced
  keeps-new fresh held regs p apart = keeps-if (is_some (lwp_of p fresh)) p p _ (keeps-self p) (record {
    ended = refl;
    own =
        λ there. elim
        (cases_Bool (fresh == id)) [
          | inl same ↦ stands (eqb-true fresh id same)
          | inr not_same ↦ ap
              (λ (o : Option TracedLwp). is_some o)
              (under-inserted_other fresh id _ (eqb-false fresh id not_same) p.lwps) ∙ there
        ];
    no_agent =
        λ none. ap (λ (o : Option TracedLwp). is_some o) (under-inserted_other fresh agent_id _ apart p.lwps) ∙ none;
  })
    where
      stands : fresh ≡ id
          → is_some (under id (inserted fresh (new_lwp traced regs held (no_marks false)) p.lwps)) ≡ true
      stands same =
          subst (λ n. is_some (under id (inserted n (new_lwp traced regs held (no_marks false)) p.lwps)) ≡ true)
          (sym same)
          (ap (λ (o : Option TracedLwp). is_some o)
          (under-inserted id (new_lwp traced regs held (no_marks false)) p.lwps))

  -- a process that runs another program keeps the one lwp, which made the call
  keeps-program : (l : TracedLwp) (program : Program) (p : TracedProcess) → lwp_of p id ≡ Some l
      → KeepsOwn id p (with_program traced id l program p)
  unfolding with_program
  keeps-program l program p at = record {
    ended = refl;
    own = λ there. ap (λ b. is_some (cond b (Some (started traced l)) None)) (eq-eqb id id refl);
    no_agent =
        λ none. elim (cases_Bool (id == agent_id)) [
          | inl same ↦ absurd (false≢true (sym none
              ∙ subst (λ n. is_some (lwp_of p n) ≡ true) (eqb-true id agent_id same)
              (ap (λ (o : Option TracedLwp). is_some o) at)))
          | inr apart ↦ ap
              (λ b. is_some (cond b (Some (started traced l)) None)) apart
        ];
  }

  -- the stop at the point that was met
  pub keeps-meeting : (point : Option Point) (p : TracedProcess) → KeepsOwn id p (after_meeting point id p)
  unfolding after_meeting with_stop_at with_others_directed with_all_directed
  keeps-meeting None p = keeps-self p
  keeps-meeting (Some pt) p =
      let at : TracedProcess = with_lwp id (stopped_at pt) p in
      let one = keeps-lwp id (stopped_at pt) p in
      keeps-if (is_traced p.control pt) p _ p
      (keeps-if (has_flags at.control.modes async_mode) p at _ one
      (keeps-next p at _ one (keeps-ids at _ refl (mapped-ids directed at.lwps))))
      (keeps-self p)

-- ---- systems

module _ (pid id : ℕ) where
  -- the process of this id stands later, if it stood before, and keeps so much
  pub record Stays (s u : TracedSystem) : Type 0 where
    pub to : (p : TracedProcess) → process_of s pid ≡ Some p
        → (q : TracedProcess) × ((process_of u pid ≡ Some q) × KeepsOwn id p q)

  stays-there : (s u : TracedSystem) → process_of u pid ≡ process_of s pid → Stays s u
  stays-there s u same = record { to = λ p there. (p, (same ∙ there, keeps-self id p)) }

  stays-same : (s : TracedSystem) → Stays s s
  stays-same s = stays-there s s refl

  stays-next : (s u v : TracedSystem) → Stays s u → Stays u v → Stays s v
  stays-next s u v one two =
      record {
        to = λ p there. let a = one.to p there in let b = two.to a.0 a.1.0 in
            (b.0, (b.1.0, keeps-next id p a.0 b.0 a.1.1 b.1.1));
      }

  stays-if : (b : Bool) (s u v : TracedSystem) → Stays s u → Stays s v → Stays s (cond b u v)
  stays-if true s u v one other = one
  stays-if false s u v one other = other

  own-stays : (f : TracedProcess → TracedProcess) (s : TracedSystem)
      → ((x : TracedProcess) → process_of s pid ≡ Some x → KeepsOwn id x (f x)) → Stays s (with_process pid f s)
  unfolding with_process
  own-stays f s keeps =
      record { to = λ p there. (f p, (under-change_under pid f s.processes ∙ ap (option_map f) there, keeps p there)) }

  other-stays : (other : ℕ) (f : TracedProcess → TracedProcess) (s : TracedSystem) → other ≢ pid
      → Stays s (with_process other f s)
  unfolding with_process
  other-stays other f s apart =
      stays-there s (with_process other f s) (under-change_under_other other pid f apart s.processes)

  any-stays : (other : ℕ) (f : TracedProcess → TracedProcess) (s : TracedSystem)
      → ((x : TracedProcess) → KeepsOwn id x (f x)) → Stays s (with_process other f s)
  any-stays other f s keeps =
      elim (cases_Bool (other == pid)) [
        | inl same ↦ subst (λ n. Stays s (with_process n f s))
            (sym (eqb-true other pid same)) (own-stays f s (λ x there. keeps x))
        | inr apart ↦ other-stays other f s
            (eqb-false other pid apart)
      ]

  parent-stays : (parent gone status : ℕ) (s : TracedSystem) → Stays s (with_parent_signalled parent gone status s)
  unfolding with_parent_signalled
  parent-stays parent gone status s =
      stays-if (parent == 0) s s _ (stays-same s)
      (any-stays parent (signalled None Cld (of_child gone status)) s
      (keeps-signalled id None Cld (of_child gone status)))

  -- memory that was lent
  back-stays : (gone : ℕ) (g : TracedProcess) (s : TracedSystem) (other : ℕ) (t : TracedSystem) → Stays s t
      → Stays s (with_process other (with_loan_back gone g) t)
  back-stays gone g s other t it =
      stays-next s t _ it (any-stays other (with_loan_back gone g) t (keeps-loan_back id gone g))

  passed-stays : (gone : ℕ) (g : TracedProcess) (s : TracedSystem) → Stays s (with_loans_passed gone g s)
  passed-stays gone g s =
      loans_passed-keep (Stays s) gone g (back-stays gone g s)
      (λ other t it. stays-next s t _ it (any-stays other (with_lender_of gone g) t (keeps-lender_of id gone g))) s
      (stays-same s)

  -- what is left of a process is passed on, and its parent is told
  leaving-stays : (gone : ℕ) (g : TracedProcess) (status : ℕ) (s : TracedSystem)
      → Stays s (with_parent_signalled g.parent gone status (with_loans_passed gone g s))
  leaving-stays gone g status s =
      stays-next s (with_loans_passed gone g s) _ (passed-stays gone g s)
      (parent-stays g.parent gone status (with_loans_passed gone g s))

  -- another process ends
  abbrev buried : ℕ → TracedProcess → ℕ → TracedSystem → TracedSystem
  buried gone x status s =
      record s {
        files = with_all_closed s.files x.fds;
        processes = map_each (orphaned gone)
            (change_under gone (zombie traced status) s.processes);
      }

  ended-stays : (gone : ℕ) (x : TracedProcess) (status : ℕ) (s : TracedSystem) → gone ≢ pid
      → Stays s (with_this_ended traced gone x status s)
  unfolding with_this_ended
  ended-stays gone x status s apart =
      stays-next s (buried gone x status s) _
      (record {
        to = λ p there. (
          orphaned gone p,
          (
            under-map_each pid (orphaned gone) (change_under gone (zombie traced status) s.processes)
                ∙ ap (option_map (orphaned gone))
                (under-change_under_other gone pid (zombie traced status) apart s.processes
                ∙ there),
            keeps-orphaned id gone p,
          ),
        );
      })
      (leaving-stays gone x status (buried gone x status s))

  generated-stays : (target : ℕ) (own : Option ℕ) (g : Sig) (info : Info) (s : TracedSystem)
      → (is_kill g && (target == pid)) ≡ false → Stays s (generated traced target own g info s)
  unfolding generated with_ended
  generated-stays target own g info s spared =
      choice (Stays s) (is_kill g) _ _
      (λ kills. by (eqb-false target pid (subst (λ b. (b && (target == pid)) ≡ false) kills spared))
      (live_process s target))
      (λ pends. any-stays target (signalled own g info) s (keeps-signalled id own g info))
    where
      by : target ≢ pid → (o : Option TracedProcess) → Stays s (ended_if_live traced target (signal_number g) s o)
      by apart None = stays-same s
      by apart (Some x) = ended-stays target x (signal_number g) s apart

  -- ---- changes

  module _ (p : TracedProcess) (l : TracedLwp) where
    sent-stays : (target : ℕ) (g : Sig) (info : Info) (s : TracedSystem)
        → Stays s (cond (is_kill g && (target == pid)) s (generated traced target None g info s))
    sent-stays target g info s =
        choice (Stays s) (is_kill g && (target == pid)) s _ (λ own. stays-same s)
        (λ spared. generated-stays target None g info s spared)

    itself-stays : (g : Sig) (info : Info) (s : TracedSystem)
        → Stays s (cond (is_kill g) s (generated traced pid (Some id) g info s))
    itself-stays g info s =
        choice (Stays s) (is_kill g) s _ (λ own. stays-same s)
        (λ spared. generated-stays pid (Some id) g info s (ap (λ b. b && (pid == pid)) spared))

    grown-stays : (child : TracedProcess) (s t : TracedSystem) → t.made ≢ pid → Stays s t → Stays s (with_made child t)
    unfolding with_made
    grown-stays child s t apart it =
        stays-next s t _ it (stays-there t _ (under-inserted_other t.made pid child apart t.processes))

    made-stays : (birth : Birth) (args : List ℕ) (s : TracedSystem) → s.made ≢ pid
        → Stays s (with_child traced birth pid p l args s)
    unfolding with_child with_process lent_to
    made-stays by_fork args s apart =
        let shared : TracedSystem = record s { files = with_all_shared s.files p.fds } in
        grown-stays (forked traced by_fork pid p l args s.clock) s shared apart (stays-there s shared refl)
    made-stays by_vfork args s apart =
        let shared : TracedSystem = record s { files = with_all_shared s.files p.fds } in
        grown-stays (forked traced by_vfork pid p l args s.clock) s (with_process pid (lent_to s.made) shared) apart
        (stays-next s shared _ (stays-there s shared refl)
        (own-stays (lent_to s.made) shared (λ x at. lent-keeps s.made x)))
      where
        lent-keeps : (child : ℕ) (x : TracedProcess) → KeepsOwn id x (lent_to child x)
        lent-keeps child x = keeps-ids id x (lent_to child x) refl (λ n. refl)

    child-stays : (birth : Birth) (args : List ℕ) (s : TracedSystem)
        → Stays s (cond (s.made == pid) s (with_child traced birth pid p l args s))
    child-stays birth args s =
        choice (Stays s) (s.made == pid) s _ (λ own. stays-same s)
        (λ apart. made-stays birth args s (eqb-false s.made pid apart))

    reaped-stays : (child : ℕ) (s : TracedSystem) → Stays s (cond (child == pid) s (with_reaped child s))
    unfolding with_reaped
    reaped-stays child s =
        choice (Stays s) (child == pid) s _ (λ own. stays-same s)
        (λ apart. stays-there s _ (under-without_id_other child pid (eqb-false child pid apart) s.processes))

    program-stays : (program : Program) (s : TracedSystem) → SuitsProgram s pid p id l program
        → Stays s
        (with_process_if p.lender (with_loan_back pid p) (with_process pid (with_program traced id l program) s))
    program-stays program s suits =
        process_if-keeps (Stays s) p.lender (with_loan_back pid p) (back-stays pid p s) _
        (own-stays (with_program traced id l program) s
        (λ x there. keeps-program id l program x
        (subst (λ (y : TracedProcess). lwp_of y id ≡ Some l) (same_Some p x (sym suits.found ∙ there)) suits.there)))

    new-stays : (fresh held : ℕ) (regs : List ℕ) (s : TracedSystem) → SuitsLwp s pid fresh held
        → Stays s (with_process pid (with_new_lwp traced fresh regs held) s)
    new-stays fresh held regs s suits =
        own-stays (with_new_lwp traced fresh regs held) s (λ x there. keeps-new id fresh held regs x small)
      where
        small : fresh ≢ agent_id
        small = let next = suits.next in let last = suits.last in λ is. absurd (omega arith)

    change-stays : (c : Change) (s : TracedSystem) → SuitsChange pid p id l s c
        → Stays s (changed traced pid p id l c s)
    unfolding changed with_fds with_space with_shared_taken with_job_stop with_disposition_of
    change-stays (files_are files fds) s suits =
        stays-next s (record s { files = files }) _ (stays-there s _ refl)
        (own-stays (with_fds fds) (record s { files = files })
        (λ x at. keeps-ids id x (with_fds fds x) refl (λ n. refl)))
    change-stays (space_is space) s suits =
        own-stays (with_space space) s (λ x at. keeps-ids id x (with_space space x) refl (λ n. refl))
    change-stays (signals target g info) s suits = sent-stays target g info s
    change-stays (signals_itself g info) s suits = itself-stays g info s
    change-stays (takes_shared g) s suits =
        own-stays (with_shared_taken g) s (λ x at. keeps-ids id x (with_shared_taken g x) refl (λ n. refl))
    change-stays (job_stops g) s suits =
        own-stays (with_job_stop g) s (λ x at. keeps-ids id x (with_job_stop g x) refl (λ n. refl))
    change-stays (disposition_is g d) s suits =
        own-stays (with_disposition_of g d) s (λ x at. keeps-ids id x (with_disposition_of g d x) refl (λ n. refl))
    change-stays (held_is held) s suits =
        own-stays (with_lwp id (with_held held)) s (λ x at. keeps-lwp id id (with_held held) x)
    change-stays (resumes frame frames) s suits =
        own-stays (with_lwp id (resumed frame frames)) s (λ x at. keeps-lwp id id (resumed frame frames) x)
    change-stays (forks birth args) s suits = child-stays birth args s
    change-stays (reaps child) s suits = reaped-stays child s
    change-stays (becomes program) s suits = program-stays program s suits
    change-stays (makes_lwp fresh regs held) s suits = new-stays fresh held regs s suits
    change-stays (suspends target suspended) s suits =
        own-stays (with_lwp target (with_suspended suspended)) s
        (λ x at. keeps-lwp id target (with_suspended suspended) x)

    changes-stay : (cs : List Change) (s : TracedSystem) → SuitChanges pid p id l s cs
        → Stays s (all_changed traced pid p id l cs s)
    unfolding all_changed
    changes-stay [] s suits = stays-same s
    changes-stay (c ∷ cs) s suits =
        let next : TracedSystem = changed traced pid p id l c s in
        stays-next s next _ (change-stays c s suits.0) (changes-stay cs next suits.1)

    -- ---- a turn that ends nothing

    pub row-stays : (row : Row) (s : TracedSystem) → row.transition.ending ≡ None
        → SuitsTransition s pid p id l row.transition
        → Stays s
        (with_process pid (with_counted row.did row.begun) (after_transition traced pid p id l row.transition s))
    unfolding after_transition with_lwp_of with_counted
    row-stays row s lives suits =
        let changes : TracedSystem = all_changed traced pid p id l row.transition.changes s in
        let moves : TracedSystem = with_process pid (with_lwp id (moved traced row.transition.move)) changes in
        let ends : TracedSystem = ended_if traced pid p id l row.transition.ending moves in
        stays-next s ends _
        (stays-next s moves ends
        (stays-next s changes moves (changes-stay row.transition.changes s suits.changes)
        (own-stays (with_lwp id (moved traced row.transition.move)) changes
        (λ x at. keeps-lwp id id (moved traced row.transition.move) x)))
        (stays-there moves ends (ap (λ o. process_of (ended_if traced pid p id l o moves) pid) lives)))
        (own-stays (with_counted row.did row.begun) ends (λ x at. keeps-ids id x _ refl (λ n. refl)))

    -- ---- a turn that ends its lwp or its process

    module _ (s : TracedSystem) (found : process_of s pid ≡ Some p) (there : lwp_of p id ≡ Some l)
        (none : has_agent p ≡ false) where
      not-agent : id ≢ agent_id
      not-agent is =
          false≢true (sym none
          ∙ subst (λ n. is_some (lwp_of p n) ≡ true) is (ap (λ (o : Option TracedLwp). is_some o) there))

      -- a zombie has no lwp
      process-no-agent : (status : ℕ) (q : TracedProcess)
          → process_of (with_this_ended traced pid p status s) pid ≡ Some q → has_agent q ≡ false
      unfolding with_this_ended zombie bare_process
      process-no-agent status q at =
          let z : TracedProcess = zombie traced status p in
          let first =
          under-map_each pid (orphaned pid) (change_under pid (zombie traced status) s.processes)
          ∙ ap (option_map (orphaned pid)) (under-change_under pid (zombie traced status) s.processes
          ∙ ap (option_map (zombie traced status)) found) in
          let gone = leaving-stays pid p status (buried pid p status s) in
          let it = gone.to (orphaned pid z) first in
          let kept = it.1.1 in
          let orphan = keeps-orphaned id pid z in
          subst (λ (y : TracedProcess). has_agent y ≡ false) (same_Some it.0 q (sym it.1.0
          ∙ at)) (kept.no_agent (orphan.no_agent refl))

      ending-no-agent : (how : Ending) (q : TracedProcess) → process_of (ended traced pid p id how s) pid ≡ Some q
          → has_agent q ≡ false
      unfolding ended with_lwp_ended with_process without_lwp
      ending-no-agent (ends_process status) q at = process-no-agent status q at
      ending-no-agent ends_lwp q at = by (length p.lwps == 1) refl at
        where
          by : (b : Bool) → (length p.lwps == 1) ≡ b
              → process_of
              (cond b (with_this_ended traced pid p 0 s) (with_process pid (without_lwp id) s)) pid ≡ Some q
              → has_agent q ≡ false
          by true is e = process-no-agent 0 q e
          by false is e =
              let same : without_lwp id p ≡ q =
              same_Some (without_lwp id p) q (sym (under-change_under pid (without_lwp id) s.processes
              ∙ ap (option_map (without_lwp id)) found) ∙ e) in
              subst (λ (y : TracedProcess). has_agent y ≡ false) same
              (ap (λ (o : Option TracedLwp). is_some o) (under-without_id_other id agent_id not-agent p.lwps)
              ∙ none)

-- ---- the turn

-- a process that is found and has not ended is live
pub live-by : (s : TracedSystem) (pid : ℕ) (q : TracedProcess) → process_of s pid ≡ Some q → q.ended ≡ None
    → live_process s pid ≡ Some q
unfolding live_process
live-by s pid q found live = ap (option_and_then if_live) found ∙ if-live-none q live

module _ (s : TracedSystem) (pid : ℕ) (p : TracedProcess) (id : ℕ) (l : TracedLwp) (h : IsLawfulSystem s)
    (live : live_process s pid ≡ Some p) (there : lwp_of p id ≡ Some l) where
  abbrev pub row : Row
  row = row_for s pid p id l

  abbrev pub counted_system : TracedSystem
  counted_system =
      with_process pid (with_counted row.did row.begun) (after_transition traced pid p id l row.transition s)

  pub suits-row : SuitsTransition s pid p id l row.transition
  suits-row = row-suits s pid p id l (acting s pid id p l h live there)

  -- what is found after a turn was found before the point was looked at
  pub settled-from : (q : TracedProcess) → process_of (settled s pid p id l row).system pid ≡ Some q
      → (x : TracedProcess) × ((process_of counted_system pid ≡ Some x) × (after_meeting row.point id x ≡ q))
  unfolding settled with_process
  settled-from q at =
      mapped-some (after_meeting row.point id) (process_of counted_system pid) q
      (sym (under-change_under pid (after_meeting row.point id) counted_system.processes) ∙ at)

  pub settled-to : (x : TracedProcess) → process_of counted_system pid ≡ Some x
      → process_of (settled s pid p id l row).system pid ≡ Some (after_meeting row.point id x)
  unfolding settled with_process
  settled-to x at =
      under-change_under pid (after_meeting row.point id) counted_system.processes
      ∙ ap (option_map (after_meeting row.point id)) at

  -- what it stood as before, where the turn ends nothing
  pub row-leaves : row.transition.ending ≡ None
      → (x : TracedProcess) × ((process_of counted_system pid ≡ Some x) × KeepsOwn id p x)
  row-leaves lives =
      let kept = row-stays pid id p l row s lives suits-row in
      kept.to p (found-live s pid p live).0

  -- an end of the lwp or of the process, and nothing else
  alone : (how : Ending) → row.transition.ending ≡ Some how
      → after_transition traced pid p id l row.transition s ≡ ended traced pid p id how s
  unfolding after_transition all_changed
  alone how is =
      let only = suits-row.alone how is in
      ap (λ o. ended_if traced pid p id l o
      (with_lwp_of pid id (moved traced row.transition.move)
      (all_changed traced pid p id l row.transition.changes s))) is
      ∙ ap (λ cs. ended traced pid p id how
      (with_lwp_of pid id (moved traced row.transition.move) (all_changed traced pid p id l cs s))) only.0
      ∙ ap (λ m. ended traced pid p id how (with_lwp_of pid id (moved traced m) s)) only.1
      ∙ ap (ended traced pid p id how) (stayed pid id s)

  counted-no-agent : has_agent p ≡ false → (o : Option Ending) → row.transition.ending ≡ o → (x : TracedProcess)
      → process_of counted_system pid ≡ Some x → has_agent x ≡ false
  unfolding with_process with_counted
  counted-no-agent none None is x found =
      let it = row-leaves is in
      let kept = it.1.1 in
      subst (λ (y : TracedProcess). has_agent y ≡ false) (same_Some it.0 x (sym it.1.0 ∙ found)) (kept.no_agent none)
  counted-no-agent none (Some how) is x found =
      let ends : TracedSystem = ended traced pid p id how s in
      let it =
      mapped-some (with_counted row.did row.begun) (process_of ends pid) x
      (sym (under-change_under pid (with_counted row.did row.begun) ends.processes)
      ∙ ap (λ (v : TracedSystem). under pid
      (change_under pid (with_counted row.did row.begun) v.processes)) (sym (alone how is)) ∙ found) in
      subst (λ (y : TracedProcess). has_agent y ≡ false) it.1.1
      (ending-no-agent pid id p l s (found-live s pid p live).0 there none how it.0 it.1.0)

  settled-no-agent : has_agent p ≡ false → (q : TracedProcess)
      → process_of (settled s pid p id l row).system pid ≡ Some q → has_agent q ≡ false
  settled-no-agent none q at =
      let x = settled-from q at in
      let meets = keeps-meeting id row.point x.0 in
      subst (λ (y : TracedProcess). has_agent y ≡ false) x.1.1
      (meets.no_agent (counted-no-agent none row.transition.ending refl x.0 x.1.0))

-- No turn of an lwp of a process without an agent makes one.
pub turn-no-agent : (s : TracedSystem) (pid : ℕ) (p : TracedProcess) (id : ℕ) (t : LwpTurn) → IsLawfulSystem s
    → live_process s pid ≡ Some p → turn_of s pid id ≡ Some t → has_agent p ≡ false → (q : TracedProcess)
    → live_process t.system pid ≡ Some q → has_agent q ≡ false
turn-no-agent s pid p id t h live turn none q after =
    let it = turn-taken s pid id t turn in
    let same : it.process ≡ p = same_Some it.process p (sym it.live ∙ live) in
    let there : lwp_of p id ≡ Some it.lwp = subst (λ (y : TracedProcess). lwp_of y id ≡ Some it.lwp) same it.there in
    let is : t ≡ settled s pid p id it.lwp (row_for s pid p id it.lwp) =
    it.is ∙ ap (λ (y : TracedProcess). settled s pid y id it.lwp (row_for s pid y id it.lwp)) same in
    settled-no-agent s pid p id it.lwp h live there none q (ap (λ (v : LwpTurn). process_of v.system pid) (sym is)
    ∙ (found-live t.system pid q after).0)
