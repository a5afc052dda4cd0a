use Rattle.std.proofs.Common.{◌≡◌, ◌==◌, ◌||◌, ◌&&◌, ◌+◌, ◌≢◌, ℕ, Bool, true, false, cond, is_some, None, Some, Option, List, [], ◌∷◌, length, refl, sym, subst, ap, ◌∙◌, inl, inr}
use Rattle.std.proofs.lemmas.Bool.{false≢true, cases_Bool, eqb-true, eqb-false}
use Rattle.std.proofs.lemmas.Option.{same_Some, none-some}
use Rattle.std.specs.Option.{option_map}
use Rattle.pr_num.proofs.ByIdLaws.{under-change_under, under-change_under_other, under-inserted, under-inserted_other, under-map_each, under-without_id, under-without_id_other, All-under}
use Rattle.pr_num.specs.ById.{IsRising, change_under, inserted, under, without_id}
use Rattle.pr_num.specs.Control.{async_mode, has_flags}
use Rattle.pr_num.specs.Files.{FileTable}
use Rattle.pr_num.specs.Programs.{Program}
use Rattle.pr_parts.specs.FileCalls.{with_all_shared}
use Rattle.pr_keeps.proofs.LoanLemmas.{lent-keeps}
use Rattle.pr_lawful.proofs.LawfulTurns.EndLemmas.{found-live}
use Rattle.pr_lawful.proofs.LawfulTurns.SuitingLemmas.{SuitChanges, SuitsChange, SuitsProgram, SuitsTransition, is_stop}
use Rattle.pr_lawful.proofs.LawfulTurns.TransitionLemmas.{stayed}
use Rattle.pr_lawful.proofs.LawfulTurns.TurnLemmas.{acting, row-suits}
use Rattle.pr_model.specs.Changes.{Change, changed, files_are, space_is, signals, signals_itself, takes_shared, job_stops, disposition_is, held_is, resumes, forks, reaps, becomes, makes_lwp, suspends, all_changed, ended, Ending, ends_process, ends_lwp, resumed, with_disposition_of, with_fds, with_held, with_job_stop, with_shared_taken, with_space, with_suspended}
use Rattle.pr_model.specs.Lives.{Birth, lent_to, with_lent, with_loan_back, forked, new_lwp, started, with_child, with_lwp_ended, with_made, with_reaped, with_new_lwp, with_program, without_lwp}
use Rattle.pr_model.specs.Lawful.{IsLawfulProcess, IsLawfulSystem}
use Rattle.pr_model.specs.LwpTurns.{LwpTurn, settled, turn_of, with_counted}
use Rattle.pr_model.specs.Machines.{call_over, exec_control, fault_incurred, fault_posted, no_marks, step_taken, traced}
use Rattle.pr_model.specs.Moves.{Move, moved, stops}
use Rattle.pr_model.specs.Points.{after_meeting, is_traced, meets, stop_at, stopped_at, with_others_directed, with_stop_at}
use Rattle.pr_model.specs.Rows.{Row, row_for}
use Rattle.pr_model.specs.Signals.{is_kill}
use Rattle.pr_model.specs.State.{TracedControl, TracedLwp, TracedProcess, TracedSystem, live_process, lwp_of, process_of, with_lwp, with_lwp_of, with_process, with_process_if}
use Rattle.pr_model.specs.Stops.{directed, with_all_directed}
use Rattle.pr_model.specs.Transitions.{Transition, after_transition, ended_if}
use Rattle.pr_model.specs.declared.lwps.LwpControl.{LwpControl}
use Rattle.pr_model.specs.declared.stops.Point.{Point}
use Rattle.pr_model.specs.declared.stops.Point.TheVariants.{Signal, Fault, Entry, Exit}
use Rattle.pr_truss_laws.proofs.Machine.FrameLemmas.{Spares, end-spares, generated-spares, lent-apart, loan_back-spares, made-spares, reaped-spares}
use Rattle.pr_truss_laws.specs.Stills.{HasNoStop, HasSameSettings, IsHalting, IsQuiet, IsUndisturbed, StandsOnEvent, will_stop}
use Rattle.pr_model.proofs.TurnLemmas.{turn-taken}

-- What a turn of one of its own lwps makes of a process.

-- ---- what is carried on

-- an lwp has the marks of an earlier one, or none
pub data Carries (p : TracedProcess) (id : ℕ) (k : TracedLwp) : Type 0 where
  new : HasNoStop k → Carries p id k
  old : (l : TracedLwp) → lwp_of p id ≡ Some l → k.control.stop ≡ l.control.stop
      → k.control.directed ≡ l.control.directed → Carries p id k

pub record GoesOn (p q : TracedProcess) : Type 0 where
  pub ended : q.ended ≡ p.ended
  pub settings : HasSameSettings p q
  pub lwps : (id : ℕ) (k : TracedLwp) → lwp_of q id ≡ Some k → Carries p id k

same-settings : (p : TracedProcess) → HasSameSettings p p
same-settings p = record { control = refl }

next-settings : (p q r : TracedProcess) → HasSameSettings p q → HasSameSettings q r → HasSameSettings p r
next-settings p q r one two =
    record {
      control = two.control
          ∙ ap (λ (c : TracedControl). record c { areas = r.control.areas; usage = r.control.usage }) one.control;
    }

goes_on-self : (p : TracedProcess) → GoesOn p p
goes_on-self p = record { ended = refl; settings = same-settings p; lwps = λ id k there. old k there refl refl }

carries-on : (p q : TracedProcess) (id : ℕ) (k : TracedLwp) → GoesOn p q → Carries q id k → Carries p id k
carries-on p q id k g (new none) = new none
carries-on p q id k g (old l there stop mark) = by (g.lwps id l there)
  where
    by : Carries p id l → Carries p id k
    by (new none) = new (record { no_stop = stop ∙ none.no_stop; not_directed = mark ∙ none.not_directed })
    by (old m was stop' mark') = old m was (stop ∙ stop') (mark ∙ mark')

goes_on-next : (p q r : TracedProcess) → GoesOn p q → GoesOn q r → GoesOn p r
goes_on-next p q r one two = record {
  ended = two.ended ∙ one.ended;
  settings = next-settings p q r one.settings two.settings;
  lwps = λ id k there. carries-on p q id k one (two.lwps id k there);
}

goes_on-undisturbed : (p q : TracedProcess) → IsUndisturbed p q → GoesOn p q
goes_on-undisturbed p q u = record {
  ended = ap (λ (x : TracedProcess). x.ended) u.rest;
  settings =
      record {
        control = ap (λ (x : TracedProcess). x.control) u.rest
            ∙ sym (ap (λ (c : TracedControl). record p.control { areas = c.areas; usage = c.usage })
            (ap (λ (x : TracedProcess). x.control) u.rest));
      };
  lwps =
      λ id k there. let l =
      u.each id k there in old l.0 l.1.0 (ap (λ (x : TracedLwp). x.control.stop) l.1.1)
      (ap (λ (x : TracedLwp). x.control.directed) l.1.1);
}

-- where neither the settings nor the lwps change
goes_on-same : (p q : TracedProcess) → q.ended ≡ p.ended → q.control ≡ p.control → q.lwps ≡ p.lwps → GoesOn p q
goes_on-same p q ended control lwps = record {
  ended = ended;
  settings =
      record {
        control = control
            ∙ sym (ap (λ (c : TracedControl). record p.control { areas = c.areas; usage = c.usage }) control);
      };
  lwps = λ id k there. old k (ap (under id) (sym lwps) ∙ there) refl refl;
}

-- where one lwp changes, but for its stop and its directive
carried : (f : TracedLwp → TracedLwp) → ((l : TracedLwp) → (f l).control.stop ≡ l.control.stop)
    → ((l : TracedLwp) → (f l).control.directed ≡ l.control.directed) → (p : TracedProcess) (id : ℕ) (k : TracedLwp)
    → (o : Option TracedLwp) → lwp_of p id ≡ o → option_map f o ≡ Some k → Carries p id k
carried f stop mark p id k None there is = absurd (none-some k is)
carried f stop mark p id k (Some l) there is =
    old l there (ap (λ (x : TracedLwp). x.control.stop) (sym (same_Some (f l) k is))
    ∙ stop l) (ap (λ (x : TracedLwp). x.control.directed) (sym (same_Some (f l) k is)) ∙ mark l)

goes_on-lwp : (target : ℕ) (f : TracedLwp → TracedLwp) → ((l : TracedLwp) → (f l).control.stop ≡ l.control.stop)
    → ((l : TracedLwp) → (f l).control.directed ≡ l.control.directed) → (p : TracedProcess)
    → GoesOn p (with_lwp target f p)
unfolding with_lwp
goes_on-lwp target f stop mark p = record {
  ended = refl;
  settings = record { control = refl };
  lwps =
      λ id k there. elim
      (cases_Bool (target == id)) [
        | inl same ↦ own id k (eqb-true target id same) there
        | inr not_same ↦ old k
            (sym (under-change_under_other target id f (eqb-false target id not_same) p.lwps) ∙ there) refl refl
      ];
}
  where
    own : (id : ℕ) (k : TracedLwp) → target ≡ id → under id (change_under target f p.lwps) ≡ Some k → Carries p id k
    own id k same there =
        carried f stop mark p id k (lwp_of p id) refl (sym (under-change_under id f p.lwps)
        ∙ subst (λ n. under id (change_under n f p.lwps) ≡ Some k) same there)

-- ---- what changes make of the process itself

new-carries : (p : TracedProcess) (id : ℕ) (regs : List ℕ) (held : ℕ)
    → Carries p id (new_lwp traced regs held (no_marks false))
unfolding new_lwp no_marks
new-carries p id regs held = new (record { no_stop = refl; not_directed = refl })

goes_on-new : (fresh held : ℕ) (regs : List ℕ) (p : TracedProcess) → GoesOn p (with_new_lwp traced fresh regs held p)
unfolding with_new_lwp traced
goes_on-new fresh held regs p = elim (is_some (lwp_of p fresh)) as
    (λ b. GoesOn p
    (cond b p
    (record p {
      next_lwp = fresh + 1;
      lwps = inserted fresh
          (new_lwp traced regs held
          (no_marks false)) p.lwps;
    }))) [
      | true ↦ goes_on-self p
      | false ↦ record {
        ended = refl;
        settings = record { control = refl };
        lwps = λ
            id k there. elim (cases_Bool (fresh == id)) [
              | inl same ↦ own id k (eqb-true fresh id same) there
              | inr
                  not_same ↦ old k (sym
                  (under-inserted_other fresh id (new_lwp traced regs held (no_marks false)) (eqb-false fresh id
                  not_same)
                  p.lwps) ∙ there) refl refl
            ];
      }
    ]
  where
    own : (id : ℕ) (k : TracedLwp) → fresh ≡ id
        → under id (inserted fresh (new_lwp traced regs held (no_marks false)) p.lwps) ≡ Some k → Carries p id k
    own id k same there =
        let is : new_lwp traced regs held (no_marks false) ≡ k =
        same_Some _ k (sym (under-inserted fresh (new_lwp traced regs held (no_marks false)) p.lwps)
        ∙ subst (λ n. under n (inserted fresh (new_lwp traced regs held (no_marks false)) p.lwps) ≡ Some k)
        (sym same) there) in
        subst (Carries p id) is (new-carries p id regs held)

module _ (id : ℕ) (l : TracedLwp) where
  -- a process that runs another program keeps the one lwp, which made the call, with its marks
  goes_on-program : (program : _) (p : TracedProcess)
      → ((k : TracedLwp) → lwp_of p id ≡ Some k → (k.control.stop ≡ l.control.stop) ×
      (k.control.directed ≡ l.control.directed)) → is_some (lwp_of p id) ≡ true → GoesOn p
      (with_program traced id l program p)
  unfolding with_program traced exec_control started
  goes_on-program program p marks stands = record {
    ended = refl;
    settings = record { control = refl };
    lwps = λ own k there. by own k (id == own) refl there;
  }
    where
      found : (o : Option TracedLwp) → lwp_of p id ≡ o → is_some o ≡ true → (k : TracedLwp) → k.control ≡ l.control
          → Carries p id k
      found None there some k same = cc
      found (Some m) there some k same =
          let its = marks m there in
          old m there (ap (λ (c : LwpControl). c.stop) same ∙ sym its.0) (ap (λ (c : LwpControl). c.directed) same
          ∙ sym its.1)

      by : (own : ℕ) (k : TracedLwp) (b : Bool) → (id == own) ≡ b → cond b (Some (started traced l)) None ≡ Some k
          → Carries p own k
      by own k true is e =
          subst (λ n. Carries p n k) (eqb-true id own is)
          (found (lwp_of p id) refl stands k
          (ap (λ (x : TracedLwp). x.control) (sym (same_Some (started traced l) k e))))
      by own k false is e = absurd (none-some k e)

-- ---- systems

module _ (pid : ℕ) where
  -- the process of this id, where it lives later, lived before and went on
  pub record Carried (s u : TracedSystem) : Type 0 where
    pub from : (q : TracedProcess) → process_of u pid ≡ Some q → q.ended ≡ None
        → (p : TracedProcess) × ((process_of s pid ≡ Some p) × GoesOn p q)

  carried-same : (s : TracedSystem) → Carried s s
  carried-same s = record { from = λ q there live. (q, (there, goes_on-self q)) }

  carried-next : (s u v : TracedSystem) → Carried s u → Carried u v → Carried s v
  carried-next s u v one two = record {
    from = λ r there live.
        let b = two.from r there live in
        let a = one.from b.0 b.1.0 (sym b.1.1.ended ∙ live) in
        (a.0, (a.1.0, goes_on-next a.0 b.0 r a.1.1 b.1.1));
  }

  carried-spared : (s u : TracedSystem) → Spares pid s u → Carried s u
  carried-spared s u sp =
      record { from = λ q there live. let a = sp.from q there live in (a.0, (a.1.0, goes_on-undisturbed a.0 q a.1.1)) }

  carried-if : (b : Bool) (s u v : TracedSystem) → Carried s u → Carried s v → Carried s (cond b u v)
  carried-if true s u v p q = p
  carried-if false s u v p q = q

  mapped-on : (f : TracedProcess → TracedProcess) (o : Option TracedProcess) (q : TracedProcess)
      → ((x : TracedProcess) → o ≡ Some x → GoesOn x (f x)) → option_map f o ≡ Some q
      → (p : TracedProcess) × ((o ≡ Some p) × GoesOn p q)
  mapped-on f None q goes is = absurd (none-some q is)
  mapped-on f (Some p) q goes is = (p, (refl, subst (GoesOn p) (same_Some (f p) q is) (goes p refl)))

  own-carried : (f : TracedProcess → TracedProcess) (s : TracedSystem)
      → ((x : TracedProcess) → process_of s pid ≡ Some x → GoesOn x (f x)) → Carried s (with_process pid f s)
  unfolding with_process
  own-carried f s goes =
      record {
        from = λ q there live. mapped-on f (process_of s pid) q goes (sym (under-change_under pid f s.processes)
            ∙ there);
      }

  files-carried : (files : FileTable) (s : TracedSystem) → Carried s (record s { files = files })
  files-carried files s = record { from = λ q there live. (q, (there, goes_on-self q)) }

  module _ (p : TracedProcess) (id : ℕ) (l : TracedLwp) where
    program-carried : (program : Program) (s : TracedSystem) → SuitsProgram s pid p id l program
        → Carried s
        (with_process_if p.lender (with_loan_back pid p) (with_process pid (with_program traced id l program) s))
    program-carried program s suits =
        let run : TracedSystem = with_process pid (with_program traced id l program) s in
        carried-next s run _ (own-carried (with_program traced id l program) s (λ x there.
        let same : p ≡ x = same_Some p x (sym suits.found ∙ there) in
        let stands : lwp_of x id ≡ Some l = subst (λ (y : TracedProcess). lwp_of y id ≡ Some l) same suits.there in
        goes_on-program id l program x (λ k at. let is : k ≡ l = same_Some k l (sym at
        ∙ stands) in (ap (λ (y : TracedLwp). y.control.stop) is, ap (λ (y : TracedLwp). y.control.directed) is))
        (ap (λ o. is_some o) stands))) (carried-spared run _ (loan_back-spares pid pid p run))

    child-carried : (birth : Birth) (args : List ℕ) (s : TracedSystem)
        → Carried s (cond (s.made == pid) s (with_child traced birth pid p l args s))
    unfolding with_child lent_to
    child-carried birth args s = by (s.made == pid) refl
      where
        shared : TracedSystem
        shared = record s { files = with_all_shared s.files p.fds }

        lent : TracedSystem
        lent = with_lent birth pid s.made shared

        child : TracedProcess
        child = forked traced birth pid p l args s.clock

        lent-carried : Carried s lent
        lent-carried =
            lent-keeps (Carried s) birth pid s.made
            (λ u before. carried-next s u _ before (own-carried (lent_to s.made) u
            (λ x at. goes_on-same x (lent_to s.made x) refl refl refl))) shared
            (files-carried (with_all_shared s.files p.fds) s)

        by : (b : Bool) → (s.made == pid) ≡ b → Carried s (cond b s (with_made child lent))
        by true is = carried-same s
        by false is =
            let apart : lent.made ≢ pid = lent-apart pid birth pid s.made shared (eqb-false s.made pid is) in
            carried-next s lent _ lent-carried (carried-spared lent _ (made-spares pid child lent apart))

    reaped-carried : (child : ℕ) (s : TracedSystem) → Carried s (cond (child == pid) s (with_reaped child s))
    reaped-carried child s = by (child == pid) refl
      where
        by : (b : Bool) → (child == pid) ≡ b → Carried s (cond b s (with_reaped child s))
        by true is = carried-same s
        by false is = carried-spared s _ (reaped-spares pid child s (eqb-false child pid is))

    change-carries : (c : Change) (s : TracedSystem) → SuitsChange pid p id l s c
        → Carried s (changed traced pid p id l c s)
    unfolding changed with_fds with_space with_shared_taken with_job_stop with_disposition_of with_held resumed
        with_suspended
    change-carries (files_are files fds) s suits =
        carried-next s (record s { files = files }) _ (files-carried files s)
        (own-carried (with_fds fds) (record s { files = files })
        (λ x at. goes_on-same x (with_fds fds x) refl refl refl))
    change-carries (space_is space) s suits =
        own-carried (with_space space) s (λ x at. goes_on-same x (with_space space x) refl refl refl)
    change-carries (signals target g info) s suits =
        carried-if (is_kill g && (target == pid)) s s _ (carried-same s)
        (carried-spared s _ (generated-spares pid target None g info s))
    change-carries (signals_itself g info) s suits =
        carried-if (is_kill g) s s _ (carried-same s) (carried-spared s _ (generated-spares pid pid (Some id) g info s))
    change-carries (takes_shared g) s suits =
        own-carried (with_shared_taken g) s (λ x at. goes_on-same x (with_shared_taken g x) refl refl refl)
    change-carries (job_stops g) s suits =
        own-carried (with_job_stop g) s (λ x at. goes_on-same x (with_job_stop g x) refl refl refl)
    change-carries (disposition_is g d) s suits =
        own-carried (with_disposition_of g d) s (λ x at. goes_on-same x (with_disposition_of g d x) refl refl refl)
    change-carries (held_is held) s suits =
        own-carried (with_lwp id (with_held held)) s (λ x at. goes_on-lwp id (with_held held) (λ k. refl) (λ k. refl) x)
    change-carries (resumes frame frames) s suits =
        own-carried (with_lwp id (resumed frame frames)) s
        (λ x at. goes_on-lwp id (resumed frame frames) (λ k. refl) (λ k. refl) x)
    change-carries (forks birth args) s suits = child-carried birth args s
    change-carries (reaps child) s suits = reaped-carried child s
    change-carries (becomes program) s suits = program-carried program s suits
    change-carries (makes_lwp fresh regs held) s suits =
        own-carried (with_new_lwp traced fresh regs held) s (λ x at. goes_on-new fresh held regs x)
    change-carries (suspends target suspended) s suits =
        own-carried (with_lwp target (with_suspended suspended)) s
        (λ x at. goes_on-lwp target (with_suspended suspended) (λ k. refl) (λ k. refl) x)

    pub changes-carry : (cs : List Change) (s : TracedSystem) → SuitChanges pid p id l s cs
        → Carried s (all_changed traced pid p id l cs s)
    unfolding all_changed
    changes-carry [] s suits = carried-same s
    changes-carry (c ∷ cs) s suits =
        let next : TracedSystem = changed traced pid p id l c s in
        carried-next s next _ (change-carries c s suits.0) (changes-carry cs next suits.1)

    -- ---- the move, the end, the counts

    moved-stop : (m : Move) (k : TracedLwp) → is_stop m ≡ false
        → ((moved traced m k).control.stop ≡ k.control.stop) ×
        ((moved traced m k).control.directed ≡ k.control.directed)
    unfolding moved traced fault_posted fault_incurred step_taken call_over
    moved-stop stops k not_stop = cc
    moved-stop _ k not_stop = (refl, refl)

    -- where ids rise an lwp that ends is gone
    goes_on-without : (x : TracedProcess) → IsRising x.lwps → GoesOn x (without_lwp id x)
    unfolding without_lwp
    goes_on-without x rises = record {
      ended = refl;
      settings = record { control = refl };
      lwps =
          λ own k there. elim
          (cases_Bool (id == own)) [
            | inl same ↦ absurd (none-some k (sym (under-without_id 0 own x.lwps rises)
                ∙ subst (λ n. under own (without_id n x.lwps) ≡ Some k)
                (eqb-true id own same) there))
            | inr not_same ↦ old k
                (sym (under-without_id_other id own (eqb-false id own not_same) x.lwps) ∙ there) refl refl
          ];
    }

    ended-carries : (how : Option Ending) (s : TracedSystem)
        → ((x : TracedProcess) (e : Ending) → how ≡ Some e → process_of s pid ≡ Some x → IsRising x.lwps)
        → Carried s (ended_if traced pid p id l how s)
    unfolding ended with_lwp_ended
    ended-carries None s rises = carried-same s
    ended-carries (Some (ends_process status)) s rises = carried-spared s _ (end-spares pid pid p status s)
    ended-carries (Some ends_lwp) s rises =
        carried-if (length p.lwps == 1) s _ _ (carried-spared s _ (end-spares pid pid p 0 s))
        (own-carried (without_lwp id) s (λ x at. goes_on-without x (rises x ends_lwp refl at)))

    -- what ends its lwp changes nothing else
    end-rises : (t : Transition) (s : TracedSystem) → IsLawfulSystem s → SuitsTransition s pid p id l t
        → (x : TracedProcess) (e : Ending) → t.ending ≡ Some e
        → process_of
        (with_lwp_of pid id (moved traced t.move) (all_changed traced pid p id l t.changes s)) pid ≡ Some x
        → IsRising x.lwps
    unfolding all_changed
    end-rises t s h suits x e is at =
        let alone = suits.alone e is in
        let same : with_lwp_of pid id (moved traced t.move) (all_changed traced pid p id l t.changes s) ≡ s =
        ap (λ cs. with_lwp_of pid id (moved traced t.move) (all_changed traced pid p id l cs s)) alone.0
        ∙ ap (λ m. with_lwp_of pid id (moved traced m) s) alone.1 ∙ stayed pid id s in
        let own =
        All-under IsLawfulProcess pid x s.processes h.processes
        (ap (λ (v : TracedSystem). process_of v pid) (sym same) ∙ at) in
        own.rising

    pub row-carries : (row : Row) (s : TracedSystem) → IsLawfulSystem s → is_stop row.transition.move ≡ false
        → SuitsTransition s pid p id l row.transition
        → Carried s
        (with_process pid (with_counted row.did row.begun) (after_transition traced pid p id l row.transition s))
    unfolding after_transition with_lwp_of with_counted
    row-carries row s h not_stop suits =
        let t : Transition = row.transition in
        let changes : TracedSystem = all_changed traced pid p id l t.changes s in
        let moves : TracedSystem = with_process pid (with_lwp id (moved traced t.move)) changes in
        let ends : TracedSystem = ended_if traced pid p id l t.ending moves in
        let one =
        carried-next s changes moves (changes-carry t.changes s suits.changes)
        (own-carried (with_lwp id (moved traced t.move)) changes
        (λ x at. goes_on-lwp id (moved traced t.move) (λ k. (moved-stop t.move k not_stop).0)
        (λ k. (moved-stop t.move k not_stop).1) x)) in
        let two = carried-next s moves ends one (ended-carries t.ending moves (end-rises t s h suits)) in
        carried-next s ends _ two (own-carried (with_counted row.did row.begun) ends (λ x at. counted-on row x))
      where
        counted-on : (r : Row) (x : TracedProcess) → GoesOn x (with_counted r.did r.begun x)
        counted-on r x = record {
          ended = refl;
          settings = record { control = refl };
          lwps = λ own k there. old k there refl refl;
        }

-- ---- the point that was met

pub traced-same : (p q : TracedProcess) → HasSameSettings p q → (pt : Point)
    → is_traced q.control pt ≡ is_traced p.control pt
unfolding is_traced
traced-same p q same (Signal g) = ap (λ (c : TracedControl). is_traced c (Signal g)) same.control
traced-same p q same (Fault f) = ap (λ (c : TracedControl). is_traced c (Fault f)) same.control
traced-same p q same (Entry c) = ap (λ (x : TracedControl). is_traced x (Entry c)) same.control
traced-same p q same (Exit c) = ap (λ (x : TracedControl). is_traced x (Exit c)) same.control

quiet-on : (p q : TracedProcess) → GoesOn p q → IsQuiet p → IsQuiet q
quiet-on p q g quiet = record { each = λ id k there. by id k (g.lwps id k there) }
  where
    by : (id : ℕ) (k : TracedLwp) → Carries p id k → HasNoStop k
    by id k (new none) = none
    by id k (old l there stop mark) =
        let n = quiet.each id l there in
        record { no_stop = stop ∙ n.no_stop; not_directed = mark ∙ n.not_directed }

-- an lwp that was directed will stop
or-true : (a : Bool) → (a || true) ≡ true
or-true true = refl
or-true false = refl

directed-stops : (l : TracedLwp) → will_stop (directed l) ≡ true
unfolding directed
directed-stops l = by (is_some l.control.stop) refl
  where
    by : (b : Bool) → is_some l.control.stop ≡ b
        → will_stop (cond b l (record l { control = record l.control { directed = true } })) ≡ true
    by true is = rw is refl
    by false is = or-true (is_some l.control.stop || l.suspended)

pub all-directed : (x : TracedProcess) → IsHalting (with_all_directed x)
unfolding with_all_directed
all-directed x =
    record { each = λ id k there. by (under id x.lwps) k (sym (under-map_each id directed x.lwps) ∙ there) }
  where
    by : (o : Option TracedLwp) (k : TracedLwp) → option_map directed o ≡ Some k → will_stop k ≡ true
    by None k is = absurd (none-some k is)
    by (Some l) k is = subst (λ (y : TracedLwp). will_stop y ≡ true) (same_Some (directed l) k is) (directed-stops l)

-- the lwp that met the point stands on its event, also after all are directed
met-stands : (pt : Point) (l : TracedLwp) → StandsOnEvent (directed (stopped_at pt l))
unfolding directed stopped_at
met-stands (Signal g) l = record { stop = stop_at (Signal g); is = refl; met = refl }
met-stands (Fault f) l = record { stop = stop_at (Fault f); is = refl; met = refl }
met-stands (Entry c) l = record { stop = stop_at (Entry c); is = refl; met = refl }
met-stands (Exit c) l = record { stop = stop_at (Exit c); is = refl; met = refl }

module _ (pt : Point) (id : ℕ) (x : TracedProcess) where
  -- without PR_ASYNC
  halted : TracedProcess
  halted = with_all_directed (with_lwp id (stopped_at pt) x)

  stop-is : has_flags x.control.modes async_mode ≡ false
      → with_stop_at pt id x ≡ with_all_directed (with_lwp id (stopped_at pt) x)
  unfolding with_stop_at with_others_directed with_lwp
  stop-is off = rw off refl

  halted-on : GoesOn x x → HasSameSettings x (with_all_directed (with_lwp id (stopped_at pt) x))
  unfolding with_all_directed with_lwp
  halted-on g = record { control = refl }

  halted-stands : (l : TracedLwp) → lwp_of (with_all_directed (with_lwp id (stopped_at pt) x)) id ≡ Some l
      → StandsOnEvent l
  unfolding with_all_directed with_lwp
  halted-stands l there =
      by (lwp_of x id) (ap (option_map directed) (sym (under-change_under id (stopped_at pt) x.lwps))
      ∙ sym (under-map_each id directed (change_under id (stopped_at pt) x.lwps)) ∙ there)
    where
      by : (o : Option TracedLwp) → option_map directed (option_map (stopped_at pt) o) ≡ Some l → StandsOnEvent l
      by None is = absurd (none-some l is)
      by (Some k) is = subst StandsOnEvent (same_Some (directed (stopped_at pt k)) l is) (met-stands pt k)

-- where a point was met, lwps stop and are directed, and no more
pub meeting-same : {X : Type 0} (view : TracedProcess → X)
    → ((y : TracedProcess) (es : List (ℕ × TracedLwp)) → view (record y { lwps = es }) ≡ view y)
    → (point : Option Point) (id : ℕ) (x : TracedProcess) → view (after_meeting point id x) ≡ view x
unfolding after_meeting with_stop_at with_others_directed with_lwp with_all_directed
meeting-same {X} view hides None id x = refl
meeting-same {X} view hides (Some pt) id x =
    elim (is_traced x.control pt) as (λ b. view (cond b (with_stop_at pt id x) x) ≡ view x) [
      | true ↦ elim (has_flags x.control.modes async_mode) as
          (λ b. view (cond b (with_lwp id (stopped_at pt) x) (with_all_directed (with_lwp id (stopped_at pt) x))) ≡
          view x) [
            | true ↦ hides x _
            | false ↦ hides x _
          ]
      | false ↦ refl
    ]

-- ---- a turn of a quiet process

pub data AfterTurn (p : TracedProcess) (id : ℕ) (stop : Bool) (q : TracedProcess) : Type 0 where
  quiet : stop ≡ false → IsQuiet q → HasSameSettings p q → AfterTurn p id stop q
  met : stop ≡ true → IsHalting q → HasSameSettings p q → ((l : TracedLwp) → lwp_of q id ≡ Some l → StandsOnEvent l)
      → AfterTurn p id stop q

after-point : (p x : TracedProcess) (id : ℕ) (point : Option Point) → GoesOn p x → IsQuiet p
    → has_flags p.control.modes async_mode ≡ false → AfterTurn p id (meets p.control point) (after_meeting point id x)
unfolding after_meeting
after-point p x id None g still off = quiet refl (quiet-on p x g still) g.settings
after-point p x id (Some pt) g still off = by (is_traced x.control pt) refl
  where
    same : is_traced x.control pt ≡ is_traced p.control pt
    same = traced-same p x g.settings pt

    off-too : has_flags x.control.modes async_mode ≡ false
    off-too = ap (λ (c : TracedControl). has_flags c.modes async_mode) g.settings.control ∙ off

    by : (b : Bool) → is_traced x.control pt ≡ b
        → AfterTurn p id (is_traced p.control pt) (cond b (with_stop_at pt id x) x)
    by false is = quiet (sym same ∙ is) (quiet-on p x g still) g.settings
    by true is =
        let h : TracedProcess = with_all_directed (with_lwp id (stopped_at pt) x) in
        subst (λ (q : TracedProcess). AfterTurn p id (is_traced p.control pt) q) (sym (stop-is pt id x off-too))
        (met (sym same
        ∙ is) (all-directed (with_lwp id (stopped_at pt) x))
        (next-settings p x h g.settings (halted-on pt id x (goes_on-self x))) (halted-stands pt id x))

module _ (s : TracedSystem) (pid : ℕ) (p : TracedProcess) (id : ℕ) (t : LwpTurn) (h : IsLawfulSystem s)
    (live : live_process s pid ≡ Some p) (still : IsQuiet p) (off : has_flags p.control.modes async_mode ≡ false)
    (turn : turn_of s pid id ≡ Some t) where
  -- no lwp of a quiet process stops as directed
  no-request : (l : TracedLwp) (tr : Transition) → lwp_of p id ≡ Some l → SuitsTransition s pid p id l tr
      → is_stop tr.move ≡ false
  no-request l tr there suits =
      elim (cases_Bool (is_stop tr.move)) [
        | inl is ↦ absurd
            (false≢true (sym (let n = still.each id l there in n.not_directed)
            ∙ (suits.stop is).0))
        | inr not_stop ↦ not_stop
      ]

  -- the system before the point is looked at
  counted_system : TracedLwp → Row → TracedSystem
  counted_system l row =
      with_process pid (with_counted row.did row.begun) (after_transition traced pid p id l row.transition s)

  carried-before : (l : TracedLwp) (row : Row) → lwp_of p id ≡ Some l → SuitsTransition s pid p id l row.transition
      → Carried pid s (counted_system l row)
  unfolding counted_system
  carried-before l row there suits = row-carries pid p id l row s h (no-request l row.transition there suits) suits

  from-point : (l : TracedLwp) (row : Row) (q x : TracedProcess) → lwp_of p id ≡ Some l
      → SuitsTransition s pid p id l row.transition → process_of (counted_system l row) pid ≡ Some x
      → after_meeting row.point id x ≡ q → q.ended ≡ None → AfterTurn p id (meets p.control row.point) q
  from-point l row q x there suits at is over =
      let c = carried-before l row there suits in
      let same = meeting-same (λ (y : TracedProcess). y.ended) (λ y es. refl) row.point id x in
      let a = c.from x at (sym same ∙ ap (λ (y : TracedProcess). y.ended) is ∙ over) in
      let was = found-live s pid p live in
      let g : GoesOn p x = subst (λ (y : TracedProcess). GoesOn y x) (same_Some a.0 p (sym a.1.0 ∙ was.0)) a.1.1 in
      subst (AfterTurn p id (meets p.control row.point)) is (after-point p x id row.point g still off)

  by-place : (l : TracedLwp) (row : Row) (q : TracedProcess) → lwp_of p id ≡ Some l
      → SuitsTransition s pid p id l row.transition → (o : Option TracedProcess)
      → process_of (counted_system l row) pid ≡ o → option_map (after_meeting row.point id) o ≡ Some q → q.ended ≡ None
      → AfterTurn p id (meets p.control row.point) q
  by-place l row q there suits None at is over = absurd (none-some q is)
  by-place l row q there suits (Some x) at is over =
      from-point l row q x there suits at (same_Some (after_meeting row.point id x) q is) over

  settled-found : (l : TracedLwp) (row : Row) (q : TracedProcess)
      → process_of (settled s pid p id l row).system pid ≡ Some q
      → option_map (after_meeting row.point id) (process_of (counted_system l row) pid) ≡ Some q
  unfolding settled with_process counted_system
  settled-found l row q at =
      sym (under-change_under pid (after_meeting row.point id) (counted_system l row).processes) ∙ at

  settled-stop : (l : TracedLwp) (row : Row) → (settled s pid p id l row).turned.stop ≡ meets p.control row.point
  unfolding settled
  settled-stop l row = refl

  settled-after : (l : TracedLwp) (row : Row) (q : TracedProcess) → lwp_of p id ≡ Some l
      → SuitsTransition s pid p id l row.transition → live_process (settled s pid p id l row).system pid ≡ Some q
      → AfterTurn p id (settled s pid p id l row).turned.stop q
  settled-after l row q there suits after =
      let now = found-live (settled s pid p id l row).system pid q after in
      subst (λ b. AfterTurn p id b q) (sym (settled-stop l row))
      (by-place l row q there suits (process_of (counted_system l row) pid) refl
      (settled-found l row q now.0) now.1)

  turn-after : (q : TracedProcess) → live_process t.system pid ≡ Some q → AfterTurn p id t.turned.stop q
  turn-after q after =
      let it = turn-taken s pid id t turn in
      let same : it.process ≡ p = same_Some it.process p (sym it.live ∙ live) in
      let there : lwp_of p id ≡ Some it.lwp = subst (λ (y : TracedProcess). lwp_of y id ≡ Some it.lwp) same it.there in
      let is : t ≡ settled s pid p id it.lwp (row_for s pid p id it.lwp) =
      it.is ∙ ap (λ (y : TracedProcess). settled s pid y id it.lwp (row_for s pid y id it.lwp)) same in
      let suits = row-suits s pid p id it.lwp (acting s pid id p it.lwp h live there) in
      subst (λ (v : LwpTurn). AfterTurn p id v.turned.stop q) (sym is)
      (settled-after it.lwp (row_for s pid p id it.lwp) q there suits
      (ap (λ (v : LwpTurn). live_process v.system pid) (sym is) ∙ after))

  pub quiet-stays : (q : TracedProcess) → live_process t.system pid ≡ Some q → t.turned.stop ≡ false → IsQuiet q
  quiet-stays q after stop = by (turn-after q after)
    where
      by : AfterTurn p id t.turned.stop q → IsQuiet q
      by (quiet is its same) = its
      by (met is halting same stands) = absurd (false≢true (sym stop ∙ is))

  pub quiet-halts : (q : TracedProcess) → live_process t.system pid ≡ Some q → t.turned.stop ≡ true → IsHalting q
  quiet-halts q after stop = by (turn-after q after)
    where
      by : AfterTurn p id t.turned.stop q → IsHalting q
      by (quiet is its same) = absurd (false≢true (sym is ∙ stop))
      by (met is halting same stands) = halting

  pub quiet-stands : (q : TracedProcess) (l : TracedLwp) → live_process t.system pid ≡ Some q → t.turned.stop ≡ true
      → lwp_of q id ≡ Some l → StandsOnEvent l
  quiet-stands q l after stop there = by (turn-after q after)
    where
      by : AfterTurn p id t.turned.stop q → StandsOnEvent l
      by (quiet is its same) = absurd (false≢true (sym is ∙ stop))
      by (met is halting same stands) = stands l there

  pub quiet-settings : (q : TracedProcess) → live_process t.system pid ≡ Some q → HasSameSettings p q
  quiet-settings q after = by (turn-after q after)
    where
      by : AfterTurn p id t.turned.stop q → HasSameSettings p q
      by (quiet is its same) = same
      by (met is halting same stands) = same

pub ruleset quiets = (quiet-stays, quiet-halts, quiet-stands, quiet-settings)
