use Rattle.std.proofs.Common.{◌≡◌, ◌==◌, ◌<◌, ℕ, suc, true, false, None, Some, Option, length, refl, sym, subst, ap, ◌∙◌, arith, inl, inr}
use Rattle.std.proofs.lemmas.Bool.{eq-eqb, eqb-true, false≢true}
use Rattle.std.proofs.lemmas.Option.{none-some, same_Some}
use Rattle.pr_lawful.proofs.ProcessParts.HandleLemmas.{handle-at}
use Rattle.pr_line.specs.declared.options.Options.{Options}
use Rattle.pr_model.specs.Calls.{Answer, answer_to}
use Rattle.pr_model.specs.Handles.{handle_of}
use Rattle.pr_model.specs.Legal.{IsLegalEntry, after}
use Rattle.pr_model.specs.State.{TracedProcess, TracedState, live_process}
use Rattle.pr_model.specs.declared.calls.Call.{Call}
use Rattle.pr_model.specs.declared.calls.File.TheVariants as file
use Rattle.pr_model.specs.declared.calls.Mode.TheVariants.{WriteExcl}
use Rattle.pr_model.specs.declared.events.Act.TheVariants as act
use Rattle.pr_model.specs.declared.events.Actor.TheVariants.{Controller}
use Rattle.pr_model.specs.declared.events.Entry.{Entry}
use Rattle.pr_model.specs.declared.handles.Held.{Held}
use Rattle.pr_truss.specs.NextCalls.{call_of, child_call, next_call_of, opening_call, run_call}
use Rattle.pr_truss.specs.Replies.{answer_of}
use Rattle.pr_truss.specs.Trusses.{TrussState, traced_at}
use Rattle.pr_truss.specs.declared.replies.Answer.TheVariants.{Accepted}
use Rattle.pr_truss.specs.declared.stages.ChildStep.TheVariants as child
use Rattle.pr_truss.specs.declared.stages.OpeningStep.TheVariants as opening
use Rattle.pr_truss.specs.declared.stages.Stage.{Stage}
use Rattle.pr_truss.specs.declared.stages.Stage.TheVariants.{Opening, OpeningChild, Running}
use Rattle.pr_truss_laws.proofs.Files.OpensLemmas.{held_by}
use Rattle.pr_truss_laws.specs.Stills.{IsQuiet, IsUndisturbed}
use Rattle.pr_report_laws.proofs.UnopenedChildren.Claims.{IsDone, runs}
use Rattle.pr_report_laws.proofs.UnopenedChildren.ClaimStands.{IsStanding, stood-at}
use Rattle.pr_report_laws.proofs.UnopenedChildren.ClaimReach.{Reaches, reaches}
use Rattle.pr_report_laws.proofs.Invariant.Tallies.{Tally}
use Rattle.pr_report_laws.proofs.Invariant.EntrySteps.{made-at}
use Rattle.pr_report_laws.proofs.Files.FileUses as uses
use Rattle.pr_truss_laws.proofs.Machine.OutlastLemmas.{Outlasts, killed, lives, own-call-elsewhere}
use Rattle.pr_report_laws.proofs.Machine.OpeningFacts.{opening-done}
use Rattle.pr_report_laws.proofs.Replies.OpeningParts.{HasStarted, IsStepDone}
use Rattle.pr_truss_laws.proofs.Machine.OverLemmas.{stays-over}
use Rattle.pr_report_laws.proofs.Invariant.OwnCalls.{Misses}
use Rattle.pr_report_laws.proofs.Replies.OwnLooks.{IsCall}
use Rattle.pr_report_laws.proofs.Machine.RunLaws.{HasRun, run-accepted, run-control, run-granted, run-live}
use Rattle.pr_report_laws.proofs.Invariant.StandLemmas.{busy}
use Rattle.pr_report_laws.proofs.Invariant.Standing as st
use Rattle.pr_report_laws.proofs.Invariant.Standing.{Position, Prepares, Standing, has_read, is_named}
use Rattle.pr_report_laws.proofs.Machine.StoppedLaws.{live-rising, waits-stopped}
use Rattle.pr_report_laws.proofs.Invariant.Positions.{IsAtBirth, IsTracedBy, Waits}
use Rattle.pr_report_laws.specs.Watching.{is_away, place_of}

-- What a call of truss makes of the processes that it traces, for the children that they made by fork.

-- the entry of a call of truss
abbrev pub call_entry : ℕ → Call → Answer → Entry
call_entry k c a = record { actor = Controller k; act = act.Call c a.reply }

-- a call of truss that does not leave its processes, with what is known of those of a line
pub record IsOwn (Line : ℕ → Type 0) (n k : ℕ) (o : Options) (t : TrussState) (s : TracedState) (c : Call)
    (a : Answer) : Type 1 where
  pub call : (pid : ℕ) → IsCall k o pid t s c a
  pub stands : (pid : ℕ) → Line pid → IsStanding o pid t s
  pub legal : IsLegalEntry n s (call_entry k c a)
  pub later : after s (call_entry k c a) ≡ a.state
  pub stays : t.leaving ≡ false

module _ (Line : ℕ → Type 0) (n k : ℕ) (o : Options) (t : TrussState) (s : TracedState) (c : Call) (a : Answer)
    (own : IsOwn Line n k o t s c a) where
  i : IsCall k o 0 t s c a
  i = own.call 0

  entry-legal : IsLegalEntry n s (call_entry k c a)
  entry-legal = own.legal

  -- ---- the processes before the call

  -- no process stands twice
  pub one-place : (x y : ℕ) → x < length t.traced → y < length t.traced → (traced_at t x).pid ≡ (traced_at t y).pid
      → x ≡ y
  one-place x y here there same =
      let f = i.files in
      same_Some x y (sym (f.one x here) ∙ ap (place_of t) same ∙ f.one y there)

  module _ (place : ℕ) (within : place < length t.traced) where
    pub control-held : handle_of s.opens k (traced_at t place).control ≡ Some
        (held_by k (traced_at t place).pid 0 file.Ctl WriteExcl)
    control-held = let files = i.files in let f = files.control place within in f.is

    pid-made : (traced_at t place).pid < s.system.made
    pid-made =
        let lawful = i.lawful in
        made-at s.opens (traced_at t place).control (held_by k (traced_at t place).pid 0 file.Ctl WriteExcl)
        (handle-at s.opens k (traced_at t place).control
        (held_by k (traced_at t place).pid 0 file.Ctl WriteExcl) control-held) lawful.handles

    -- what lives after the call lived before it
    pub lived : (q : TracedProcess) → live_process a.state.system (traced_at t place).pid ≡ Some q
        → (p : TracedProcess) × (live_process s.system (traced_at t place).pid ≡ Some p)
    lived q now = by (live_process s.system (traced_at t place).pid) refl
      where
        by : (x : Option TracedProcess) → live_process s.system (traced_at t place).pid ≡ x
            → (p : TracedProcess) × (live_process s.system (traced_at t place).pid ≡ Some p)
        by None is =
            absurd (none-some q
            (sym (ap (λ (x : TracedState). live_process x.system (traced_at t place).pid) (sym own.later)
            ∙ stays-over n s (call_entry k c a) (traced_at t place).pid i.lawful own.legal pid-made is) ∙ now))
        by (Some p) is = (p, is)

    -- how a process stands that truss watches
    abbrev tally : Line (traced_at t place).pid → Tally
    tally line = let w = own.stands (traced_at t place).pid line in w.tally

    pub stood : (line : Line (traced_at t place).pid) → (traced_at t place).attached ≡ true
        → is_away false t.stage place ≡ false → (p : TracedProcess)
        → live_process s.system (traced_at t place).pid ≡ Some p
        → IsTracedBy o p × Position o t.stage place (traced_at t place).old p (tally line)
    stood line = stood-at k o t s i.files own.stays place within (own.stands (traced_at t place).pid line)

  -- ---- a call that does not reach a process

  module _ (place : ℕ) (within : place < length t.traced) where
    -- the process that it reaches is at another place
    pub misses : (is_away false t.stage place ≡ false) → (t.stage ≡ Running place → ⊥)
        → Misses k (traced_at t place).pid s c
    misses here rests = record {
      each = λ m g named held same.
          let r : Reaches t g = let w = i.owns in reaches k t s i.files w.fits own.stays m g held c i.next named in
          let at : r.place ≡ place = one-place r.place place r.within within (sym r.of ∙ same) in
          elim r.busy [
            | inl away ↦ false≢true (sym here ∙ ap (is_away false t.stage) (sym at) ∙ away)
            | inr runs ↦ rests (runs ∙ ap (λ n. Running n) at)
          ];
    }

    -- then it is left alone
    pub missed : Misses k (traced_at t place).pid s c → (q : TracedProcess)
        → live_process a.state.system (traced_at t place).pid ≡ Some q
        → (p : TracedProcess) × ((live_process s.system (traced_at t place).pid ≡ Some p) × IsUndisturbed p q)
    missed m q now =
        let before = lived place within q now in (
          before.0,
          (
            before.1,
            by before.0
                (own-call-elsewhere s k (traced_at t place).pid c a before.0 i.lawful m.each i.answer before.1),
          ),
        )
      where
        by : (p : TracedProcess) → Outlasts (traced_at t place).pid p a.state.system → IsUndisturbed p q
        by p (lives r later alone) = subst (IsUndisturbed p) (same_Some r q (sym later ∙ now)) alone
        by p (killed z none found status) = absurd (none-some q (sym none ∙ now))

  -- ---- a process that is run

  -- the call that a stage makes
  pub call-same : (stage : Stage) (d : Call) → t.stage ≡ stage → call_of t stage ≡ Some d → c ≡ d
  unfolding next_call_of
  call-same stage d is makes = same_Some c d (sym i.next ∙ ap (call_of t) is ∙ makes)

  pub call-is : (stage : Stage) (d : Call) → t.stage ≡ stage → call_of t stage ≡ Some d → answer_to s k d ≡ Some a
  unfolding next_call_of
  call-is stage d is makes =
      subst (λ (x : Call). answer_to s k x ≡ Some a) (same_Some c d (sym i.next ∙ ap (call_of t) is ∙ makes)) i.answer

  module _ (place : ℕ) (within : place < length t.traced)
      (is : answer_to s k (run_call (traced_at t place).control) ≡ Some a) where
    -- one whose stop was read, or that stands at its birth
    ran : (m : ℕ) (p : TracedProcess) → live_process s.system (traced_at t place).pid ≡ Some p → IsTracedBy o p
        → Waits p (suc m) → HasRun o p (suc m) (traced_at t place).pid a.state.system
    ran m p live traced waits =
        let lawful = i.lawful in
        let h : Held = held_by k (traced_at t place).pid 0 file.Ctl WriteExcl in
        let held = control-held place within in
        let rises = live-rising s.system (traced_at t place).pid p lawful.system live in
        let stopped = waits-stopped p rises traced.no_agent m waits in
        let granted =
        run-granted s k (traced_at t place).control h held refl p live a lawful.system traced.no_agent stopped is in
        run-accepted s k (traced_at t place).control h held refl p live o
        (suc m) a rises traced waits stopped is granted

    -- what is set on it stays, where the call was accepted
    pub run-set : answer_of a.reply ≡ Accepted → (p q : TracedProcess)
        → live_process s.system (traced_at t place).pid ≡ Some p
        → live_process a.state.system (traced_at t place).pid ≡ Some q → q.control ≡ p.control
    run-set accepted p q live now =
        let h : Held = held_by k (traced_at t place).pid 0 file.Ctl WriteExcl in
        let later = run-live s k (traced_at t place).control h (control-held place within) refl p live a is accepted in
        ap (λ (x : TracedProcess). x.control) (sym (same_Some _ q (sym later ∙ now))) ∙ run-control p

  -- ---- a process whose stop was read

  module _ (place : ℕ) (within : place < length t.traced) (at : t.stage ≡ Running place) where
    running-on : (traced_at t place).attached ≡ true
    running-on = let w = uses.attached-all k t s i.files own.stays (ap busy at) place within in w.attached

    running-waits : Line (traced_at t place).pid → (p : TracedProcess)
        → live_process s.system (traced_at t place).pid ≡ Some p
        → IsTracedBy o p × Waits p (suc (traced_at t place).old)
    running-waits line p live =
        let w = stood place within line running-on (ap (λ (x : Stage). is_away false x place) at) p live in
        (w.0, by w.1)
      where
        reads_it : has_read t.stage place ≡ true
        reads_it = ap (λ (x : Stage). has_read x place) at ∙ eq-eqb place place refl

        by : {tally : Tally} → Position o t.stage place (traced_at t place).old p tally
            → Waits p (suc (traced_at t place).old)
        by (st.stop_read read waits whole) = waits
        by (st.old_stops m read counts waits whole) = absurd (false≢true (sym read ∙ reads_it))
        by (st.goes read named none quiet whole) = absurd (false≢true (sym read ∙ reads_it))
        by (st.has_event id event read none one named whole) = absurd (false≢true (sym read ∙ reads_it))

    running-answer : answer_to s k (run_call (traced_at t place).control) ≡ Some a
    unfolding call_of
    running-answer = call-is (Running place) (run_call (traced_at t place).control) at refl

    pub running-ran : Line (traced_at t place).pid → (p : TracedProcess)
        → live_process s.system (traced_at t place).pid ≡ Some p
        → HasRun o p (suc (traced_at t place).old) (traced_at t place).pid a.state.system
    running-ran line p live =
        let w = running-waits line p live in
        ran place within running-answer (traced_at t place).old p live w.0 w.1

  module _ (parent place : ℕ) (within : place < length t.traced)
      (at : t.stage ≡ OpeningChild parent place child.Start) where
    pub start-answer : answer_to s k (run_call (traced_at t place).control) ≡ Some a
    unfolding call_of child_call
    start-answer = call-is (OpeningChild parent place child.Start) (run_call (traced_at t place).control) at refl

    pub start-ran : Line (traced_at t place).pid → (p : TracedProcess)
        → live_process s.system (traced_at t place).pid ≡ Some p
        → HasRun o p 1 (traced_at t place).pid a.state.system
    start-ran line p live =
        let w = own.stands (traced_at t place).pid line in
        let prepares = w.prepares in
        let born : IsAtBirth o p = prepares.child parent place child.Start p at refl live in
        ran place within start-answer 0 p live born.traced born.waits

  module _ (place : ℕ) (within : place < length t.traced) (at : t.stage ≡ Opening place opening.Start)
      (accepted : answer_of a.reply ≡ Accepted) where
    opened-answer : answer_to s k (opening_call o (traced_at t place) opening.Start) ≡ Some a
    unfolding call_of opening_call
    opened-answer = call-is (Opening place opening.Start) (run_call (traced_at t place).control) at refl

    opened-quiet : Line (traced_at t place).pid → (traced_at t place).old ≡ 0 → (q : TracedProcess)
        → live_process a.state.system (traced_at t place).pid ≡ Some q → IsQuiet q
    opened-quiet line none q now =
        let w = own.stands (traced_at t place).pid line in
        let prepares = w.prepares in
        let mine = own.call (traced_at t place).pid in
        let back = mine.reads in
        let done : IsStepDone o (traced_at t place).pid (traced_at t place) a.reply opening.Start s a.state =
        opening-done s k (held_by k (traced_at t place).pid 0 file.Ctl WriteExcl) o (traced_at t place)
        (control-held place within) refl a accepted i.lawful i.fit back.lwps opening.Start
        (λ m e. absurd (not-wait m e)) (λ e. absurd (not-reads e)) opened-answer in
        let started : HasStarted o (traced_at t place).old q =
        done.started q refl now (λ p live. prepares.opened place opening.Start p at refl live) in
        started.quiet none
      where
        not-wait : (m : ℕ) → opening.Start ≡ opening.AwaitStop m → ⊥
        not-wait m e = cc

        not-reads : opening.Start ≡ opening.ReadLwps → ⊥
        not-reads e = cc

    pub opened-set : (p q : TracedProcess) → live_process s.system (traced_at t place).pid ≡ Some p
        → live_process a.state.system (traced_at t place).pid ≡ Some q → q.control ≡ p.control
    unfolding call_of opening_call
    opened-set p q live now =
        run-set place within
        (call-is (Opening place opening.Start) (run_call (traced_at t place).control) at refl) accepted p q live now

  -- a process that was run is quiet, where no old stop is left
  pub ran-quiet : (place : ℕ) → place < length t.traced → Line (traced_at t place).pid
      → runs t.stage place ≡ true → (traced_at t place).old ≡ 0
      → IsDone t a.reply place → (q : TracedProcess) → live_process a.state.system (traced_at t place).pid ≡ Some q
      → IsQuiet q
  ran-quiet place within line its none done q now = by t.stage refl its
    where
      before : (p : TracedProcess) × (live_process s.system (traced_at t place).pid ≡ Some p)
      before = lived place within q now

      at : (m : ℕ) (next : ℕ → Stage) → (m == place) ≡ true → t.stage ≡ next m → t.stage ≡ next place
      at m next same is = is ∙ ap next (eqb-true m place same)

      by : (stage : Stage) → t.stage ≡ stage → runs stage place ≡ true → IsQuiet q
      by (Running m) is same =
          let r = running-ran place within (at m (λ x. Running x) same is) line before.0 before.1 in
          subst (λ (x : TracedProcess). IsQuiet x) (same_Some r.process q (sym r.live ∙ now)) (r.quiet (omega arith))
      by (Opening m opening.Start) is same =
          let here = at m (λ x. Opening x opening.Start) same is in
          opened-quiet place within here (done.start here) line none q now
      by (OpeningChild parent m child.Start) is same =
          let r =
          start-ran parent place within (at m (λ x. OpeningChild parent x child.Start) same is) line before.0
          before.1 in
          subst (λ (x : TracedProcess). IsQuiet x) (same_Some r.process q (sym r.live ∙ now)) (r.quiet (omega arith))
      by _ is same = absurd (false≢true same)
