use Rattle.std.proofs.Common.{◌≡◌, ◌≢◌, ◌==◌, ◌||◌, ◌<◌, ℕ, Bool, true, false, None, Some, Option, List, [], ◌∷◌, ◌++◌, length, refl, sym, subst, ap, ◌∙◌, arith}
use Rattle.std.proofs.lemmas.Bool.{and_parts, eqb-true, false≢true}
use Rattle.std.specs.List.{cons_option, slice_get}
use Rattle.pr_laws.specs.LastCloses.{IsReleased}
use Rattle.pr_line.specs.declared.options.Options.{Options}
use Rattle.pr_model.specs.Calls.{Answer, answer_to}
use Rattle.pr_model.specs.Handles.{handle_of, is_control}
use Rattle.pr_model.specs.Legal.{IsLegal, after, state_after}
use Rattle.pr_model.specs.State.{TracedProcess, TracedState, live_process}
use Rattle.pr_model.specs.declared.calls.Call.TheVariants as call
use Rattle.pr_model.specs.declared.calls.File.TheVariants as file
use Rattle.pr_model.specs.declared.calls.Mode.TheVariants.{WriteExcl}
use Rattle.pr_model.specs.declared.events.Entry.{Entry}
use Rattle.pr_model.specs.declared.handles.Held.{Held}
use Rattle.pr_num.specs.Control.{has_flags, klc_mode, rlc_mode}
use Rattle.pr_truss.specs.Feeding.{fed}
use Rattle.pr_truss.specs.Trusses.{TrussState, first_of_program, first_truss, idle, opening_or, traced_at}
use Rattle.pr_truss.specs.declared.processes.Traced.{Traced}
use Rattle.pr_truss.specs.declared.stages.ChildStep.{ChildStep}
use Rattle.pr_truss.specs.declared.stages.ChildStep.TheVariants as child
use Rattle.pr_truss.specs.declared.stages.FreeingStep.{FreeingStep}
use Rattle.pr_truss.specs.declared.stages.FreeingStep.TheVariants as freeing
use Rattle.pr_truss.specs.declared.stages.OpeningStep.{OpeningStep}
use Rattle.pr_truss.specs.declared.stages.OpeningStep.TheVariants as opening
use Rattle.pr_truss.specs.declared.stages.Stage.{Stage}
use Rattle.pr_truss.specs.declared.stages.Stage.TheVariants.{Opening, OpeningChild, FreeingChild}
use Rattle.pr_truss_laws.proofs.Files.OpensLemmas.{held_by}
use Rattle.pr_truss_laws.specs.Exchanges.{Exchange, Makes, exchange_of, exchanges, truss_after, truss_at}
use Rattle.pr_truss_laws.specs.Runs.{IsTrussRun}
use Rattle.pr_report_laws.proofs.UnopenedChildren.Births.{first-traced}
use Rattle.pr_report_laws.proofs.Files.FileSteps.{MakesNext, makes-next}
use Rattle.pr_report_laws.proofs.Invariant.HistoryLaw.{IsFirst, after-next, first-is, no-exchanges}
use Rattle.pr_report_laws.proofs.Replies.Leaving.{IsLeaving, first-leaving, leaves}
use Rattle.pr_report_laws.proofs.Releasing.ReleaseFreed.{HasFreed, entry-freed}
use Rattle.pr_report_laws.proofs.Releasing.ReleaseMarks.{HasSet, fed-set}
use Rattle.pr_report_laws.proofs.Releasing.ReleaseStays.{released-stays}
use Rattle.pr_report_laws.proofs.Releasing.ReleaseSteps.{modes-later, modes-none, modes_told, truss-modes, truss-releases}
use Rattle.pr_report_laws.proofs.Files.WatchHistories.{exchange-answered, exchanges-push, run-front, run-last, run-next, run-reaches, Reaches, entry-reaches, first-reaches}
use Rattle.pr_report_laws.specs.Releases.{HasModes, Modes, has_set_at, is_child_past, is_opened_past, is_past, modes_after, modes_next, modes_set, released, spared}
use Rattle.pr_report_laws.specs.Watching.{fed_by_entry, with_exchange}

-- The laws of what truss leaves.

-- ---- a process that truss has open for writing has no PR_KLC

modes-spare : (m : Modes) (p : TracedProcess) → HasModes m p → has_flags p.control.modes klc_mode ≡ false
modes-spare spared p has = has
modes-spare released p has = has.1

pub truss-spares : (n k : ℕ) (o : Options) (s : TracedState) (h : List Entry) → IsTrussRun n k o s h
    → (number : ℕ) (held : Held) (p : TracedProcess)
    → handle_of (state_after s h).opens k number ≡ Some held → is_control held.file ≡ true
    → live_process (state_after s h).system held.pid ≡ Some p → has_flags p.control.modes klc_mode ≡ false
truss-spares n k o s h run number held p there control live =
    modes-spare (modes_set k o held.pid h) p (truss-modes n k o s h run number held p there control live)

-- ---- truss has set the modes of what it traces

told-set : (k pid : ℕ) (t : TrussState) (m : Modes) (s v : TracedState) (x : Option Exchange) → Reaches k t s
    → Reaches k (with_exchange t x) v → HasSet pid t m → HasSet pid (with_exchange t x) (modes_told pid t m x)
told-set k pid t m s v None before later set = set
told-set k pid t m s v (Some x) before later set = fed-set k pid t x.reply m s v before later set

history-set : (h : List Entry) (n k pid : ℕ) (t : TrussState) (s : TracedState) (m : Modes) → Reaches k t s
    → HasSet pid t m → IsLegal n s h → Makes t (exchanges k h)
    → HasSet pid (truss_after t (exchanges k h)) (modes_after pid t m (exchanges k h))
history-set [] n k pid t s m r set legal makes =
    subst (λ x. HasSet pid (truss_after t (exchanges k [])) x) (sym (modes-none k pid t m))
    (subst (λ (u : TrussState). HasSet pid u m) (sym (no-exchanges k t)) set)
history-set (e ∷ h) n k pid t s m r set legal makes =
    let first = makes-next k t e h makes in
    let later = entry-reaches n k t s e r legal.0 first.0 in
    subst (λ x. HasSet pid (truss_after t (exchanges k (e ∷ h))) x) (sym (modes-later k pid t m e h))
    (subst (λ (u : TrussState). HasSet pid u
    (modes_after pid (fed_by_entry k t e) (modes_told pid t m (exchange_of k e)) (exchanges k h)))
    (sym (after-next k t e h))
    (history-set h n k pid (fed_by_entry k t e) (after s e) (modes_told pid t m (exchange_of k e)) later
    (told-set k pid t m s (after s e) (exchange_of k e) r later set) legal.1 first.1))

first-set : (o : Options) (pid : ℕ) → HasSet pid (first_truss o) spared
first-set o pid =
    let first : IsFirst o pid (first_truss o) = first-is o pid in
    record {
      attached =
          λ place within of on. absurd (omega (arith, within, ap (λ (ts : List Traced). length ts) (first-traced o)));
      given = λ place step is of. absurd (first.opens place step is);
      followed = λ parent place step is of. absurd (first.follows parent place step is);
    }

module _ (n k : ℕ) (o : Options) (s : TracedState) (h : List Entry) (run : IsTrussRun n k o s h) where
  abbrev t : TrussState
  t = truss_at k o h

  module _ (place : ℕ) (within : place < length t.traced) where
    its-set : HasSet (traced_at t place).pid t (modes_set k o (traced_at t place).pid h)
    unfolding modes_set
    its-set =
        history-set h n k (traced_at t place).pid (first_truss o) s spared
        (first-reaches k o s run.lawful run.nothing_open) (first-set o (traced_at t place).pid) run.legal run.makes

    past-asked : (step : OpeningStep) → is_past step ≡ true → t.stage ≡ Opening place step
        → modes_set k o (traced_at t place).pid h ≡ released
    past-asked opening.OpenStatus past is = absurd (false≢true past)
    past-asked opening.OpenLstatus past is = absurd (false≢true past)
    past-asked opening.OpenMemory past is = absurd (false≢true past)
    past-asked opening.ClearModes past is = absurd (false≢true past)
    past-asked opening.SetRelease past is = absurd (false≢true past)
    past-asked opening.Stop past is = let w = its-set in w.given place opening.Stop is refl
    past-asked (opening.AwaitStop until) past is = let w = its-set in w.given place (opening.AwaitStop until) is refl
    past-asked opening.ReadLwps past is = let w = its-set in w.given place opening.ReadLwps is refl
    past-asked opening.TraceSignals past is = let w = its-set in w.given place opening.TraceSignals is refl
    past-asked opening.TraceFaults past is = let w = its-set in w.given place opening.TraceFaults is refl
    past-asked opening.TraceEntries past is = let w = its-set in w.given place opening.TraceEntries is refl
    past-asked opening.TraceExits past is = let w = its-set in w.given place opening.TraceExits is refl
    past-asked opening.Follow past is = let w = its-set in w.given place opening.Follow is refl
    past-asked opening.Start past is = let w = its-set in w.given place opening.Start is refl

    child-past : (parent : ℕ) (step : ChildStep) → is_child_past step ≡ true → t.stage ≡ OpeningChild parent place step
        → modes_set k o (traced_at t place).pid h ≡ released
    child-past parent child.SetRelease past is = absurd (false≢true past)
    child-past parent child.OpenStatus past is = let w = its-set in w.followed parent place child.OpenStatus is refl
    child-past parent child.OpenLstatus past is = let w = its-set in w.followed parent place child.OpenLstatus is refl
    child-past parent child.OpenMemory past is = let w = its-set in w.followed parent place child.OpenMemory is refl
    child-past parent child.Start past is = let w = its-set in w.followed parent place child.Start is refl

    opened-past : (stage : Stage) → t.stage ≡ stage → is_opened_past stage place ≡ true
        → modes_set k o (traced_at t place).pid h ≡ released
    opened-past (Opening at step) is past =
        let b = and_parts (at == place) (is_past step) past in
        past-asked step b.1 (is ∙ ap (λ x. Opening x step) (eqb-true at place b.0))
    opened-past (OpeningChild parent at step) is past =
        let b = and_parts (at == place) (is_child_past step) past in
        child-past parent step b.1 (is ∙ ap (λ x. OpeningChild parent x step) (eqb-true at place b.0))
    opened-past _ is past = absurd (false≢true past)

    -- its PR_RLC is set, and its PR_KLC is not
    pub traced-set : has_set_at t place ≡ true → modes_set k o (traced_at t place).pid h ≡ released
    traced-set set = by (traced_at t place).attached refl set
      where
        by : (b : Bool) → (traced_at t place).attached ≡ b → (b || is_opened_past t.stage place) ≡ true
            → modes_set k o (traced_at t place).pid h ≡ released
        by true on is = let w = its-set in w.attached place within refl on
        by false off is = opened-past t.stage refl is

    reached : Reaches k t (state_after s h)
    reached = run-reaches n k o s h run

    traced-modes : (p : TracedProcess) → has_set_at t place ≡ true
        → live_process (state_after s h).system (traced_at t place).pid ≡ Some p
        → (has_flags p.control.modes rlc_mode ≡ true) × (has_flags p.control.modes klc_mode ≡ false)
    traced-modes p set live =
        let r = reached in
        let files = r.files in
        let f = files.control place within in
        subst (λ m. HasModes m p) (traced-set set)
        (truss-modes n k o s h run (traced_at t place).control
        (held_by k (traced_at t place).pid 0 file.Ctl WriteExcl) p f.is refl live)

    pub traced-runs : (p : TracedProcess) → has_set_at t place ≡ true
        → live_process (state_after s h).system (traced_at t place).pid ≡ Some p
        → has_flags p.control.modes rlc_mode ≡ true
    traced-runs p set live = let w = traced-modes p set live in w.0

    pub traced-spares : (p : TracedProcess) → has_set_at t place ≡ true
        → live_process (state_after s h).system (traced_at t place).pid ≡ Some p
        → has_flags p.control.modes klc_mode ≡ false
    traced-spares p set live = let w = traced-modes p set live in w.1

    pub traced-released : (p : TracedProcess) (a : Answer) → has_set_at t place ≡ true
        → live_process (state_after s h).system (traced_at t place).pid ≡ Some p
        → answer_to (state_after s h) k (call.Close (traced_at t place).control) ≡ Some a
        → (q : TracedProcess) × ((live_process a.state.system (traced_at t place).pid ≡ Some q) × IsReleased q)
    traced-released p a set live close =
        let r = reached in
        let files = r.files in
        let f = files.control place within in
        truss-releases n k o s h run (traced_at t place).control
        (held_by k (traced_at t place).pid 0 file.Ctl WriteExcl) p a f.is refl (traced-set set) live close

-- ---- a child that truss sets free

history-freed : (h : List Entry) (n k pid : ℕ) (t : TrussState) (s : TracedState) (m : Modes) → pid ≢ 0 → Reaches k t s
    → HasFreed pid t s m → IsLegal n s h → Makes t (exchanges k h)
    → HasFreed pid (truss_after t (exchanges k h)) (state_after s h) (modes_after pid t m (exchanges k h))
history-freed [] n k pid t s m some r had legal makes =
    subst (λ x. HasFreed pid (truss_after t (exchanges k [])) s x) (sym (modes-none k pid t m))
    (subst (λ (u : TrussState). HasFreed pid u s m) (sym (no-exchanges k t)) had)
history-freed (e ∷ h) n k pid t s m some r had legal makes =
    let first = makes-next k t e h makes in
    subst (λ x. HasFreed pid (truss_after t (exchanges k (e ∷ h))) (state_after (after s e) h) x)
    (sym (modes-later k pid t m e h))
    (subst (λ (u : TrussState). HasFreed pid u (state_after (after s e) h)
    (modes_after pid (fed_by_entry k t e) (modes_told pid t m (exchange_of k e)) (exchanges k h)))
    (sym (after-next k t e h))
    (history-freed h n k pid (fed_by_entry k t e) (after s e) (modes_told pid t m (exchange_of k e)) some
    (entry-reaches n k t s e r legal.0 first.0)
    (entry-freed n k pid t s m e some r had legal.0 first.0) legal.1 first.1))

opening-stays : (o : Options) (x : Option ℕ) → (opening_or (idle o) (idle o) x).leaving ≡ false
opening-stays o None = refl
opening-stays o (Some pid) = refl

program-stays : (o : Options) (x : Option (List ℕ)) → (first_of_program o x).leaving ≡ false
program-stays o None = opening-stays o (slice_get o.pids 0)
program-stays o (Some program) = refl

first-stays : (o : Options) → (first_truss o).leaving ≡ false
unfolding first_truss
first-stays o = program-stays o o.program

first-freed : (o : Options) (pid : ℕ) (s : TracedState) → HasFreed pid (first_truss o) s spared
first-freed o pid s =
    let leaving : IsLeaving (first_truss o) = first-leaving o in
    record {
      setting = λ cm is. absurd (not-leaving o leaving pid (freeing.SetRelease cm) is);
      closing = λ cm p is live. absurd (not-leaving o leaving pid (freeing.Close cm) is);
    }
  where
    not-leaving : (o : Options) → IsLeaving (first_truss o) → (pid : ℕ) (step : FreeingStep)
        → (first_truss o).stage ≡ FreeingChild pid step → ⊥
    not-leaving o leaving pid step is = false≢true (sym (first-stays o) ∙ leaving.leaving (ap (λ x. leaves x) is))

pub freed-set : (n k : ℕ) (o : Options) (s : TracedState) (h : List Entry) → IsTrussRun n k o s h
    → (pid control : ℕ) (p : TracedProcess) → (truss_at k o h).stage ≡ FreeingChild pid (freeing.Close control)
    → pid ≢ 0
    → live_process (state_after s h).system pid ≡ Some p → modes_set k o pid h ≡ released
unfolding modes_set
freed-set n k o s h run pid control p is some live =
    let w =
    history-freed h n k pid (first_truss o) s spared some (first-reaches k o s run.lawful run.nothing_open)
    (first-freed o pid s) run.legal run.makes in
    w.closing control p is live

-- ---- what is set stays set

modes-append : (pid : ℕ) (t : TrussState) (m : Modes) (xs ys : List Exchange)
    → modes_after pid t m (xs ++ ys) ≡ modes_after pid (truss_after t xs) (modes_after pid t m xs) ys
modes-append pid t m [] ys = refl
modes-append pid t m (x ∷ xs) ys = modes-append pid (fed t x.reply) (modes_next pid t x.reply m t.stage) xs ys

modes-one : (pid : ℕ) (t : TrussState) (m : Modes) (x : Option Exchange)
    → modes_after pid t m (cons_option x []) ≡ modes_told pid t m x
modes-one pid t m None = refl
modes-one pid t m (Some x) = refl

module _ (n k : ℕ) (o : Options) (s : TracedState) (before : List Entry) (e : Entry)
    (run : IsTrussRun n k o s (before ++ e ∷ [])) (pid : ℕ) where
  abbrev was : TrussState
  was = truss_at k o before

  pub modes-push : modes_set k o pid (before ++ e ∷ [])
      ≡ modes_told pid was (modes_set k o pid before) (exchange_of k e)
  unfolding modes_set
  modes-push =
      ap (modes_after pid (first_truss o) spared) (exchanges-push k before e)
      ∙ modes-append pid (first_truss o) spared (exchanges k before) (cons_option (exchange_of k e) [])
      ∙ modes-one pid was (modes_after pid (first_truss o) spared (exchanges k before)) (exchange_of k e)

  front : IsTrussRun n k o s before
  front = run-front n k o s before e run

  was-set : HasSet pid was (modes_set k o pid before)
  unfolding modes_set
  was-set =
      history-set before n k pid (first_truss o) s spared (first-reaches k o s front.lawful front.nothing_open)
      (first-set o pid) front.legal front.makes

  stays-told : (number : ℕ) (held : Held) → handle_of (state_after s before).opens k number ≡ Some held
      → is_control held.file ≡ true → held.pid ≡ pid → modes_set k o pid before ≡ released
      → modes_set k o pid (before ++ e ∷ []) ≡ released
  stays-told number held there control of set = modes-push ∙ by (exchange_of k e) refl (run-next n k o s before e run)
    where
      by : (x : Option Exchange) → exchange_of k e ≡ x → MakesNext was x
          → modes_told pid was (modes_set k o pid before) x ≡ released
      by None is next = set
      by (Some x) is next =
          let r = run-reaches n k o s before front in
          let a = exchange-answered n k (state_after s before) e x (run-last n k o s before e run) is in
          ap (λ y. modes_next pid was y (modes_set k o pid before) was.stage) (sym a.reply)
          ∙ released-stays k pid was (state_after s before) x.call a.answer
          (modes_set k o pid before) r.lawful next a.is was-set number held there control of set

-- one entry more leaves what truss has set, where it has the control file open
pub set-stays : (n k : ℕ) (o : Options) (s : TracedState) (before : List Entry) (e : Entry)
    → IsTrussRun n k o s (before ++ e ∷ []) → (number : ℕ) (held : Held)
    → handle_of (state_after s before).opens k number ≡ Some held → is_control held.file ≡ true
    → modes_set k o held.pid before ≡ released → modes_set k o held.pid (before ++ e ∷ []) ≡ released
set-stays n k o s before e run number held there control set =
    stays-told n k o s before e run held.pid number held there control refl set

pub ruleset releasings = (
  truss-modes,
  truss-spares,
  truss-releases,
  traced-set,
  freed-set,
  set-stays,
  traced-runs,
  traced-spares,
  traced-released,
)
