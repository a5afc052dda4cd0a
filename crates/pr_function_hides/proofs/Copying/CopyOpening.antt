use Rattle.std.proofs.Common.{◌≡◌, ◌≢◌, ◌<◌, ◌||◌, ◌-◌, ◌∷◌, [], ◌++◌, ℕ, zero, suc, Bool, true, false, cond, is_some}
use Rattle.std.proofs.Common.{nat_lt, Option, Some, None, List, length, refl, sym, subst, ap, ◌∙◌, arith}
use Rattle.std.proofs.lemmas.Bool.{false≢true, ne_eqb}
use Rattle.std.proofs.lemmas.List.{get_or_push}
use Rattle.std.proofs.lemmas.Option.{same_Some}
use Rattle.std.specs.List.{slice_set}
use Rattle.pr_lawful.proofs.Following.UseLemmas.{live-lawful}
use Rattle.pr_line.specs.declared.options.Options.{Options}
use Rattle.pr_model.specs.Calls.{Answer, answer_to}
use Rattle.pr_model.specs.Replies.{bytes_in, handle_in}
use Rattle.pr_model.specs.Running.{with_run}
use Rattle.pr_model.specs.State.{TracedProcess, TracedState, TracedSystem, has_agent, live_process}
use Rattle.pr_model.specs.declared.calls.Call.{Call}
use Rattle.pr_model.specs.declared.calls.Call.TheVariants as call
use Rattle.pr_model.specs.declared.calls.File.TheVariants as file
use Rattle.pr_model.specs.declared.calls.Mode.TheVariants.{WriteExcl}
use Rattle.pr_model.specs.declared.calls.Reply.{Reply}
use Rattle.pr_model.specs.declared.handles.Held.{Held}
use Rattle.pr_num.specs.ById.{IsRising}
use Rattle.pr_num.specs.Limits.{all_faults, all_signals}
use Rattle.pr_num.specs.Messages.{spelling}
use Rattle.pr_num.specs.declared.errnos.Errno.{Errno}
use Rattle.pr_num.specs.declared.errnos.Errno.TheVariants.{Noent}
use Rattle.pr_num.specs.declared.messages.Message.TheVariants as message
use Rattle.pr_report_laws.proofs.Invariant.StandLemmas.{Each, EachBut, but-append, but-set, each-set}
use Rattle.pr_report_laws.proofs.Machine.ControlLaws.{entries-read, exits-read, faults-read, follow-reads, run-reads}
use Rattle.pr_report_laws.proofs.Machine.ControlLaws.{signals-read, wait-stays}
use Rattle.pr_report_laws.proofs.Machine.RunLaws.{run-live, run-quiet, run-waits}
use Rattle.pr_report_laws.proofs.Machine.StoppedLaws.{waits-stopped}
use Rattle.pr_report_laws.specs.AtBirth.{met_in}
use Rattle.pr_truss.specs.Asides.{marks_at, patching, with_aside, with_lifts}
use Rattle.pr_truss.specs.FunctionCalls.{function_call_of, with_copying}
use Rattle.pr_truss.specs.FunctionFeeding.{with_function_step_answered, with_functions_begun, with_next_function}
use Rattle.pr_truss.specs.FunctionFeeding.{with_refused_opening}
use Rattle.pr_truss.specs.Marks.{first_function, no_functions, no_marks}
use Rattle.pr_truss.specs.Messages.{message_call, traced_entries, traced_exits}
use Rattle.pr_truss.specs.NextCalls.{call_of, opening_call}
use Rattle.pr_truss.specs.Openings.{learnt, pid_in, step_after, with_control, with_control_answered}
use Rattle.pr_truss.specs.Openings.{with_refused_control, with_refused_start, with_refused_step, with_start_answered}
use Rattle.pr_truss.specs.Openings.{with_step_done}
use Rattle.pr_truss.specs.Processes.{newly_traced}
use Rattle.pr_truss.specs.Records.{event_stops}
use Rattle.pr_truss.specs.Replies.{answer_of}
use Rattle.pr_truss.specs.Trusses.{TrussState, nobody, traced_at, with_stage, with_traced}
use Rattle.pr_truss.specs.declared.asides.Aside.{Aside}
use Rattle.pr_truss.specs.declared.asides.Aside.TheVariants.{Nothing, Reading, Patching}
use Rattle.pr_truss.specs.declared.marks.Marks.{Marks}
use Rattle.pr_truss.specs.declared.processes.Traced.{Traced}
use Rattle.pr_truss.specs.declared.replies.Answer.{Answer as Told}
use Rattle.pr_truss.specs.declared.replies.Answer.TheVariants.{Accepted, Gone, Interrupted, Refused}
use Rattle.pr_truss.specs.declared.stages.AfterClosing.TheVariants.{OpenNext}
use Rattle.pr_truss.specs.declared.stages.OpeningStep.{OpeningStep}
use Rattle.pr_truss.specs.declared.stages.OpeningStep.TheVariants as opening
use Rattle.pr_truss.specs.declared.stages.Stage.{Stage}
use Rattle.pr_truss.specs.declared.stages.Stage.TheVariants.{OpeningControl, Opening, Closing}
use Rattle.pr_truss_laws.proofs.Files.HeldLemmas.{at_place, set-at}
use Rattle.pr_truss_laws.proofs.Files.OpensLemmas.{held_by}
use Rattle.pr_truss_laws.specs.Stills.{IsFrozen}
use Rattle.pr_function_laws.proofs.Marks.KeptPlaces.{opens}
use Rattle.pr_function_laws.proofs.OpenedProcesses.OneEventLemmas.{none-unmet, quiet-unmet, run-met-nothing}
use Rattle.pr_function_laws.proofs.OpenedProcesses.OpenedCalls.{IsSo}
use Rattle.pr_function_laws.proofs.OpenedProcesses.OpenedLemmas.{ran-alone}
use Rattle.pr_function_laws.proofs.OpenedProcesses.StoodCalls.{BeginLeavingLwps, KeepsLwps, leaves-as}
use Rattle.pr_function_laws.specs.OneEvent.{unmet}
use Rattle.pr_function_laws.specs.Stretches.{acts_by}
use Rattle.pr_function_hides.proofs.Copying.CopyActs.{lwps-counted-now}
use Rattle.pr_function_hides.proofs.Copying.CopyFeeds.{IsNext, IsRestedSo, all-rest, but-one, going-next, opening-next}
use Rattle.pr_function_hides.proofs.Copying.CopyFeeds.{opens-of, rests-of}
use Rattle.pr_function_hides.proofs.Copying.CopyForeign.{opening-halts, opening-stands, opens-at}
use Rattle.pr_function_hides.proofs.StoppedCopies.CopyOuts.{HaveNoCopyBegun, out-clear, run-out}
use Rattle.pr_function_hides.proofs.Copying.CopyOwn.{OwnCall, control-away, has-control, is-off, is-unfollowed, later}
use Rattle.pr_function_hides.proofs.Copying.CopyOwn.{others-rested, quiet-away, same-lwps, same-state, stood-there}
use Rattle.pr_function_hides.proofs.Copying.CopyPlaces.{ClosesSo, CopiesSo, FitsSo, IsBareMarks, IsClean, IsCountedOut}
use Rattle.pr_function_hides.proofs.Copying.CopyPlaces.{IsRunFlags, OpensSo, RestsSo, StandingSo, closes_so, counted}
use Rattle.pr_function_hides.proofs.Copying.CopyPlaces.{counted-lwps, early, halted, is_about, is_early, no_flags, opens_so}
use Rattle.pr_function_hides.proofs.Copying.CopyPlaces.{rests_new, rests_old, stopped, unplanted}
use Rattle.pr_function_hides.proofs.Replies.FunctionSets.{first-has, has-none}
use Rattle.pr_function_hides.proofs.Replies.PlantedReplies.{learnt-marks, learnt-pid}
use Rattle.pr_function_hides.proofs.Replies.TreatedEvents.{first-of-none}
use Rattle.pr_function_hides.specs.Copying.{IsEmpty, none_goes}

-- The forks, vforks and execs of a process that truss opens: none is at one from the answer to its wait on, until it is
-- run; and where the opening is refused none is until its files are closed.

-- ---- marks

pub bare-marks : IsBareMarks no_marks
bare-marks = record {
  lifted = record { none_planted = has-none; no_step = refl };
  left = has-none;
}

-- ---- where an opening has come

pub early-marks : (step : OpeningStep) (v : Traced) (p : TracedProcess) → is_early step ≡ true → OpensSo step v p
    → IsBareMarks v.marks
early-marks step v p is (early at m) = m
early-marks step v p is (stopped at out) = absurd (false≢true (sym (ap is_early at) ∙ is))
early-marks step v p is (counted late other c) = absurd (false≢true (sym late ∙ is))

stopped-out : (v : Traced) (p : TracedProcess) → OpensSo opening.ReadLwps v p → HaveNoCopyBegun p
stopped-out v p (early at m) = absurd (false≢true at)
stopped-out v p (stopped at out) = out
stopped-out v p (counted late other c) = absurd (other refl)

counted-of : (step : OpeningStep) (v : Traced) (p : TracedProcess) → is_early step ≡ false
    → step ≢ opening.ReadLwps → OpensSo step v p → IsCountedOut v.old p
counted-of step v p late other (early at m) = absurd (false≢true (sym late ∙ at))
counted-of step v p late other (stopped at out) = absurd (other at)
counted-of step v p late other (counted is apart c) = c

learnt-seen : (t : Traced) (r : Reply) (step : OpeningStep) → (learnt t r step).seen ≡ t.seen
unfolding learnt
learnt-seen t r opening.OpenStatus = refl
learnt-seen t r _ = refl

module _ {n k : ℕ} {o : Options} {t : TrussState} {s : TracedState} {c : Call} {a : Answer}
    (w : OwnCall n k o t s c a) where
  abbrev r : Reply
  r = let b : Answer = a in b.reply

  abbrev ts : List Traced
  ts = t.traced

  abbrev X : Traced → Type 0
  X v = IsRestedSo (later w) v

  abbrev Done : TrussState → Type 0
  Done v = CopiesSo v (later w)

  pub fits-idle : (v : TrussState) → v.aside ≡ Nothing → FitsSo v.aside v.stage
  fits-idle v idle = subst (λ (x : Aside). FitsSo x v.stage) (sym idle) tt

  -- what comes when nothing is to be done for one process
  pub next-done : (u v : TrussState) (off : u.leaving ≡ false) → u.aside ≡ Nothing → IsNext u off v → Each X u.traced
      → Done v
  next-done u v off idle next all =
      all-rest (later w) v (let c = next.calm in c.about) (fits-idle v (next.aside ∙ idle))
      (subst (λ (us : List Traced). Each X us) (sym next.same) all)

  module _ (idle : t.aside ≡ Nothing) where
    -- ---- before a process is opened

    pub start-done : (program : List ℕ) (told : Told) → told ≢ Interrupted → Each X ts
        → Done (with_start_answered t program r told)
    unfolding with_start_answered with_refused_start
    start-done program Accepted other all =
        all-rest (later w) (with_stage t (OpeningControl (pid_in r))) (λ place. refl)
        (fits-idle (with_stage t (OpeningControl (pid_in r))) idle) all
    start-done program (Refused errno) other all = next-done _ _ (is-off w) idle (going-next _ (is-off w)) all
    start-done program Gone other all = next-done _ _ (is-off w) idle (going-next _ (is-off w)) all
    start-done program Interrupted other all = absurd (other refl)

    control-opened : (pid : ℕ) → Each X ts → Done (with_control t pid (handle_in r))
    unfolding with_control newly_traced
    control-opened pid all =
        let u : Traced = newly_traced pid (handle_in r) in
        let last : at_place (ts ++ u ∷ []) (length ts) ≡ u = get_or_push ts u nobody (length ts) refl in
        but-one (later w) (with_control t pid (handle_in r)) (length ts)
        (λ place other. ne_eqb (length ts) place (λ same. other (sym same)))
        (fits-idle (with_control t pid (handle_in r)) idle)
        (but-append X ts u all)
        (subst IsClean (sym last) (record { unseen = refl; flags = no_flags refl }))
        (λ p live.
        opens_so opening.OpenStatus refl
        (subst (λ (v : Traced). OpensSo opening.OpenStatus v p) (sym last) (early refl bare-marks)))

    pub control-done : (pid : ℕ) (told : Told) → told ≢ Interrupted → Each X ts
        → Done (with_control_answered t pid r told)
    unfolding with_control_answered with_refused_control
    control-done pid Accepted other all = control-opened pid all
    control-done pid (Refused errno) other all = next-done _ _ (is-off w) idle (opening-next _ (is-off w)) all
    control-done pid Gone other all = next-done _ _ (is-off w) idle (opening-next _ (is-off w)) all
    control-done pid Interrupted other all = absurd (other refl)

  -- ---- an opening

  module _ (q : ℕ) (within : q < length ts) (step : OpeningStep) (at : t.stage ≡ Opening q step) where
    abbrev v : Traced
    v = traced_at t q

    rest : (place : ℕ) → place ≢ q → is_about t.stage place ≡ false
    rest place other = ap (λ x. is_about x place) at ∙ ne_eqb q place (λ same. other (sym same))

    pub clean-here : IsClean v
    clean-here = let cs = w.copies in cs.clean q within

    stood : (x : TracedProcess) → live_process (later w) v.pid ≡ Some x
        → (p : TracedProcess) × ((live_process s.system v.pid ≡ Some p) × OpensSo step v p)
    stood x now = let was = stood-there w q within x now in (was.0, (was.1.0, opens-of t q was.0 step at was.1.1))

    -- where it is refused
    refused-closes : (rest : Aside) → (IsBareMarks v.marks → rest ≡ Nothing) → answer_of a.reply ≢ Accepted
        → (x : TracedProcess) → live_process (later w) v.pid ≡ Some x → ClosesSo rest v x
    refused-closes rest none other x now =
        let same : a.state ≡ s = same-state w other in
        let live : live_process s.system v.pid ≡ Some x =
        ap (λ (u : TracedState). live_process u.system v.pid) (sym same) ∙ now in
        let cs = w.copies in by x live (opens-of t q x step at (cs.each q within x live))
      where
        by : (p : TracedProcess) → live_process s.system v.pid ≡ Some p → OpensSo step v p → ClosesSo rest v p
        by p live (early is m) = unplanted (none m) m
        by p live (stopped is out) =
            halted out (opening-halts n k o t s w.goes q step at p live (ap is_early is))
        by p live (counted late other c) =
            halted c.out (opening-halts n k o t s w.goes q step at p live late)

    same-away : answer_of a.reply ≢ Accepted → EachBut X ts q
    same-away other place inside apart =
        let same : a.state ≡ s = same-state w other in
        let cs = w.copies in
        record {
          clean = cs.clean place inside;
          stands = λ x now.
              let live : live_process s.system (traced_at t place).pid ≡ Some x =
              ap (λ (u : TracedState). live_process u.system (traced_at t place).pid) (sym same) ∙ now in
              rests-of t place x (rest place apart) (cs.each place inside x live);
        }

    patching-fits : (planted : List Bool) (stage : Stage) → stage ≡ Closing q OpenNext
        → FitsSo (patching q no_functions planted false) stage
    unfolding patching
    patching-fits planted stage is =
        subst (FitsSo (patching q no_functions planted false)) (sym is)
        (by (is_some (first_function no_functions) || is_some (first_function planted) || false))
      where
        by : (b : Bool)
            → FitsSo (cond b (Patching q no_functions planted false) Nothing) (Closing q OpenNext)
        by true = (refl, first-of-none)
        by false = tt

    -- where nothing is planted, nothing is to be lifted
    none-patched : (planted : List Bool) → IsEmpty planted → patching q no_functions planted false ≡ Nothing
    unfolding patching
    none-patched planted none =
        ap (λ (f : Option ℕ). cond (is_some f || is_some (first_function planted) || false)
        (Patching q no_functions planted false) Nothing) first-of-none
        ∙ ap (λ (f : Option ℕ). cond (is_some f || false) (Patching q no_functions planted false) Nothing)
        (of (first_function planted) refl)
      where
        of : (f : Option ℕ) → first_function planted ≡ f → first_function planted ≡ None
        of None is = is
        of (Some i) is = absurd (false≢true (sym (none i) ∙ first-has planted i is))

    closing-about : (place : ℕ) → place ≢ q → is_about (Closing q OpenNext) place ≡ false
    closing-about place other = ne_eqb q place (λ same. other (sym same))

    pub opening-refused : (u : TrussState) → u.traced ≡ ts → (errno : Errno) → answer_of a.reply ≢ Accepted
        → Done (with_refused_opening u q errno)
    unfolding with_refused_opening with_refused_step with_lifts
    opening-refused u same errno other =
        but-one (later w) (with_refused_opening u q errno) q closing-about
        (patching-fits (marks_at u q).planted _ refl) (subst (λ us. EachBut X us q) (sym same) (same-away other))
        (subst (λ us. IsClean (at_place us q)) (sym same) clean-here)
        (subst (λ us. (p : TracedProcess) → live_process (later w) (at_place us q).pid ≡ Some p
        → StandingSo (with_refused_opening u q errno) q p) (sym same)
        (λ x now. closes_so OpenNext refl
        (subst (λ us. ClosesSo rest_aside (at_place us q) x) (sym same)
        (refused-closes rest_aside (λ bare. none-patched (marks_at u q).planted (none-here bare)) other x now))))
      where
        rest_aside : Aside
        rest_aside = patching q no_functions (marks_at u q).planted false

        none-here : IsBareMarks v.marks → IsEmpty (marks_at u q).planted
        none-here bare =
            let lifted = bare.lifted in
            subst (λ us. IsEmpty (let y : Traced = at_place us q in y.marks.planted)) (sym same) lifted.none_planted

    pub opening-gone : (u : TrussState) → u.traced ≡ ts → u.aside ≡ Nothing → (errno : Errno)
        → answer_of a.reply ≢ Accepted → Done (with_refused_step u q errno)
    unfolding with_refused_step
    opening-gone u same idle errno other =
        but-one (later w) (with_refused_step u q errno) q closing-about (fits-idle (with_refused_step u q errno) idle)
        (subst (λ us. EachBut X us q) (sym same) (same-away other))
        (subst (λ us. IsClean (at_place us q)) (sym same) clean-here)
        (subst (λ us. (p : TracedProcess) → live_process (later w) (at_place us q).pid ≡ Some p
        → StandingSo (with_refused_step u q errno) q p) (sym same)
        (λ x now. closes_so OpenNext refl
        (subst (λ us. ClosesSo u.aside (at_place us q) x) (sym same)
        (refused-closes u.aside (λ bare. idle) other x now))))

    -- where it goes on
    module _ (others : EachBut X ts q) where
      pub opens-with : (u : Traced) (next : OpeningStep) (aside : Aside) → u.pid ≡ v.pid → IsClean u
          → FitsSo aside (Opening q next)
          → ((x : TracedProcess) → live_process (later w) v.pid ≡ Some x → OpensSo next u x) → (z : TrussState)
          → z.traced ≡ slice_set ts q u → z.stage ≡ Opening q next → z.aside ≡ aside → Done z
      opens-with u next aside pid clean fits here z traced stage beside =
          let there : traced_at z q ≡ u = ap (λ us. at_place us q) traced ∙ set-at ts q u within in
          but-one (later w) z q
          (λ place other. ap (λ x. is_about x place) stage ∙ ne_eqb q place (λ same. other (sym same)))
          (subst (λ x. FitsSo x z.stage) (sym beside) (subst (FitsSo aside) (sym stage) fits))
          (subst (λ us. EachBut X us q) (sym traced) (but-set X ts q u others)) (subst IsClean (sym there) clean)
          (λ x now.
          opens_so next stage
          (subst (λ (y : Traced). OpensSo next y x) (sym there)
          (here x (ap (live_process (later w)) (sym pid ∙ ap (λ (y : Traced). y.pid) (sym there)) ∙ now))))

      pub opens-same : (next : OpeningStep) (aside : Aside) → FitsSo aside (Opening q next)
          → ((x : TracedProcess) → live_process (later w) v.pid ≡ Some x → OpensSo next v x) → (z : TrussState)
          → z.traced ≡ ts → z.stage ≡ Opening q next → z.aside ≡ aside → Done z
      opens-same next aside fits here z traced stage beside =
          let there : traced_at z q ≡ v = ap (λ us. at_place us q) traced in
          but-one (later w) z q
          (λ place other. ap (λ x. is_about x place) stage ∙ ne_eqb q place (λ same. other (sym same)))
          (subst (λ x. FitsSo x z.stage) (sym beside) (subst (FitsSo aside) (sym stage) fits))
          (subst (λ us. EachBut X us q) (sym traced) others) (subst IsClean (sym there) clean-here)
          (λ x now.
          opens_so next stage
          (subst (λ (y : Traced). OpensSo next y x) (sym there)
          (here x (ap (λ (y : Traced). live_process (later w) y.pid) (sym there) ∙ now))))

    learnt-clean : IsClean (learnt v r step)
    learnt-clean =
        let it = clean-here in
        record {
          unseen = learnt-seen v r step ∙ it.unseen;
          flags = subst (λ (m : Marks). IsRunFlags m.flags) (sym (learnt-marks v r step)) it.flags;
        }

    -- nothing is planted up to the answer to the wait
    early-here : (next : OpeningStep) → is_early step ≡ true → is_early next ≡ true → (x : TracedProcess)
        → live_process (later w) v.pid ≡ Some x → OpensSo next (learnt v r step) x
    early-here next is on x now =
        let was = stood x now in
        early on (subst IsBareMarks (sym (learnt-marks v r step)) (early-marks step v was.0 is was.1.1))

    -- a message that leaves the lwps
    pub counted-here : is_early step ≡ false → step ≢ opening.ReadLwps → (bytes : List ℕ)
        → c ≡ call.Ctl v.control bytes → BeginLeavingLwps bytes → (x : TracedProcess)
        → live_process (later w) v.pid ≡ Some x → IsCountedOut v.old x
    counted-here late other bytes is begins x now =
        let was = same-lwps w q within bytes is begins x now in
        let keeps : KeepsLwps was.0 x = was.1.1 in
        let cs = w.copies in
        counted-lwps was.0 x keeps.lwps v.old
        (counted-of step v was.0 late other (opens-of t q was.0 step at (cs.each q within was.0 was.1.0)))

    pub by-control : (bytes : List ℕ) → c ≡ call.Ctl v.control bytes → EachBut X ts q
    by-control bytes is =
        others-rested w q rest (control-away w q within (ap acts_by is))

    by-none : acts_by c ≡ None → EachBut X ts q
    by-none none = others-rested w q rest (λ place inside other. quiet-away w none place)

  -- ---- a step that is granted

  module _ (q : ℕ) (within : q < length ts) (idle : t.aside ≡ Nothing) (accepted : answer_of a.reply ≡ Accepted) where
    abbrev u : Traced
    u = traced_at t q

    early-goes : (step next : OpeningStep) (at : t.stage ≡ Opening q step) → is_early step ≡ true
        → is_early next ≡ true → EachBut X ts q
        → Done (with_stage (with_traced t q (learnt u r step)) (Opening q next))
    early-goes step next at is on others =
        opens-with q within step at others (learnt u r step) next Nothing (learnt-pid u r step)
        (learnt-clean q within step at) tt (early-here q within step at next is on) _ refl refl idle

    set-goes : (step next : OpeningStep) (at : t.stage ≡ Opening q step) → is_early step ≡ false
        → step ≢ opening.ReadLwps → is_early next ≡ false → next ≢ opening.ReadLwps → learnt u r step ≡ u
        → (bytes : List ℕ) → c ≡ call.Ctl u.control bytes → BeginLeavingLwps bytes → (aside : Aside)
        → FitsSo aside (Opening q next) → (z : TrussState) → z.traced ≡ slice_set ts q (learnt u r step)
        → z.stage ≡ Opening q next → z.aside ≡ aside → Done z
    set-goes step next at late other on apart same bytes is begins aside fits z traced stage beside =
        opens-with q within step at (by-control q within step at bytes is) (learnt u r step) next aside
        (learnt-pid u r step) (learnt-clean q within step at) fits
        (λ x now.
        subst (λ (y : Traced). OpensSo next y x) (sym same)
        (counted on apart (counted-here q within step at late other bytes is begins x now))) z traced stage beside

    -- it is run
    start-here : (at : t.stage ≡ Opening q opening.Start) → c ≡ message_call u.control (message.Run 0)
        → (x : TracedProcess) → live_process (later w) u.pid ≡ Some x → RestsSo u x
    start-here at is x now =
        let g = w.goes in
        let was = stood q within opening.Start at x now in
        let p = was.0 in
        let its = has-control w q within in
        let none =
        ran-alone n k o s g.lawful c a w.given w.over u.pid u.control (spelling (message.Run 0) []) is its 0 run-reads
        accepted p was.1.0 in
        let frozen : IsFrozen p =
        opening-stands n k o t s g q opening.Start at p was.1.0 refl (λ (e : opening.Start ≡ opening.ReadLwps). cc)
        none in
        let cnt : IsCountedOut u.old p =
        counted-of opening.Start u p refl (λ (e : opening.Start ≡ opening.ReadLwps). cc) was.1.1 in
        let rises : IsRising p.lwps = (let l = live-lawful s.system u.pid p g.lawful.system was.1.0 in l.rising) in
        let ran = run-live s k u.control (held_by k u.pid 0 file.Ctl WriteExcl) its refl p was.1.0 a
        (ap (answer_to s k) (sym is) ∙ w.given) accepted in
        subst (RestsSo u) (same_Some (with_run 0 p) x (sym ran ∙ now))
        (by p frozen none rises cnt.out (cnt.count none) (met_in p) refl)
      where
        flags : u.marks.flags ≡ 0
        flags =
            let g = w.goes in
            let m = g.kept in
            let h : IsSo (Unit {0}) k t.options s (opens opening.Start) u =
            opens-at (IsSo (Unit {0}) k t.options s) ts t.stage q opening.Start at m.stage in
            let st = h.stands tt in st.prepared.0

        by : (p : TracedProcess) → IsFrozen p → has_agent p ≡ false → IsRising p.lwps → HaveNoCopyBegun p
            → u.old ≡ met_in p - 1 → (m : ℕ) → met_in p ≡ m → RestsSo u (with_run 0 p)
        by p frozen none rises out count zero is =
            rests_new (omega (arith, count, is))
            (none_goes (out-clear (with_run 0 p) (run-out 0 p out)
            (run-met-nothing p rises none frozen 0 (unmet (none-unmet p is)))))
        by p frozen none rises out count (suc zero) is =
            let stops = waits-stopped p rises none 0 (record { frozen = frozen; count = is }) in
            let quiet = run-quiet p rises none stops (omega (arith, is)) in
            rests_new (omega (arith, count, is))
            (none_goes (out-clear (with_run 0 p) (run-out 0 p out) (quiet-unmet (with_run 0 p) quiet)))
        by p frozen none rises out count (suc (suc m)) is =
            let stops = waits-stopped p rises none (suc m) (record { frozen = frozen; count = is }) in
            let waits = run-waits p rises none stops m is in
            rests_old flags (omega (arith, count, is))
            (record { out = run-out 0 p out; frozen = waits.frozen; count = omega (arith, waits.count, count, is) })

    pub step-accepted : (step : OpeningStep) → t.stage ≡ Opening q step
        → function_call_of t (Opening q step) ≡ Some c
        → Done (with_functions_begun (with_step_done t q r step) q step)
    unfolding function_call_of call_of opening_call with_step_done step_after learnt with_next_function
    step-accepted opening.OpenStatus at is =
        early-goes opening.OpenStatus opening.OpenLstatus at refl refl
        (by-none q within opening.OpenStatus at (ap acts_by (sym (same_Some _ c is))))
    step-accepted opening.OpenLstatus at is =
        early-goes opening.OpenLstatus opening.OpenMemory at refl refl
        (by-none q within opening.OpenLstatus at (ap acts_by (sym (same_Some _ c is))))
    step-accepted opening.OpenMemory at is =
        early-goes opening.OpenMemory opening.ClearModes at refl refl
        (by-none q within opening.OpenMemory at (ap acts_by (sym (same_Some _ c is))))
    step-accepted opening.ClearModes at is =
        early-goes opening.ClearModes opening.SetRelease at refl refl
        (by-control q within opening.ClearModes at _ (sym (same_Some _ c is)))
    step-accepted opening.SetRelease at is =
        early-goes opening.SetRelease opening.Stop at refl refl
        (by-control q within opening.SetRelease at _ (sym (same_Some _ c is)))
    step-accepted opening.Stop at is =
        early-goes opening.Stop (opening.AwaitStop _) at refl refl
        (by-control q within opening.Stop at _ (sym (same_Some _ c is)))
    step-accepted (opening.AwaitStop until) at is =
        let sent : c ≡ call.CtlWait u.control until (spelling message.Stop []) = sym (same_Some _ c is) in
        let held : Held = held_by k u.pid 0 file.Ctl WriteExcl in
        let its = has-control w q within in
        let same = wait-stays s k u.control held its refl until (spelling message.Stop []) a
        (ap (answer_to s k) (sym sent) ∙ w.given) in
        opens-with q within (opening.AwaitStop until) at
        (by-none q within (opening.AwaitStop until) at (ap acts_by sent)) (record u { attached = true })
        opening.ReadLwps Nothing refl
        (let it = clean-here q within (opening.AwaitStop until) at in
        record { unseen = it.unseen; flags = it.flags }) tt
        (λ x now.
        stopped refl
        (w.out q until x at accepted
        (ap (λ (y : TracedSystem). live_process y u.pid) (sym same) ∙ now))) _ refl refl idle
    step-accepted opening.ReadLwps at is =
        let g = w.goes in
        let m = g.kept in
        let h : IsSo (Unit {0}) k t.options s (opens opening.ReadLwps) u =
        opens-at (IsSo (Unit {0}) k t.options s) ts t.stage q opening.ReadLwps at m.stage in
        let st = h.stands tt in
        let known = st.prepared.1 in
        let files = h.holds in
        let cs = w.copies in
        opens-with q within opening.ReadLwps at
        (by-none q within opening.ReadLwps at (ap acts_by (sym (same_Some _ c is))))
        (record u { old = length (event_stops (bytes_in r)) - 1 }) opening.TraceSignals Nothing refl
        (let it = clean-here q within opening.ReadLwps at in
        record { unseen = it.unseen; flags = it.flags }) tt
        (λ x now.
        let seen =
        lwps-counted-now n k s g.lawful c a w.given w.over (g.reached tt) u known.number known.is
        (files.its_lstatus known.number known.is) (sym (same_Some _ c is)) x now in
        counted refl (λ (e : opening.TraceSignals ≡ opening.ReadLwps). cc)
        (record {
          out = stopped-out u x (opens-of t q x opening.ReadLwps at (cs.each q within x seen.0));
          count = λ none. ap (λ i. i - 1) seen.1;
        })) _ refl refl idle
    step-accepted opening.TraceSignals at is =
        set-goes opening.TraceSignals opening.TraceFaults at refl (λ (e : opening.TraceSignals ≡ opening.ReadLwps). cc)
        refl (λ (e : opening.TraceFaults ≡ opening.ReadLwps). cc) refl _ (sym (same_Some _ c is))
        (leaves-as (message.Strace _) _ refl (signals-read all_signals)) Nothing tt _ refl refl idle
    step-accepted opening.TraceFaults at is =
        set-goes opening.TraceFaults opening.TraceEntries at refl (λ (e : opening.TraceFaults ≡ opening.ReadLwps). cc)
        refl (λ (e : opening.TraceEntries ≡ opening.ReadLwps). cc) refl _ (sym (same_Some _ c is))
        (leaves-as (message.Sfault _) _ refl (faults-read all_faults)) Nothing tt _ refl refl idle
    step-accepted opening.TraceEntries at is =
        set-goes opening.TraceEntries opening.TraceExits at refl (λ (e : opening.TraceEntries ≡ opening.ReadLwps). cc)
        refl (λ (e : opening.TraceExits ≡ opening.ReadLwps). cc) refl _ (sym (same_Some _ c is))
        (leaves-as (message.Sentry _) _ refl (entries-read (with_copying (traced_entries t.options)))) Nothing tt _ refl
        refl idle
    step-accepted opening.TraceExits at is =
        subst (λ b. Done (with_functions_begun
        (with_stage (with_traced t q (learnt u r opening.TraceExits))
        (Opening q (cond b opening.Follow opening.Start))) q opening.TraceExits)) (sym (is-unfollowed w))
        (first (nat_lt 0 (length t.options.functions)))
      where
        exits-go : (aside : Aside) → FitsSo aside (Opening q opening.Start) → (z : TrussState)
            → z.traced ≡ slice_set ts q u → z.stage ≡ Opening q opening.Start → z.aside ≡ aside → Done z
        exits-go aside fits z traced stage beside =
            set-goes opening.TraceExits opening.Start at refl (λ (e : opening.TraceExits ≡ opening.ReadLwps). cc)
            refl (λ (e : opening.Start ≡ opening.ReadLwps). cc) refl _ (sym (same_Some _ c is))
            (leaves-as (message.Sexit _) _ refl (exits-read (with_copying (traced_exits t.options)))) aside fits z
            traced stage beside

        base : TrussState
        base = with_stage (with_traced t q (learnt u r opening.TraceExits)) (Opening q opening.Start)

        first : (b : Bool) → Done (cond b (with_aside base (Reading q 0)) (with_aside base Nothing))
        first true = exits-go (Reading q 0) (refl, refl) (with_aside base (Reading q 0)) refl refl refl
        first false = exits-go Nothing tt (with_aside base Nothing) refl refl refl
    step-accepted opening.Follow at is =
        set-goes opening.Follow opening.Start at refl (λ (e : opening.Follow ≡ opening.ReadLwps). cc)
        refl (λ (e : opening.Start ≡ opening.ReadLwps). cc) refl _ (sym (same_Some _ c is))
        (leaves-as (message.Set _) _ refl follow-reads) Nothing tt _ refl refl idle
    step-accepted opening.Start at is =
        let sent : c ≡ message_call u.control (message.Run 0) = sym (same_Some _ c is) in
        next-done (with_traced t q u) _ (is-off w) idle (opening-next (with_traced t q u) (is-off w))
        (each-set X ts q u within (by-control q within opening.Start at _ sent)
        (record { clean = clean-here q within opening.Start at; stands = start-here at sent }))

  pub step-done : (q : ℕ) → q < length ts → (step : OpeningStep) → t.stage ≡ Opening q step → t.aside ≡ Nothing
      → function_call_of t (Opening q step) ≡ Some c → (told : Told) → answer_of a.reply ≡ told → told ≢ Interrupted
      → Done (with_function_step_answered t q step r told)
  unfolding with_function_step_answered
  step-done q within step at idle is Accepted told other = step-accepted q within idle told step at is
  step-done q within step at idle is (Refused errno) told other =
      opening-refused q within step at t refl errno (λ e. let both : Refused errno ≡ Accepted = sym told ∙ e in cc)
  step-done q within step at idle is Gone told other =
      opening-gone q within step at t refl idle Noent (λ e. let both : Gone ≡ Accepted = sym told ∙ e in cc)
  step-done q within step at idle is Interrupted told other = absurd (other refl)
