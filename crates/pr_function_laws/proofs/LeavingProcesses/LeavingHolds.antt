use Rattle.std.proofs.Common.{◌≡◌, ◌==◌, ◌<◌, ◌++◌, ℕ, Bool, true, false, not, Some, None, List, length}
use Rattle.std.proofs.Common.{refl, sym, subst, ap, ◌∙◌, arith}
use Rattle.std.proofs.lemmas.Bool.{eq-eqb, eqb-true, false≢true}
use Rattle.pr_line.specs.declared.options.Options.{Options}
use Rattle.pr_model.specs.Legal.{state_after}
use Rattle.pr_model.specs.State.{TracedProcess, TracedState, live_process}
use Rattle.pr_model.specs.declared.events.Entry.{Entry}
use Rattle.pr_reached.specs.Reached.{IsReached}
use Rattle.pr_report_laws.proofs.Files.FileLaws.{FileOf, HasFiles, has-each, is_closing}
use Rattle.pr_report_laws.proofs.Files.KeepLemmas.{FilesAre}
use Rattle.pr_report_laws.proofs.Invariant.StandLemmas.{AreOpen}
use Rattle.pr_report_laws.specs.Watching.{is_away}
use Rattle.pr_truss.specs.Trusses.{TrussState, traced_at}
use Rattle.pr_truss.specs.declared.asides.Aside.{Aside}
use Rattle.pr_truss.specs.declared.processes.Traced.{Traced}
use Rattle.pr_truss.specs.declared.stages.OpeningStep.TheVariants as opening
use Rattle.pr_truss.specs.declared.stages.Stage.{Stage}
use Rattle.pr_truss.specs.declared.stages.Stage.TheVariants.{Closing, Finished, ReadingLwps, ReadingText, Unfollowing}
use Rattle.pr_truss_laws.specs.Stills.{IsFrozen}
use Rattle.pr_function_laws.proofs.LeavingProcesses.LeavingCourse.{files-at, leaving-at}
use Rattle.pr_function_laws.proofs.LeavingProcesses.LeftProcesses.{IsLeaving, StoodFirst, its-apart, its-control, many}
use Rattle.pr_function_laws.proofs.LeavingProcesses.LeavingStages.{IsLeft, IsUnlooked, asks, awaits, closes_files, halts, has_ended}
use Rattle.pr_function_laws.proofs.LeavingProcesses.LeavingStages.{is_looked, lifts_all, looks, reads_text, waits_again}
use Rattle.pr_function_laws.proofs.OpenedProcesses.OneEventLemmas.{none-unmet}
use Rattle.pr_function_laws.proofs.OpenedProcesses.OpenedLaws.{holds-opened, one-event-each, own-handles}
use Rattle.pr_function_laws.proofs.OpenedProcesses.OpenedLemmas.{Holds, control-sole}
use Rattle.pr_function_laws.proofs.OrdinaryTruss.OrdinaryReplies.{at-ordinary}
use Rattle.pr_function_laws.proofs.OpenedProcesses.StoodLemmas.{Stood, as_stopped, waits}
use Rattle.pr_function_laws.proofs.OpenedProcesses.TracedSets.{IsSetBy}
use Rattle.pr_function_laws.specs.OneEvent.{HasOneEventAtMost, HasOneEventEach, unmet}
use Rattle.pr_function_laws.specs.Opened.{HoldsWhatItOpened, IsFunctionRun, OwnsAndTraces, TracesAlone}
use Rattle.pr_function_laws.specs.Opened.{functions_at, is_opened}
use Rattle.pr_function_laws.specs.Ordinary.{ordinary, unmarked}
use Rattle.pr_function_laws.specs.ReachedRuns.{IsReachedFunctionRun}

-- What truss has of its processes and what of them is unread, also where it leaves them.

-- ---- where it stands

module _ (t : TrussState) (q : ℕ) where
  opened-left : IsLeft t → is_opened t.stage q ≡ true → is_closing t.stage q ≡ false
  opened-left at opened = by t.stage opened
    where
      negated : (b : Bool) → not b ≡ true → b ≡ false
      negated true is = absurd (false≢true is)
      negated false is = refl

      by : (stage : Stage) → is_opened stage q ≡ true → is_closing stage q ≡ false
      by (Closing at next) is = negated (at == q) is
      by _ is = refl

  -- it has not looked at it
  not-looked : (stage : Stage) → t.stage ≡ stage → is_looked stage ≡ false → IsUnlooked t.stage q
  not-looked stage at not is = absurd (false≢true (sym not ∙ ap is_looked (sym at) ∙ is))

  other-place : (stage : Stage) → t.stage ≡ stage → is_away true stage q ≡ (0 == q) → is_away true t.stage q ≡ false
      → IsUnlooked t.stage q
  other-place stage at same away is zero_q =
      false≢true
      (sym (sym same ∙ ap (λ st. is_away true st q) (sym at) ∙ away) ∙ eq-eqb 0 q (sym zero_q))

  pub here-unlooked : IsLeft t → is_away true t.stage q ≡ false → IsUnlooked t.stage q
  here-unlooked (halts at idle within) away = not-looked Unfollowing at refl
  here-unlooked (awaits until at beside within) away = not-looked ReadingLwps at refl
  here-unlooked (asks at beside within) away = not-looked ReadingLwps at refl
  here-unlooked (waits_again until at beside within) away = not-looked ReadingLwps at refl
  here-unlooked (looks at idle within) away = not-looked ReadingLwps at refl
  here-unlooked (reads_text l from len at idle within) away = other-place _ at refl away
  here-unlooked (lifts_all clear at beside within) away = other-place _ at refl away
  here-unlooked (closes_files at idle within) away = other-place _ at refl away
  here-unlooked (has_ended at idle) away = not-looked Finished at refl

  -- it has
  away-at : (stage : Stage) → t.stage ≡ stage → is_looked stage ≡ true → is_away true stage q ≡ (0 == q)
      → is_away true t.stage q ≡ true → (q ≡ 0) × (is_looked t.stage ≡ true)
  away-at stage at looked_so same away = (
    sym (eqb-true 0 q (sym same ∙ ap (λ st. is_away true st q) (sym at) ∙ away)),
    ap is_looked at ∙ looked_so,
  )

  not-away : (stage : Stage) → t.stage ≡ stage → is_away true stage q ≡ false → is_away true t.stage q ≡ true
      → (q ≡ 0) × (is_looked t.stage ≡ true)
  not-away stage at not away =
      absurd (false≢true (sym not ∙ ap (λ st. is_away true st q) (sym at) ∙ away))

  pub away-looked : IsLeft t → is_away true t.stage q ≡ true → (q ≡ 0) × (is_looked t.stage ≡ true)
  away-looked (halts at idle within) away = not-away Unfollowing at refl away
  away-looked (awaits until at beside within) away = not-away ReadingLwps at refl away
  away-looked (asks at beside within) away = not-away ReadingLwps at refl away
  away-looked (waits_again until at beside within) away = not-away ReadingLwps at refl away
  away-looked (looks at idle within) away = not-away ReadingLwps at refl away
  away-looked (reads_text l from len at idle within) away = away-at _ at refl refl away
  away-looked (lifts_all clear at beside within) away = away-at _ at refl refl away
  away-looked (closes_files at idle within) away = away-at _ at refl refl away
  away-looked (has_ended at idle) away = not-away Finished at refl away

  pub here-opened : IsLeft t → is_away true t.stage q ≡ false → is_opened t.stage q ≡ true
  here-opened (halts at idle within) away = ap (λ st. is_opened st q) at
  here-opened (awaits until at beside within) away = ap (λ st. is_opened st q) at
  here-opened (asks at beside within) away = ap (λ st. is_opened st q) at
  here-opened (waits_again until at beside within) away = ap (λ st. is_opened st q) at
  here-opened (looks at idle within) away = ap (λ st. is_opened st q) at
  here-opened (reads_text l from len at idle within) away = ap (λ st. is_opened st q) at
  here-opened (lifts_all clear at beside within) away =
      ap (λ st. is_opened st q) at ∙ ap not (ap (λ st. is_away true st q) (sym at) ∙ away)
  here-opened (closes_files at idle within) away =
      ap (λ st. is_opened st q) at ∙ ap not (ap (λ st. is_away true st q) (sym at) ∙ away)
  here-opened (has_ended at idle) away = ap (λ st. is_opened st q) at

looked-frozen : (stage : Stage) (aside : Aside) (p : TracedProcess) → is_looked stage ≡ true
    → StoodFirst stage aside p → IsFrozen p
looked-frozen (Closing q next) aside p is h = h
looked-frozen (ReadingText q l from len) aside p is h = h
looked-frozen _ aside p is h = absurd (false≢true is)

pub stood-few : (n : ℕ) (p : TracedProcess) → n ≡ 0 → Stood 0 n p → HasOneEventAtMost p
stood-few n p none (as_stopped all few) = few
stood-few n p none (waits w flags) = unmet (none-unmet p (omega (arith, w.few, none)))

-- ---- where truss leaves

module _ (Reached : Type 0) (k : ℕ) (o : Options) (t : TrussState) (s : TracedState) (g : IsLeaving Reached k o t s)
    (files : HasFiles k (ordinary t) s) (q : ℕ) (within : q < length t.traced)
    (attached : (traced_at t q).attached ≡ true) where
  pub leaving-traces : TracesAlone k o t q s
  leaving-traces = record {
    control = its-control k t s files q within;
    alone = control-sole k (traced_at t q).pid (traced_at t q).control s g.lawful (its-control k t s files q within);
    traces = λ p live. let set : IsSetBy o None p = g.sets q within attached p live in set.0;
    no_agent = λ p live. let set : IsSetBy o None p = g.sets q within attached p live in set.1;
  }

  -- what truss has of a process, as far as its files go
  files-of : (i : ℕ) → i < length t.traced
      → (let v : Traced = traced_at t i in
      Holds k o s (Some opening.OpenStatus) v.pid v.control v.status v.lstatus v.memory)
  files-of i inside =
      let f : FilesAre (FileOf k s) (unmarked (traced_at t i)) =
      subst (λ (v : Traced). FilesAre (FileOf k s) v) (at-ordinary t i)
      (has-each k (ordinary t) s files i (many k t s files i inside)) in
      record {
        its = its-control k t s files i inside;
        its_status = λ m is. let file = f.status m is in file.is;
        its_lstatus = λ m is. let file = f.lstatus m is in file.is;
        its_memory = λ m is. let file = f.memory m is in file.is;
        known = tt;
        set = λ p live. tt;
      }

  pub leaving-owns : is_opened t.stage q ≡ true → OwnsAndTraces k o t q s
  leaving-owns opened =
      let known : AreOpen (unmarked (traced_at t q)) =
      subst AreOpen (at-ordinary t q)
      (files.opened q (many k t s files q within)
      (ap (λ (v : Traced). v.attached) (at-ordinary t q) ∙ attached) (opened-left t q g.at opened)) in
      let status = known.status in
      let own = files-of q within in
      let traces = leaving-traces in
      record {
        status = status.number;
        files = record {
          control = own.its;
          own_status = status.is;
          reads = own.its_status status.number status.is;
          others = λ i inside apart.
              own-handles k o s (traced_at t i) (traced_at t q).pid (files-of i inside)
              (its-apart k t s files i q inside within apart);
        };
        alone = traces.alone;
        traces = traces.traces;
        no_agent = traces.no_agent;
      }

  pub leaving-few : Reached → is_away true t.stage q ≡ false → (traced_at t q).old ≡ 0 → (p : TracedProcess)
      → live_process s.system (traced_at t q).pid ≡ Some p → HasOneEventAtMost p
  leaving-few r away new p live =
      stood-few (traced_at t q).old p new (g.stood r q within attached (here-unlooked t q g.at away) p live)

  pub leaving-still : is_away true t.stage q ≡ true → (p : TracedProcess)
      → live_process s.system (traced_at t q).pid ≡ Some p → IsFrozen p
  leaving-still away p live =
      let w = away-looked t q g.at away in
      looked-frozen t.stage t.aside p w.1
      (g.first (subst (λ i. i < length t.traced) w.0 within)
      (subst (λ i. (traced_at t i).attached ≡ true) w.0 attached) p
      (subst (λ i. live_process s.system (traced_at t i).pid ≡ Some p) w.0 live))

-- ---- the laws

module _ (n k : ℕ) (o : Options) (s : TracedState) (h : List Entry) (run : IsFunctionRun n k o s h) where
  abbrev none : ⊥ → IsReached s
  none r = absurd r

  module _ (before later : List Entry) (is : h ≡ before ++ later)
      (on : (functions_at k o before).leaving ≡ true) where
    unread : IsLeaving ⊥ k o (functions_at k o before) (state_after s before)
    unread = leaving-at ⊥ n k o s h run (λ r. absurd r) (λ r. absurd r) before later is on

    files : HasFiles k (ordinary (functions_at k o before)) (state_after s before)
    files = files-at ⊥ n k o s h run (λ r. absurd r) (λ r. absurd r) before later is

  pub holds-what-it-opened : HoldsWhatItOpened k o s h
  holds-what-it-opened =
      let calm = holds-opened n k o s h run in
      record {
        each = calm.each;
        left = λ before later place is on within attached opened.
            leaving-owns ⊥ k o (functions_at k o before) (state_after s before) (unread before later is on)
            (files before later is on) place within attached opened;
        closed_last = λ before later place is on within attached.
            leaving-traces ⊥ k o (functions_at k o before) (state_after s before) (unread before later is on)
            (files before later is on) place within attached;
      }

pub has-one-event-each : (n k : ℕ) (o : Options) (s : TracedState) (h : List Entry) → IsReachedFunctionRun n k o s h
    → HasOneEventEach k o s h
has-one-event-each n k o s h run =
    let calm = one-event-each n k o s h run in
    record {
      few = calm.few;
      still = calm.still;
      left = λ before later place p is on within attached away new live.
          leaving-few (Unit {0}) k o (functions_at k o before) (state_after s before)
          (leaving-at (Unit {0}) n k o s h run.of (λ r. run.reached) (λ r. run.bytes) before later is on)
          (files n k o s h run.of before later is on) place within attached tt away new p live;
      looked_last = λ before later place p is on within attached away live.
          leaving-still ⊥ k o (functions_at k o before) (state_after s before)
          (unread n k o s h run.of before later is on) (files n k o s h run.of before later is on) place within attached
          away p live;
    }

pub ruleset held_open = (holds-what-it-opened, has-one-event-each)
