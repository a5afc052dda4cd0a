use Rattle.std.proofs.Common.{◌≡◌, ◌≢◌, ◌<◌, ◌==◌, ◌⊎◌, ◌||◌, ℕ, Bool, true, false, cond, is_some, Option, Some, None, List, length, refl, sym, subst, ap, ◌∙◌, inl, inr}
use Rattle.std.proofs.lemmas.Bool.{cases_Bool, false≢true, ne_eqb}
use Rattle.std.proofs.lemmas.Option.{none-some}
use Rattle.std.specs.List.{slice_set}
use Rattle.pr_line.specs.declared.options.Options.{Options}
use Rattle.pr_model.specs.Calls.{Answer}
use Rattle.pr_model.specs.Replies.{bytes_in}
use Rattle.pr_model.specs.State.{TracedProcess, TracedState, live_process}
use Rattle.pr_model.specs.declared.calls.Call.{Call}
use Rattle.pr_model.specs.declared.calls.Call.TheVariants as call
use Rattle.pr_model.specs.declared.calls.Reply.{Reply}
use Rattle.pr_rec.specs.declared.lwps.LwpStatus.{LwpStatus}
use Rattle.pr_report_laws.proofs.Invariant.StandLemmas.{EachBut, but-set}
use Rattle.pr_truss.specs.Asides.{patching, with_aside, with_lifts}
use Rattle.pr_truss.specs.Closings.{with_closing}
use Rattle.pr_truss.specs.FunctionFeeding.{after_first, after_patch, fed_functions, planted_if, with_patch_answered, with_pending_told}
use Rattle.pr_truss.specs.FunctionStops.{after_function_text, with_function_text_answered}
use Rattle.pr_truss.specs.Marks.{first_function, has_function, with_function, without_function}
use Rattle.pr_truss.specs.Replies.{answer_of}
use Rattle.pr_truss.specs.Stops.{after_text, text_of, with_event_over, with_event_shown, with_text_answered}
use Rattle.pr_truss.specs.Trusses.{TrussState, traced_at, with_stage}
use Rattle.pr_truss.specs.declared.asides.Aside.{Aside}
use Rattle.pr_truss.specs.declared.asides.Aside.TheVariants.{Nothing, Patching}
use Rattle.pr_truss.specs.declared.marks.Marks.{Marks}
use Rattle.pr_truss.specs.declared.processes.Traced.{Traced}
use Rattle.pr_truss.specs.declared.replies.Answer.{Answer as Told}
use Rattle.pr_truss.specs.declared.replies.Answer.TheVariants.{Accepted, Gone, Interrupted, Refused}
use Rattle.pr_truss.specs.declared.stages.AfterClosing.{AfterClosing}
use Rattle.pr_truss.specs.declared.stages.AfterClosing.TheVariants.{GoOn, OpenNext, RunParent}
use Rattle.pr_truss.specs.declared.stages.Stage.{Stage}
use Rattle.pr_truss.specs.declared.stages.Stage.TheVariants.{Closing, ReadingText, Running}
use Rattle.pr_truss_laws.proofs.Files.HeldLemmas.{at_place, set-at}
use Rattle.pr_function_laws.proofs.OpenedProcesses.OneEventLemmas.{lwps-few}
use Rattle.pr_function_laws.proofs.OpenedProcesses.StoodCalls.{BeginLeavingLwps, KeepsLwps}
use Rattle.pr_function_laws.specs.Stretches.{acts_by}
use Rattle.pr_function_hides.proofs.Replies.ClosingWalk.{called_at}
use Rattle.pr_function_hides.proofs.Copying.CopyFeeds.{IsRestedSo, but-one, closes-of, event-over-runs, runs-of, treats-about}
use Rattle.pr_function_hides.proofs.Copying.CopyOpening.{fits-idle}
use Rattle.pr_function_hides.proofs.StoppedCopies.CopyOuts.{lwps-out}
use Rattle.pr_function_hides.proofs.Copying.CopyOwn.{OwnCall, control-away, ended-now, is-off, is-unfollowed, later, left-alone, others-rested, quiet-away, same-lwps}
use Rattle.pr_function_hides.proofs.Copying.CopyPlaces.{ClosesSo, CopiesSo, FitsSo, IsBareMarks, IsClean, RunsSo, closes_so, copies-lwps, event-lwps, halted, halting-lwps, is_about, runs-alone, runs_old, runs_so, treats, unplanted}
use Rattle.pr_function_hides.proofs.Replies.FunctionSets.{has-without}
use Rattle.pr_function_hides.proofs.Replies.TreatedEvents.{own-place, treats-on}
use Rattle.pr_function_hides.specs.Treating.{Treats, is_run_soon}

-- The forks, vforks and execs of a process in which truss plants and lifts breakpoints, or of which it reads memory.

-- ---- a lift

lifted-bare : (m : Marks) (i : ℕ) → IsBareMarks m → IsBareMarks (record m { planted = without_function m.planted i })
lifted-bare m i b = record {
  lifted = record {
    none_planted = λ function. elim (cases_Bool (has_function (without_function m.planted i) function)) [
      | inl has ↦
          let it = has-without m.planted i function has in
          absurd (false≢true (sym (let x = b.lifted in x.none_planted function) ∙ it.has))
      | inr not ↦ not
    ];
    no_step = let x = b.lifted in x.no_step;
  };
  left = b.left;
}

module _ {n k : ℕ} {o : Options} {t : TrussState} {s : TracedState} {c : Call} {a : Answer}
    (w : OwnCall n k o t s c a) (q : ℕ) (within : q < length t.traced) where
  abbrev r : Reply
  r = let b : Answer = a in b.reply

  abbrev v : Traced
  v = traced_at t q

  abbrev X : Traced → Type 0
  X u = IsRestedSo (later w) u

  abbrev Done : TrussState → Type 0
  Done z = CopiesSo z (later w)

  abbrev idle_now : TrussState
  idle_now = with_aside t Nothing

  clean-here : IsClean v
  clean-here = let cs = w.copies in cs.clean q within

  -- with another set of functions that are planted, or with the same
  data IsPatched (z : TrussState) : Type 0 where
    same : z.traced ≡ t.traced → IsPatched z
    set : (planted : List Bool)
        → z.traced ≡ slice_set t.traced q (record v { marks = record v.marks { planted = planted } }) → IsPatched z

  module _ (others : EachBut X t.traced q) where
    patched-others : (z : TrussState) → IsPatched z → EachBut X z.traced q
    patched-others z (same is) = subst (λ us. EachBut X us q) (sym is) others
    patched-others z (set planted is) =
        subst (λ us. EachBut X us q) (sym is)
        (but-set X t.traced q (record v { marks = record v.marks { planted = planted } }) others)

  -- what stays of it
  record StaysAt (u : Traced) : Type 0 where
    pid : u.pid ≡ v.pid
    old : u.old ≡ v.old
    clean : IsClean u

  patched-stays : (z : TrussState) → IsPatched z → StaysAt (traced_at z q)
  patched-stays z (same is) =
      subst StaysAt (sym (ap (λ us. at_place us q) is))
      (record { pid = refl; old = refl; clean = clean-here })
  patched-stays z (set planted is) =
      subst StaysAt
      (sym (ap (λ us. at_place us q) is
      ∙ set-at t.traced q (record v { marks = record v.marks { planted = planted } }) within))
      (record {
        pid = refl;
        old = refl;
        clean = let it = clean-here in record { unseen = it.unseen; flags = it.flags };
      })

  at-later : (z : TrussState) → IsPatched z → (x : TracedProcess)
      → live_process (later w) (traced_at z q).pid ≡ Some x → live_process (later w) v.pid ≡ Some x
  at-later z patched x now =
      let it = patched-stays z patched in ap (live_process (later w)) (sym it.pid) ∙ now

  -- it has ended
  closed-gone : EachBut X t.traced q → (next : AfterClosing) → (z : TrussState) → IsPatched z
      → z.stage ≡ Closing q next → z.aside ≡ Nothing → answer_of a.reply ≡ Gone
      → called_at t.stage t.aside ≡ Some q → Done z
  closed-gone others next z patched stage beside told here =
      but-one (later w) z q
      (λ place other. ap (λ y. is_about y place) stage ∙ ne_eqb q place (λ is. other (sym is)))
      (fits-idle w z beside) (patched-others others z patched) (let it = patched-stays z patched in it.clean)
      (λ x now. ended-now w told q here x (at-later z patched x now))

  -- ---- breakpoints that are planted and lifted

  rest-fits : (plants lifts : List Bool) (clear : Bool) (stage : Stage)
      → FitsSo (Patching q plants lifts clear) stage → FitsSo (patching q plants lifts clear) stage
  unfolding patching
  rest-fits plants lifts clear stage fits =
      by (is_some (first_function plants) || is_some (first_function lifts) || clear)
    where
      by : (b : Bool) → FitsSo (cond b (Patching q plants lifts clear) Nothing) stage
      by true = fits
      by false = tt

  module _ (plants lifts : List Bool) (clear : Bool) (beside : t.aside ≡ Patching q plants lifts clear)
      (bytes : List ℕ) (is : c ≡ call.Ctl v.control bytes) (begins : BeginLeavingLwps bytes) where
    busy : t.aside ≢ Nothing
    busy e = let both : Patching q plants lifts clear ≡ Nothing = sym beside ∙ e in cc

    its-here : called_at t.stage t.aside ≡ Some q
    its-here = ap (called_at t.stage) beside

    fits-now : FitsSo (Patching q plants lifts clear) t.stage
    fits-now = let cs = w.copies in subst (λ y. FitsSo y t.stage) beside cs.fits

    kept-lwps : (x : TracedProcess) → live_process (later w) v.pid ≡ Some x
        → (p : TracedProcess) × ((live_process s.system v.pid ≡ Some p) × KeepsLwps p x)
    kept-lwps x now = same-lwps w q within bytes is begins x now

    -- of a process that is run soon
    module _ (soon : is_run_soon t.stage q ≡ true) where
      soon-others : EachBut X t.traced q
      soon-others =
          others-rested w q (treats-about t.stage q soon) (control-away w q within (ap acts_by is))

      soon-here : (z : TrussState) → IsPatched z → z ≡ fed_functions t r → is_run_soon z.stage q ≡ true
          → (x : TracedProcess) → live_process (later w) v.pid ≡ Some x → RunsSo z q x
      soon-here z patched fed_is goes_on x now =
          let was = kept-lwps x now in
          let cs = w.copies in
          by was.0 was.1.1 (runs-of t q was.0 soon (cs.each q within was.0 was.1.0))
        where
          by : (p : TracedProcess) → KeepsLwps p x → RunsSo t q p → RunsSo z q x
          by p keeps (runs_old idle stage flags waits) = absurd (busy idle)
          by p keeps (treats m e none treating stands few event) =
              goes (subst (λ y. Treats m e q y ⊎ (y.stage ≡ Closing q GoOn)) (sym fed_is)
              (treats-on t r m e q w.calm treating w.has (λ idle. absurd (busy idle))))
            where
              goes : Treats m e q z ⊎ (z.stage ≡ Closing q GoOn) → RunsSo z q x
              goes (inr closing) =
                  absurd (false≢true (sym (ap (λ y. is_run_soon y q) closing) ∙ goes_on))
              goes (inl on) =
                  treats m e (let it = patched-stays z patched in it.old ∙ none) on
                  (copies-lwps p x keeps.lwps m stands) (lwps-few p x keeps.lwps keeps.loan few)
                  (event-lwps p x keeps.lwps m e event)

      -- what is left to do goes on
      soon-goes : (u : TrussState) → IsPatched u → u.stage ≡ t.stage → (rest : Aside) → FitsSo rest t.stage
          → with_aside u rest ≡ fed_functions t r → Done (with_aside u rest)
      soon-goes u patched stage rest fits fed_is =
          let on : is_run_soon u.stage q ≡ true = ap (λ y. is_run_soon y q) stage ∙ soon in
          let both : IsPatched (with_aside u rest) = with-aside patched in
          but-one (later w) (with_aside u rest) q (treats-about u.stage q on) (subst (FitsSo rest) (sym stage) fits)
          (patched-others soon-others (with_aside u rest) both)
          (let it = patched-stays (with_aside u rest) both in it.clean)
          (λ x now.
          runs_so on
          (soon-here (with_aside u rest) both fed_is on x (at-later (with_aside u rest) both x now)))
        where
          with-aside : IsPatched u → IsPatched (with_aside u rest)
          with-aside (same is) = same is
          with-aside (set planted is) = set planted is

      soon-after : (u : TrussState) → IsPatched u → u.stage ≡ t.stage → u.aside ≡ Nothing → (rest : Aside)
          → FitsSo rest t.stage → (stage : Stage) → is_run_soon stage q ≡ true → (told : Told)
          → answer_of a.reply ≡ told → told ≢ Interrupted → after_patch u rest q stage told ≡ fed_functions t r
          → Done (after_patch u rest q stage told)
      unfolding after_patch with_pending_told
      soon-after u patched same_stage beside_is rest fits (Running b) on Accepted told other fed_is =
          soon-goes u patched same_stage rest fits fed_is
      soon-after u patched same_stage beside_is rest fits (Running b) on (Refused errno) told other fed_is =
          soon-goes u patched same_stage rest fits fed_is
      soon-after u patched same_stage beside_is rest fits (Running b) on Gone told other fed_is =
          closed-gone soon-others GoOn _ (with-closing patched) refl beside_is told its-here
        where
          with-closing : IsPatched u → IsPatched (with_closing (with_pending_told u) q)
          with-closing (same is) = same is
          with-closing (set planted is) = set planted is
      soon-after u patched same_stage beside_is rest fits (Running b) on Interrupted told other fed_is =
          absurd (other refl)
      soon-after u patched same_stage beside_is rest fits (ReadingText b l from len) on Accepted told other fed_is =
          soon-goes u patched same_stage rest fits fed_is
      soon-after u patched same_stage beside_is rest fits (ReadingText b l from len) on (Refused errno) told other
          fed_is = soon-goes u patched same_stage rest fits fed_is
      soon-after u patched same_stage beside_is rest fits (ReadingText b l from len) on Gone told other fed_is =
          closed-gone soon-others GoOn _ (with-closing patched) refl beside_is told its-here
        where
          with-closing : IsPatched u → IsPatched (with_closing (with_pending_told u) q)
          with-closing (same is) = same is
          with-closing (set planted is) = set planted is
      soon-after u patched same_stage beside_is rest fits (ReadingText b l from len) on Interrupted told other fed_is =
          absurd (other refl)
      soon-after u patched same_stage beside_is rest fits _ on told_at told other fed_is = absurd (false≢true on)

    -- of one whose opening was refused: breakpoints are lifted alone
    module _ (next : AfterClosing) (at : t.stage ≡ Closing q next) where
      closing-about : (place : ℕ) → place ≢ q → is_about t.stage place ≡ false
      closing-about place other = ap (λ y. is_about y place) at ∙ ne_eqb q place (λ is. other (sym is))

      closing-others : EachBut X t.traced q
      closing-others = others-rested w q closing-about (control-away w q within (ap acts_by is))

      none-planted : first_function plants ≡ None
      none-planted = (subst (FitsSo (Patching q plants lifts clear)) at fits-now).1

      -- something comes before the close, so that it is directed to stop
      closes-here : (rest : Aside) (x : TracedProcess) → live_process (later w) v.pid ≡ Some x → ClosesSo rest v x
      closes-here rest x now =
          let was = kept-lwps x now in
          let keeps : KeepsLwps was.0 x = was.1.1 in
          let cs = w.copies in
          by was.0 keeps (closes-of t q was.0 next at (cs.each q within was.0 was.1.0))
        where
          by : (p : TracedProcess) → KeepsLwps p x → ClosesSo t.aside v p → ClosesSo rest v x
          by p keeps (unplanted none m) = absurd (busy none)
          by p keeps (halted out halting) =
              halted (lwps-out p x keeps.lwps out) (halting-lwps p x keeps.lwps halting)

      less-here : (rest : Aside) (i : ℕ) (x : TracedProcess) → ClosesSo rest v x
          → ClosesSo rest (record v { marks = record v.marks { planted = without_function v.marks.planted i } }) x
      less-here rest i x (unplanted none m) = unplanted none (lifted-bare v.marks i m)
      less-here rest i x (halted out halting) = halted out halting

      -- the same, or with one breakpoint less
      data IsLess (z : TrussState) : Type 0 where
        none_less : z.traced ≡ t.traced → IsLess z
        one_less : (i : ℕ)
            → z.traced
            ≡ slice_set t.traced q
            (record v { marks = record v.marks { planted = without_function v.marks.planted i } }) → IsLess z

      less-patched : (z : TrussState) → IsLess z → IsPatched z
      less-patched z (none_less is) = same is
      less-patched z (one_less i is) = set (without_function v.marks.planted i) is

      less-closes : (rest : Aside) (z : TrussState) → IsLess z → (x : TracedProcess) → ClosesSo rest v x
          → ClosesSo rest (traced_at z q) x
      less-closes rest z (none_less is) x it = subst (λ us. ClosesSo rest (at_place us q) x) (sym is) it
      less-closes rest z (one_less i is) x it =
          subst (λ (y : Traced). ClosesSo rest y x)
          (sym (ap (λ us. at_place us q) is
          ∙ set-at t.traced q (record v { marks = record v.marks { planted = without_function v.marks.planted i } })
          within)) (less-here rest i x it)

      closing-goes : (u : TrussState) → IsLess u → u.stage ≡ t.stage → (rest : Aside) → FitsSo rest t.stage
          → Done (with_aside u rest)
      closing-goes u less stage rest fits =
          let z : TrussState = with_aside u rest in
          but-one (later w) z q
          (λ place other. ap (λ y. is_about y place) stage ∙ closing-about place other)
          (subst (FitsSo rest) (sym stage) fits)
          (patched-others closing-others z (less-patched z (on less)))
          (let it = patched-stays z (less-patched z (on less)) in it.clean)
          (λ x now.
          closes_so next (stage ∙ at)
          (less-closes rest z (on less) x (closes-here rest x (at-later z (less-patched z (on less)) x now))))
        where
          on : IsLess u → IsLess (with_aside u rest)
          on (none_less is) = none_less is
          on (one_less i is) = one_less i is

      closing-gone : (u : TrussState) → IsLess u → u.aside ≡ Nothing → answer_of a.reply ≡ Gone
          → Done (with_closing u q)
      closing-gone u less beside_is told =
          closed-gone closing-others GoOn (with_closing u q) (less-patched (with_closing u q) (on less)) refl beside_is
          told its-here
        where
          on : IsLess u → IsLess (with_closing u q)
          on (none_less is) = none_less is
          on (one_less i is) = one_less i is

      closing-after : (u : TrussState) → IsLess u → u.stage ≡ t.stage → u.aside ≡ Nothing → (rest : Aside)
          → FitsSo rest t.stage → (b : ℕ) (following : AfterClosing) (told : Told) → answer_of a.reply ≡ told
          → Done (after_patch u rest q (Closing b following) told)
      unfolding after_patch
      closing-after u less same_stage beside_is rest fits b OpenNext told is_told =
          closing-goes u less same_stage rest fits
      closing-after u less same_stage beside_is rest fits b GoOn Gone is_told =
          closing-gone u less beside_is is_told
      closing-after u less same_stage beside_is rest fits b GoOn Accepted is_told =
          closing-goes u less same_stage rest fits
      closing-after u less same_stage beside_is rest fits b GoOn (Refused errno) is_told =
          closing-goes u less same_stage rest fits
      closing-after u less same_stage beside_is rest fits b GoOn Interrupted is_told =
          closing-goes u less same_stage rest fits
      closing-after u less same_stage beside_is rest fits b (RunParent parent) Gone is_told =
          closing-gone u less beside_is is_told
      closing-after u less same_stage beside_is rest fits b (RunParent parent) Accepted is_told =
          closing-goes u less same_stage rest fits
      closing-after u less same_stage beside_is rest fits b (RunParent parent) (Refused errno) is_told =
          closing-goes u less same_stage rest fits
      closing-after u less same_stage beside_is rest fits b (RunParent parent) Interrupted is_told =
          closing-goes u less same_stage rest fits

    -- ---- a row a patch

    less-fits : (plants_later lifts_later : List Bool)
        → (first_function plants ≡ None → first_function plants_later ≡ None)
        → FitsSo (patching q plants_later lifts_later clear) t.stage
    less-fits plants_later lifts_later none =
        rest-fits plants_later lifts_later clear t.stage (by t.stage fits-now)
      where
        by : (stage : Stage) → FitsSo (Patching q plants lifts clear) stage
            → FitsSo (Patching q plants_later lifts_later clear) stage
        by (Closing b next) w = (w.0, none w.1)
        by (Running b) w = w
        by (ReadingText b l from len) w = w
        by _ w = absurd w

    -- ---- a stage of a process that is run soon, or closed
    data IsPatchStage : Type 0 where
      runs_then : is_run_soon t.stage q ≡ true → IsPatchStage
      closes_then : (next : AfterClosing) → t.stage ≡ Closing q next → IsPatchStage

    patch-stage : IsPatchStage
    patch-stage = by t.stage refl fits-now
      where
        by : (stage : Stage) → t.stage ≡ stage → FitsSo (Patching q plants lifts clear) stage → IsPatchStage
        by (Running b) at w =
            runs_then (ap (λ y. is_run_soon y q) at ∙ ap (λ i. i == q) (sym w) ∙ own-place q)
        by (ReadingText b l from len) at w =
            runs_then (ap (λ y. is_run_soon y q) at ∙ ap (λ i. i == q) (sym w) ∙ own-place q)
        by (Closing b next) at w = closes_then next (at ∙ ap (λ i. Closing i next) (sym w.0))
        by _ at w = absurd w

    after-done : (u : TrussState) → IsPatched u
        → ((next : AfterClosing) (at : t.stage ≡ Closing q next) → IsLess next at u)
        → u.stage ≡ t.stage → u.aside ≡ Nothing → (rest : Aside) → FitsSo rest t.stage
        → after_patch u rest q t.stage (answer_of r) ≡ fed_functions t r
        → Done (after_patch u rest q t.stage (answer_of r))
    after-done u patched less stage beside_is rest fits fed_is = by patch-stage
      where
        by : IsPatchStage → Done (after_patch u rest q t.stage (answer_of r))
        by (runs_then soon) =
            soon-after soon u patched stage beside_is rest fits t.stage soon (answer_of r) refl w.calm fed_is
        by (closes_then next at) =
            subst (λ y. Done (after_patch u rest q y (answer_of r))) (sym at)
            (closing-after next at u (less next at) stage beside_is rest fits q next (answer_of r) refl)

    planted-done : (i : ℕ) → first_function plants ≡ Some i → (told : Told) → answer_of r ≡ told
        → after_patch (planted_if idle_now q i told) (patching q (without_function plants i) lifts clear) q t.stage
        (answer_of r) ≡ fed_functions t r
        → Done (after_patch (planted_if idle_now q i told) (patching q (without_function plants i) lifts clear) q
        t.stage (answer_of r))
    planted-done i first Accepted told fed_is =
        after-done _ (set (with_function v.marks.planted i) refl)
        (λ next at. absurd (none-some i (sym (none-planted next at) ∙ first))) refl refl _
        (less-fits (without_function plants i) lifts (λ none. absurd (none-some i (sym none ∙ first)))) fed_is
    planted-done i first _ told fed_is =
        after-done idle_now (same refl) (λ next at. none_less refl) refl refl _
        (less-fits (without_function plants i) lifts (λ none. absurd (none-some i (sym none ∙ first)))) fed_is

    first-done : (plant lift : Option ℕ) → first_function plants ≡ plant → first_function lifts ≡ lift
        → after_first idle_now q plants lifts clear (answer_of r) plant lift ≡ fed_functions t r
        → Done (after_first idle_now q plants lifts clear (answer_of r) plant lift)
    first-done (Some i) lift first next fed_is = planted-done i first (answer_of r) refl fed_is
    first-done None (Some i) first next fed_is =
        after-done _ (set (without_function v.marks.planted i) refl) (λ next at. one_less i refl) refl refl _
        (less-fits plants (without_function lifts i) (λ none. none)) fed_is
    first-done None None first next fed_is =
        after-done idle_now (same refl) (λ next at. none_less refl) refl refl Nothing tt fed_is

    pub patch-done : fed_functions t r ≡ with_patch_answered idle_now q plants lifts clear (answer_of r)
        → Done (fed_functions t r)
    unfolding with_patch_answered
    patch-done fed_is =
        subst Done (sym fed_is)
        (first-done (first_function plants) (first_function lifts) refl refl (sym fed_is))

  -- ---- memory that is read

  module _ (l : LwpStatus) (from len : ℕ) (at : t.stage ≡ ReadingText q l from len) (idle : t.aside ≡ Nothing)
      (quiet : acts_by c ≡ None) where
    text-soon : is_run_soon t.stage q ≡ true
    text-soon = ap (λ y. is_run_soon y q) at ∙ own-place q

    text-others : EachBut X t.traced q
    text-others =
        others-rested w q (treats-about t.stage q text-soon) (λ place inside other. quiet-away w quiet place)

    -- it runs the process next
    text-goes : (z : TrussState) → z.traced ≡ t.traced → z.stage ≡ Running q → z.aside ≡ Nothing
        → z ≡ fed_functions t r → Done z
    text-goes z traced stage beside fed_is =
        but-one (later w) z q
        (λ place other. ap (λ y. is_about y place) stage ∙ ne_eqb q place (λ is. other (sym is)))
        (fits-idle w z beside) (patched-others text-others z (same traced))
        (let it = patched-stays z (same traced) in it.clean)
        (λ x now.
        let its : live_process (later w) v.pid ≡ Some x = at-later z (same traced) x now in
        let was = left-alone w q within (quiet-away w quiet q) x its in
        let cs = w.copies in
        runs_so (ap (λ y. is_run_soon y q) stage ∙ own-place q)
        (by x (runs-alone was.0 x was.1.1 t q (runs-of t q was.0 text-soon (cs.each q within was.0 was.1.0)))))
      where
        by : (x : TracedProcess) → RunsSo t q x → RunsSo z q x
        by x (runs_old idle_now at_now flags waits) = absurd (apart (sym at ∙ at_now))
          where
            apart : ReadingText q l from len ≡ Running q → ⊥
            apart e = cc
        by x (treats m e none treating stands few event) =
            goes (subst (λ y. Treats m e q y ⊎ (y.stage ≡ Closing q GoOn)) (sym fed_is)
            (treats-on t r m e q w.calm treating w.has (λ i runs. apart (sym at ∙ runs))))
          where
            apart : ReadingText q l from len ≡ Running q → ⊥
            apart e = cc

            goes : Treats m e q z ⊎ (z.stage ≡ Closing q GoOn) → RunsSo z q x
            goes (inr closing) = absurd (closes_apart (sym stage ∙ closing))
              where
                closes_apart : Running q ≡ Closing q GoOn → ⊥
                closes_apart e = cc
            goes (inl on) =
                treats m e (ap (λ us. let y : Traced = at_place us q in y.old) traced ∙ none) on stands few event

    shown-at : TrussState
    shown-at = with_event_shown t q l (text_of len (bytes_in r))

    text-after : (told : Told) → answer_of a.reply ≡ told → told ≢ Interrupted
        → after_function_text t (after_text (with_event_shown t q l (text_of len (bytes_in r))) q l told) q told
        ≡ fed_functions t r
        → Done (after_function_text t (after_text (with_event_shown t q l (text_of len (bytes_in r))) q l told) q told)
    unfolding after_text with_event_shown
    text-after Accepted told other fed_is = over fed_is
      where
        u : TrussState
        u = with_event_shown t q l (text_of len (bytes_in r))

        over : (cond t.leaving (with_lifts (with_event_over u q l) q false) (with_event_over u q l)) ≡ fed_functions t r
            → Done (cond t.leaving (with_lifts (with_event_over u q l) q false) (with_event_over u q l))
        over fed_is =
            let it : cond t.leaving (with_lifts (with_event_over u q l) q false) (with_event_over u q l)
            ≡ with_stage u (Running q) =
            ap (λ b. cond b (with_lifts (with_event_over u q l) q false) (with_event_over u q l)) (is-off w)
            ∙ event-over-runs u (is-off w) (is-unfollowed w) q l in
            subst Done (sym it) (text-goes (with_stage u (Running q)) refl refl idle (sym it ∙ fed_is))
    text-after (Refused errno) told other fed_is = over fed_is
      where
        u : TrussState
        u = with_event_shown t q l (text_of len (bytes_in r))

        over : (cond t.leaving (with_lifts (with_event_over u q l) q false) (with_event_over u q l)) ≡ fed_functions t r
            → Done (cond t.leaving (with_lifts (with_event_over u q l) q false) (with_event_over u q l))
        over fed_is =
            let it : cond t.leaving (with_lifts (with_event_over u q l) q false) (with_event_over u q l)
            ≡ with_stage u (Running q) =
            ap (λ b. cond b (with_lifts (with_event_over u q l) q false) (with_event_over u q l)) (is-off w)
            ∙ event-over-runs u (is-off w) (is-unfollowed w) q l in
            subst Done (sym it) (text-goes (with_stage u (Running q)) refl refl idle (sym it ∙ fed_is))
    text-after Gone told other fed_is =
        closed-gone text-others GoOn _ (same refl) refl idle told
        (ap (λ y. called_at y t.aside) at ∙ ap (called_at (ReadingText q l from len)) idle)
    text-after Interrupted told other fed_is = absurd (other refl)

    pub text-done : fed_functions t r ≡ with_function_text_answered t q l len r → Done (fed_functions t r)
    unfolding with_function_text_answered with_text_answered
    text-done fed_is = subst Done (sym fed_is) (text-after (answer_of r) refl w.calm (sym fed_is))
