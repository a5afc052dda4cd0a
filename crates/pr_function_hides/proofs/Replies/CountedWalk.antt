use Rattle.std.proofs.Common.{◌≡◌, ◌≢◌, ◌<◌, ◌||◌, ℕ, Bool, true, false, cond, is_some, Option, Some, None, List, length, refl, sym, subst, arith}
use Rattle.std.proofs.lemmas.Option.{same_Some}
use Rattle.std.specs.List.{slice_get}
use Rattle.pr_function_hides.proofs.Replies.FunctionSteps.{Before, Makes, Patches, begins_copy, breaks, ends_copy, ends_step, fed-makes, lifts_on, makes, nothing, patches_next, plants_on, reads, refuses, refuses_read, refuses_write, writes}
use Rattle.pr_function_hides.proofs.Copying.CopyRows.{breakpoint-stands}
use Rattle.pr_function_hides.proofs.Replies.FunctionSets.{first-has, not-in-none}
use Rattle.pr_function_hides.proofs.Replies.OwnFiles.{IsBeside, IsWithin}
use Rattle.pr_function_hides.proofs.Replies.PlantedReplies.{AfterAside, AfterStage, LeftSo, So, fed-so, planted_after}
use Rattle.pr_function_laws.proofs.Marks.MarkWalk as walk
use Rattle.pr_function_laws.proofs.Marks.MarkWalk.{less-in, more-in, then-in}
use Rattle.pr_line.specs.declared.events.Event.{Event}
use Rattle.pr_line.specs.declared.options.Options.{Options}
use Rattle.pr_model.specs.Replies.{bytes_in}
use Rattle.pr_model.specs.declared.calls.Reply.{Reply}
use Rattle.pr_rec.specs.declared.lwps.LwpStatus.{LwpStatus}
use Rattle.pr_report_laws.proofs.Invariant.StandLemmas.{Each, EachBut, each-but}
use Rattle.pr_truss.specs.Asides.{marks_at, patching}
use Rattle.pr_truss.specs.FunctionEvents.{function_event}
use Rattle.pr_truss.specs.FunctionFeeding.{fed_functions, is_to_plant}
use Rattle.pr_truss.specs.Marks.{first_function, has_function, has_functions, no_functions, no_marks, put_back, standing, with_step}
use Rattle.pr_truss.specs.Processes.{without_last}
use Rattle.pr_truss.specs.Replies.{answer_of}
use Rattle.pr_truss.specs.Trusses.{TrussState, first_of_program, first_truss, idle as begun, opening_or, traced_at}
use Rattle.pr_truss.specs.declared.asides.Aside.{Aside}
use Rattle.pr_truss.specs.declared.asides.Aside.TheVariants.{Nothing, Reading, Planting, Patching}
use Rattle.pr_truss.specs.declared.function_events.FunctionEvent.TheVariants.{AtBreakpoint}
use Rattle.pr_truss.specs.declared.marks.Marks.{Marks}
use Rattle.pr_truss.specs.declared.marks.Stepped.{Stepped}
use Rattle.pr_truss.specs.declared.processes.Traced.{Traced}
use Rattle.pr_truss.specs.declared.replies.Answer.{Answer}
use Rattle.pr_truss.specs.declared.replies.Answer.TheVariants.{Accepted, Interrupted, Gone, Refused}
use Rattle.pr_truss.specs.declared.stages.AfterClosing.TheVariants.{GoOn, OpenNext, RunParent}
use Rattle.pr_truss.specs.declared.stages.Stage.{Stage}
use Rattle.pr_truss.specs.declared.stages.Stage.TheVariants.{OpeningControl, ReadingStatus, Running, Closing}
use Rattle.pr_truss_laws.proofs.Files.HeldLemmas.{at_place}

-- What is so of each function that truss has planted or lifted, or is to plant or to lift, is so of each one after a
-- reply: it comes to none but those that it has just planted. So it is of another thing and each function that it is to
-- plant for the first time, since it has read its code.

-- of the marks of each process; but of one whose file is closed only where another one is left
abbrev pub StageSo : (ℕ → Marks → Type 0) → TrussState → Stage → Type 0
StageSo X t (Closing q next) =
    EachBut (So X) t.traced q × LeftSo X (without_last (traced_at t q)) (traced_at t q)
StageSo X t stage = Each (So X) t.traced

abbrev pub BesideAt : (ℕ → Marks → Type 0) → TrussState → Aside → Stage → Type 0
BesideAt X t Nothing stage = StageSo X t stage
BesideAt X t aside stage = Each (So X) t.traced

abbrev pub BesideSo : (ℕ → Marks → Type 0) → TrussState → Aside → Type 0
BesideSo X t aside = BesideAt X t aside t.stage

module _ (P : ℕ → ℕ → Type 0) where
  -- of each function of a set, in the process of an id
  abbrev pub AllIn : ℕ → List Bool → Type 0
  AllIn pid set = (i : ℕ) → has_function set i ≡ true → P pid i

  abbrev pub MarksIn : ℕ → Marks → Type 0
  MarksIn pid m = walk.MarksIn (P pid) m

  -- ---- sets

  none-in : (pid : ℕ) → AllIn pid no_functions
  none-in pid i is = absurd (not-in-none i is)

  step-in : (pid : ℕ) (set : List Bool) (o : Option Stepped) → AllIn pid set
      → ((step : Stepped) → o ≡ Some step → P pid step.function) → AllIn pid (with_step o set)
  step-in pid set None all here = all
  step-in pid set (Some step) all here = more-in (P pid) set step.function all (here step refl)

  back-in : (pid : ℕ) (m : Marks) → MarksIn pid m → AllIn pid (put_back m)
  unfolding put_back
  back-in pid m w = step-in pid no_functions m.stepped (none-in pid) w.stepped

  standing-in : (pid : ℕ) (m : Marks) → MarksIn pid m → AllIn pid (standing m)
  unfolding standing
  standing-in pid m w = step-in pid m.planted m.stepped w.planted w.stepped

  pub no-marks-in : (pid : ℕ) → MarksIn pid no_marks
  no-marks-in pid = walk.no-marks-in (P pid)

  abbrev BeforeStage : TrussState → Stage → Type 0
  BeforeStage t stage = StageSo MarksIn t stage

  abbrev BeforeAside : TrussState → Aside → Type 0
  BeforeAside t aside = BesideSo MarksIn t aside

  -- of each function that truss is to plant for the first time in the process of an id another thing is so
  abbrev pub AsideSo : (ℕ → ℕ → Type 0) → List Traced → Aside → Type 0
  AsideSo N ts (Planting q i) = N (at_place ts q).pid i
  AsideSo N ts (Patching q plants lifts clear) = AllIn (at_place ts q).pid plants × AllIn (at_place ts q).pid lifts
  AsideSo N ts _ = Unit {0}

  -- where nothing is asked of those that it is to plant so
  without-next : (N : ℕ → ℕ → Type 0) (ts : List Traced) (aside : Aside) → AsideSo N ts aside
      → AsideSo (λ pid i. Unit {0}) ts aside
  without-next N ts (Planting q i) it = tt
  without-next N ts (Patching q plants lifts clear) it = it
  without-next N ts _ it = tt

  module _ (N : ℕ → ℕ → Type 0) where
    -- ---- what is done before the call of the stage

    patching-in : (ts : List Traced) (q : ℕ) (plants lifts : List Bool) (clear : Bool)
        → AllIn (at_place ts q).pid plants → AllIn (at_place ts q).pid lifts
        → AsideSo N ts (patching q plants lifts clear)
    unfolding patching
    patching-in ts q plants lifts clear one two =
        elim (is_some (first_function plants) || is_some (first_function lifts) || clear)
        as (λ b. AsideSo N ts (cond b (Patching q plants lifts clear) Nothing)) [ true ↦ (one, two) | false ↦ tt ]

    -- ---- a reply

    -- all of it
    pub record TrussSo (t : TrussState) : Type 0 where
      pub marks : Each (So MarksIn) t.traced
      pub aside : AsideSo N t.traced t.aside

    module _ (t : TrussState) (r : Reply) (off : t.leaving ≡ false) (follow : t.options.follow ≡ false)
        (at_stage : IsWithin (length t.traced) t.stage) (at_aside : IsBeside (length t.traced) t.aside)
        (calm : answer_of r ≢ Interrupted) (has : has_functions t.options ≡ true) (before : BeforeAside t t.aside)
        (there : AsideSo (λ pid i. Unit {0}) t.traced t.aside)
        (learns : (q i : ℕ) → t.aside ≡ Reading q i → answer_of r ≡ Accepted
        → is_to_plant t.options i (bytes_in r) ≡ true → N (traced_at t q).pid i)
        (grants : (q i : ℕ) → t.aside ≡ Planting q i → answer_of r ≡ Accepted → P (traced_at t q).pid i) where
      abbrev PidAt : ℕ → ℕ
      PidAt q = (traced_at t q).pid

      -- where an lwp is at a breakpoint, the function was planted, or is stepped
      met-in : (q : ℕ) (l : LwpStatus) (e : Event) → MarksIn (PidAt q) (marks_at t q) → (function : ℕ)
          → function_event t.options (marks_at t q) l.id e ≡ AtBreakpoint function → P (PidAt q) function
      met-in q l e w function is =
          standing-in (PidAt q) (marks_at t q) w function
          (breakpoint-stands t.options (marks_at t q) l.id e function is)

      -- ---- the marks

      stage-marks : (stage : Stage) → IsWithin (length t.traced) stage → BeforeStage t stage
          → AfterStage MarksIn t r stage
      stage-marks (OpeningControl pid) within w = (w, λ accepted. no-marks-in pid)
      stage-marks (ReadingStatus q) within w = (
        w,
        λ l e accepted told fresh.
            then-in (P (PidAt q)) (marks_at t q) l (function_event t.options (marks_at t q) l.id e) (w q within)
            (met-in q l e (w q within)),
      )
      stage-marks (Running q) within w =
          let m = w q within in
          (each-but (So MarksIn) t.traced q w, record { planted = m.planted; lifted = m.lifted; stepped = m.stepped })
      stage-marks (Closing q next) within w = w
      stage-marks _ within w = w

      planted-in : (q : ℕ) (a : Answer) (plant lift : Option ℕ) → MarksIn (PidAt q) (marks_at t q)
          → ((i : ℕ) → plant ≡ Some i → a ≡ Accepted → P (PidAt q) i)
          → MarksIn (PidAt q) (record (marks_at t q) { planted = planted_after (marks_at t q).planted a plant lift })
      planted-in q a plant lift m here = record {
        planted = by a plant lift here;
        lifted = m.lifted;
        stepped = m.stepped;
      }
        where
          set : List Bool
          set = (marks_at t q).planted

          by : (a : Answer) (plant lift : Option ℕ) → ((i : ℕ) → plant ≡ Some i → a ≡ Accepted → P (PidAt q) i)
              → AllIn (PidAt q) (planted_after set a plant lift)
          by Accepted (Some i) lift here = more-in (P (PidAt q)) set i m.planted (here i refl refl)
          by Interrupted (Some i) lift here = m.planted
          by Gone (Some i) lift here = m.planted
          by (Refused errno) (Some i) lift here = m.planted
          by Accepted None (Some i) here = less-in (P (PidAt q)) set i m.planted
          by Interrupted None (Some i) here = less-in (P (PidAt q)) set i m.planted
          by Gone None (Some i) here = less-in (P (PidAt q)) set i m.planted
          by (Refused errno) None (Some i) here = less-in (P (PidAt q)) set i m.planted
          by Accepted None None here = m.planted
          by Interrupted None None here = m.planted
          by Gone None None here = m.planted
          by (Refused errno) None None here = m.planted

      aside-marks : (aside : Aside) → t.aside ≡ aside → IsBeside (length t.traced) aside → BeforeAside t aside
          → AsideSo (λ pid i. Unit {0}) t.traced aside
          → AfterAside MarksIn t r aside
      aside-marks Nothing at within w it = stage-marks t.stage at_stage w
      aside-marks (Reading q i) at within w it = w
      aside-marks (Planting q i) at within w it = (
        each-but (So MarksIn) t.traced q w,
        planted-in q (answer_of r) (Some i) None (w q within)
            (λ j is ok. subst (P (PidAt q)) (same_Some i j is) (grants q i at ok)),
      )
      aside-marks (Patching q plants lifts clear) at within w it = (
        each-but (So MarksIn) t.traced q w,
        planted-in q (answer_of r) (first_function plants) (first_function lifts) (w q within)
            (λ j is ok. it.0 j (first-has plants j is)),
      )
      aside-marks _ at within w it = absurd within

      marks-later : Each (So MarksIn) (fed_functions t r).traced
      marks-later = fed-so MarksIn t r off follow at_stage at_aside calm has
          (aside-marks t.aside refl at_aside before there)

      -- ---- what is done next

      patches-in : (aside : Aside) (stage : Stage) (p : ℕ) (plants lifts : List Bool)
          → Patches t r aside stage p plants lifts → IsWithin (length t.traced) stage
          → IsBeside (length t.traced) aside → BesideAt MarksIn t aside stage
          → AsideSo (λ pid i. Unit {0}) t.traced aside → AllIn (PidAt p) plants × AllIn (PidAt p) lifts
      patches-in aside stage p plants lifts (breaks {q = q} {i = i} {l = l} {e = e} tells) within at w it = (
        back-in (PidAt q) (marks_at t q) (w q within),
        more-in (P (PidAt q)) no_functions i (none-in (PidAt q)) (met-in q l e (w q within) i tells.is),
      )
      patches-in aside stage p plants lifts (ends_step {q = q}) within at w it =
          (back-in (PidAt q) (marks_at t q) (w q within), none-in (PidAt q))
      patches-in aside stage p plants lifts (begins_copy {q = q}) within at w it =
          (none-in (PidAt q), let m = w q within in m.planted)
      patches-in aside stage p plants lifts (ends_copy {q = q}) within at w it =
          let m = w q within in
          (step-in (PidAt q) (marks_at t q).lifted (marks_at t q).stepped m.lifted m.stepped, none-in (PidAt q))
      patches-in aside stage p plants lifts (refuses {q = q}) within at w it =
          (none-in (PidAt q), let m = w q within in m.planted)
      patches-in aside stage p plants lifts (refuses_read {q = q}) within at w it =
          (none-in (PidAt q), let m = w q at in m.planted)
      patches-in aside stage p plants lifts (refuses_write {q = q}) within at w it =
          (none-in (PidAt q), let m = w q at in m.planted)
      patches-in aside stage p plants lifts (plants_on {q = q} {plants = set} i) within at w it =
          (less-in (P (PidAt q)) set i it.0, it.1)
      patches-in aside stage p plants lifts (lifts_on {q = q} {lifts = set} i) within at w it =
          (it.0, less-in (P (PidAt q)) set i it.1)

      before-in : (aside : Aside) (stage : Stage) (us : List Traced) (b : Aside) → Before t r aside stage us b
          → t.aside ≡ aside → IsWithin (length t.traced) stage → IsBeside (length t.traced) aside
          → BesideAt MarksIn t aside stage → AsideSo (λ pid i. Unit {0}) t.traced aside → AsideSo N us b
      before-in aside stage us b nothing is within at w it = tt
      before-in aside stage us b (reads it_is) is within at w it = tt
      before-in aside stage us b (writes {q = q} {i = i} it_is accepted plants) is within at w it =
          subst (λ n. N n i) (sym it_is.1) (learns q i is accepted plants)
      before-in aside stage us b
          (patches_next {q = q} {plants = plants} {lifts = lifts} clear it_is these) is within at w it =
          let x = patches-in aside stage q plants lifts these within at w it in
          patching-in us q plants lifts clear (subst (λ n. AllIn n plants) (sym it_is.1) x.0)
          (subst (λ n. AllIn n lifts) (sym it_is.1) x.1)

      steps-in : (v : TrussState) → Makes t r t.aside t.stage v → AsideSo N v.traced v.aside
      steps-in v (makes {us = us} {b = b} edits next s) =
          subst (λ (ts : List Traced). AsideSo N ts v.aside) (sym s.traced)
          (subst (AsideSo N us) (sym s.aside)
          (before-in t.aside t.stage us b next refl at_stage at_aside before there))

      pub truss-later : TrussSo (fed_functions t r)
      truss-later = record {
        marks = marks-later;
        aside = steps-in (fed_functions t r) (fed-makes t r off follow at_stage at_aside calm has);
      }

-- ---- where the same is so of those that it is to plant for the first time

module _ (P : ℕ → ℕ → Type 0) where
  abbrev pub AsideIn : List Traced → Aside → Type 0
  AsideIn = AsideSo P P

  abbrev pub TrussIn : TrussState → Type 0
  TrussIn = TrussSo P P

  module _ (t : TrussState) (was : TrussIn t) where
    closing-before : (q : ℕ) → q < length t.traced
        → EachBut (So (MarksIn P)) t.traced q × LeftSo (MarksIn P) (without_last (traced_at t q)) (traced_at t q)
    closing-before q within = (each-but (So (MarksIn P)) t.traced q was.marks, left (without_last (traced_at t q)))
      where
        left : (v : Option Traced) → LeftSo (MarksIn P) v (traced_at t q)
        left None = tt
        left (Some v) = was.marks q within

    stage-before : (stage : Stage) → IsWithin (length t.traced) stage → BeforeStage P t stage
    stage-before (Closing q OpenNext) within = closing-before q within
    stage-before (Closing q GoOn) within = closing-before q within
    stage-before (Closing q (RunParent parent)) within = absurd within
    stage-before _ within = was.marks

    aside-before : (aside : Aside) → IsWithin (length t.traced) t.stage → BeforeAside P t aside
    aside-before Nothing within = stage-before t.stage within
    aside-before _ within = was.marks

    pub truss-in-later : (r : Reply) → t.leaving ≡ false → t.options.follow ≡ false
        → IsWithin (length t.traced) t.stage → IsBeside (length t.traced) t.aside → answer_of r ≢ Interrupted
        → has_functions t.options ≡ true
        → ((q i : ℕ) → t.aside ≡ Reading q i → answer_of r ≡ Accepted → is_to_plant t.options i (bytes_in r) ≡ true
        → P (traced_at t q).pid i)
        → TrussIn (fed_functions t r)
    truss-in-later r off follow at_stage at_aside calm has learns =
        truss-later P P t r off follow at_stage at_aside calm has (aside-before t.aside at_stage)
        (without-next P P t.traced t.aside was.aside) learns
        (λ q i at accepted. subst (AsideIn t.traced) at was.aside)

-- ---- before its first call

-- truss is to plant and to lift nothing
pub first-so : (P N : ℕ → ℕ → Type 0) (o : Options) → TrussSo P N (first_truss o)
unfolding first_truss
first-so P N o = by-program o.program
  where
    by-pid : (pid : _) → TrussSo P N (opening_or (begun o) (begun o) pid)
    by-pid None = record { marks = λ q within. absurd (omega (arith, within)); aside = tt }
    by-pid (Some pid) = record { marks = λ q within. absurd (omega (arith, within)); aside = tt }

    by-program : (program : _) → TrussSo P N (first_of_program o program)
    by-program None = by-pid (slice_get o.pids 0)
    by-program (Some program) = record { marks = λ q within. absurd (omega (arith, within)); aside = tt }
