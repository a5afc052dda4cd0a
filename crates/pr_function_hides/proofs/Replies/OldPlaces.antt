use Rattle.std.proofs.Common.{◌≡◌, ◌≢◌, ◌<◌, ◌==◌, ℕ, Bool, true, not, Option, Some, None, List, length, refl, sym}
use Rattle.std.proofs.Common.{subst, ap, ◌∙◌, arith, inl, inr}
use Rattle.std.proofs.lemmas.Bool.{cases_eq, eq-eqb, false≢true}
use Rattle.pr_function_hides.proofs.Replies.PlantedReplies.{learnt-pid}
use Rattle.pr_function_laws.proofs.Marks.KeptLemmas.{fed-kept}
use Rattle.pr_function_laws.proofs.Marks.KeptPlaces.{AfterBeside, AfterStage, AtAside, AtStage, IsLasting, Kept, LeftHas}
use Rattle.pr_function_laws.proofs.Marks.KeptPlaces.{Position, closes, looks, opens, planted_as, position_after, rests, runs}
use Rattle.pr_function_laws.proofs.Marks.KeptPlaces.{to_read}
use Rattle.pr_function_laws.specs.Opened.{is_opened}
use Rattle.pr_model.specs.declared.calls.Reply.{Reply}
use Rattle.pr_report_laws.proofs.Invariant.StandLemmas.{Each, EachBut}
use Rattle.pr_truss.specs.FunctionFeeding.{fed_functions}
use Rattle.pr_truss.specs.Marks.{has_functions}
use Rattle.pr_truss.specs.Openings.{learnt, step_after}
use Rattle.pr_truss.specs.Processes.{without_last}
use Rattle.pr_truss.specs.Replies.{answer_of}
use Rattle.pr_truss.specs.Trusses.{TrussState, traced_at}
use Rattle.pr_truss.specs.declared.asides.Aside.{Aside}
use Rattle.pr_truss.specs.declared.asides.Aside.TheVariants.{Nothing, Reading, Planting, Patching}
use Rattle.pr_truss.specs.declared.processes.Traced.{Traced}
use Rattle.pr_truss.specs.declared.replies.Answer.TheVariants.{Accepted, Interrupted}
use Rattle.pr_truss.specs.declared.stages.AfterClosing.TheVariants.{GoOn, OpenNext}
use Rattle.pr_truss.specs.declared.stages.OpeningStep.{OpeningStep}
use Rattle.pr_truss.specs.declared.stages.Stage.{Stage}
use Rattle.pr_truss.specs.declared.stages.Stage.TheVariants.{Spawning, OpeningControl, Opening, Polling, ReadingStatus}
use Rattle.pr_truss.specs.declared.stages.Stage.TheVariants.{ReadingText, Running, Closing, Finished}
use Rattle.pr_truss_laws.proofs.Files.HeldLemmas.{at_place}
use Rattle.pr_truss_laws.proofs.Replies.ReplySteps.{lost-same}

-- Of which processes truss counts stops that stood before it came: of one that it has opened whole only if it did
-- before.

-- truss counted such stops of the process of this id, or had not opened it whole
pub record CountsOld (t : TrussState) (pid : ℕ) : Type 0 where
  pub place : ℕ
  pub within : place < length t.traced
  pub own : (traced_at t place).pid ≡ pid
  pub counts : is_opened t.stage place ≡ true → (traced_at t place).old ≢ 0

module _ (P : Position → Traced → Type 0) (t : TrussState) (r : Reply) (kept : Kept P t)
    (calm : answer_of r ≢ Interrupted)
    (fresh : (pid : ℕ) → t.stage ≡ OpeningControl pid → t.aside ≡ Nothing → answer_of r ≡ Accepted
    → Each (λ (u : Traced). u.pid ≢ pid) t.traced) where
  abbrev Counted : Traced → Type 0
  Counted u = u.old ≢ 0 → CountsOld t u.pid

  abbrev S : Position → Traced → Type 0
  S (opens step) u = Unit {0}
  S rests u = Counted u
  S to_read u = Unit {0}
  S looks u = Unit {0}
  S runs u = Counted u
  S closes u = Unit {0}

  planted-counted : (at : Position) (u : Traced) (set : List Bool) → S at u → S at (planted_as u set)
  planted-counted (opens step) u set it = tt
  planted-counted rests u set it = it
  planted-counted to_read u set it = tt
  planted-counted looks u set it = tt
  planted-counted runs u set it = it
  planted-counted closes u set it = tt

  lasting : IsLasting S
  lasting = record {
    may_close = λ at u it. tt;
    reads = λ u one it. tt;
    may_run = λ u one it. one;
    counts = λ u one it some. λ old. one (λ none. absurd (omega (arith, some, none)));
    sees = λ u m it. tt;
    meets = λ u m it new. it;
    plants = planted-counted;
    loosens = λ u m it. tt;
  }

  one : (q : ℕ) → q < length t.traced → Counted (at_place t.traced q)
  one q within old = record { place = q; within = within; own = refl; counts = λ opened. old }

  whole : Each Counted t.traced
  whole q within = one q within

  but : (q : ℕ) → EachBut Counted t.traced q
  but q i within other = one i within

  left-has : (v : Option Traced) (u : Traced) → without_last u ≡ v → LeftHas S v u.pid
  left-has None u is = tt
  left-has (Some v) u is = (tt, let same = lost-same u v is in same.pid)

  not-opened : (q : ℕ) (step : OpeningStep) → t.stage ≡ Opening q step → is_opened t.stage q ≡ true → ⊥
  not-opened q step is opened =
      false≢true (sym (ap (λ st. is_opened st q) is ∙ ap not (eq-eqb q q refl)) ∙ opened)

  -- one that it has opened now
  learnt-counted : (q : ℕ) (step : OpeningStep) → q < length t.traced → t.stage ≡ Opening q step
      → Counted (learnt (at_place t.traced q) r step)
  learnt-counted q step within is old = record {
    place = q;
    within = within;
    own = sym (learnt-pid (at_place t.traced q) r step);
    counts = λ opened. absurd (not-opened q step is opened);
  }

  stage-after : t.aside ≡ Nothing → (stage : Stage) → t.stage ≡ stage → AtStage P t.traced stage
      → AfterStage S t r stage
  stage-after idle (Spawning program) is w = whole
  stage-after idle (OpeningControl pid) is w = (whole, λ accepted. (tt, fresh pid is idle accepted))
  stage-after idle (Opening q step) is w = (w.0, (but q, (tt, λ accepted. next (step_after t.options r step))))
    where
      next : (x : Option OpeningStep) → S (position_after x) (learnt (at_place t.traced q) r step)
      next None = learnt-counted q step w.0 is
      next (Some s) = tt
  stage-after idle Polling is w = (whole, λ accepted handle q ready there. tt)
  stage-after idle (ReadingStatus q) is w = (w.0, (whole, tt))
  stage-after idle (ReadingText q l from len) is w = (w.0, (whole, tt))
  stage-after idle (Running q) is w = (w.0, (but q, (tt, λ lives. one q w.0)))
  stage-after idle (Closing q OpenNext) is w =
      (w.0, (but q, left-has (without_last (at_place t.traced q)) (at_place t.traced q) refl))
  stage-after idle (Closing q GoOn) is w =
      (w.0, (but q, left-has (without_last (at_place t.traced q)) (at_place t.traced q) refl))
  stage-after idle Finished is w = whole
  stage-after idle _ is w = absurd w

  stage-at : (stage : Stage) → AtStage P t.traced stage → AtStage S t.traced stage
  stage-at (Spawning program) w = whole
  stage-at (OpeningControl pid) w = whole
  stage-at (Opening q step) w = (w.0, (but q, tt))
  stage-at Polling w = whole
  stage-at (ReadingStatus q) w = (w.0, (whole, tt))
  stage-at (ReadingText q l from len) w = (w.0, (whole, tt))
  stage-at (Running q) w = (w.0, (but q, one q w.0))
  stage-at (Closing q OpenNext) w = (w.0, (but q, tt))
  stage-at (Closing q GoOn) w = (w.0, (but q, tt))
  stage-at Finished w = whole
  stage-at _ w = absurd w

  aside-after : (aside : Aside) → t.aside ≡ aside → AtAside P t.traced aside → AfterBeside S t r aside
  aside-after Nothing is w = stage-after is t.stage refl kept.stage
  aside-after (Reading q function) is w = (stage-at t.stage kept.stage, (w.0, (but q, tt)))
  aside-after (Planting q function) is w = (stage-at t.stage kept.stage, (w.0, (but q, tt)))
  aside-after (Patching q plants lifts clear) is w =
      (stage-at t.stage kept.stage, ((w.0.0, (but q, tt)), w.1))
  aside-after _ is w = absurd w

  later : has_functions t.options ≡ true → Kept S (fed_functions t r)
  later has =
      fed-kept S lasting t r kept.follow kept.off kept.apart calm has (aside-after t.aside refl kept.beside)

  -- of one that it has opened whole then
  pub old-comes : has_functions t.options ≡ true → (q : ℕ) → q < length (fed_functions t r).traced
      → is_opened (fed_functions t r).stage q ≡ true → (traced_at (fed_functions t r) q).old ≢ 0
      → CountsOld t (traced_at (fed_functions t r) q).pid
  old-comes has q within opened = let w = later has in by (fed_functions t r).stage opened w.stage
    where
      u : TrussState
      u = fed_functions t r

      Is : Type 0
      Is = Counted (at_place u.traced q)

      beside : (b : ℕ) → not (b == q) ≡ true → EachBut Counted u.traced b → Is
      beside b other others =
          others q within (λ same. false≢true (sym (ap not (eq-eqb b q (sym same))) ∙ other))

      run : (b : ℕ) → EachBut Counted u.traced b → Counted (at_place u.traced b) → Is
      run b others here = elim (cases_eq q b) [
        | inl same ↦ subst (λ i. Counted (at_place u.traced i)) (sym same) here
        | inr other ↦ others q within other
      ]

      by : (stage : Stage) → is_opened stage q ≡ true → AtStage S u.traced stage → Is
      by (Spawning program) is w = w q within
      by (OpeningControl pid) is w = w q within
      by (Opening b step) is w = beside b is w.1.0
      by Polling is w = w q within
      by (ReadingStatus b) is w = w.1.0 q within
      by (ReadingText b l from len) is w = w.1.0 q within
      by (Running b) is w = run b w.1.0 w.1.1
      by (Closing b OpenNext) is w = beside b is w.1.0
      by (Closing b GoOn) is w = beside b is w.1.0
      by Finished is w = w q within
      by _ is w = absurd w
