use Rattle.std.proofs.Common.{◌≡◌, ◌≢◌, ℕ, Bool, true, false, cond, Option, Some, None, List, refl}
use Rattle.std.proofs.lemmas.Bool.{false≢true}
use Rattle.pr_function_hides.proofs.Copying.CopyPlaces.{is_early}
use Rattle.pr_function_laws.proofs.Marks.KeptLemmas.{fed-kept}
use Rattle.pr_function_laws.proofs.Marks.KeptPlaces.{AfterBeside, AfterStage, AtAside, AtStage, IsLasting, Kept, LeftHas}
use Rattle.pr_function_laws.proofs.Marks.KeptPlaces.{Position, closes, first-kept, looks, opens, planted_as, position_after}
use Rattle.pr_function_laws.proofs.Marks.KeptPlaces.{rests, runs, to_read}
use Rattle.pr_line.specs.declared.options.Options.{Options}
use Rattle.pr_model.specs.declared.calls.Reply.{Reply}
use Rattle.pr_report_laws.proofs.Invariant.StandLemmas.{Each}
use Rattle.pr_truss.specs.FunctionFeeding.{fed_functions}
use Rattle.pr_truss.specs.Marks.{has_functions}
use Rattle.pr_truss.specs.Openings.{learnt, step_after}
use Rattle.pr_truss.specs.Processes.{newly_traced, without_last}
use Rattle.pr_truss.specs.Replies.{answer_of}
use Rattle.pr_truss.specs.Trusses.{TrussState, first_truss}
use Rattle.pr_truss.specs.declared.asides.Aside.{Aside}
use Rattle.pr_truss.specs.declared.asides.Aside.TheVariants.{Nothing, Patching, Planting, Reading}
use Rattle.pr_truss.specs.declared.processes.Traced.{Traced}
use Rattle.pr_truss.specs.declared.replies.Answer.TheVariants.{Accepted, Interrupted}
use Rattle.pr_truss.specs.declared.stages.AfterClosing.TheVariants.{GoOn, OpenNext}
use Rattle.pr_truss.specs.declared.stages.OpeningStep.{OpeningStep}
use Rattle.pr_truss.specs.declared.stages.OpeningStep.TheVariants as opening
use Rattle.pr_truss.specs.declared.stages.Stage.{Stage}
use Rattle.pr_truss.specs.declared.stages.Stage.TheVariants.{Closing, Finished, Opening, OpeningControl, Polling}
use Rattle.pr_truss.specs.declared.stages.Stage.TheVariants.{ReadingStatus, ReadingText, Running, Spawning}
use Rattle.pr_truss_laws.proofs.Files.HeldLemmas.{at_place}
use Rattle.pr_truss_laws.proofs.Replies.ReplySteps.{lost-same}

-- A process that truss opens is not attached before the wait for its stop was granted.

abbrev pub Young : Position → Traced → Type 0
Young (opens step) v = is_early step ≡ true → v.attached ≡ false
Young at v = Unit {0}

young-closes : (at : Position) (u : Traced) → Young at u → Young closes u
young-closes at u h = tt

young-plants : (at : Position) (u : Traced) (set : List Bool) → Young at u → Young at (planted_as u set)
young-plants (opens step) u set h = h
young-plants rests u set h = tt
young-plants to_read u set h = tt
young-plants looks u set h = tt
young-plants runs u set h = tt
young-plants closes u set h = tt

young-lasting : IsLasting Young
young-lasting = record {
  may_close = young-closes;
  reads = λ u h its. tt;
  may_run = λ u h seen. tt;
  counts = λ u h seen some. tt;
  sees = λ u m h. tt;
  meets = λ u m h new. tt;
  plants = young-plants;
  loosens = λ u m h. tt;
}

late : {A : Type 0} → false ≡ true → A
late is = absurd (false≢true is)

young-next : (o : Options) (v : Traced) (r : Reply) (step : OpeningStep) → Young (opens step) v
    → Young (position_after (step_after o r step)) (learnt v r step)
unfolding step_after learnt
young-next o v r opening.OpenStatus h = λ early. h refl
young-next o v r opening.OpenLstatus h = λ early. h refl
young-next o v r opening.OpenMemory h = λ early. h refl
young-next o v r opening.ClearModes h = λ early. h refl
young-next o v r opening.SetRelease h = λ early. h refl
young-next o v r opening.Stop h = λ early. h refl
young-next o v r (opening.AwaitStop until) h = λ early. late early
young-next o v r opening.ReadLwps h = λ early. late early
young-next o v r opening.TraceSignals h = λ early. late early
young-next o v r opening.TraceFaults h = λ early. late early
young-next o v r opening.TraceEntries h = λ early. late early
young-next o v r opening.TraceExits h = by o.follow
  where
    by : (b : Bool) → Young (opens (cond b opening.Follow opening.Start)) v
    by true = λ early. late early
    by false = λ early. late early
young-next o v r opening.Follow h = λ early. late early
young-next o v r opening.Start h = tt

module _ (t : TrussState) (r : Reply) (calm : answer_of r ≢ Interrupted) (kept : Kept Young t)
    (fresh : (pid : ℕ) → t.stage ≡ OpeningControl pid → t.aside ≡ Nothing → answer_of r ≡ Accepted
    → Each (λ (u : Traced). u.pid ≢ pid) t.traced) where
  left : (v : Option Traced) (u : Traced) → without_last u ≡ v → LeftHas Young v u.pid
  left None u is = tt
  left (Some v) u is = (tt, let same = lost-same u v is in same.pid)

  stage-after : t.aside ≡ Nothing → (stage : Stage) → t.stage ≡ stage → AtStage Young t.traced stage
      → AfterStage Young t r stage
  unfolding newly_traced
  stage-after idle (Spawning program) is w = w
  stage-after idle (OpeningControl pid) is w = (w, λ accepted. ((λ early. refl), fresh pid is idle accepted))
  stage-after idle (Opening q step) is w =
      (w.0, (w.1.0, (tt, λ accepted. young-next t.options (at_place t.traced q) r step w.1.1)))
  stage-after idle Polling is w = (w, λ accepted handle q ready place. tt)
  stage-after idle (ReadingStatus q) is w = w
  stage-after idle (ReadingText q l from len) is w = w
  stage-after idle (Running q) is w = (w.0, (w.1.0, (tt, λ lives. tt)))
  stage-after idle (Closing q OpenNext) is w =
      (w.0, (w.1.0, left (without_last (at_place t.traced q)) (at_place t.traced q) refl))
  stage-after idle (Closing q GoOn) is w =
      (w.0, (w.1.0, left (without_last (at_place t.traced q)) (at_place t.traced q) refl))
  stage-after idle Finished is w = w
  stage-after idle _ is w = absurd w

  aside-after : (aside : Aside) → t.aside ≡ aside → AtStage Young t.traced t.stage → AtAside Young t.traced aside
      → AfterBeside Young t r aside
  aside-after Nothing is w beside = stage-after is t.stage refl w
  aside-after (Reading q function) is w beside = (w, beside)
  aside-after (Planting q function) is w beside = (w, beside)
  aside-after (Patching q plants lifts clear) is w beside = (w, beside)
  aside-after _ is w beside = absurd beside

  pub young-fed : has_functions t.options ≡ true → Kept Young (fed_functions t r)
  young-fed has =
      fed-kept Young young-lasting t r kept.follow kept.off kept.apart calm has
      (aside-after t.aside refl kept.stage kept.beside)

pub young-first : (o : Options) → o.follow ≡ false → Kept Young (first_truss o)
young-first o follow = first-kept Young o follow
