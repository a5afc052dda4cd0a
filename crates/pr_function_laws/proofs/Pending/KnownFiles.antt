use Rattle.std.proofs.Common.{◌≡◌, ◌≢◌, ℕ, Bool, true, false, cond, Option, Some, None, List, refl}
use Rattle.pr_function_laws.proofs.Marks.KeptLemmas.{fed-kept}
use Rattle.pr_function_laws.proofs.Marks.KeptPlaces.{AfterBeside, AfterStage, AtAside, AtStage, IsLasting, Kept, LeftHas, Position, closes, first-kept, looks, opens, planted_as, position_after, rests, runs, to_read}
use Rattle.pr_report_laws.proofs.Invariant.StandLemmas.{Each, IsThere}
use Rattle.pr_line.specs.declared.options.Options.{Options}
use Rattle.pr_model.specs.Replies.{handle_in}
use Rattle.pr_model.specs.declared.calls.Reply.{Reply}
use Rattle.pr_truss.specs.FunctionFeeding.{fed_functions}
use Rattle.pr_truss.specs.Marks.{has_functions}
use Rattle.pr_truss.specs.Openings.{learnt, step_after}
use Rattle.pr_truss.specs.Processes.{newly_traced, without_last}
use Rattle.pr_truss.specs.Replies.{answer_of}
use Rattle.pr_truss.specs.Trusses.{TrussState, first_truss}
use Rattle.pr_truss.specs.declared.asides.Aside.TheVariants.{Nothing, Reading, Planting, Patching}
use Rattle.pr_truss.specs.declared.asides.Aside.{Aside}
use Rattle.pr_truss.specs.declared.processes.Traced.{Traced}
use Rattle.pr_truss.specs.declared.replies.Answer.TheVariants.{Accepted, Interrupted}
use Rattle.pr_truss.specs.declared.stages.AfterClosing.TheVariants.{OpenNext, GoOn}
use Rattle.pr_truss.specs.declared.stages.OpeningStep.TheVariants as opening
use Rattle.pr_truss.specs.declared.stages.OpeningStep.{OpeningStep}
use Rattle.pr_truss.specs.declared.stages.Stage.TheVariants.{Spawning, OpeningControl, Opening, Polling, ReadingStatus, ReadingText, Running, Closing, Finished}
use Rattle.pr_truss.specs.declared.stages.Stage.{Stage}
use Rattle.pr_truss_laws.proofs.Files.HeldLemmas.{at_place}
use Rattle.pr_truss_laws.proofs.Replies.ReplySteps.{lost-same}

-- Which files of a process truss has opened, by where it has come with it: each of the three once it is opened whole.

-- all three are open
pub record KnowsAll (v : Traced) : Type 0 where
  pub status : IsThere v.status
  pub lstatus : IsThere v.lstatus
  pub memory : IsThere v.memory

-- before a step of the opening those are that were opened before
abbrev pub Before : OpeningStep → Traced → Type 0
Before opening.OpenStatus v = Unit {0}
Before opening.OpenLstatus v = IsThere v.status
Before opening.OpenMemory v = IsThere v.status × IsThere v.lstatus
Before step v = KnowsAll v

abbrev pub Knows : Position → Traced → Type 0
Knows (opens step) v = Before step v
Knows rests v = KnowsAll v
Knows to_read v = Unit {0}
Knows looks v = KnowsAll v
Knows runs v = KnowsAll v
Knows closes v = Unit {0}

knows-plants : (at : Position) (u : Traced) (set : List Bool) → Knows at u → Knows at (planted_as u set)
knows-plants (opens opening.OpenStatus) u set h = tt
knows-plants (opens opening.OpenLstatus) u set h = h
knows-plants (opens opening.OpenMemory) u set h = h
knows-plants (opens _) u set h = record { status = h.status; lstatus = h.lstatus; memory = h.memory }
knows-plants rests u set h = record { status = h.status; lstatus = h.lstatus; memory = h.memory }
knows-plants runs u set h = record { status = h.status; lstatus = h.lstatus; memory = h.memory }
knows-plants to_read u set h = tt
knows-plants looks u set h = record { status = h.status; lstatus = h.lstatus; memory = h.memory }
knows-plants closes u set h = tt

knows-lasting : IsLasting Knows
knows-lasting = record {
  may_close = λ at u h. tt;
  reads = λ u h its. h;
  may_run = λ u h seen. h;
  counts = λ u h seen some. record { status = h.status; lstatus = h.lstatus; memory = h.memory };
  sees = λ u m h. record { status = h.status; lstatus = h.lstatus; memory = h.memory };
  meets = λ u m h new. record { status = h.status; lstatus = h.lstatus; memory = h.memory };
  plants = knows-plants;
  loosens = λ u m h. tt;
}

-- a step of the opening opens the next file
knows-next : (o : Options) (v : Traced) (r : Reply) (step : OpeningStep) → Before step v
    → Knows (position_after (step_after o r step)) (learnt v r step)
unfolding step_after learnt
knows-next o v r opening.OpenStatus h = record { number = handle_in r; is = refl }
knows-next o v r opening.OpenLstatus h =
    (record { number = h.number; is = h.is }, record { number = handle_in r; is = refl })
knows-next o v r opening.OpenMemory h =
    record { status = h.0; lstatus = h.1; memory = record { number = handle_in r; is = refl } }
knows-next o v r opening.ClearModes h = h
knows-next o v r opening.SetRelease h = h
knows-next o v r opening.Stop h = h
knows-next o v r (opening.AwaitStop until) h =
    record { status = h.status; lstatus = h.lstatus; memory = h.memory }
knows-next o v r opening.ReadLwps h = record { status = h.status; lstatus = h.lstatus; memory = h.memory }
knows-next o v r opening.TraceSignals h = h
knows-next o v r opening.TraceFaults h = h
knows-next o v r opening.TraceEntries h = h
knows-next o v r opening.TraceExits h = by o.follow
  where
    by : (b : Bool) → Knows (opens (cond b opening.Follow opening.Start)) v
    by true = h
    by false = h
knows-next o v r opening.Follow h = h
knows-next o v r opening.Start h = h

module _ (t : TrussState) (r : Reply) (calm : answer_of r ≢ Interrupted) (kept : Kept Knows t)
    (fresh : (pid : ℕ) → t.stage ≡ OpeningControl pid → t.aside ≡ Nothing → answer_of r ≡ Accepted
    → Each (λ (u : Traced). u.pid ≢ pid) t.traced) where
  left : (v : Option Traced) (u : Traced) → without_last u ≡ v → LeftHas Knows v u.pid
  left None u is = tt
  left (Some v) u is = (tt, let same = lost-same u v is in same.pid)

  stage-after : t.aside ≡ Nothing → (stage : Stage) → t.stage ≡ stage → AtStage Knows t.traced stage
      → AfterStage Knows t r stage
  unfolding newly_traced
  stage-after idle (Spawning program) is w = w
  stage-after idle (OpeningControl pid) is w = (w, λ accepted. (tt, fresh pid is idle accepted))
  stage-after idle (Opening q step) is w =
      (w.0, (w.1.0, (tt, λ accepted. knows-next t.options (at_place t.traced q) r step w.1.1)))
  stage-after idle Polling is w = (w, λ accepted handle q ready place. tt)
  stage-after idle (ReadingStatus q) is w = w
  stage-after idle (ReadingText q l from len) is w = w
  stage-after idle (Running q) is w = (
    w.0,
    (
      w.1.0,
      (
        tt,
        λ lives. let h = w.1.1 in
            record { status = h.status; lstatus = h.lstatus; memory = h.memory },
      ),
    ),
  )
  stage-after idle (Closing q OpenNext) is w =
      (w.0, (w.1.0, left (without_last (at_place t.traced q)) (at_place t.traced q) refl))
  stage-after idle (Closing q GoOn) is w =
      (w.0, (w.1.0, left (without_last (at_place t.traced q)) (at_place t.traced q) refl))
  stage-after idle Finished is w = w
  stage-after idle _ is w = absurd w

  aside-after : (aside : Aside) → t.aside ≡ aside → AtStage Knows t.traced t.stage → AtAside Knows t.traced aside
      → AfterBeside Knows t r aside
  aside-after Nothing is w beside = stage-after is t.stage refl w
  aside-after (Reading q function) is w beside = (w, beside)
  aside-after (Planting q function) is w beside = (w, beside)
  aside-after (Patching q plants lifts clear) is w beside = (w, beside)
  aside-after _ is w beside = absurd beside

  pub known-fed : has_functions t.options ≡ true → Kept Knows (fed_functions t r)
  known-fed has =
      fed-kept Knows knows-lasting t r kept.follow kept.off kept.apart calm has
      (aside-after t.aside refl kept.stage kept.beside)

pub known-first : (o : Options) → o.follow ≡ false → Kept Knows (first_truss o)
known-first o follow = first-kept Knows o follow
