use Rattle.std.proofs.Common.{◌≡◌, ◌≢◌, ℕ, true, false, Option, Some, None, length, refl, inl, inr}
use Rattle.pr_function_hides.proofs.Replies.OwnFiles.{IsBeside, IsWithin}
use Rattle.pr_function_hides.proofs.Replies.PlantedReplies.{AfterAside, AfterStage, LeftSo, So, fed-so}
use Rattle.pr_function_hides.proofs.Replies.PlantedWalk.{marks_then}
use Rattle.pr_function_laws.proofs.Marks.MarkLemmas.{AreRunFlags}
use Rattle.pr_model.specs.declared.calls.Reply.{Reply}
use Rattle.pr_num.specs.Sets.{union_word}
use Rattle.pr_rec.specs.declared.lwps.LwpStatus.{LwpStatus}
use Rattle.pr_report_laws.proofs.Invariant.StandLemmas.{Each, each-but}
use Rattle.pr_truss.specs.FunctionFeeding.{fed_functions}
use Rattle.pr_truss.specs.Marks.{has_functions}
use Rattle.pr_truss.specs.Processes.{without_last}
use Rattle.pr_truss.specs.Replies.{answer_of}
use Rattle.pr_truss.specs.Trusses.{TrussState, traced_at}
use Rattle.pr_truss.specs.declared.asides.Aside.{Aside}
use Rattle.pr_truss.specs.declared.asides.Aside.TheVariants.{Planting, Patching, Nothing}
use Rattle.pr_truss.specs.declared.function_events.FunctionEvent.{FunctionEvent}
use Rattle.pr_truss.specs.declared.function_events.FunctionEvent.TheVariants.{AfterCopy, AtBreakpoint, BeforeCopy, Completed, Other, Replaced, TraceTrap}
use Rattle.pr_truss.specs.declared.marks.Marks.{Marks}
use Rattle.pr_truss.specs.declared.processes.Traced.{Traced}
use Rattle.pr_truss.specs.declared.replies.Answer.TheVariants.{Interrupted}
use Rattle.pr_truss.specs.declared.stages.AfterClosing.TheVariants.{GoOn, OpenNext, RunParent}
use Rattle.pr_truss.specs.declared.stages.Stage.{Stage}
use Rattle.pr_truss.specs.declared.stages.Stage.TheVariants.{OpeningControl, ReadingStatus, Running, Closing}

-- The flags with which truss runs a process: none, PRCFAULT, PRSTEP, or both.

-- so it is of the marks of a process
abbrev pub FlagsOf : ℕ → Marks → Type 0
FlagsOf pid m = AreRunFlags m.flags

-- with an event
then-flags : (pid : ℕ) (m : Marks) (l : LwpStatus) (e : FunctionEvent) → FlagsOf pid m → FlagsOf pid (marks_then m l e)
unfolding union_word
then-flags pid m l (AtBreakpoint function) was = inr refl
then-flags pid m l (Completed step) was = inr refl
then-flags pid m l TraceTrap was = inr refl
then-flags pid m l BeforeCopy was = inr refl
then-flags pid m l AfterCopy was = was
then-flags pid m l Replaced was = inl refl
then-flags pid m l Other was = was

module _ (t : TrussState) (r : Reply) (off : t.leaving ≡ false) (follow : t.options.follow ≡ false)
    (at_stage : IsWithin (length t.traced) t.stage) (at_aside : IsBeside (length t.traced) t.aside)
    (calm : answer_of r ≢ Interrupted) (all : Each (So FlagsOf) t.traced) where
  left : (v : Option Traced) (u : Traced) → So FlagsOf u → LeftSo FlagsOf v u
  left None u is = tt
  left (Some v) u is = is

  stage-after : (stage : Stage) → IsWithin (length t.traced) stage → AfterStage FlagsOf t r stage
  stage-after (OpeningControl pid) within = (all, λ accepted. inl refl)
  stage-after (ReadingStatus q) within =
      (all, λ l e accepted told fresh. then-flags (traced_at t q).pid (traced_at t q).marks l _ (all q within))
  stage-after (Running q) within = (each-but (So FlagsOf) t.traced q all, inl refl)
  stage-after (Closing q OpenNext) within =
      (each-but (So FlagsOf) t.traced q all, left (without_last (traced_at t q)) (traced_at t q) (all q within))
  stage-after (Closing q GoOn) within =
      (each-but (So FlagsOf) t.traced q all, left (without_last (traced_at t q)) (traced_at t q) (all q within))
  stage-after (Closing q (RunParent parent)) within = absurd within
  stage-after _ within = all

  aside-after : (aside : Aside) → IsBeside (length t.traced) aside → AfterAside FlagsOf t r aside
  aside-after Nothing within = stage-after t.stage at_stage
  aside-after (Planting q function) within = (each-but (So FlagsOf) t.traced q all, all q within)
  aside-after (Patching q plants lifts clear) within = (each-but (So FlagsOf) t.traced q all, all q within)
  aside-after _ within = all

  -- after any reply but an interrupt
  pub flags-fed : has_functions t.options ≡ true → Each (So FlagsOf) (fed_functions t r).traced
  flags-fed has = fed-so FlagsOf t r off follow at_stage at_aside calm has (aside-after t.aside at_aside)
