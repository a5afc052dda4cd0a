use Rattle.std.proofs.Common.{◌≡◌, ◌≢◌, ◌<◌, ℕ, Bool, true, false, Option, Some, None, List, length, refl, sym, subst, ◌∙◌, inl, inr}
use Rattle.std.proofs.lemmas.Bool.{cases_Bool, false≢true}
use Rattle.pr_function_hides.proofs.Replies.FunctionSets.{has-none, has-without}
use Rattle.pr_function_hides.proofs.Replies.LeavingStages.{lifted_after}
use Rattle.pr_function_hides.proofs.Replies.OwnFiles.{IsBeside, IsWithin}
use Rattle.pr_function_hides.proofs.Replies.PlantedReplies.{AfterAside, AfterStage, LeftSo, So, fed-so, planted_after}
use Rattle.pr_function_hides.proofs.Replies.PlantedWalk.{marks_then}
use Rattle.pr_function_hides.specs.Copying.{IsEmpty}
use Rattle.pr_model.specs.declared.calls.Reply.{Reply}
use Rattle.pr_rec.specs.declared.lwps.LwpStatus.{LwpStatus}
use Rattle.pr_report_laws.proofs.Invariant.StandLemmas.{Each, each-but}
use Rattle.pr_truss.specs.Asides.{marks_at}
use Rattle.pr_truss.specs.FunctionEvents.{function_event}
use Rattle.pr_truss.specs.FunctionFeeding.{fed_functions}
use Rattle.pr_truss.specs.Marks.{first_function, has_function, has_functions, without_function}
use Rattle.pr_truss.specs.Processes.{without_last}
use Rattle.pr_truss.specs.Replies.{answer_of}
use Rattle.pr_truss.specs.Trusses.{TrussState, traced_at}
use Rattle.pr_truss.specs.declared.asides.Aside.{Aside}
use Rattle.pr_truss.specs.declared.asides.Aside.TheVariants.{Nothing, Reading, Planting, Patching}
use Rattle.pr_truss.specs.declared.function_events.FunctionEvent.{FunctionEvent}
use Rattle.pr_truss.specs.declared.function_events.FunctionEvent.TheVariants.{AfterCopy, AtBreakpoint, BeforeCopy, Completed, Other, Replaced, TraceTrap}
use Rattle.pr_truss.specs.declared.marks.Marks.{Marks}
use Rattle.pr_truss.specs.declared.processes.Traced.{Traced}
use Rattle.pr_truss.specs.declared.replies.Answer.{Answer}
use Rattle.pr_truss.specs.declared.replies.Answer.TheVariants.{Accepted, Gone, Interrupted, Refused}
use Rattle.pr_truss.specs.declared.stages.AfterClosing.TheVariants.{GoOn, OpenNext}
use Rattle.pr_truss.specs.declared.stages.Stage.{Stage}
use Rattle.pr_truss.specs.declared.stages.Stage.TheVariants.{Spawning, OpeningControl, Opening, Polling, ReadingStatus, ReadingText, Running, Closing, Finished}

-- A reply plants nothing in a process in which nothing is planted, unless it grants that a breakpoint is planted there.

-- of the process of this id no function is planted
abbrev pub HasNone : ℕ → ℕ → Marks → Type 0
HasNone pid its m = its ≡ pid → IsEmpty m.planted

-- what an event makes of the marks plants nothing
pub then-planted : (m : Marks) (l : LwpStatus) (e : FunctionEvent) (i : ℕ)
    → has_function (marks_then m l e).planted i ≡ true → has_function m.planted i ≡ true
then-planted m l (AtBreakpoint function) i has = has
then-planted m l (Completed step) i has = has
then-planted m l TraceTrap i has = has
then-planted m l BeforeCopy i has = has
then-planted m l AfterCopy i has = has
then-planted m l Replaced i has = absurd (false≢true (sym (has-none i) ∙ has))
then-planted m l Other i has = has

none-of : (set more : List Bool) → ((i : ℕ) → has_function more i ≡ true → has_function set i ≡ true) → IsEmpty set
    → IsEmpty more
none-of set more less none i = elim (cases_Bool (has_function more i)) [
  | inl has ↦ absurd (false≢true (sym (none i) ∙ less i has))
  | inr not ↦ not
]

pub less-none : (set : List Bool) (i : ℕ) → IsEmpty set → IsEmpty (without_function set i)
less-none set i none = none-of set (without_function set i) (λ j has. let w = has-without set i j has in w.has) none

pub lifted-none : (set : List Bool) (lift : Option ℕ) → IsEmpty set → IsEmpty (lifted_after set lift)
lifted-none set None none = none
lifted-none set (Some i) none = less-none set i none

module _ (pid : ℕ) (t : TrussState) (r : Reply) (off : t.leaving ≡ false) (follow : t.options.follow ≡ false)
    (at_stage : IsWithin (length t.traced) t.stage) (at_aside : IsBeside (length t.traced) t.aside)
    (calm : answer_of r ≢ Interrupted) (has : has_functions t.options ≡ true)
    (plants_not : (q i : ℕ) → t.aside ≡ Planting q i → (traced_at t q).pid ≢ pid)
    (patches_not : (q : ℕ) (plants lifts : List Bool) (clear : Bool) → t.aside ≡ Patching q plants lifts clear
    → (traced_at t q).pid ≡ pid → first_function plants ≡ None) (all : Each (So (HasNone pid)) t.traced) where
  closing : (q : ℕ) → q < length t.traced → LeftSo (HasNone pid) (without_last (traced_at t q)) (traced_at t q)
  closing q within = left (without_last (traced_at t q))
    where
      left : (v : Option Traced) → LeftSo (HasNone pid) v (traced_at t q)
      left None = tt
      left (Some v) = all q within

  stage-so : (stage : Stage) → IsWithin (length t.traced) stage → AfterStage (HasNone pid) t r stage
  stage-so (Spawning program) within = all
  stage-so (OpeningControl number) within = (all, λ accepted same. has-none)
  stage-so (Opening q step) within = all
  stage-so Polling within = all
  stage-so (ReadingStatus q) within = (
    all,
    λ l e accepted told fresh same.
        none-of (marks_at t q).planted _
        (then-planted (marks_at t q) l (function_event t.options (marks_at t q) l.id e)) (all q within same),
  )
  stage-so (ReadingText q l from len) within = all
  stage-so (Running q) within = (each-but (So (HasNone pid)) t.traced q all, all q within)
  stage-so (Closing q OpenNext) within = (each-but (So (HasNone pid)) t.traced q all, closing q within)
  stage-so (Closing q GoOn) within = (each-but (So (HasNone pid)) t.traced q all, closing q within)
  stage-so Finished within = all
  stage-so _ within = absurd within

  abbrev Empty_at : ℕ → Type 0
  Empty_at q = (traced_at t q).pid ≡ pid → IsEmpty (marks_at t q).planted

  lifts-so : (q : ℕ) (a : Answer) (lift : Option ℕ) → Empty_at q → (traced_at t q).pid ≡ pid
      → IsEmpty (planted_after (marks_at t q).planted a None lift)
  lifts-so q a None none same = by a
    where
      by : (a : Answer) → IsEmpty (planted_after (marks_at t q).planted a None None)
      by Accepted = none same
      by Interrupted = none same
      by Gone = none same
      by (Refused errno) = none same
  lifts-so q a (Some i) none same = by a
    where
      by : (a : Answer) → IsEmpty (planted_after (marks_at t q).planted a None (Some i))
      by Accepted = less-none (marks_at t q).planted i (none same)
      by Interrupted = less-none (marks_at t q).planted i (none same)
      by Gone = less-none (marks_at t q).planted i (none same)
      by (Refused errno) = less-none (marks_at t q).planted i (none same)

  aside-so : (aside : Aside) → t.aside ≡ aside → IsBeside (length t.traced) aside → AfterAside (HasNone pid) t r aside
  aside-so Nothing at within = stage-so t.stage at_stage
  aside-so (Reading q i) at within = all
  aside-so (Planting q i) at within =
      (each-but (So (HasNone pid)) t.traced q all, λ same. absurd (plants_not q i at same))
  aside-so (Patching q plants lifts clear) at within = (
    each-but (So (HasNone pid)) t.traced q all,
    λ same.
        subst (λ p. IsEmpty (planted_after (marks_at t q).planted (answer_of r) p (first_function lifts)))
        (sym (patches_not q plants lifts clear at same))
        (lifts-so q (answer_of r) (first_function lifts) (all q within) same),
  )
  aside-so _ at within = absurd within

  pub none-later : Each (So (HasNone pid)) (fed_functions t r).traced
  none-later = fed-so (HasNone pid) t r off follow at_stage at_aside calm has (aside-so t.aside refl at_aside)
