use Rattle.std.proofs.Common.{◌≡◌, ◌≢◌, ℕ, Bool, true, Option, Some, None, List, refl, sym, subst, ◌∙◌}
use Rattle.std.proofs.lemmas.Option.{none-some, same_Some}
use Rattle.pr_model.specs.declared.calls.Reply.{Reply}
use Rattle.pr_num.proofs.TableLemmas.{position-within}
use Rattle.pr_report_laws.proofs.Invariant.StandLemmas.{Each}
use Rattle.pr_truss.specs.FunctionFeeding.{fed_functions}
use Rattle.pr_truss.specs.Marks.{has_functions}
use Rattle.pr_truss.specs.Openings.{learnt, step_after}
use Rattle.pr_truss.specs.Processes.{newly_traced, without_last}
use Rattle.pr_truss.specs.Replies.{answer_of}
use Rattle.pr_truss.specs.Stops.{has_control}
use Rattle.pr_truss.specs.Trusses.{TrussState, traced_at}
use Rattle.pr_truss.specs.declared.asides.Aside.{Aside}
use Rattle.pr_truss.specs.declared.asides.Aside.TheVariants.{Nothing, Reading, Planting, Patching}
use Rattle.pr_truss.specs.declared.processes.Traced.{Traced}
use Rattle.pr_truss.specs.declared.replies.Answer.TheVariants.{Accepted, Interrupted}
use Rattle.pr_truss.specs.declared.stages.AfterClosing.TheVariants.{OpenNext, GoOn}
use Rattle.pr_truss.specs.declared.stages.OpeningStep.{OpeningStep}
use Rattle.pr_truss.specs.declared.stages.OpeningStep.TheVariants as opening
use Rattle.pr_truss.specs.declared.stages.Stage.{Stage}
use Rattle.pr_truss.specs.declared.stages.Stage.TheVariants.{Spawning, OpeningControl, Opening, Polling, ReadingStatus, ReadingText, Running, Closing, Finished}
use Rattle.pr_truss_laws.proofs.Files.HeldLemmas.{at_place}
use Rattle.pr_truss_laws.proofs.Replies.ReplySteps.{lost-same}
use Rattle.pr_function_laws.proofs.Marks.KeptLemmas.{fed-kept-where}
use Rattle.pr_function_laws.proofs.Marks.KeptPlaces.{AfterBeside, AfterStage, AtAside, AtStage, IsLastingWhere, Kept, LeftHas, Position, closes, looks, opens, planted_as, position_after, rests, runs, subject, subject_of, to_read}

-- A process that is not read: until truss reads its status it neither runs it nor closes its files, and has of it what
-- it had.

module _ (pid : ℕ) (was : Traced) where
  -- truss has of the process what it had: its files, its marks, and no stop that stood before truss came
  pub record IsSame (u : Traced) : Type 0 where
    pub control : u.control ≡ was.control
    pub status : u.status ≡ was.status
    pub lstatus : u.lstatus ≡ was.lstatus
    pub memory : u.memory ≡ was.memory
    pub marks : u.marks ≡ was.marks
    pub new : u.old ≡ 0

  -- What is so of a process by where truss has come with it: it is another one; or truss has of this one what it had,
  -- and neither looks at it nor runs it, nor closes its files.
  abbrev pub Pends : Position → Traced → Type 0
  Pends (opens step) u = u.pid ≢ pid
  Pends rests u = u.pid ≡ pid → IsSame u
  Pends to_read u = u.pid ≡ pid → IsSame u
  Pends looks u = u.pid ≢ pid
  Pends runs u = u.pid ≢ pid
  Pends closes u = u.pid ≢ pid

  pends-planted : (at : Position) (u : Traced) (set : List Bool) → u.pid ≢ pid → Pends at u
      → Pends at (planted_as u set)
  pends-planted (opens step) u set other w = other
  pends-planted rests u set other w = λ same. absurd (other same)
  pends-planted to_read u set other w = λ same. absurd (other same)
  pends-planted looks u set other w = other
  pends-planted runs u set other w = other
  pends-planted closes u set other w = other

  -- where another process is read, and others alone are opened, looked at, planted and lifted in
  pends-lasting : IsLastingWhere Pends (λ (u : Traced). u.pid ≢ pid) (λ (other : ℕ). other ≢ pid)
  pends-lasting = record {
    may_close = λ at u other w. other;
    reads = λ u other w its. other;
    may_run = λ u w other. other;
    counts = λ u w other some. other;
    sees = λ u m other. other;
    meets = λ u m other w new same. absurd (other same);
    plants = pends-planted;
    loosens = λ u m w. w;
  }

  pub learnt-pid : (u : Traced) (r : Reply) (step : OpeningStep) → (learnt u r step).pid ≡ u.pid
  unfolding learnt
  learnt-pid u r opening.OpenStatus = refl
  learnt-pid u r opening.OpenLstatus = refl
  learnt-pid u r opening.OpenMemory = refl
  learnt-pid u r (opening.AwaitStop until) = refl
  learnt-pid u r opening.ReadLwps = refl
  learnt-pid u r _ = refl

  opened-other : (next : Option OpeningStep) (u : Traced) → u.pid ≢ pid → Pends (position_after next) u
  opened-other None u other = λ same. absurd (other same)
  opened-other (Some next) u other = other

  -- ---- a reply

  -- no call opens the control file of the process, or reads its status
  module _ (t : TrussState) (r : Reply) (w : Kept Pends t)
      (fresh : (number : ℕ) → t.stage ≡ OpeningControl number → t.aside ≡ Nothing → answer_of r ≡ Accepted
      → (number ≢ pid) × Each (λ (u : Traced). u.pid ≢ number) t.traced)
      (read : (q : ℕ) → t.aside ≡ Nothing → t.stage ≡ ReadingStatus q → (traced_at t q).pid ≢ pid) where
    left : (v : Option Traced) (u : Traced) → without_last u ≡ v → u.pid ≢ pid → LeftHas Pends v u.pid
    left None u is other = tt
    left (Some v) u is other =
        let same = lost-same u v is in (λ its. other (sym same.pid ∙ its), same.pid)

    stage-after : t.aside ≡ Nothing → (stage : Stage) → t.stage ≡ stage → AtStage Pends t.traced stage
        → AfterStage Pends t r stage
    unfolding newly_traced
    stage-after idle (Spawning program) is all = all
    stage-after idle (OpeningControl number) is all = (all, λ accepted. fresh number is idle accepted)
    stage-after idle (Opening q step) is all = (
      all.0,
      (
        all.1.0,
        (
          all.1.1,
          λ accepted. opened-other (step_after t.options r step) (learnt (at_place t.traced q) r step)
              (λ same. all.1.1 (sym (learnt-pid (at_place t.traced q) r step) ∙ same)),
        ),
      ),
    )
    stage-after idle Polling is all =
        (all, λ accepted handle q ready place. all q (position-within (has_control handle) t.traced q place))
    stage-after idle (ReadingStatus q) is all = all
    stage-after idle (ReadingText q l from len) is all = all
    stage-after idle (Running q) is all =
        (all.0, (all.1.0, (all.1.1, λ lives same. absurd (all.1.1 same))))
    stage-after idle (Closing q OpenNext) is all =
        (all.0, (all.1.0, left (without_last (at_place t.traced q)) (at_place t.traced q) refl all.1.1))
    stage-after idle (Closing q GoOn) is all =
        (all.0, (all.1.0, left (without_last (at_place t.traced q)) (at_place t.traced q) refl all.1.1))
    stage-after idle Finished is all = all
    stage-after idle _ is all = absurd all

    aside-after : (aside : Aside) → t.aside ≡ aside → AtStage Pends t.traced t.stage → AtAside Pends t.traced aside
        → AfterBeside Pends t r aside
    aside-after Nothing is all beside = stage-after is t.stage refl all
    aside-after (Reading q function) is all beside = (all, beside)
    aside-after (Planting q function) is all beside = (all, beside)
    aside-after (Patching q plants lifts clear) is all beside = (all, beside)
    aside-after _ is all beside = absurd beside

    -- it opens, looks at, plants and lifts in other processes alone
    other-at : (b q : ℕ) → Some b ≡ Some q → (at_place t.traced b).pid ≢ pid → (at_place t.traced q).pid ≢ pid
    other-at b q is other = subst (λ i. (at_place t.traced i).pid ≢ pid) (same_Some b q is) other

    stage-other : t.aside ≡ Nothing → (stage : Stage) → t.stage ≡ stage → AtStage Pends t.traced stage → (q : ℕ)
        → subject_of stage ≡ Some q → (traced_at t q).pid ≢ pid
    stage-other idle (Opening b step) is all q its = other-at b q its all.1.1
    stage-other idle (ReadingStatus b) is all q its = other-at b q its (read b idle is)
    stage-other idle (ReadingText b l from len) is all q its = other-at b q its all.1.1
    stage-other idle (Spawning program) is all q its = absurd (none-some q its)
    stage-other idle (OpeningControl number) is all q its = absurd (none-some q its)
    stage-other idle Polling is all q its = absurd (none-some q its)
    stage-other idle (Running b) is all q its = absurd (none-some q its)
    stage-other idle (Closing b OpenNext) is all q its = absurd (none-some q its)
    stage-other idle (Closing b GoOn) is all q its = absurd (none-some q its)
    stage-other idle Finished is all q its = absurd (none-some q its)
    stage-other idle _ is all q its = absurd all

    aside-other : (aside : Aside) → t.aside ≡ aside → AtAside Pends t.traced aside → (q : ℕ)
        → subject t.stage aside ≡ Some q → (traced_at t q).pid ≢ pid
    aside-other Nothing is beside q its = stage-other is t.stage refl w.stage q its
    aside-other (Reading b function) is beside q its = other-at b q its beside.1.1
    aside-other (Planting b function) is beside q its = other-at b q its beside.1.1
    aside-other (Patching b plants lifts clear) is beside q its = other-at b q its beside.0.1.1
    aside-other _ is beside q its = absurd beside

    pub still-pends : has_functions t.options ≡ true → answer_of r ≢ Interrupted → Kept Pends (fed_functions t r)
    still-pends has calm =
        fed-kept-where Pends (λ (u : Traced). u.pid ≢ pid) (λ (other : ℕ). other ≢ pid) pends-lasting t r w.follow
        w.off w.apart calm read (aside-other t.aside refl w.beside) has
        (aside-after t.aside refl w.stage w.beside)
