use Rattle.std.proofs.Common.{◌≡◌, ℕ, true, false, Option, Some, None, refl, sym, ap, ◌∙◌}
use Rattle.std.proofs.lemmas.Bool.{false≢true}
use Rattle.std.proofs.lemmas.Option.{none-some, same_Some}
use Rattle.pr_line.specs.declared.options.Options.{Options}
use Rattle.pr_model.specs.declared.calls.Call.{Call}
use Rattle.pr_model.specs.declared.calls.Reply.{Reply}
use Rattle.pr_truss.specs.Closings.{with_interrupt, with_next_left}
use Rattle.pr_truss.specs.Feeding.{with_reply}
use Rattle.pr_truss.specs.FunctionCalls.{call_beside, function_call_of, next_function_call_of, patch_call}
use Rattle.pr_truss.specs.FunctionFeeding.{fed_functions, with_function_reply, with_function_step_answered}
use Rattle.pr_truss.specs.Marks.{first_function, has_functions}
use Rattle.pr_truss.specs.NextCalls.{call_of, opening_call}
use Rattle.pr_truss.specs.Openings.{with_stop_seen}
use Rattle.pr_truss.specs.Replies.{answer_of}
use Rattle.pr_truss.specs.Stops.{with_poll_answered}
use Rattle.pr_truss.specs.Trusses.{TrussState, traced_at}
use Rattle.pr_truss.specs.declared.asides.Aside.{Aside}
use Rattle.pr_truss.specs.declared.asides.Aside.TheVariants.{Nothing, Reading, Planting, Patching}
use Rattle.pr_truss.specs.declared.processes.Traced.{Traced}
use Rattle.pr_truss.specs.declared.replies.Answer.TheVariants.{Interrupted}
use Rattle.pr_truss.specs.declared.stages.OpeningStep.{OpeningStep}
use Rattle.pr_truss.specs.declared.stages.OpeningStep.TheVariants as opening
use Rattle.pr_truss.specs.declared.stages.Stage.{Stage}
use Rattle.pr_truss.specs.declared.stages.Stage.TheVariants.{Spawning, OpeningControl, Opening, Polling, ReadingStatus, ReadingText, Running, Closing, Finished}
use Rattle.pr_function_laws.proofs.Marks.KeptPlaces.{AtAside, AtStage, Position}
use Rattle.pr_function_laws.proofs.NextCalls.PatchCalls.{fed-staged, next-beside}
use Rattle.pr_function_laws.specs.Soon.{may_wait}

-- Where a truss waits that does not leave its processes, and what the first interrupt makes of it.

-- a patch is no wait
patch-still : (o : Options) (control : ℕ) (plant lift : Option ℕ) → may_wait (patch_call o control plant lift) ≡ false
patch-still o control (Some function) lift = refl
patch-still o control None (Some function) = refl
patch-still o control None None = refl

-- it waits for a process that it opens to stop, or polls
pub data WaitsAt (t : TrussState) : Type 0 where
  awaits_opening : (q until : ℕ) → t.stage ≡ Opening q (opening.AwaitStop until) → WaitsAt t
  polls : t.stage ≡ Polling → WaitsAt t

-- which begins to leave once it was interrupted
unfoldable pub interrupted_at : (t : TrussState) → WaitsAt t → TrussState
interrupted_at t (awaits_opening q until at) = record (with_stop_seen t q) { leaving = true }
interrupted_at t (polls at) = record t { leaving = true }

module _ (o : Options) (has : has_functions o ≡ true) (t : TrussState) (options : t.options ≡ o) where
  module _ (P : Position → Traced → Type 0) (c : Call) (waits : may_wait c ≡ true) where
    never : {A : Type 0} → (d : Call) → Some d ≡ Some c → may_wait d ≡ false → A
    never d is still = absurd (false≢true (sym still ∙ ap may_wait (same_Some d c is) ∙ waits))

    -- of the steps of an opening one waits
    opening-waits : (q : ℕ) (step : OpeningStep) → t.stage ≡ Opening q step
        → function_call_of t (Opening q step) ≡ Some c → WaitsAt t
    unfolding function_call_of call_of opening_call
    opening-waits q (opening.AwaitStop until) at is = awaits_opening q until at
    opening-waits q opening.OpenStatus at is = never _ is refl
    opening-waits q opening.OpenLstatus at is = never _ is refl
    opening-waits q opening.OpenMemory at is = never _ is refl
    opening-waits q opening.ClearModes at is = never _ is refl
    opening-waits q opening.SetRelease at is = never _ is refl
    opening-waits q opening.Stop at is = never _ is refl
    opening-waits q opening.ReadLwps at is = never _ is refl
    opening-waits q opening.TraceSignals at is = never _ is refl
    opening-waits q opening.TraceFaults at is = never _ is refl
    opening-waits q opening.TraceEntries at is = never _ is refl
    opening-waits q opening.TraceExits at is = never _ is refl
    opening-waits q opening.Follow at is = never _ is refl
    opening-waits q opening.Start at is = never _ is refl

    stage-waits : (stage : Stage) → t.stage ≡ stage → AtStage P t.traced stage → function_call_of t stage ≡ Some c
        → WaitsAt t
    unfolding function_call_of call_of
    stage-waits (Opening q step) at w is = opening-waits q step at is
    stage-waits Polling at w is = polls at
    stage-waits (Spawning program) at w is = never _ is refl
    stage-waits (OpeningControl pid) at w is = never _ is refl
    stage-waits (ReadingStatus q) at w is = never _ is refl
    stage-waits (ReadingText q l from len) at w is = never _ is refl
    stage-waits (Running q) at w is = never _ is refl
    stage-waits (Closing q next) at w is = never _ is refl
    stage-waits Finished at w is = absurd (none-some c is)
    stage-waits _ at w is = absurd w

    aside-waits : (aside : Aside) → t.aside ≡ aside → AtAside P t.traced aside → AtStage P t.traced t.stage
        → call_beside t t.stage aside ≡ Some c → (t.aside ≡ Nothing) × WaitsAt t
    unfolding call_beside
    aside-waits Nothing idle beside w is = (idle, stage-waits t.stage refl w is)
    aside-waits (Reading q function) idle beside w is = never _ is refl
    aside-waits (Planting q function) idle beside w is = never _ is refl
    aside-waits (Patching q plants lifts clear) idle beside w is =
        never _ is (patch-still t.options (traced_at t q).control (first_function plants) (first_function lifts))
    aside-waits _ idle beside w is = absurd beside

    -- a call of it that waits, and nothing comes before that
    pub waits-at : AtStage P t.traced t.stage → AtAside P t.traced t.aside → next_function_call_of t ≡ Some c
        → (t.aside ≡ Nothing) × WaitsAt t
    waits-at w beside next = aside-waits t.aside refl beside w (sym (next-beside o has t options) ∙ next)

  pub waits-fed : (r : Reply) → answer_of r ≡ Interrupted → t.aside ≡ Nothing → (w : WaitsAt t)
      → fed_functions t r ≡ with_next_left (interrupted_at t w)
  unfolding interrupted_at with_function_reply with_function_step_answered with_reply with_poll_answered with_interrupt
      with_stop_seen
  waits-fed r interrupted idle (awaits_opening q until at) =
      fed-staged o has t r (Opening q (opening.AwaitStop until)) options idle at
      ∙ ap (with_function_step_answered t q (opening.AwaitStop until) r) interrupted
  waits-fed r interrupted idle (polls at) =
      fed-staged o has t r Polling options idle at ∙ ap (with_poll_answered t r) interrupted
