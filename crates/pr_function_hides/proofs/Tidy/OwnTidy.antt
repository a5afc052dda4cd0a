use Rattle.std.proofs.Common.{◌≡◌, ◌≢◌, ◌⊎◌, ◌<◌, ℕ, Bool, true, cond, Option, Some, None, List, All, length, refl, sym}
use Rattle.std.proofs.Common.{subst, ap, ◌∙◌, inl, inr}
use Rattle.std.proofs.lemmas.Option.{none-some, same_Some}
use Rattle.std.specs.List.{slice_get}
use Rattle.pr_line.specs.declared.functions.Function.{Function}
use Rattle.pr_line.specs.declared.options.Options.{Options}
use Rattle.pr_model.specs.declared.calls.Call.{Call}
use Rattle.pr_model.specs.declared.calls.Call.TheVariants as call
use Rattle.pr_num.specs.Messages.{spelling}
use Rattle.pr_num.specs.Words.{IsByte}
use Rattle.pr_num.specs.declared.messages.Message.TheVariants as message
use Rattle.pr_num.proofs.SearchLemmas.{All-at}
use Rattle.pr_reached.proofs.StatesInRange.MemoryRanges.{instruction-bytes}
use Rattle.pr_truss.specs.FunctionCalls.{call_beside, function_call_of, lift_call, next_function_call_of, patch_call, plant_call}
use Rattle.pr_truss.specs.Asides.{marks_at}
use Rattle.pr_truss.specs.Marks.{breakpoint, code_of, first_function, has_functions, no_functions}
use Rattle.pr_truss.specs.NextCalls.{call_of, next_call_of, opening_call}
use Rattle.pr_truss.specs.Trusses.{TrussState, traced_at}
use Rattle.pr_truss.specs.declared.asides.Aside.{Aside}
use Rattle.pr_truss.specs.declared.asides.Aside.TheVariants.{Nothing, Reading, Planting, Patching, AwaitingStop, Asking}
use Rattle.pr_truss.specs.declared.asides.Aside.TheVariants.{AwaitingAgain}
use Rattle.pr_truss.specs.declared.stages.AfterClosing.TheVariants.{OpenNext, GoOn}
use Rattle.pr_truss.specs.declared.stages.OpeningStep.{OpeningStep}
use Rattle.pr_truss.specs.declared.stages.OpeningStep.TheVariants as opening
use Rattle.pr_truss.specs.declared.stages.Stage.{Stage}
use Rattle.pr_truss.specs.declared.stages.Stage.TheVariants.{Spawning, OpeningControl, Opening, Polling, ReadingStatus}
use Rattle.pr_truss.specs.declared.stages.Stage.TheVariants.{ReadingText, Running, Closing, Unfollowing, ReadingLwps}
use Rattle.pr_truss.specs.declared.stages.Stage.TheVariants.{Finished}
use Rattle.pr_num.specs.declared.instructions.Instruction.TheVariants.{Bpt}
use Rattle.pr_function_hides.proofs.Replies.LeavingStages.{IsLeft, asks, awaits, closes_files, halts, has_ended, lifts_all}
use Rattle.pr_function_hides.proofs.Replies.LeavingStages.{looks, reads_text, waits_again}
use Rattle.pr_function_laws.proofs.Marks.MarkLemmas.{first-below}
use Rattle.pr_function_laws.proofs.NextCalls.PatchCalls.{next-beside, next-staged}
use Rattle.pr_function_laws.proofs.Marks.SoundLemmas.{AsideIsBelow}
use Rattle.pr_function_hides.specs.FunctionHiders.{ArePatchable, IsPatchable}
use Rattle.pr_function_hides.proofs.Replies.OwnFiles.{GoesOn, IsBeside, IsWithin}
use Rattle.pr_function_hides.proofs.Tidy.OwnWrites.{breakpoint-size, code-is, named-at, write-is}
use Rattle.pr_function_hides.proofs.Tidy.StillMessages.{BeginStill, cfault-still, read-still, run-still, sentry-still}
use Rattle.pr_function_hides.proofs.Tidy.StillMessages.{set-still, sexit-still, sfault-still, stop-still, strace-still}
use Rattle.pr_function_hides.proofs.Tidy.StillMessages.{unset-still, wstop-still}

-- The PCWRITEs of truss are tidy.

-- ---- the calls of a stage

module _ (c : Call) (t : TrussState) where
  abbrev o : Options
  o = t.options

  -- It writes the code of a function, or its breakpoint, over the first instruction of it; or it sends another message
  -- to a process that truss traces; or it is no message.
  pub data Kind : Type 0 where
    writes : (q : ℕ) → q < length t.traced → (i : ℕ) (f : Function) → slice_get o.functions i ≡ Some f
        → (code : List ℕ) → length code ≡ 16 → All IsByte code
        → c ≡ call.Ctl (traced_at t q).control (spelling (message.Write f.at 16) code) → Kind
    sends : (q : ℕ) → q < length t.traced → (bytes : List ℕ) → c ≡ call.Ctl (traced_at t q).control bytes
        → BeginStill bytes → Kind
    other : ((number : ℕ) (bytes : List ℕ) → c ≢ call.Ctl number bytes) → Kind

  -- it writes nothing
  abbrev pub Quiet : Type 0
  Quiet =
      ((q : ℕ) × ((q < length t.traced)
      × ((bytes : List ℕ) × ((c ≡ call.Ctl (traced_at t q).control bytes) × BeginStill bytes))))
      ⊎ ((number : ℕ) (bytes : List ℕ) → c ≢ call.Ctl number bytes)

  as-kind : Quiet → Kind
  as-kind (inl (q, (within, (bytes, (is, still))))) = sends q within bytes is still
  as-kind (inr never) = other never

  pub is-other : (d : Call) → Some d ≡ Some c → ((number : ℕ) (bytes : List ℕ) → d ≢ call.Ctl number bytes) → Quiet
  is-other d same none = inr (λ number bytes is. none number bytes (same_Some d c same ∙ is))

  pub is-sent : (q : ℕ) → q < length t.traced → (bytes : List ℕ)
      → Some (call.Ctl (traced_at t q).control bytes) ≡ Some c → BeginStill bytes → Quiet
  is-sent q within bytes same still = inl (q, (within, (bytes, (sym (same_Some _ c same), still))))

  opening-kind : (q : ℕ) (step : OpeningStep) → q < length t.traced → function_call_of t (Opening q step) ≡ Some c
      → Quiet
  unfolding function_call_of call_of opening_call
  opening-kind q opening.OpenStatus w is = is-other _ is (λ n b same. cc)
  opening-kind q opening.OpenLstatus w is = is-other _ is (λ n b same. cc)
  opening-kind q opening.OpenMemory w is = is-other _ is (λ n b same. cc)
  opening-kind q opening.ClearModes w is = is-sent q w _ is (unset-still _)
  opening-kind q opening.SetRelease w is = is-sent q w _ is (set-still _)
  opening-kind q opening.Stop w is = is-sent q w _ is stop-still
  opening-kind q (opening.AwaitStop until) w is = is-other _ is (λ n b same. cc)
  opening-kind q opening.ReadLwps w is = is-other _ is (λ n b same. cc)
  opening-kind q opening.TraceSignals w is = is-sent q w _ is (strace-still _)
  opening-kind q opening.TraceFaults w is = is-sent q w _ is (sfault-still _)
  opening-kind q opening.TraceEntries w is = is-sent q w _ is (sentry-still _)
  opening-kind q opening.TraceExits w is = is-sent q w _ is (sexit-still _)
  opening-kind q opening.Follow w is = is-sent q w _ is (set-still _)
  opening-kind q opening.Start w is = is-sent q w _ is (run-still _)

  pub stage-kind : (stage : Stage) → IsWithin (length t.traced) stage → function_call_of t stage ≡ Some c → Quiet
  unfolding function_call_of call_of
  stage-kind (Spawning program) w is = is-other _ is (λ n b same. cc)
  stage-kind (OpeningControl pid) w is = is-other _ is (λ n b same. cc)
  stage-kind (Opening q step) w is = opening-kind q step w is
  stage-kind Polling w is = is-other _ is (λ n b same. cc)
  stage-kind (ReadingStatus q) w is = is-other _ is (λ n b same. cc)
  stage-kind (ReadingText q l from len) w is = is-other _ is (λ n b same. cc)
  stage-kind (Running q) w is = is-sent q w _ is (run-still _)
  stage-kind (Closing q OpenNext) w is = is-other _ is (λ n b same. cc)
  stage-kind (Closing q GoOn) w is = is-other _ is (λ n b same. cc)
  stage-kind Finished w is = absurd (none-some c is)
  stage-kind _ w is = absurd w

module _ (c : Call) (t : TrussState) (fit : ArePatchable t.options) where
  plant-kind : (q i : ℕ) → q < length t.traced → i < length t.options.functions
      → Some (plant_call t.options (traced_at t q).control i) ≡ Some c → Kind c t
  plant-kind q i within inside is =
      let it = named-at t.options i inside in
      writes q within i it.0 it.1 breakpoint breakpoint-size (instruction-bytes Bpt)
      (write-is t.options c (traced_at t q).control i it.0 breakpoint breakpoint it.1 refl is)

  lift-kind : (q i : ℕ) → q < length t.traced → i < length t.options.functions
      → Some (lift_call t.options (traced_at t q).control i) ≡ Some c → Kind c t
  lift-kind q i within inside is =
      let it = named-at t.options i inside in
      let f : Function = it.0 in
      let p : IsPatchable f = All-at IsPatchable t.options.functions i f it.1 fit.each in
      writes q within i f it.1 f.code p.size p.bytes
      (write-is t.options c (traced_at t q).control i f f.code (code_of t.options i) it.1 (code-is t.options i f it.1)
      is)

  patch-kind : (q : ℕ) (plants lifts : List Bool) (clear : Bool) → q < length t.traced
      → AsideIsBelow (length t.options.functions) (Patching q plants lifts clear) → (plant lift : Option ℕ)
      → first_function plants ≡ plant → first_function lifts ≡ lift
      → Some (patch_call t.options (traced_at t q).control plant lift) ≡ Some c → Kind c t
  patch-kind q plants lifts clear w small (Some i) lift first second its =
      plant-kind q i w (first-below _ plants i small.0 first) its
  patch-kind q plants lifts clear w small None (Some i) first second its =
      lift-kind q i w (first-below _ lifts i small.1 second) its
  patch-kind q plants lifts clear w small None None first second its =
      as-kind c t (is-sent c t q w _ its cfault-still)

  -- ---- where it does not leave its processes

  module _ (goes : GoesOn t) where
    aside-kind : (aside : Aside) → IsBeside (length t.traced) aside
        → AsideIsBelow (length t.options.functions) aside → call_beside t t.stage aside ≡ Some c → Kind c t
    unfolding call_beside
    aside-kind Nothing w small is = as-kind c t (stage-kind c t t.stage goes.stage is)
    aside-kind (Reading q i) w small is = as-kind c t (is-sent c t q w _ is (read-still _ _))
    aside-kind (Planting q i) w small is = plant-kind q i w small is
    aside-kind (Patching q plants lifts clear) w small is =
        patch-kind q plants lifts clear w small (first_function plants) (first_function lifts) refl refl is
    aside-kind _ w small is = absurd w

    pub kind : AsideIsBelow (length t.options.functions) t.aside → next_function_call_of t ≡ Some c
        → has_functions t.options ≡ true → Kind c t
    unfolding next_function_call_of
    kind below next has =
        aside-kind t.aside goes.beside below
        (sym (ap (λ b. cond b (call_beside t t.stage t.aside) (next_call_of t)) has) ∙ next)

  -- ---- where it does

  module _ (below : AsideIsBelow (length t.options.functions) t.aside) (next : next_function_call_of t ≡ Some c)
      (has : has_functions t.options ≡ true) where
    staged : (stage : Stage) → t.stage ≡ stage → t.aside ≡ Nothing → function_call_of t stage ≡ Some c
    staged stage at idle = sym (next-staged t.options has t stage refl idle at) ∙ next

    beside : (aside : Aside) → t.aside ≡ aside → call_beside t t.stage aside ≡ Some c
    beside aside is = sym (next-beside t.options has t refl ∙ ap (call_beside t t.stage) is) ∙ next

    pub left-kind : IsLeft t → Kind c t
    unfolding call_beside function_call_of call_of
    left-kind (halts at idle within) =
        as-kind c t (is-sent c t 0 within _ (staged Unfollowing at idle) stop-still)
    left-kind (awaits until at is within) =
        as-kind c t (is-other c t _ (beside (AwaitingStop until) is) (λ n b same. cc))
    left-kind (asks at is within) = as-kind c t (is-sent c t 0 within _ (beside Asking is) wstop-still)
    left-kind (waits_again until at is within) =
        as-kind c t (is-other c t _ (beside (AwaitingAgain until) is) (λ n b same. cc))
    left-kind (looks at idle within) =
        as-kind c t (is-other c t _ (staged ReadingLwps at idle) (λ n b same. cc))
    left-kind (reads_text l from len at idle within) =
        as-kind c t (is-other c t _ (staged (ReadingText 0 l from len) at idle) (λ n b same. cc))
    left-kind (lifts_all clear at is within) =
        patch-kind 0 no_functions (marks_at t 0).planted clear within
        (subst (AsideIsBelow (length t.options.functions)) is below) (first_function no_functions)
        (first_function (marks_at t 0).planted) refl refl
        (beside (Patching 0 no_functions (marks_at t 0).planted clear) is)
    left-kind (closes_files at idle within) =
        as-kind c t (is-other c t _ (staged (Closing 0 GoOn) at idle) (λ n b same. cc))
    left-kind (has_ended at idle) = absurd (none-some c (staged Finished at idle))
