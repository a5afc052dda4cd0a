use Rattle.std.proofs.Common.{◌≡◌, ◌≢◌, ◌<◌, ◌==◌, ℕ, true, false, not, cond, Option, Some, None}
use Rattle.std.proofs.Common.{length, refl, sym, ap, ◌∙◌, inl, inr}
use Rattle.std.proofs.lemmas.Bool.{eq-eqb, false≢true}
use Rattle.std.proofs.lemmas.Option.{none-some, same_Some}
use Rattle.pr_function_hides.proofs.Closing.ClosingCalls.{last-pid}
use Rattle.pr_function_hides.proofs.Files.FilesCalls.{Files}
use Rattle.pr_function_hides.proofs.Replies.OwnFiles.{HoldsItsFiles, IsBeside, IsWithin}
use Rattle.pr_function_hides.specs.Treating.{is_run_soon}
use Rattle.pr_function_laws.proofs.OpenedProcesses.OpenedCalls.{call-is, opened-acts}
use Rattle.pr_function_laws.proofs.OpenedProcesses.OpenedLemmas.{opened_call}
use Rattle.pr_function_laws.proofs.OrdinaryTruss.OrdinaryStops.{FitsAside, IsLookedAt, IsOpenedAt, patch-looked}
use Rattle.pr_function_laws.specs.Opened.{is_opened}
use Rattle.pr_function_laws.specs.Stretches.{acts_by}
use Rattle.pr_model.specs.Handles.{handle_of}
use Rattle.pr_model.specs.State.{TracedState}
use Rattle.pr_model.specs.declared.calls.Call.{Call}
use Rattle.pr_model.specs.declared.calls.Call.TheVariants as call
use Rattle.pr_model.specs.declared.handles.Held.{Held}
use Rattle.pr_truss.specs.FunctionCalls.{call_beside, function_call_of, next_function_call_of, patch_call}
use Rattle.pr_truss.specs.Marks.{first_function, has_functions}
use Rattle.pr_truss.specs.NextCalls.{call_of, next_call_of}
use Rattle.pr_truss.specs.Processes.{last_handle}
use Rattle.pr_truss.specs.Trusses.{TrussState, traced_at}
use Rattle.pr_truss.specs.declared.asides.Aside.{Aside}
use Rattle.pr_truss.specs.declared.asides.Aside.TheVariants.{Nothing, Reading, Planting, Patching}
use Rattle.pr_truss.specs.declared.stages.AfterClosing.TheVariants.{GoOn, OpenNext}
use Rattle.pr_truss.specs.declared.stages.OpeningStep.{OpeningStep}
use Rattle.pr_truss.specs.declared.stages.OpeningStep.TheVariants as opening
use Rattle.pr_truss.specs.declared.stages.Stage.{Stage}
use Rattle.pr_truss.specs.declared.stages.Stage.TheVariants as stage

-- A call of truss that goes on acts on a process only where it opens it, runs it soon, or closes its files.

module _ (k : ℕ) (s : TracedState) (u : TrussState) (c : Call) (its : HoldsItsFiles k u s)
    (files : (q : ℕ) → q < length u.traced → Files k s (traced_at u q)) (fits : FitsAside u.aside u.stage) (i : ℕ)
    (inside : i < length u.traced) (opened : is_opened u.stage i ≡ true) (quiet : is_run_soon u.stage i ≡ false) where
  -- it acts by no handle of the process at this place
  abbrev Away : Call → Type 0
  Away d =
      (m : ℕ) (held : Held) → acts_by d ≡ Some m → handle_of s.opens k m ≡ Some held
      → held.pid ≢ (traced_at u i).pid

  away-none : (d : Call) → acts_by d ≡ None → Some d ≡ Some c → Away c
  away-none d none same m held acts there =
      absurd (none-some m (sym none ∙ ap acts_by (same_Some d c same) ∙ acts))

  away-control : (q : ℕ) → q < length u.traced → q ≢ i → (d : Call) → acts_by d ≡ Some (traced_at u q).control
      → Some d ≡ Some c → Away c
  away-control q within apart d by same m held acts there at =
      let is : (traced_at u q).control ≡ m = same_Some _ m (sym by ∙ ap acts_by (same_Some d c same) ∙ acts) in
      its.apart q i within inside apart
      (ap (λ (x : Held). x.pid) (same_Some _ held (sym (its.control q within) ∙ ap (handle_of s.opens k) is ∙ there))
      ∙ at)

  not-here : (q : ℕ) → not (q == i) ≡ true → q ≢ i
  not-here q is same = false≢true (sym (ap not (eq-eqb q i same)) ∙ is)

  other-here : (q : ℕ) → (q == i) ≡ false → q ≢ i
  other-here q is same = false≢true (sym is ∙ eq-eqb q i same)

  opening-away : (q : ℕ) (step : OpeningStep) → q < length u.traced → q ≢ i
      → function_call_of u (stage.Opening q step) ≡ Some c → Away c
  opening-away q step within apart is =
      let d : Call = opened_call u.options (traced_at u q) step in
      let same : Some d ≡ Some c = sym (call-is u q step) ∙ is in
      elim (opened-acts u.options (traced_at u q) step) [
        | inl none ↦ away-none d none same
        | inr acts ↦ away-control q within apart d acts same
      ]

  closing-away : (q : ℕ) → q < length u.traced → q ≢ i
      → Some (call.Close (last_handle (traced_at u q))) ≡ Some c → Away c
  closing-away q within apart same m held acts there at =
      let is : last_handle (traced_at u q) ≡ m = same_Some _ m (ap acts_by (same_Some _ c same) ∙ acts) in
      its.apart q i within inside apart
      (last-pid k s (traced_at u q) (files q within) held (ap (handle_of s.opens k) is ∙ there) ∙ at)

  stage-away : (st : Stage) → u.stage ≡ st → IsWithin (length u.traced) st → function_call_of u st ≡ Some c → Away c
  unfolding function_call_of call_of
  stage-away (stage.Spawning program) at w is = away-none _ refl is
  stage-away (stage.OpeningControl pid) at w is = away-none _ refl is
  stage-away (stage.Opening q step) at w is =
      opening-away q step w (not-here q (ap (λ x. is_opened x i) (sym at) ∙ opened)) is
  stage-away stage.Polling at w is = away-none _ refl is
  stage-away (stage.ReadingStatus q) at w is = away-none _ refl is
  stage-away (stage.ReadingText q l from len) at w is = away-none _ refl is
  stage-away (stage.Running q) at w is =
      away-control q w (other-here q (ap (λ x. is_run_soon x i) (sym at) ∙ quiet)) _ refl is
  stage-away (stage.Closing q OpenNext) at w is =
      closing-away q w (not-here q (ap (λ x. is_opened x i) (sym at) ∙ opened)) is
  stage-away (stage.Closing q GoOn) at w is =
      closing-away q w (not-here q (ap (λ x. is_opened x i) (sym at) ∙ opened)) is
  stage-away stage.Finished at w is = absurd (none-some c is)
  stage-away _ at w is = absurd w

  -- what comes before the call of a stage is about the process of that stage
  opened-beside : (q : ℕ) (st : Stage) → u.stage ≡ st → IsOpenedAt q st → q ≢ i
  opened-beside q (stage.Opening at opening.Start) is here same =
      not-here at (ap (λ x. is_opened x i) (sym is) ∙ opened) (here ∙ same)
  opened-beside q _ is here same = absurd here

  looked-beside : (q : ℕ) (st : Stage) → u.stage ≡ st → IsLookedAt q st → q ≢ i
  looked-beside q (stage.Running at) is here same =
      other-here at (ap (λ x. is_run_soon x i) (sym is) ∙ quiet) (here ∙ same)
  looked-beside q (stage.ReadingText at l from len) is here same =
      other-here at (ap (λ x. is_run_soon x i) (sym is) ∙ quiet) (here ∙ same)
  looked-beside q (stage.Closing at OpenNext) is here same =
      not-here at (ap (λ x. is_opened x i) (sym is) ∙ opened) (here ∙ same)
  looked-beside q (stage.Closing at GoOn) is here same =
      not-here at (ap (λ x. is_opened x i) (sym is) ∙ opened) (here ∙ same)
  looked-beside q _ is here same = absurd here

  patch-acts : (o : _) (control : ℕ) (plant lift : Option ℕ) → acts_by (patch_call o control plant lift) ≡ Some control
  patch-acts o control (Some function) lift = refl
  patch-acts o control None (Some function) = refl
  patch-acts o control None None = refl

  aside-away : (aside : Aside) → FitsAside aside u.stage → IsBeside (length u.traced) aside
      → call_beside u u.stage aside ≡ Some c → Away c
  unfolding call_beside
  aside-away Nothing fit w is = stage-away u.stage refl its.stage is
  aside-away (Reading q function) fit w is = away-control q w (opened-beside q u.stage refl fit) _ refl is
  aside-away (Planting q function) fit w is = away-control q w (opened-beside q u.stage refl fit) _ refl is
  aside-away (Patching q plants lifts clear) fit w is =
      away-control q w (looked-beside q u.stage refl (patch-looked q plants clear u.stage fit.0)) _
      (patch-acts u.options (traced_at u q).control (first_function plants) (first_function lifts)) is
  aside-away _ fit w is = absurd w

  pub rests-away : has_functions u.options ≡ true → next_function_call_of u ≡ Some c → Away c
  unfolding next_function_call_of
  rests-away has next =
      aside-away u.aside fits its.beside
      (sym (ap (λ b. cond b (call_beside u u.stage u.aside) (next_call_of u)) has) ∙ next)
