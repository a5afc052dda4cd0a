use Rattle.std.proofs.Common.{◌≡◌, ◌<◌, ◌++◌, ℕ, Bool, true, false, None, Some, List, ◌∷◌, length, refl, sym, subst, ap, ◌∙◌, inl}
use Rattle.std.proofs.Common.{inr}
use Rattle.std.proofs.lemmas.Bool.{cases_Bool}
use Rattle.std.proofs.lemmas.Option.{none-some, same_Some}
use Rattle.pr_api.specs.Entries.{call_entry}
use Rattle.pr_function_hides.proofs.GoingOn.CalmCalls as Calm
use Rattle.pr_function_hides.proofs.Clean.CleanCalls.{Clean, Closes, Leaves, Opens, Over}
use Rattle.pr_function_hides.proofs.Clean.CleanWalk.{cleaned-at}
use Rattle.pr_function_hides.proofs.Closing.ClosingCalls.{IsClosing, is-closing, last-pid}
use Rattle.pr_function_hides.proofs.Replies.ClosingWalk.{StageSo}
use Rattle.pr_function_hides.proofs.Tidy.CopyFree.{off-on, unbroken-calm}
use Rattle.pr_function_hides.proofs.LeavingFaults.LeavingCalls.{beside, staged}
use Rattle.pr_function_hides.proofs.LeavingFaults.LeavingHistory.{all-leave}
use Rattle.pr_function_hides.proofs.LeavingFaults.LeavingMade.{at-place}
use Rattle.pr_function_hides.proofs.LeavingFaults.LeavingMet.{DoneIn, LeavesMet}
use Rattle.pr_function_hides.proofs.Replies.LeavingStages.{IsLeft, asks, awaits, closes_files, halts, has_ended, lifts_all}
use Rattle.pr_function_hides.proofs.Replies.LeavingStages.{looks, reads_text, waits_again}
use Rattle.pr_function_hides.proofs.Replies.OwnFiles.{GoesOn, IsWithin}
use Rattle.pr_function_hides.proofs.StepMarks.PassiveHiders.{passive-but}
use Rattle.pr_function_hides.proofs.FaultStops.StoppedFaults.{LeftAs}
use Rattle.pr_function_hides.proofs.FaultStops.StoppedWalk.{posted-on}
use Rattle.pr_function_hides.specs.RunsOfTrusses.{IsRunOfTrusses}
use Rattle.pr_function_hides.proofs.Replies.TreatedEvents.{first-of-none}
use Rattle.pr_function_hides.specs.PassiveOthers.{AreOthersPassive}
use Rattle.pr_function_hides.specs.TidyCloses.{LeavesNoFault}
use Rattle.pr_hidden.specs.Hiders.{Hiders, covers_at, hides}
use Rattle.pr_hidden.specs.Tidiness.{IsPassiveBut}
use Rattle.pr_model.specs.Handles.{handle_of}
use Rattle.pr_model.specs.Legal.{state_after}
use Rattle.pr_model.specs.State.{TracedLwp, TracedProcess, TracedState, live_process, lwp_of}
use Rattle.pr_model.specs.declared.calls.Call.{Call}
use Rattle.pr_model.specs.declared.calls.Call.TheVariants as call
use Rattle.pr_model.specs.declared.calls.Reply.{Reply}
use Rattle.pr_model.specs.declared.events.Entry.{Entry}
use Rattle.pr_model.specs.declared.handles.Held.{Held}
use Rattle.pr_model.specs.declared.lwps.Phase.TheVariants.{Faulted as AtFault}
use Rattle.pr_num.specs.declared.faults.Flt.{Flt}
use Rattle.pr_probe_laws.specs.StepMarks.{IsUnstepped}
use Rattle.pr_truss.specs.Asides.{marks_at}
use Rattle.pr_truss.specs.FunctionCalls.{call_beside, function_call_of, patch_call}
use Rattle.pr_truss.specs.Marks.{first_function, no_functions}
use Rattle.pr_truss.specs.NextCalls.{call_of}
use Rattle.pr_truss.specs.Processes.{last_handle}
use Rattle.pr_truss.specs.Trusses.{TrussState, traced_at}
use Rattle.pr_truss.specs.declared.asides.Aside.TheVariants.{Asking, AwaitingAgain, AwaitingStop, Nothing, Patching}
use Rattle.pr_truss.specs.declared.stages.AfterClosing.{AfterClosing}
use Rattle.pr_truss.specs.declared.stages.AfterClosing.TheVariants.{GoOn, OpenNext}
use Rattle.pr_truss.specs.declared.stages.Stage.TheVariants.{Closing, Finished, ReadingLwps, ReadingText, Unfollowing}
use Rattle.pr_world.specs.ControllerStates.{ControllerState}

-- Where truss closes a file of a process that lives, no lwp of it counts as standing at a fault of one who hides: its
-- opening was refused, and until then none had met one; or truss leaves it, and has cleared that.

module _ (n : ℕ) (who : Hiders) (controllers : List ControllerState) (first : TracedState) (h : List Entry)
    (run : IsRunOfTrusses n who controllers first h) (others : AreOthersPassive who h)
    (unstepped : IsUnstepped first.system) where
  passive : IsPassiveBut who h
  passive = passive-but run others

  module _ (front back : List Entry) (k number : ℕ) (r : Reply)
      (place : h ≡ front ++ call_entry k (call.Close number) r ∷ back) (hider : hides who k ≡ true) (held : Held)
      (there : handle_of (state_after first front).opens k number ≡ Some held) (p : TracedProcess)
      (live : live_process (state_after first front).system held.pid ≡ Some p) where
    abbrev c : Call
    c = call.Close number

    abbrev e : Entry
    e = call_entry k c r

    abbrev t : TrussState
    t = Calm.tr run front back k c r place hider

    -- ---- where it goes on

    module _ (off : t.leaving ≡ false) where
      closes : Closes who first front t
      closes =
          cleaned-at run passive unstepped front (e ∷ back) place k hider t
          (Calm.is-now run front back k c r place hider) off

      closing : IsClosing t number
      closing =
          let f : GoesOn t = Calm.on run front e back place k hider off in
          is-closing t number f.stage f.beside (Calm.has run front back k c r place hider)
          (Calm.next run front back k c r place hider)

      closes-clean : Clean who first front held.pid
      closes-clean = of w.following w.stage w.inside
        where
          w : IsClosing t number
          w = closing

          same : (traced_at t w.place).pid ≡ held.pid
          same =
              let x = Calm.truss run front e back place k hider in
              let f = x.files in
              last-pid k (state_after first front) (traced_at t w.place) (f w.place w.within) held
              (ap (handle_of (state_after first front).opens k) w.last ∙ there)

          ended : {A : Type 0} → Over who first front (traced_at t w.place).pid → A
          ended over =
              absurd (none-some p (sym (ap (live_process (state_after first front).system) (sym same) ∙ over) ∙ live))

          So : AfterClosing → Type 0
          So following =
              StageSo (Over who first front) (Opens who first front) (Leaves who first front) t
              (Closing w.place following)

          so-at : (following : AfterClosing) → t.stage ≡ Closing w.place following → So following
          so-at following at =
              let it = closes in
              subst (StageSo (Over who first front) (Opens who first front) (Leaves who first front) t) at it.stage

          next : So OpenNext → Clean who first front held.pid
          next (inl over) = ended over
          next (inr it) = subst (Clean who first front) same it.0.0

          of : (following : AfterClosing) → t.stage ≡ Closing w.place following
              → IsWithin (length t.traced) (Closing w.place following) → Clean who first front held.pid
          of OpenNext at inside = next (so-at OpenNext at)
          of GoOn at inside = ended (so-at GoOn at)
          of _ at inside = absurd inside

    -- ---- where it leaves

    module _ (on : t.leaving ≡ true) (id : ℕ) (l : TracedLwp) (its : lwp_of p id ≡ Some l) (f : Flt) (address : ℕ)
        (phase : l.phase ≡ AtFault f address) where
      abbrev pid : ℕ
      pid = (traced_at t 0).pid

      abbrev NotCounted : Type 0
      NotCounted = (covers_at who first front held.pid).faulted id ≡ false

      leaves : LeavesMet run front t
      leaves = all-leave run front (e ∷ back) place k hider t (Calm.is-now run front back k c r place hider) on

      close-same : {a b : ℕ} → call.Close a ≡ call.Close b → a ≡ b
      close-same is = cc

      never : {A : Type 0} → (d : Call) → Some d ≡ Some c → ((m : ℕ) → d ≡ call.Close m → ⊥) → A
      never d is other = absurd (other number (same_Some d c is))

      patch-never : {A : Type 0} → (lift : _) → Some (patch_call t.options (traced_at t 0).control None lift) ≡ Some c
          → A
      patch-never (Some i) is = never _ is (λ m same. cc)
      patch-never None is = never _ is (λ m same. cc)

      -- it closes a file of the first process
      module _ (at : t.stage ≡ Closing 0 GoOn) (idle : t.aside ≡ Nothing) (within : 0 < length t.traced)
          (is : call.Close (last_handle (traced_at t 0)) ≡ c) where
        same-pid : pid ≡ held.pid
        same-pid =
            let x = Calm.truss run front e back place k hider in
            let files = x.files in
            last-pid k (state_after first front) (traced_at t 0) (files 0 within) held
            (ap (handle_of (state_after first front).opens k) (close-same is) ∙ there)

        attached-none : (attached : Bool) → (traced_at t 0).attached ≡ attached
            → (covers_at who first front pid).faulted id ≡ false
        attached-none true attached = elim (cases_Bool ((covers_at who first front pid).faulted id)) [
          | inl counts ↦
              (let follow = Calm.truss run front e back place k hider in
              let done : DoneIn run front pid =
              at-place run front back k c r place hider leaves on follow.follow Nothing (Closing 0 GoOn) idle at
              attached in
              let w =
              done (passive, unstepped) p (ap (live_process (state_after first front).system) same-pid ∙ live) in
              absurd (w.1 id (record {
                lwp = l;
                there = its;
                own = counts;
                fault = f;
                address = address;
                phase = phase;
              })))
          | inr none ↦ none
        ]
        attached-none false attached =
            let w = posted-on run passive unstepped front (e ∷ back) place in
            let left =
            subst (λ b. LeftAs run front b pid) attached
            (w.left k hider t (Calm.is-now run front back k c r place hider) on 0 within) in
            left.0 id

        none-counted : NotCounted
        none-counted =
            subst (λ i. (covers_at who first front i).faulted id ≡ false) same-pid
            (attached-none (traced_at t 0).attached refl)

      row-none : IsLeft t → NotCounted
      unfolding call_beside function_call_of call_of
      row-none (halts at idle within) =
          never _ (staged run front back k c r place hider Unfollowing at idle) (λ m same. cc)
      row-none (awaits until at is within) =
          never _ (beside run front back k c r place hider (AwaitingStop until) is) (λ m same. cc)
      row-none (asks at is within) = never _ (beside run front back k c r place hider Asking is) (λ m same. cc)
      row-none (waits_again until at is within) =
          never _ (beside run front back k c r place hider (AwaitingAgain until) is) (λ m same. cc)
      row-none (looks at idle within) =
          never _ (staged run front back k c r place hider ReadingLwps at idle) (λ m same. cc)
      row-none (reads_text s from size at idle within) =
          never _ (staged run front back k c r place hider (ReadingText 0 s from size) at idle) (λ m same. cc)
      row-none (lifts_all clear at is within) =
          patch-never (first_function (marks_at t 0).planted)
          (sym (ap (λ plant. Some (patch_call t.options (traced_at t 0).control plant
          (first_function (marks_at t 0).planted))) first-of-none)
          ∙ beside run front back k c r place hider (Patching 0 no_functions (marks_at t 0).planted clear) is)
      row-none (closes_files at idle within) =
          none-counted at idle within
          (same_Some _ c (staged run front back k c r place hider (Closing 0 GoOn) at idle))
      row-none (has_ended at idle) =
          absurd (none-some c (staged run front back k c r place hider Finished at idle))

      leaves-none : NotCounted
      leaves-none = let w = leaves in let left = w.left in row-none left.at

    stands-none : (id : ℕ) (l : TracedLwp) (f : Flt) (address : ℕ) → lwp_of p id ≡ Some l → l.phase ≡ AtFault f address
        → (covers_at who first front held.pid).faulted id ≡ false
    stands-none id l f address its phase = elim (cases_Bool t.leaving) [
      | inl on ↦ leaves-none on id l its f address phase
      | inr off ↦ closes-clean off id
    ]

  pub leaves-no-fault : LeavesNoFault who first h
  leaves-no-fault = record {
    none_stands = λ front back k number r held p id l f address hider place there live its phase.
        stands-none front back k number r place hider held there p live id l f address its phase;
    none = λ front back k number r held p id hider place unbroken there live.
        closes-clean front back k number r place hider held there p live
        (off-on run k hider front (call_entry k (call.Close number) r ∷ back) place
        (Calm.tr run front back k (call.Close number) r place hider)
        (Calm.is-now run front back k (call.Close number) r place hider) (unbroken-calm k front unbroken)) id;
  }

pub ruleset no_fault = (leaves-no-fault)
