use Rattle.std.proofs.Common.{◌≡◌, ◌++◌, ℕ, true, IfOk, Option, Some, None, Result, Ok, Err, List, ◌∷◌, refl, sym}
use Rattle.std.proofs.Common.{subst, ap, ◌∙◌, inl, inr}
use Rattle.std.proofs.lemmas.Bool.{cases_Bool, false≢true}
use Rattle.std.proofs.lemmas.Option.{none-some, same_Some}
use Rattle.pr_api.specs.Entries.{call_entry}
use Rattle.pr_function_hides.proofs.GoingOn.CalmCalls as Calm
use Rattle.pr_function_hides.proofs.MetFaults.ClearedRuns.{message-own}
use Rattle.pr_function_hides.proofs.MetFaults.ClearingCalls.{sends-unclear}
use Rattle.pr_function_hides.proofs.LeavingCopies.CopyHalts.{BeginLeaving, cfault-leaves, is_leaving, stop-leaves, write-leaves}
use Rattle.pr_function_hides.proofs.LeavingCopies.CopyHalts.{wstop-leaves}
use Rattle.pr_function_hides.proofs.LeavingFaults.LeavingClears.{leaving-own}
use Rattle.pr_function_hides.proofs.Replies.LeavingStages.{IsLeft, asks, awaits, closes_files, halts, has_ended, lifts_all}
use Rattle.pr_function_hides.proofs.Replies.LeavingStages.{looks, reads_text, waits_again}
use Rattle.pr_function_hides.proofs.Tidy.TidyKept.{Course, goes_on, leaves_them}
use Rattle.pr_function_hides.proofs.Replies.TreatedEvents.{first-of-none}
use Rattle.pr_function_hides.specs.RunsOfTrusses.{IsRunOfTrusses}
use Rattle.pr_function_hides.specs.TidyFaults.{BeginWithClearing, is_clearing}
use Rattle.pr_function_laws.proofs.NextCalls.PatchCalls.{next-beside, next-staged}
use Rattle.pr_hidden.specs.Covers.{Covers}
use Rattle.pr_hidden.specs.Hiders.{Hiders, covers_at, hides}
use Rattle.pr_hidden.specs.Tidiness.{ClearsOwn, IsTidyCall, IsTidyControl, IsTidyMessage, IsTidySent, IsTidyTargeted}
use Rattle.pr_hidden.specs.Tidiness.{is_step_flags}
use Rattle.pr_model.specs.ControlMessages.{aim_of, tail_of, target_of}
use Rattle.pr_model.specs.Handles.{handle_of}
use Rattle.pr_model.specs.Legal.{state_after}
use Rattle.pr_model.specs.State.{TracedProcess, TracedState}
use Rattle.pr_model.specs.declared.calls.Call.{Call}
use Rattle.pr_model.specs.declared.calls.Call.TheVariants as call
use Rattle.pr_model.specs.declared.calls.Reply.{Reply}
use Rattle.pr_model.specs.declared.calls.Reply.TheVariants as reply
use Rattle.pr_model.specs.declared.events.Entry.{Entry}
use Rattle.pr_model.specs.declared.handles.Held.{Held}
use Rattle.pr_num.specs.Limits.{instruction_size}
use Rattle.pr_num.specs.Messages.{first_message}
use Rattle.pr_num.specs.declared.messages.Message.{Message}
use Rattle.pr_num.specs.declared.messages.Message.TheVariants as message
use Rattle.pr_num.specs.declared.messages.MsgFault.{MsgFault}
use Rattle.pr_truss.specs.Asides.{marks_at}
use Rattle.pr_truss.specs.FunctionCalls.{call_beside, function_call_of, next_function_call_of, patch_call}
use Rattle.pr_truss.specs.Marks.{address_of, code_of, first_function, has_functions, no_functions}
use Rattle.pr_truss.specs.NextCalls.{call_of}
use Rattle.pr_truss.specs.Trusses.{TrussState, traced_at}
use Rattle.pr_truss.specs.declared.asides.Aside.{Aside}
use Rattle.pr_truss.specs.declared.asides.Aside.TheVariants.{Asking, AwaitingAgain, AwaitingStop, Nothing, Patching}
use Rattle.pr_truss.specs.declared.stages.AfterClosing.TheVariants.{GoOn}
use Rattle.pr_truss.specs.declared.stages.Stage.{Stage}
use Rattle.pr_truss.specs.declared.stages.Stage.TheVariants.{Closing, Finished, ReadingLwps, ReadingText, Unfollowing}
use Rattle.pr_world.specs.ControllerStates.{ControllerState}

-- A message of a truss that clears a fault, or steps an lwp, finds no fault but one of those who hide.

-- ---- what a truss sends that leaves its processes

module _ (t : TrussState) (has : has_functions t.options ≡ true) (handle : ℕ) (bytes : List ℕ)
    (next : next_function_call_of t ≡ Some (call.Ctl handle bytes)) where
  abbrev c : Call
  c = call.Ctl handle bytes

  staged : (stage : Stage) → t.stage ≡ stage → t.aside ≡ Nothing → function_call_of t stage ≡ Some c
  staged stage is idle = sym (next-staged t.options has t stage refl idle is) ∙ next

  beside : (aside : Aside) → t.aside ≡ aside → call_beside t t.stage aside ≡ Some c
  beside aside is = sym (next-beside t.options has t refl ∙ ap (call_beside t t.stage) is) ∙ next

  sends : (control : ℕ) (sent : List ℕ) → Some (call.Ctl control sent) ≡ Some c → BeginLeaving sent → BeginLeaving bytes
  sends control sent is leaves = subst BeginLeaving (bytes-same (same_Some _ c is)) leaves
    where
      bytes-same : {a b : ℕ} {xs ys : List ℕ} → call.Ctl a xs ≡ call.Ctl b ys → xs ≡ ys
      bytes-same e = cc

  never : {A : Type 0} → (d : Call) → Some d ≡ Some c → ((a : ℕ) (xs : List ℕ) → d ≡ call.Ctl a xs → ⊥) → A
  never d is other = absurd (other handle bytes (same_Some d c is))

  patches : (lift : Option ℕ) → Some (patch_call t.options (traced_at t 0).control None lift) ≡ Some c
      → BeginLeaving bytes
  patches (Some i) is =
      sends _ _ is (write-leaves (address_of t.options i) instruction_size (code_of t.options i))
  patches None is = sends _ _ is cfault-leaves

  pub left-sends : IsLeft t → BeginLeaving bytes
  unfolding call_beside function_call_of call_of
  left-sends (halts at idle within) = sends _ _ (staged Unfollowing at idle) stop-leaves
  left-sends (awaits until at is within) = never _ (beside (AwaitingStop until) is) (λ a xs e. cc)
  left-sends (asks at is within) = sends _ _ (beside Asking is) wstop-leaves
  left-sends (waits_again until at is within) = never _ (beside (AwaitingAgain until) is) (λ a xs e. cc)
  left-sends (looks at idle within) = never _ (staged ReadingLwps at idle) (λ a xs e. cc)
  left-sends (reads_text l from len at idle within) =
      never _ (staged (ReadingText 0 l from len) at idle) (λ a xs e. cc)
  left-sends (lifts_all clear at is within) =
      patches (first_function (marks_at t 0).planted)
      (sym (ap (λ plant. Some (patch_call t.options (traced_at t 0).control plant
      (first_function (marks_at t 0).planted))) first-of-none)
      ∙ beside (Patching 0 no_functions (marks_at t 0).planted clear) is)
  left-sends (closes_files at idle within) = never _ (staged (Closing 0 GoOn) at idle) (λ a xs e. cc)
  left-sends (has_ended at idle) = absurd (none-some c (staged Finished at idle))

-- ---- along the history

module _ {n : ℕ} {who : Hiders} {controllers : List ControllerState} {first : TracedState}
    {h : List Entry} (run : IsRunOfTrusses n who controllers first h) (front back : List Entry) (k handle : ℕ)
    (bytes : List ℕ) (r : Reply) (place : h ≡ front ++ call_entry k (call.Ctl handle bytes) r ∷ back)
    (hider : hides who k ≡ true) where
  abbrev covers : Covers
  covers = covers_at who first front

  abbrev v : TracedState
  v = state_after first front

  abbrev its-call : Call
  its-call = call.Ctl handle bytes

  abbrev tr : TrussState
  tr = Calm.tr run front back k its-call r place hider

  abbrev Read : Type 0
  Read = Result (Message × ℕ) MsgFault

  -- PCRUN
  module _ (flags len : ℕ) (read : first_message bytes ≡ Ok (message.Run flags, len))
      (steps : is_step_flags flags ≡ true) (held : Held) (there : handle_of v.opens k handle ≡ Some held)
      (p : TracedProcess) (target : target_of v.system held ≡ Some p) where
    runs-own : ClearsOwn (covers held.pid) v.system held.pid p (aim_of held)
    runs-own = let w = Calm.truss run front (call_entry k its-call r) back place k hider in by w.course
      where
        by : Course tr → ClearsOwn (covers held.pid) v.system held.pid p (aim_of held)
        by (goes_on goes flags_so) =
            message-own run front back k handle bytes r place hider goes.off flags len read steps held there p target
        by (leaves_them on left) =
            absurd (false≢true
            (subst (λ (x : Read). IfOk x (λ f. is_leaving f.0 ≡ true)) read
            (left-sends tr (Calm.has run front back k its-call r place hider) handle bytes
            (Calm.next run front back k its-call r place hider) left)))

  -- PCCFAULT
  faults-own : (len : ℕ) → first_message bytes ≡ Ok (message.Cfault, len) → (held : Held)
      → handle_of v.opens k handle ≡ Some held → (p : TracedProcess) → target_of v.system held ≡ Some p
      → ClearsOwn (covers held.pid) v.system held.pid p (aim_of held)
  faults-own len read held there p target = elim (cases_Bool tr.leaving) [
    | inl on ↦ leaving-own run front back k handle bytes r place hider len read held there p target on
    | inr off ↦ absurd (sends-unclear run front back k its-call r place hider off message.Cfault len read)
  ]

  sent-tidy : (held : Held) (p : TracedProcess) → handle_of v.opens k handle ≡ Some held
      → target_of v.system held ≡ Some p → (x : Read) → first_message bytes ≡ x
      → IfOk x (λ f. is_clearing f.0 ≡ true) → IsTidySent who k covers v.system held p bytes x
  sent-tidy held p there target (Err fault) read begins = tt
  sent-tidy held p there target (Ok f) read begins = by f.0 refl begins
    where
      by : (m : Message) → f.0 ≡ m → is_clearing m ≡ true
          → IsTidyMessage who k covers v.system held.pid p (aim_of held) m (tail_of m bytes)
      by (message.Run flags) is clears =
          λ steps. runs-own flags f.1 (read ∙ ap (λ m. let x : Read = Ok (m, f.1) in x) is) steps held there p target
      by message.Cfault is clears =
          faults-own f.1 (read ∙ ap (λ m. let x : Read = Ok (m, f.1) in x) is) held there p target
      by _ is clears = absurd (false≢true clears)

  pub clears-own : BeginWithClearing bytes → IsTidyCall who covers v k its-call r
  clears-own begins = by r
    where
      targeted : (held : Held) → handle_of v.opens k handle ≡ Some held → (o : Option TracedProcess)
          → target_of v.system held ≡ o → IsTidyTargeted who k covers v.system held o bytes
      targeted held there None target = tt
      targeted held there (Some p) target = sent-tidy held p there target (first_message bytes) refl begins

      controlled : (o : Option Held) → handle_of v.opens k handle ≡ o → IsTidyControl who k covers v.system o bytes
      controlled None there = tt
      controlled (Some held) there = targeted held there (target_of v.system held) refl

      by : (x : Reply) → IsTidyCall who covers v k its-call x
      by (reply.Used used) = controlled (handle_of v.opens k handle) refl
      by _ = tt
