use Rattle.std.proofs.Common.{◌≡◌, ◌<◌, ◌++◌, ◌||◌, ℕ, Bool, true, false, IfOk, is_some, Option, Some, None, Result, Ok}
use Rattle.std.proofs.Common.{List, ◌∷◌, length, refl, sym, subst, ap, ◌∙◌}
use Rattle.std.proofs.lemmas.Bool.{false≢true}
use Rattle.std.proofs.lemmas.Option.{none-some, same_Some}
use Rattle.pr_api.specs.Entries.{call_entry}
use Rattle.pr_function_hides.proofs.GoingOn.CalmCalls as Calm
use Rattle.pr_function_hides.proofs.MetFaults.ClearedRuns.{lead-own}
use Rattle.pr_function_hides.proofs.LeavingFaults.LeavingCalls.{beside, staged}
use Rattle.pr_function_hides.proofs.LeavingFaults.LeavingFirst.{FirstAt}
use Rattle.pr_function_hides.proofs.LeavingFaults.LeavingHistory.{all-leave}
use Rattle.pr_function_hides.proofs.LeavingFaults.LeavingMet.{DoneIn, LeadsSo, LeavesMet, Leads, Still}
use Rattle.pr_function_hides.proofs.Replies.LeavingStages.{IsLeft, asks, awaits, closes_files, halts, has_ended, lifts_all}
use Rattle.pr_function_hides.proofs.Replies.LeavingStages.{looks, reads_text, waits_again}
use Rattle.pr_function_hides.proofs.LeavingFaults.LeavingWaits.{stop-read, wstop-read}
use Rattle.pr_function_hides.proofs.MetFaults.RunUnmet.{few-leads}
use Rattle.pr_function_hides.proofs.Replies.TreatedEvents.{first-of-none}
use Rattle.pr_function_hides.specs.RunsOfTrusses.{IsRunOfTrusses}
use Rattle.pr_function_laws.proofs.OpenedProcesses.OpenedCalls.{write-as}
use Rattle.pr_function_laws.proofs.OrdinaryTruss.OrdinaryStops.{FitsAside, IsToDo}
use Rattle.pr_hidden.specs.Covers.{Covers}
use Rattle.pr_hidden.specs.Hiders.{Hiders, covers_at, hides}
use Rattle.pr_hidden.specs.Tidiness.{ClearsOwn}
use Rattle.pr_lawful.proofs.Following.UseLemmas.{live-lawful}
use Rattle.pr_model.specs.ControlMessages.{aim_of, target_of}
use Rattle.pr_model.specs.Handles.{handle_of}
use Rattle.pr_model.specs.Legal.{state_after}
use Rattle.pr_model.specs.State.{TracedProcess, TracedState, live_process}
use Rattle.pr_model.specs.declared.calls.Call.{Call}
use Rattle.pr_model.specs.declared.calls.Call.TheVariants as call
use Rattle.pr_model.specs.declared.calls.File.TheVariants as file
use Rattle.pr_model.specs.declared.calls.Mode.TheVariants.{WriteExcl}
use Rattle.pr_model.specs.declared.calls.Reply.{Reply}
use Rattle.pr_model.specs.declared.events.Entry.{Entry}
use Rattle.pr_model.specs.declared.handles.Held.{Held}
use Rattle.pr_num.specs.Limits.{instruction_size}
use Rattle.pr_num.specs.Messages.{first_message}
use Rattle.pr_num.specs.declared.messages.Message.{Message}
use Rattle.pr_num.specs.declared.messages.Message.TheVariants as message
use Rattle.pr_num.specs.declared.messages.MsgFault.{MsgFault}
use Rattle.pr_truss.specs.Asides.{marks_at}
use Rattle.pr_truss.specs.FunctionCalls.{call_beside, function_call_of, patch_call}
use Rattle.pr_truss.specs.Marks.{address_of, code_of, first_function, no_functions}
use Rattle.pr_truss.specs.Messages.{message_call}
use Rattle.pr_truss.specs.NextCalls.{call_of}
use Rattle.pr_truss.specs.Trusses.{TrussState, traced_at}
use Rattle.pr_truss.specs.declared.asides.Aside.{Aside}
use Rattle.pr_truss.specs.declared.asides.Aside.TheVariants.{Asking, AwaitingAgain, AwaitingStop, Patching}
use Rattle.pr_truss.specs.declared.stages.AfterClosing.TheVariants.{GoOn}
use Rattle.pr_truss.specs.declared.stages.Stage.TheVariants.{Closing, Finished, ReadingLwps, ReadingText, Unfollowing}
use Rattle.pr_truss_laws.proofs.Files.OpensLemmas.{held_by}
use Rattle.pr_truss_laws.proofs.Machine.TakenLemmas.{process-aim, target-live}
use Rattle.pr_world.specs.ControllerStates.{ControllerState}

-- PCCFAULT of a truss that leaves its processes finds no fault but one of those who hide.

abbrev Parsed : Type 0
Parsed = Result (Message × ℕ) MsgFault

-- what is so of a message that no PCCFAULT is
abbrev is_other : Message → Bool
is_other message.Cfault = false
is_other m = true

module _ {n : ℕ} {who : Hiders} {controllers : List ControllerState} {first : TracedState}
    {h : List Entry} (run : IsRunOfTrusses n who controllers first h) (front back : List Entry) (k handle : ℕ)
    (bytes : List ℕ) (r : Reply) (place : h ≡ front ++ call_entry k (call.Ctl handle bytes) r ∷ back)
    (hider : hides who k ≡ true) where
  abbrev covers : Covers
  covers = covers_at who first front

  abbrev v : TracedState
  v = state_after first front

  abbrev c : Call
  c = call.Ctl handle bytes

  abbrev e : Entry
  e = call_entry k c r

  abbrev t : TrussState
  t = Calm.tr run front back k c r place hider

  module _ (len : ℕ) (read : first_message bytes ≡ Ok (message.Cfault, len)) (held : Held)
      (there : handle_of v.opens k handle ≡ Some held) (p : TracedProcess) (target : target_of v.system held ≡ Some p)
    where
      abbrev Own : Type 0
      Own = ClearsOwn (covers held.pid) v.system held.pid p (aim_of held)

      ctl-same : {a b : ℕ} {xs ys : List ℕ} → call.Ctl a xs ≡ call.Ctl b ys → (a ≡ b) × (xs ≡ ys)
      ctl-same is = (cc, cc)

      -- where it makes another call
      never : {A : Type 0} → (d : Call) → Some d ≡ Some c → ((a : ℕ) (xs : List ℕ) → d ≡ call.Ctl a xs → ⊥) → A
      never d is other = absurd (other handle bytes (same_Some d c is))

      -- and where it sends another message
      other : {A : Type 0} → (control : ℕ) (sent : List ℕ) → Some (call.Ctl control sent) ≡ Some c
          → IfOk (first_message sent) (λ f. is_other f.0 ≡ true) → A
      other control sent is begins =
          absurd (false≢true
          (subst (λ (x : Parsed). IfOk x (λ f. is_other f.0 ≡ true))
          (ap first_message (ctl-same (same_Some _ c is)).1 ∙ read) begins))

      -- ---- the message

      module _ (w : LeavesMet run front t) (within : 0 < length t.traced) (clear : Bool)
          (is : t.aside ≡ Patching 0 no_functions (marks_at t 0).planted clear)
          (none : first_function (marks_at t 0).planted ≡ None)
          (sends : c ≡ message_call (traced_at t 0).control message.Cfault) where
        abbrev pid : ℕ
        pid = (traced_at t 0).pid

        -- the fault is to be cleared, since no breakpoint is left
        clears : clear ≡ true
        clears =
            let fits =
            subst (λ (a : Aside). FitsAside a t.stage) is (Calm.fit-here run front e back place k hider) in
            let to_do : IsToDo no_functions (marks_at t 0).planted clear = fits.1 in
            sym (ap (λ (o : Option ℕ). is_some o || is_some (first_function (marks_at t 0).planted) || clear)
            first-of-none
            ∙ ap (λ (o : Option ℕ). is_some o || clear) none) ∙ to_do

        leads : Leads run front pid
        leads =
            subst (λ (a : Aside). FirstAt (Still run front) (Leads run front) (DoneIn run front) a t.stage
            (traced_at t 0))
            (is ∙ ap (λ b. Patching 0 no_functions (marks_at t 0).planted b) clears) w.place

        held-is : held_by k pid 0 file.Ctl WriteExcl ≡ held
        held-is =
            let f = Calm.files run front e back place k hider in
            same_Some _ held
            (sym (f.control 0 within) ∙ ap (handle_of v.opens k) (sym (ctl-same sends).0) ∙ there)

        control : held.file ≡ file.Ctl
        control = ap (λ (x : Held). x.file) (sym held-is)

        live : live_process v.system pid ≡ Some p
        live =
            ap (live_process v.system) (ap (λ (x : Held). x.pid) held-is)
            ∙ sym (target-live v k handle held there control) ∙ target

        cfault-own : Own
        cfault-own =
            let l : LeadsSo (covers pid) p = (leads p live).0 in
            let own = l.own in
            let lawful = Calm.lawful run front back k c r place hider in
            let lives = live-lawful v.system pid p lawful.system live in
            subst (λ i. ClearsOwn (covers i) v.system held.pid p (aim_of held)) (ap (λ (x : Held). x.pid) held-is)
            (lead-own (covers pid) v.system held.pid p (aim_of held) (process-aim held control) own
            (few-leads p lives.rising l.no_agent l.frozen l.few own.id own.lwp own.there own.met))

      patch-own : LeavesMet run front t → 0 < length t.traced → (clear : Bool)
          → t.aside ≡ Patching 0 no_functions (marks_at t 0).planted clear → (lift : Option ℕ)
          → first_function (marks_at t 0).planted ≡ lift
          → Some (patch_call t.options (traced_at t 0).control None lift) ≡ Some c → Own
      patch-own w within clear is (Some i) found sends =
          other _ _ sends
          (write-as is_other (λ a b. refl) (address_of t.options i) instruction_size (code_of t.options i))
      patch-own w within clear is None found sends =
          cfault-own w within clear is found (sym (same_Some _ c sends))

      -- ---- a row a place

      row-own : LeavesMet run front t → IsLeft t → Own
      unfolding call_beside function_call_of call_of
      row-own w (halts at idle within) =
          other _ _ (staged run front back k c r place hider Unfollowing at idle)
          (subst (λ (x : Parsed). IfOk x (λ f. is_other f.0 ≡ true)) (sym stop-read) refl)
      row-own w (awaits until at is within) =
          never _ (beside run front back k c r place hider (AwaitingStop until) is) (λ a xs same. cc)
      row-own w (asks at is within) =
          other _ _ (beside run front back k c r place hider Asking is)
          (subst (λ (x : Parsed). IfOk x (λ f. is_other f.0 ≡ true)) (sym wstop-read) refl)
      row-own w (waits_again until at is within) =
          never _ (beside run front back k c r place hider (AwaitingAgain until) is) (λ a xs same. cc)
      row-own w (looks at idle within) =
          never _ (staged run front back k c r place hider ReadingLwps at idle) (λ a xs same. cc)
      row-own w (reads_text l from size at idle within) =
          never _ (staged run front back k c r place hider (ReadingText 0 l from size) at idle) (λ a xs same. cc)
      row-own w (lifts_all clear at is within) =
          patch-own w within clear is (first_function (marks_at t 0).planted) refl
          (sym (ap (λ plant. Some (patch_call t.options (traced_at t 0).control plant
          (first_function (marks_at t 0).planted))) first-of-none)
          ∙ beside run front back k c r place hider (Patching 0 no_functions (marks_at t 0).planted clear) is)
      row-own w (closes_files at idle within) =
          never _ (staged run front back k c r place hider (Closing 0 GoOn) at idle) (λ a xs same. cc)
      row-own w (has_ended at idle) =
          absurd (none-some c (staged run front back k c r place hider Finished at idle))

      pub leaving-own : t.leaving ≡ true → Own
      leaving-own on =
          let w = all-leave run front (e ∷ back) place k hider t (Calm.is-now run front back k c r place hider) on in
          let l = w.left in
          row-own w l.at
