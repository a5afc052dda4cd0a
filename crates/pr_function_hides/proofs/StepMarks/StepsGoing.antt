use Rattle.std.proofs.Common.{◌≡◌, ◌≢◌, ◌⊎◌, ◌<◌, ◌++◌, ℕ, true, false, Option, Some, None, List, [], ◌∷◌, length, refl}
use Rattle.std.proofs.Common.{sym, subst, ap, ◌∙◌, inl, inr}
use Rattle.std.proofs.lemmas.Bool.{cases_eq, false≢true}
use Rattle.std.proofs.lemmas.Option.{same_Some}
use Rattle.pr_api.specs.Entries.{call_entry}
use Rattle.pr_function_hides.proofs.Files.CallFacts.{open-finds, same-truss}
use Rattle.pr_function_hides.proofs.GoingOn.CalmCalls.{told-over}
use Rattle.pr_function_hides.proofs.Closing.ClosingCalls.{IsClosing, is-closing, last-pid}
use Rattle.pr_function_hides.proofs.Replies.ClosingWalk.{CalledSo, called_at, fed-closes, is_quiet}
pub use Rattle.pr_function_hides.proofs.Files.GoneTold.{called-within}
use Rattle.pr_function_hides.proofs.Replies.OwnFiles.{GoesOn, IsBeside}
use Rattle.pr_function_hides.proofs.Replies.PlantedReplies.{learnt-pid}
use Rattle.pr_function_hides.proofs.StepMarks.ReleasedMarks.{HasRelease, set-release}
use Rattle.pr_function_hides.proofs.StepMarks.StepsKept as Steps
use Rattle.pr_function_hides.proofs.StepMarks.StepsKept.{After, Closes, Going, OpenedSo, Over, SetsAt, StepsKept, calm-called}
use Rattle.pr_function_hides.proofs.StepMarks.StepsKept.{foreign-at, foreign-going, foreign-to, made-at, over-later}
use Rattle.pr_function_hides.proofs.StepMarks.StepsKept.{releaser-holds, sets-any, sets-lasting, sets-later, stage-later}
use Rattle.pr_function_hides.proofs.StepMarks.StepsOwn.{CalmAt, IsCleared, ReleaserAt, calm-apart, files, given, going, has}
use Rattle.pr_function_hides.proofs.StepMarks.StepsOwn.{kept-now, later-state, lawful, next, no-message, over-answer, own}
use Rattle.pr_function_hides.proofs.StepMarks.StepsOwn.{own-bare, own-release, tr, truss}
use Rattle.pr_function_hides.proofs.Tidy.TidyCalls as Calls
use Rattle.pr_function_hides.proofs.Tidy.TidyOwn as Own
use Rattle.pr_function_hides.specs.RunsOfTrusses.{IsRunOfTrusses}
use Rattle.pr_function_laws.proofs.Marks.KeptPlaces.{AfterBeside, AfterStage, AtAside, AtStage, LeftHas, opens}
use Rattle.pr_function_laws.proofs.Marks.KeptPlaces.{position_after}
use Rattle.pr_function_laws.proofs.Marks.KeptLemmas.{fed-kept}
use Rattle.pr_function_laws.proofs.Pending.KnownFiles.{known-fed}
use Rattle.pr_function_laws.proofs.OpenedProcesses.OpenedCalls.{call-is}
use Rattle.pr_function_laws.proofs.OpenedProcesses.OpenedLemmas.{control-sole}
use Rattle.pr_function_laws.proofs.NextCalls.PatchCalls.{next-staged}
use Rattle.pr_hidden.specs.Hiders.{Hiders, hides}
use Rattle.pr_hidden.specs.Tidiness.{IsPassiveBut}
use Rattle.pr_model.specs.Calls.{answer_to}
use Rattle.pr_model.specs.Handles.{handle_of}
use Rattle.pr_model.specs.Legal.{state_after}
use Rattle.pr_model.specs.State.{TracedState}
use Rattle.pr_model.specs.declared.calls.Call.{Call}
use Rattle.pr_model.specs.declared.calls.Call.TheVariants as call
use Rattle.pr_model.specs.declared.calls.File.TheVariants as file
use Rattle.pr_model.specs.declared.calls.Mode.TheVariants.{WriteExcl}
use Rattle.pr_model.specs.declared.calls.Reply.{Reply}
use Rattle.pr_model.specs.declared.events.Act.TheVariants as act
use Rattle.pr_model.specs.declared.events.Actor.TheVariants.{Controller}
use Rattle.pr_model.specs.declared.events.Entry.{Entry}
use Rattle.pr_model.specs.declared.handles.Held.{Held}
use Rattle.pr_num.specs.Control.{rlc_mode}
use Rattle.pr_num.specs.declared.messages.Message.TheVariants as message
use Rattle.pr_probe_laws.specs.StepMarks.{IsUnstepped}
use Rattle.pr_report_laws.proofs.Invariant.StandLemmas.{Each}
use Rattle.pr_report_laws.specs.Releases.{is_past}
use Rattle.pr_truss.specs.FunctionCalls.{function_call_of}
use Rattle.pr_truss.specs.FunctionFeeding.{fed_functions}
use Rattle.pr_truss.specs.Messages.{message_call}
use Rattle.pr_truss.specs.NextCalls.{call_of, open_control, opening_call}
use Rattle.pr_truss.specs.Openings.{learnt, step_after}
use Rattle.pr_truss.specs.Processes.{newly_traced, without_last}
use Rattle.pr_truss.specs.Replies.{answer_of}
use Rattle.pr_truss.specs.Trusses.{TrussState, traced_at}
use Rattle.pr_truss.specs.declared.asides.Aside.{Aside}
use Rattle.pr_truss.specs.declared.asides.Aside.TheVariants.{Nothing, Patching, Planting, Reading}
use Rattle.pr_truss.specs.declared.processes.Traced.{Traced}
use Rattle.pr_truss.specs.declared.replies.Answer.TheVariants.{Accepted, Gone, Interrupted}
use Rattle.pr_truss.specs.declared.stages.AfterClosing.{AfterClosing}
use Rattle.pr_truss.specs.declared.stages.AfterClosing.TheVariants.{GoOn, OpenNext}
use Rattle.pr_truss.specs.declared.stages.OpeningStep.{OpeningStep}
use Rattle.pr_truss.specs.declared.stages.OpeningStep.TheVariants as opening
use Rattle.pr_truss.specs.declared.stages.Stage.{Stage}
use Rattle.pr_truss.specs.declared.stages.Stage.TheVariants as stage
use Rattle.pr_truss_laws.proofs.Replies.ReplySteps.{lost-same}
use Rattle.pr_world.specs.ControllerStates.{ControllerState}

-- What is so of the trusses that do not leave their processes, behind a call of one of them: it has opened no process
-- but one without step marks, and has set PR_RLC on each that it has opened whole.

module _ {n : ℕ} {who : Hiders} {controllers : List ControllerState} {first : TracedState}
    {h : List Entry} (run : IsRunOfTrusses n who controllers first h) (passive : IsPassiveBut who h)
    (unstepped : IsUnstepped first.system)
    (front back : List Entry) (j : ℕ) (c : Call) (r : Reply) (place : h ≡ front ++ call_entry j c r ∷ back)
    (steps : StepsKept run passive unstepped front) (hider : hides who j ≡ true) where
  abbrev later_front : List Entry
  later_front = front ++ call_entry j c r ∷ []

  abbrev Calm : List Entry → ℕ → Type 0
  Calm es pid = CalmAt run passive unstepped front back j c r place steps hider es pid

  abbrev Left : List Entry → ℕ → Type 0
  Left es pid = Over run passive unstepped es pid

  abbrev v : TracedState
  v = state_after first front

  abbrev u : TracedState
  u = state_after first later_front

  abbrev t : TrussState
  t = tr run passive unstepped front back j c r place steps hider

  abbrev Cleared : ℕ → Type 0
  Cleared pid = IsCleared run passive unstepped front back j c r place steps hider pid

  abbrev held-of : ℕ → Held
  held-of q = record { controller = j; pid = (traced_at t q).pid; lwp = 0; file = file.Ctl; mode = WriteExcl }

  -- ---- where it goes on later

  module _ (off : (fed_functions t r).leaving ≡ false) where
    went : GoesOn t × (answer_of r ≢ Interrupted)
    went =
        Own.went-on run front back j c r place
        (kept-now run passive unstepped front back j c r place steps hider) hider off

    goes : GoesOn t
    goes = went.0

    was : Going run passive unstepped front t
    was = going run passive unstepped front back j c r place steps hider (let g = goes in g.off)

    staged : (at : Stage) → t.stage ≡ at → t.aside ≡ Nothing → function_call_of t at ≡ Some c
    staged at is idle =
        sym (next-staged t.options (has run passive unstepped front back j c r place steps hider) t at refl idle is)
        ∙ next run passive unstepped front back j c r place steps hider

    -- ---- step marks

    calm-busy : is_quiet t.stage ≡ false → (pid : ℕ) → Calm front pid → Calm later_front pid
    calm-busy busy pid =
        calm-apart run passive unstepped front back j c r place steps hider pid
        (λ q within at. absurd (false≢true (sym busy ∙ ap is_quiet at)))

    stage-now : OpenedSo run passive unstepped later_front t t.stage
    stage-now =
        stage-later run passive unstepped front (Controller j) (act.Call c r) back place j hider steps
        (let g = goes in g.off) (λ busy q within. calm-busy busy (traced_at t q).pid)

    opening-is : (pid : ℕ) → t.stage ≡ stage.OpeningControl pid → t.aside ≡ Nothing → c ≡ open_control pid
    unfolding function_call_of call_of
    opening-is pid is idle = sym (same_Some (open_control pid) c (staged (stage.OpeningControl pid) is idle))

    begins-calm : (pid : ℕ) → t.stage ≡ stage.OpeningControl pid → t.aside ≡ Nothing → answer_of r ≡ Accepted
        → Calm later_front pid
    begins-calm pid is idle accepted = by (steps.bare pid)
      where
        none-sent : (number : ℕ) (bytes : List ℕ) → c ≢ call.Ctl number bytes
        none-sent number bytes ctl =
            let both : open_control pid ≡ call.Ctl number bytes = sym (opening-is pid is idle) ∙ ctl in cc

        by : Calm front pid ⊎ ReleaserAt run passive unstepped front back j c r place steps hider front pid
            → Calm later_front pid
        by (inl calm) =
            calm-called run passive unstepped front back j c r place pid
            (λ granted.
            no-message run passive unstepped front back j c r place steps hider pid none-sent) calm
        by (inr x) =
            let o = own run passive unstepped front back j c r place steps hider in
            absurd (open-finds v j pid o.answer
            (ap (answer_to v j) (sym (opening-is pid is idle))
            ∙ given run passive unstepped front back j c r place steps hider)
            (ap answer_of o.replied ∙ accepted)
            (Calls.holder-writes run front back j c r place
            (kept-now run passive unstepped front back j c r place steps hider) hider pid
            (releaser-holds run passive unstepped front pid x)))

    fresh : (pid : ℕ) → t.stage ≡ stage.OpeningControl pid → t.aside ≡ Nothing → answer_of r ≡ Accepted
        → Each (λ (x : Traced). x.pid ≢ pid) t.traced
    fresh pid is idle accepted =
        Calls.new-apart run front back j c r place
        (kept-now run passive unstepped front back j c r place steps hider) hider pid (opening-is pid is idle) accepted

    called-so : CalledSo (Left later_front) (λ step pid. Calm later_front pid) (Calm later_front) t r
    called-so = record {
      stays = λ why. stage-now;
      closes = λ q following x is left. subst (OpenedSo run passive unstepped later_front t) is stage-now;
      gone = λ q here told.
          let g = goes in
          let within = called-within t g.stage g.beside q here in
          over-later run passive unstepped front (Controller j) (act.Call c r) back place (traced_at t q).pid
          (made-at run passive unstepped front (Controller j) (act.Call c r) back place j hider q within)
          (ended q here told);
      begins = λ pid is idle accepted. begins-calm pid is idle accepted;
      steps = λ q step following is idle accepted behind.
          calm-busy (ap is_quiet is) (traced_at t q).pid
          (let so = (let w = was in w.closing) in
          subst (OpenedSo run passive unstepped front t) is so.stage);
    }
      where
        ended : (q : ℕ) → called_at t.stage t.aside ≡ Some q → answer_of r ≡ Gone → Left front (traced_at t q).pid
        ended = let g = goes in told-over run front back j c r place hider g.off

    own-closing : Closes run passive unstepped later_front (fed_functions t r)
    own-closing =
        let g = goes in
        let so = (let w = was in w.closing) in
        fed-closes (Left later_front) (λ step pid. Calm later_front pid) (Calm later_front) (λ step pid calm. calm) t r
        g.off g.follow g.stage g.beside went.1 so.looks called-so
        (has run passive unstepped front back j c r place steps hider)

    -- ---- PR_RLC

    control-of : (q : ℕ) → q < length t.traced
        → handle_of v.opens j (traced_at t q).control ≡ Some (held-of q)
    control-of q within =
        let f = files run passive unstepped front back j c r place steps hider in f.control q within

    -- of a process of which it neither clears the modes nor closes the control file
    each-set : (q : ℕ) → q < length t.traced → (IsClosing t (traced_at t q).control → ⊥)
        → (Cleared (traced_at t q).pid → ⊥) → HasRelease v (traced_at t q).pid → HasRelease u (traced_at t q).pid
    each-set q within unclosed uncleared set =
        by (let f = files run passive unstepped front back j c r place steps hider in
        own-release run passive unstepped front back j c r place steps hider (traced_at t q).pid
        (traced_at t q).control (f.control q within) never set)
      where
        never : c ≢ call.Close (traced_at t q).control
        never closes =
            let g = goes in
            unclosed (is-closing t (traced_at t q).control g.stage g.beside
            (has run passive unstepped front back j c r place steps hider)
            (next run passive unstepped front back j c r place steps hider ∙ ap (λ (d : Call). Some d) closes))

        by : HasRelease u (traced_at t q).pid ⊎ Cleared (traced_at t q).pid → HasRelease u (traced_at t q).pid
        by (inl it) = it
        by (inr cleared) = absurd (uncleared cleared)

    quiet-set : is_quiet t.stage ≡ true → (q : ℕ) → q < length t.traced → HasRelease v (traced_at t q).pid
        → HasRelease u (traced_at t q).pid
    quiet-set quiet q within =
        each-set q within (λ w. false≢true (sym (ap is_quiet w.stage) ∙ quiet))
        (λ w. false≢true (sym (ap is_quiet w.at) ∙ quiet))

    beside-set : t.aside ≢ Nothing → (q : ℕ) → q < length t.traced → HasRelease v (traced_at t q).pid
        → HasRelease u (traced_at t q).pid
    beside-set acts q within = each-set q within (λ w. acts w.idle) (λ w. acts w.idle)

    pids-apart : (i q : ℕ) → i < length t.traced → q < length t.traced → i ≢ q
        → (traced_at t i).pid ≢ (traced_at t q).pid
    pids-apart i q within inside apart =
        let f = files run passive unstepped front back j c r place steps hider in f.apart i q within inside apart

    -- while it closes the files of another
    closing-set : (i : ℕ) (following : AfterClosing) → t.stage ≡ stage.Closing i following → (q : ℕ)
        → q < length t.traced → q ≢ i → HasRelease v (traced_at t q).pid → HasRelease u (traced_at t q).pid
    closing-set i following is q within apart =
        each-set q within elsewhere
        (λ w.
        let both : stage.Closing i following ≡ stage.Opening w.q opening.ClearModes = sym is ∙ w.at in cc)
      where
        place-same : {a b : ℕ} {x y : AfterClosing} → stage.Closing a x ≡ stage.Closing b y → a ≡ b
        place-same e = cc

        elsewhere : IsClosing t (traced_at t q).control → ⊥
        elsewhere w =
            let x = truss run passive unstepped front back j c r place steps hider in
            pids-apart w.place q w.within within
            (λ same. apart (sym same ∙ sym (place-same (sym is ∙ w.stage))))
            (last-pid j v (traced_at t w.place) (x.files w.place w.within) (held-of q)
            (ap (handle_of v.opens j) w.last ∙ control-of q within))

    opened-same : {a b : ℕ} {x y : OpeningStep} → stage.Opening a x ≡ stage.Opening b y → (a ≡ b) × (x ≡ y)
    opened-same e = (cc, cc)

    closing-not : (i : ℕ) (step : OpeningStep) → t.stage ≡ stage.Opening i step → (m : ℕ) → IsClosing t m → ⊥
    closing-not i step is m w =
        let both : stage.Opening i step ≡ stage.Closing w.place w.following = sym is ∙ w.stage in cc

    -- while it opens another
    opening-set : (i : ℕ) (step : OpeningStep) → t.stage ≡ stage.Opening i step → (q : ℕ)
        → q < length t.traced → q ≢ i → HasRelease v (traced_at t q).pid → HasRelease u (traced_at t q).pid
    opening-set i step is q within apart =
        each-set q within (closing-not i step is (traced_at t q).control)
        (λ w.
        pids-apart w.q q w.within within (λ same. apart (sym same ∙ sym (opened-same (sym is ∙ w.at)).0)) w.its)

    -- the process that it opens
    module _ (q : ℕ) (within : q < length t.traced) (idle : t.aside ≡ Nothing) where
      abbrev NextSet : OpeningStep → Type 0
      NextSet step =
          SetsAt run passive unstepped later_front (position_after (step_after t.options r step))
          (learnt (traced_at t q) r step)

      any-set : (step : OpeningStep) → HasRelease u (traced_at t q).pid → NextSet step
      any-set step set =
          sets-any run passive unstepped later_front (position_after (step_after t.options r step))
          (learnt (traced_at t q) r step)
          (subst (HasRelease u) (sym (learnt-pid (traced_at t q) r step)) set)

      past-set : (step : OpeningStep) → t.stage ≡ stage.Opening q step → is_past step ≡ true
          → HasRelease v (traced_at t q).pid → NextSet step
      past-set step is past set =
          any-set step
          (each-set q within (closing-not q step is (traced_at t q).control)
          (λ w. false≢true (sym (ap is_past (opened-same (sym is ∙ w.at)).1) ∙ past)) set)

      release-set : t.stage ≡ stage.Opening q opening.SetRelease → answer_of r ≡ Accepted
          → HasRelease u (traced_at t q).pid
      unfolding opening_call
      release-set is accepted =
          let o = own run passive unstepped front back j c r place steps hider in
          let f = files run passive unstepped front back j c r place steps hider in
          let sent : c ≡ message_call (traced_at t q).control (message.Set rlc_mode) =
          sym (same_Some _ c
          (sym (call-is t q opening.SetRelease) ∙ staged (stage.Opening q opening.SetRelease) is idle)) in
          subst (λ (x : TracedState). HasRelease x (traced_at t q).pid)
          (later-state run passive unstepped front back j c r place steps hider)
          (set-release n j t.options v (lawful run passive unstepped front back j c r place steps hider) c o.answer
          o.is (over-answer run passive unstepped front back j c r place steps hider) (traced_at t q).pid
          (traced_at t q).control (f.control q within) sent (ap answer_of o.replied ∙ accepted))

      next-set : (step : OpeningStep) → t.stage ≡ stage.Opening q step
          → SetsAt run passive unstepped front (opens step) (traced_at t q) → answer_of r ≡ Accepted → NextSet step
      unfolding step_after
      next-set opening.OpenStatus is set accepted = λ past. absurd (false≢true past)
      next-set opening.OpenLstatus is set accepted = λ past. absurd (false≢true past)
      next-set opening.OpenMemory is set accepted = λ past. absurd (false≢true past)
      next-set opening.ClearModes is set accepted = λ past. absurd (false≢true past)
      next-set opening.SetRelease is set accepted = any-set opening.SetRelease (release-set is accepted)
      next-set opening.Stop is set accepted = past-set opening.Stop is refl (set refl)
      next-set (opening.AwaitStop until) is set accepted = past-set (opening.AwaitStop until) is refl (set refl)
      next-set opening.ReadLwps is set accepted = past-set opening.ReadLwps is refl (set refl)
      next-set opening.TraceSignals is set accepted = past-set opening.TraceSignals is refl (set refl)
      next-set opening.TraceFaults is set accepted = past-set opening.TraceFaults is refl (set refl)
      next-set opening.TraceEntries is set accepted = past-set opening.TraceEntries is refl (set refl)
      next-set opening.TraceExits is set accepted = past-set opening.TraceExits is refl (set refl)
      next-set opening.Follow is set accepted = past-set opening.Follow is refl (set refl)
      next-set opening.Start is set accepted = past-set opening.Start is refl (set refl)

    left : (x : Option Traced) (y : Traced) → without_last y ≡ x
        → LeftHas (SetsAt run passive unstepped later_front) x y.pid
    left None y is = tt
    left (Some x) y is = (tt, let same = lost-same y x is in same.pid)

    stage-after : t.aside ≡ Nothing → (at : Stage) → t.stage ≡ at
        → AtStage (SetsAt run passive unstepped front) t.traced at
        → AfterStage (SetsAt run passive unstepped later_front) t r at
    unfolding newly_traced
    stage-after idle (stage.Spawning program) is w = λ q within. quiet-set (ap is_quiet is) q within (w q within)
    stage-after idle (stage.OpeningControl pid) is w = (
      (λ q within. quiet-set (ap is_quiet is) q within (w q within)),
      λ accepted. ((λ past. absurd (false≢true past)), fresh pid is idle accepted),
    )
    stage-after idle (stage.Opening q step) is w = (
      w.0,
      (
        (λ i inside other. opening-set q step is i inside other (w.1.0 i inside other)),
        (tt, λ accepted. next-set q w.0 idle step is w.1.1 accepted),
      ),
    )
    stage-after idle stage.Polling is w = (
      (λ q within. quiet-set (ap is_quiet is) q within (w q within)),
      λ accepted handle q ready found. tt,
    )
    stage-after idle (stage.ReadingStatus q) is w =
        (w.0, ((λ i inside. quiet-set (ap is_quiet is) i inside (w.1.0 i inside)), tt))
    stage-after idle (stage.ReadingText q l from len) is w =
        (w.0, ((λ i inside. quiet-set (ap is_quiet is) i inside (w.1.0 i inside)), tt))
    stage-after idle (stage.Running q) is w = (
      w.0,
      (
        (λ i inside other. quiet-set (ap is_quiet is) i inside (w.1.0 i inside other)),
        (tt, λ lives. quiet-set (ap is_quiet is) q w.0 w.1.1),
      ),
    )
    stage-after idle (stage.Closing q OpenNext) is w = (
      w.0,
      (
        (λ i inside other. closing-set q OpenNext is i inside other (w.1.0 i inside other)),
        left (without_last (traced_at t q)) (traced_at t q) refl,
      ),
    )
    stage-after idle (stage.Closing q GoOn) is w = (
      w.0,
      (
        (λ i inside other. closing-set q GoOn is i inside other (w.1.0 i inside other)),
        left (without_last (traced_at t q)) (traced_at t q) refl,
      ),
    )
    stage-after idle stage.Finished is w = λ q within. quiet-set (ap is_quiet is) q within (w q within)
    stage-after idle _ is w = absurd w

    -- something comes before the call of the stage
    both-after : (aside : Aside) → t.aside ≡ aside → aside ≢ Nothing
        → AtStage (SetsAt run passive unstepped later_front) t.traced t.stage
        × AtAside (SetsAt run passive unstepped later_front) t.traced aside
    both-after aside is acts =
        let k =
        sets-later run passive unstepped front later_front t (beside-set (λ none. acts (sym is ∙ none)))
        (let w = was in w.sets) in
        (k.stage, subst (AtAside (SetsAt run passive unstepped later_front) t.traced) is k.beside)

    aside-after : (aside : Aside) → t.aside ≡ aside → IsBeside (length t.traced) aside
        → AfterBeside (SetsAt run passive unstepped later_front) t r aside
    aside-after Nothing is w = stage-after is t.stage refl (let k = (let x = was in x.sets) in k.stage)
    aside-after (Reading q function) is w = both-after (Reading q function) is (λ none. cc)
    aside-after (Planting q function) is w = both-after (Planting q function) is (λ none. cc)
    aside-after (Patching q plants lifts clear) is w = both-after (Patching q plants lifts clear) is (λ none. cc)
    aside-after _ is w = absurd w

    own-going : Going run passive unstepped later_front (fed_functions t r)
    own-going =
        let g = goes in
        let w = was in
        let k = w.sets in
        record {
          closing = own-closing;
          known = known-fed t r went.1 w.known fresh (has run passive unstepped front back j c r place steps hider);
          sets = fed-kept (SetsAt run passive unstepped later_front)
              (sets-lasting run passive unstepped later_front) t r g.follow g.off k.apart went.1
              (has run passive unstepped front back j c r place steps hider) (aside-after t.aside refl g.beside);
        }

  own-later : (later : TrussState) → After run passive unstepped later_front j later → later.leaving ≡ false
      → Going run passive unstepped later_front later
  own-later later is off =
      subst (Going run passive unstepped later_front) alike (own-going (ap (λ (x : TrussState). x.leaving) alike ∙ off))
    where
      alike : fed_functions t r ≡ later
      alike =
          same-truss (fed_functions t r) later _
          (Calls.own-after run front back j c r place
          (kept-now run passive unstepped front back j c r place steps hider) hider) is

  -- ---- the other trusses

  abbrev other : (k : ℕ) → hides who k ≡ true → TrussState
  other k its = Steps.t run passive unstepped front (Controller j) (act.Call c r) back place k its

  -- nobody else has its processes open for writing
  apart-from : (k : ℕ) (its : hides who k ≡ true) → j ≢ k → (i : ℕ) → i < length (other k its).traced → (q : ℕ)
      → q < length t.traced → (traced_at t q).pid ≢ (traced_at (other k its) i).pid
  apart-from k its apart i inside q within same =
      let f = Steps.files run passive unstepped front (Controller j) (act.Call c r) back place k its in
      let g = files run passive unstepped front back j c r place steps hider in
      let sole =
      control-sole k (traced_at (other k its) i).pid (traced_at (other k its) i).control v
      (lawful run passive unstepped front back j c r place steps hider) (f.control i inside) in
      sole.none j (traced_at t q).control (held-of q) apart (g.control q within) refl same

  truss-later : (k : ℕ) → hides who k ≡ true → (later : TrussState) → After run passive unstepped later_front k later
      → later.leaving ≡ false → Going run passive unstepped later_front later
  truss-later k its later is off = elim (cases_eq j k) [
    | inl same ↦
        subst (λ i. After run passive unstepped later_front i later → Going run passive unstepped later_front later)
        same (λ at. own-later later at off) is
    | inr apart ↦
        foreign-going run passive unstepped front (Controller j) (act.Call c r) back place k its steps
        (foreign-to run passive unstepped front back j c r place k apart)
        (λ i inside.
        calm-apart run passive unstepped front back j c r place steps hider (traced_at (other k its) i).pid
        (λ q within at. apart-from k its apart i inside q within))
        (foreign-at run passive unstepped front back j c r place k apart) later is off
  ]

  pub truss-steps : StepsKept run passive unstepped later_front
  truss-steps = record {
    bare = own-bare run passive unstepped front back j c r place steps hider;
    trusses = truss-later;
  }
