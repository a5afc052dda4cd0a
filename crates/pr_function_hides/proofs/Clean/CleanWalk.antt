use Rattle.std.proofs.Common.{◌≡◌, ◌≢◌, ◌⊎◌, ◌<◌, ◌++◌, ℕ, Bool, true, false, Some, None, List, [], ◌∷◌, length, refl}
use Rattle.std.proofs.Common.{sym, subst, ap, ◌∙◌, inl, inr}
use Rattle.std.proofs.lemmas.Bool.{cases_Bool, cases_eq}
use Rattle.std.proofs.lemmas.List.{append-nil, append_assoc}
use Rattle.std.proofs.lemmas.Option.{none-some, same_Some}
use Rattle.std.specs.List.{slice_get}
use Rattle.pr_api.specs.Entries.{call_entry}
use Rattle.pr_function_hides.proofs.Files.CallFacts.{controllers-push, legal-here, open-finds, same-truss}
use Rattle.pr_function_hides.proofs.Tidy.CalledCovers.{IsAsPatched, call-still}
use Rattle.pr_function_hides.proofs.Clean.CleanCalls.{Bare, Clean, Closes, Leaves, Opens, Over, clean-called, ends-done}
use Rattle.pr_function_hides.proofs.Clean.CleanCalls.{opens-leaves, stage-on, stands-next}
use Rattle.pr_function_hides.proofs.Clean.CleanTurns.{Cleaned, before, foreign-closes, over-later, tick-cleaned, turn-cleaned}
use Rattle.pr_function_hides.proofs.Replies.ClosingWalk.{CalledSo, StageSo, fed-closes, first-closes}
use Rattle.pr_function_hides.proofs.StandingFaults.CountedPlaces.{held-at}
use Rattle.pr_function_hides.proofs.FaultStops.GoingCalls.{Going, going, told-over}
use Rattle.pr_function_hides.proofs.Replies.OwnFiles.{IsWithin}
use Rattle.pr_function_hides.proofs.StepMarks.StepsGoing.{called-within}
use Rattle.pr_function_hides.proofs.Tidy.TidyCalls as Calls
use Rattle.pr_function_hides.proofs.Tidy.TidyCovers as Called
use Rattle.pr_function_hides.proofs.Tidy.TidyKept.{Holder, Kept}
use Rattle.pr_function_hides.proofs.Tidy.TidyLaw.{kept-at}
use Rattle.pr_function_hides.proofs.Tidy.TidyOwn.{went-on}
use Rattle.pr_function_hides.specs.RunsOfTrusses.{IsRunOfTrusses}
use Rattle.pr_function_hides.specs.TidyWrites.{IsTrussAfter}
use Rattle.pr_hidden.specs.Covers.{Covers}
use Rattle.pr_hidden.specs.Hiders.{Hiders, covers_at, covers_called, hides}
use Rattle.pr_hidden.specs.Tidiness.{IsPassiveBut}
use Rattle.pr_model.specs.Calls.{answer_to}
use Rattle.pr_model.specs.Legal.{IsLegal, IsLegalEntry, state_after}
use Rattle.pr_model.specs.State.{TracedState}
use Rattle.pr_model.specs.declared.calls.Call.{Call}
use Rattle.pr_model.specs.declared.calls.Reply.{Reply}
use Rattle.pr_model.specs.declared.events.Act.{Act}
use Rattle.pr_model.specs.declared.events.Act.TheVariants as act
use Rattle.pr_model.specs.declared.events.Actor.{Actor}
use Rattle.pr_model.specs.declared.events.Actor.TheVariants.{Clock, Controller, Lwp}
use Rattle.pr_model.specs.declared.events.Entry.{Entry}
use Rattle.pr_probe_laws.specs.StepMarks.{IsUnstepped}
use Rattle.pr_tool_laws.proofs.Stages.ProtocolLemmas.{fed-own}
use Rattle.pr_truss.specs.FunctionCalls.{function_call_of}
use Rattle.pr_truss.specs.FunctionFeeding.{fed_functions}
use Rattle.pr_truss.specs.NextCalls.{call_of, open_control}
use Rattle.pr_truss.specs.Processes.{without_last}
use Rattle.pr_truss.specs.Replies.{answer_of}
use Rattle.pr_truss.specs.Trusses.{TrussState, first_truss, traced_at}
use Rattle.pr_truss.specs.declared.asides.Aside.TheVariants.{Nothing}
use Rattle.pr_truss.specs.declared.processes.Traced.{Traced}
use Rattle.pr_truss.specs.declared.replies.Answer.TheVariants.{Accepted}
use Rattle.pr_truss.specs.declared.stages.AfterClosing.{AfterClosing}
use Rattle.pr_truss.specs.declared.stages.OpeningStep.{OpeningStep}
use Rattle.pr_truss.specs.declared.stages.OpeningStep.TheVariants as opening
use Rattle.pr_truss.specs.declared.stages.Stage.{Stage}
use Rattle.pr_truss.specs.declared.stages.Stage.TheVariants as stage
use Rattle.pr_world.specs.ControllerStates.{ControllerState, FnTruss}
use Rattle.pr_world.specs.Controllers.{after_reply}
use Rattle.pr_world.specs.Protocol.{controllers_after, controllers_at}

-- The calls of truss, and of others, leave no lwp at a fault of one who hides but in a process that truss has opened
-- whole; and so it is along the history, as long as the truss goes on.

module _ {n : ℕ} {who : Hiders} {controllers : List ControllerState} {first : TracedState}
    {h : List Entry} (run : IsRunOfTrusses n who controllers first h) (passive : IsPassiveBut who h)
    (unstepped : IsUnstepped first.system) where
  abbrev here : List Entry → TracedState
  here front = state_after first front

  abbrev covers : List Entry → Covers
  covers front = covers_at who first front

  abbrev After : List Entry → ℕ → TrussState → Type 0
  After front k t = IsTrussAfter who controllers first h front k t

  abbrev KeptAfter : List Entry → Type 0
  KeptAfter front = Kept who controllers first h front

  abbrev kept : (front back : List Entry) → h ≡ front ++ back → KeptAfter front
  kept = kept-at run

  abbrev CleanedAt : List Entry → Type 0
  CleanedAt front = Cleaned run passive unstepped front

  -- ---- calls

  module _ (front back : List Entry) (j : ℕ) (c : Call) (r : Reply) (place : h ≡ front ++ call_entry j c r ∷ back)
      (cleaned : CleanedAt front) where
    abbrev later_front : List Entry
    later_front = front ++ call_entry j c r ∷ []

    abbrev v : TracedState
    v = here front

    abbrev kept-now : KeptAfter front
    kept-now = kept front (call_entry j c r ∷ back) place

    clean-now : (pid : ℕ) → Clean who first front pid → Clean who first later_front pid
    clean-now = clean-called run front back j c r place

    -- ---- the other trusses

    others-close : (k : ℕ) (its : hides who k ≡ true) → j ≢ k → (later : TrussState) → After later_front k later
        → later.leaving ≡ false → Closes who first later_front later
    others-close k its apart later is off =
        foreign-closes run passive unstepped front (Controller j) (act.Call c r) back place cleaned k its
        (λ same. apart (controller-same same)) (λ q within calm stands clean. clean-now _ clean)
        (λ q within. stays q within (hides who j) refl)
        (Calls.foreign-same run front back j c r place kept-now k apart) later is off
      where
        controller-same : {a b : ℕ} → Controller a ≡ Controller b → a ≡ b
        controller-same e = cc

        its_truss : TrussState
        its_truss = let w = kept-now in let x = w.trusses k its in x.t

        stays : (q : ℕ) → q < length its_truss.traced → (b : Bool) → hides who j ≡ b
            → IsAsPatched (covers front (traced_at its_truss q).pid) (covers later_front (traced_at its_truss q).pid)
        stays q within true hider =
            Called.foreign-stays run front back j c r place kept-now hider k its apart q within
        stays q within false bare =
            Calls.other-stays run front back j c r place kept-now bare (traced_at its_truss q).pid

    -- ---- the truss that makes it, where it goes on

    module _ (hider : hides who j ≡ true) (on : Going run front back j c r place hider) where
      abbrev tr : TrussState
      tr = Calls.tr run front back j c r place kept-now hider

      was : Closes who first front tr
      was = before run passive unstepped front (Controller j) (act.Call c r) back place cleaned j hider on.off

      opening-is : (pid : ℕ) → tr.stage ≡ stage.OpeningControl pid → tr.aside ≡ Nothing → c ≡ open_control pid
      unfolding function_call_of call_of
      opening-is pid is idle =
          same_Some c (open_control pid) (sym (on.call idle) ∙ ap (function_call_of tr) is)

      -- a process that it begins to open: nobody who hides had the control file of it open
      begins : (pid : ℕ) → tr.stage ≡ stage.OpeningControl pid → tr.aside ≡ Nothing → answer_of r ≡ Accepted
          → Opens who first later_front opening.OpenStatus pid
      begins pid is idle accepted = (clean-now pid clean, bare (let w = kept-now in w.bare pid))
        where
          opens : c ≡ open_control pid
          opens = opening-is pid is idle

          never : {A : Type 0} → Holder who pid v → A
          never x =
              let own = Calls.own run front back j c r place kept-now hider in
              absurd (open-finds v j pid own.answer (ap (answer_to v j) (sym opens) ∙ own.is)
              (ap answer_of own.replied ∙ accepted)
              (Calls.holder-writes run front back j c r place kept-now hider pid x))

          clean : Clean who first front pid
          clean id = elim (cases_Bool ((covers front pid).faulted id)) [
            | inl counts ↦ never (held-at run front (call_entry j c r ∷ back) place pid id counts)
            | inr none ↦ none
          ]

          bare : Bare who first front pid ⊎ Holder who pid v → Bare who first later_front pid
          bare (inr x) = never x
          bare (inl nothing) =
              let a =
              Calls.called-stays run front back j c r place kept-now pid
              (subst (λ (d : Call). IsAsPatched (covers front pid) (covers_called who (covers front) v j d r pid))
              (sym opens) (call-still who run.are.no_probes (covers front) v j pid (open_control pid) r refl)) in
              a.patches ∙ nothing

      abbrev Later : Stage → Type 0
      Later s = StageSo (Over who first later_front) (Opens who first later_front) (Leaves who first later_front) tr s

      called-so : CalledSo (Over who first later_front) (Opens who first later_front) (Leaves who first later_front) tr
          r
      called-so = record {
        stays = λ why. stays why;
        closes = λ q following x is left. closes q following x is left;
        gone = λ q here_at told.
            over-later run passive unstepped front (Controller j) (act.Call c r) back place cleaned j hider q
            (let f = on.holds in called-within tr f.stage f.beside q here_at)
            (told-over run front back j c r place hider on q here_at told);
        begins = begins;
        steps = λ q step following is idle accepted behind.
            stands-next run front back j c r place hider on q (within-is q step is) step is idle accepted
            following behind (opens-at q step is);
      }
        where
          within-is : (q : ℕ) (step : OpeningStep) → tr.stage ≡ stage.Opening q step → q < length tr.traced
          within-is q step is = let f = on.holds in subst (IsWithin (length tr.traced)) is f.stage

          opens-at : (q : ℕ) (step : OpeningStep) → tr.stage ≡ stage.Opening q step
              → Opens who first front step (traced_at tr q).pid
          opens-at q step is =
              let it = was in
              subst (StageSo (Over who first front) (Opens who first front) (Leaves who first front) tr) is it.stage

          stays : (tr.aside ≢ Nothing) ⊎ (answer_of r ≢ Accepted) → Later tr.stage
          stays (inl busy) =
              stage-on run front back j c r place hider on was (λ q step is idle. absurd (busy idle))
              (λ q is idle. absurd (busy idle))
          stays (inr refused) =
              stage-on run front back j c r place hider on was (λ q step is idle start. refused)
              (λ q is idle last none.
              refused (ends-done run front back j c r place hider on q
              (let f = on.holds in subst (IsWithin (length tr.traced)) is f.stage) is idle last))

          closes : (q : ℕ) (following : AfterClosing) (x : Traced) → tr.stage ≡ stage.Closing q following
              → without_last (traced_at tr q) ≡ Some x → Later (stage.Closing q following)
          closes q following x is left =
              subst Later is
              (stage-on run front back j c r place hider on was
              (λ b step at idle. absurd (apart-stages (sym at ∙ is)))
              (λ b at idle last none.
              none-some x
              (sym (subst (λ i. without_last (traced_at tr i) ≡ None) (closing-same (sym at ∙ is)) none) ∙ left)))
            where
              apart-stages : {a b : ℕ} {step : OpeningStep} {next : AfterClosing}
                  → stage.Opening a step ≡ stage.Closing b next → ⊥
              apart-stages e = cc

              closing-same : {a b : ℕ} {y z : AfterClosing} → stage.Closing a y ≡ stage.Closing b z → a ≡ b
              closing-same e = cc

      own-closes : Closes who first later_front (fed_functions tr r)
      own-closes =
          let f = on.holds in
          let it = was in
          fed-closes (Over who first later_front) (Opens who first later_front) (Leaves who first later_front)
          (opens-leaves who first later_front) tr r f.off f.follow f.stage f.beside on.calm it.looks called-so on.has

    own-later : hides who j ≡ true → (later : TrussState) → After later_front j later → later.leaving ≡ false
        → Closes who first later_front later
    unfolding after_reply controllers_after
    own-later hider later is =
        let w = Calls.truss-now run front back j c r place kept-now hider in
        subst (λ (u : TrussState). u.leaving ≡ false → Closes who first later_front u)
        (same-truss (fed_functions w.t r) later _
        (ap (λ (cs : List ControllerState). slice_get cs j) (controllers-push controllers front (call_entry j c r))
        ∙ fed-own (controllers_at controllers front) j r (FnTruss w.t) w.is) is)
        (λ off.
        let went = went-on run front back j c r place kept-now hider off in
        own-closes hider (going run front back j c r place hider went.0 went.1))

    called-cleaned : CleanedAt later_front
    called-cleaned k its later is = by (cases_eq j k)
      where
        by : (j ≡ k) ⊎ (j ≢ k) → later.leaving ≡ false → Closes who first later_front later
        by (inl same) =
            own-later (subst (λ i. hides who i ≡ true) (sym same) its) later
            (subst (λ i. After later_front i later) (sym same) is)
        by (inr apart) = others-close k its apart later is

  -- ---- the history

  entry-cleaned : (front : List Entry) (actor : Actor) (did : Act) (back : List Entry)
      → h ≡ front ++ record { actor = actor; act = did } ∷ back
      → IsLegalEntry n (here front) (record { actor = actor; act = did }) → CleanedAt front
      → CleanedAt (front ++ record { actor = actor; act = did } ∷ [])
  unfolding IsLegalEntry
  entry-cleaned front (Controller j) (act.Call c r) back place it cleaned =
      called-cleaned front back j c r place cleaned
  entry-cleaned front (Lwp acting id) (act.Turn turned) back place it cleaned =
      turn-cleaned run passive unstepped front back acting id turned place cleaned
  entry-cleaned front Clock (act.Tick moment) back place it cleaned =
      tick-cleaned run passive unstepped front back moment place cleaned
  entry-cleaned front _ _ back place it cleaned = absurd it

  walk : (middle front back : List Entry) → h ≡ front ++ (middle ++ back) → CleanedAt front
      → CleanedAt (front ++ middle)
  walk [] front back place cleaned = subst CleanedAt (sym (append-nil front)) cleaned
  walk (e ∷ middle) front back place cleaned =
      subst CleanedAt (append_assoc front (e ∷ []) middle)
      (walk middle (front ++ e ∷ []) back (place ∙ sym (append_assoc front (e ∷ []) (middle ++ back)))
      (entry-cleaned front e.actor e.act (middle ++ back) place
      (legal-here n first front e (middle ++ back) (subst (λ (es : List Entry). IsLegal n first es) place run.legal))
      cleaned))

  at-first : CleanedAt []
  at-first k hider t is off =
      let i = run.are.trusses k hider in
      subst (Closes who first []) (same-truss (first_truss i.options) t _ i.starts is)
      (first-closes (Over who first []) (Opens who first []) (Leaves who first []) i.options)

  pub cleaned-at : (front back : List Entry) → h ≡ front ++ back → CleanedAt front
  cleaned-at front back place = walk front [] back place at-first
