use Rattle.std.proofs.Common.{◌≡◌, ◌≢◌, ◌⊎◌, ◌<◌, ◌++◌, ℕ, Bool, true, false, Some, List, [], ◌∷◌, length, refl, sym}
use Rattle.std.proofs.Common.{subst, ap, ◌∙◌, inl, inr}
use Rattle.std.proofs.lemmas.Bool.{false≢true}
use Rattle.std.proofs.lemmas.Option.{none-some, same_Some}
use Rattle.std.specs.List.{slice_get}
use Rattle.pr_function_hides.proofs.Files.CallFacts.{controllers-push, same-truss}
use Rattle.pr_function_hides.proofs.Tidy.CalledCovers.{IsAsPatched}
use Rattle.pr_function_hides.proofs.Clean.CleanCalls.{Bare, Clean, Closes, Halts, Leaves, Opens, Over, Stands, either-stands}
use Rattle.pr_function_hides.proofs.Clean.CleanCovers.{IsClean, bare-not-own, stopped-not-own, turned-clean}
use Rattle.pr_function_hides.proofs.Replies.ClosingStages.{stage-stays}
use Rattle.pr_function_hides.proofs.Replies.ClosingWalk.{StageSo}
use Rattle.pr_function_hides.proofs.Clean.HaltedOpenings.{is_halted}
use Rattle.pr_function_hides.proofs.Replies.OwnFiles.{GoesOn, HasItsFiles}
use Rattle.pr_function_hides.proofs.StepMarks.StepLaw.{trace-marked}
use Rattle.pr_function_hides.proofs.StepMarks.StepWalk.{Calm, steps-at}
use Rattle.pr_function_hides.proofs.Tidy.TidyEntries.{at-is, its-lawful, its-legal, lived, now-is, tick-covers, turn-covers}
use Rattle.pr_function_hides.proofs.Tidy.TidyKept.{Kept, Truss, has-files, stays-on}
use Rattle.pr_function_hides.proofs.Tidy.TidyLaw.{kept-at}
use Rattle.pr_probe_laws.proofs.StepMarks.MarkTurns.{IsOne, unmarked-lwp}
use Rattle.pr_function_hides.specs.RunsOfTrusses.{IsRunOfTrusses}
use Rattle.pr_function_hides.specs.TidyWrites.{IsTrussAfter}
use Rattle.pr_function_laws.proofs.OpenedProcesses.OpenedLemmas.{control-made, control-sole}
use Rattle.pr_hidden.specs.Covers.{Covers}
use Rattle.pr_hidden.specs.Hiders.{Hiders, covers_after, covers_at, hides, is_own}
use Rattle.pr_hidden.specs.Tidiness.{IsPassiveBut}
use Rattle.pr_model.proofs.TurnLemmas.{turn-taken}
use Rattle.pr_model.specs.Lawful.{IsLawful}
use Rattle.pr_model.specs.Legal.{IsLegalEntry, after, state_after}
use Rattle.pr_model.specs.LwpTurns.{LwpTurn, settled, turn_of}
use Rattle.pr_model.specs.State.{TracedProcess, TracedState, live_process}
use Rattle.pr_model.specs.declared.events.Act.{Act}
use Rattle.pr_model.specs.declared.events.Act.TheVariants as act
use Rattle.pr_model.specs.declared.events.Actor.{Actor}
use Rattle.pr_model.specs.declared.events.Actor.TheVariants.{Clock, Controller, Lwp}
use Rattle.pr_model.specs.declared.events.Did.TheVariants.{Faulted}
use Rattle.pr_model.specs.declared.events.Entry.{Entry}
use Rattle.pr_model.specs.declared.events.Turned.{Turned}
use Rattle.pr_num.specs.declared.faults.Flt.TheVariants.{Trace}
use Rattle.pr_probe_laws.specs.StepMarks.{IsUnstepped}
use Rattle.pr_truss.specs.Trusses.{TrussState, traced_at}
use Rattle.pr_truss.specs.declared.stages.AfterClosing.TheVariants.{OpenNext}
use Rattle.pr_truss.specs.declared.stages.OpeningStep.{OpeningStep}
use Rattle.pr_truss.specs.declared.stages.Stage.{Stage}
use Rattle.pr_truss.specs.declared.stages.Stage.TheVariants as stage
use Rattle.pr_truss_laws.proofs.Machine.HaltLemmas.{HaltsOn, goes_on, killed, others-halt}
use Rattle.pr_truss_laws.proofs.Machine.OverLemmas.{stays-over}
use Rattle.pr_truss_laws.proofs.Machine.StillLemmas.{halting-did}
use Rattle.pr_truss_laws.specs.Stills.{IsHalting}
use Rattle.pr_world.specs.ControllerStates.{ControllerState}
use Rattle.pr_world.specs.Protocol.{controllers_after, controllers_at}

-- Only in a process that truss has opened whole lwps stand at faults of its own: until then no step mark is set, and no
-- lwp runs while a breakpoint stands. So none does in one whose control file nobody who hides has open, in one that
-- truss is still opening, or in one whose opening was refused. What turns, ticks, and what others do leave of that.

module _ {n : ℕ} {who : Hiders} {controllers : List ControllerState} {first : TracedState}
    {h : List Entry} (run : IsRunOfTrusses n who controllers first h) (passive : IsPassiveBut who h)
    (unstepped : IsUnstepped first.system) where
  abbrev here : List Entry → TracedState
  here front = state_after first front

  abbrev covers : List Entry → Covers
  covers front = covers_at who first front

  abbrev After : List Entry → ℕ → TrussState → Type 0
  After front k t = IsTrussAfter who controllers first h front k t

  abbrev KeptAfter : List Entry → Type 0
  KeptAfter front = Kept who controllers first h front

  abbrev kept : (front back : List Entry) → h ≡ front ++ back → KeptAfter front
  kept = kept-at run

  abbrev CalmAt : List Entry → ℕ → Type 0
  CalmAt front pid = Calm run passive unstepped front pid

  -- no lwp of it incurs FLTTRACE
  abbrev NeverTraps : List Entry → ℕ → Type 0
  NeverTraps front pid = CalmAt front pid ⊎ Over who first front pid

  abbrev IsStanding : List Entry → ℕ → Type 0
  IsStanding front pid = Bare who first front pid ⊎ Halts who first front pid

  -- of each truss that goes on
  abbrev pub Cleaned : List Entry → Type 0
  Cleaned front =
      (k : ℕ) → hides who k ≡ true → (t : TrussState) → After front k t → t.leaving ≡ false → Closes who first front t

  -- ---- a turn

  module _ (front back : List Entry) (acting id : ℕ) (turned : Turned)
      (place : h ≡ front ++ record { actor = Lwp acting id; act = act.Turn turned } ∷ back) where
    abbrev te : Entry
    te = record { actor = Lwp acting id; act = act.Turn turned }

    abbrev kept-then : KeptAfter front
    kept-then = kept front (te ∷ back) place

    abbrev ts : TracedState
    ts = here front

    its-turn : (x : LwpTurn) × ((turn_of ts.system acting id ≡ Some x) × (x.turned ≡ turned))
    unfolding IsLegalEntry
    its-turn =
        let legal = its-legal run front te back place kept-then in
        (record { system = legal.0; turned = turned }, (legal.1, refl))

    -- it meets no fault of one who hides
    not-own : NeverTraps front acting → IsStanding front acting
        → is_own who (covers front) ts acting id turned.did ≡ false
    unfolding settled
    not-own calm stands = by stands
      where
        untraced : turned.did ≢ Faulted Trace
        untraced did = of calm
          where
            of : NeverTraps front acting → ⊥
            of (inl (inl u)) =
                let it = turn-taken ts.system acting id its-turn.0 its-turn.1.0 in
                false≢true
                (sym (unmarked-lwp (IsOne acting) ts.system acting it.process id it.lwp refl u it.live it.there)
                ∙ trace-marked ts.system acting it.process id it.lwp
                (sym (ap (λ (y : LwpTurn). y.turned.did) it.is)
                ∙ ap (λ (y : Turned). y.did) its-turn.1.1 ∙ did))
            of (inl (inr gone)) =
                let it = turn-taken ts.system acting id its-turn.0 its-turn.1.0 in
                none-some it.process (sym gone.over ∙ it.live)
            of (inr over) =
                let it = turn-taken ts.system acting id its-turn.0 its-turn.1.0 in
                none-some it.process (sym over ∙ it.live)

        by : IsStanding front acting → is_own who (covers front) ts acting id turned.did ≡ false
        by (inl bare) = bare-not-own who (covers front) ts acting id turned.did bare untraced
        by (inr halts) =
            let it = turn-taken ts.system acting id its-turn.0 its-turn.1.0 in
            stopped-not-own who (covers front) ts acting id turned.did
            (ap (λ (y : Turned). y.did)
            (sym its-turn.1.1
            ∙ halting-did ts.system acting it.process it.live (halts it.process it.live) id its-turn.0 its-turn.1.0))

    clean-turned : (pid : ℕ) → NeverTraps front pid → IsStanding front pid → Clean who first front pid
        → Clean who first (front ++ te ∷ []) pid
    unfolding covers_after
    clean-turned pid calm stands clean =
        subst (λ (cs : Covers). IsClean (cs pid)) (sym (at-is run front te back place kept-then))
        (turned-clean who (covers front) ts acting id turned.did pid (λ same.
        not-own (subst (NeverTraps front) (sym same) calm) (subst (IsStanding front) (sym same) stands)) clean)

  -- ---- one entry, of others than a truss

  module _ (front : List Entry) (actor : Actor) (did : Act) (back : List Entry)
      (place : h ≡ front ++ record { actor = actor; act = did } ∷ back) (cleaned : Cleaned front) where
    abbrev e : Entry
    e = record { actor = actor; act = did }

    abbrev next_front : List Entry
    next_front = front ++ e ∷ []

    abbrev s : TracedState
    s = here front

    abbrev kept-here : KeptAfter front
    kept-here = kept front (e ∷ back) place

    later-is : here next_front ≡ after s e
    later-is = now-is run front e back place kept-here

    lawful-here : IsLawful s
    lawful-here = its-lawful run front e back place kept-here

    legal-entry : IsLegalEntry n s e
    legal-entry = its-legal run front e back place kept-here

    module _ (k : ℕ) (hider : hides who k ≡ true) where
      abbrev truss : Truss who controllers first h front k
      truss = let w = kept-here in w.trusses k hider

      abbrev t : TrussState
      t = let w = truss in w.t

      files : HasItsFiles k t s
      files = has-files truss

      made-at : (q : ℕ) → q < length t.traced → (traced_at t q).pid < s.system.made
      made-at q within =
          let f = files in
          control-made k (traced_at t q).pid (traced_at t q).control s lawful-here (f.control q within)

      pub over-later : (q : ℕ) → q < length t.traced → Over who first front (traced_at t q).pid
          → Over who first next_front (traced_at t q).pid
      over-later q within over =
          ap (λ (x : TracedState). live_process x.system (traced_at t q).pid) later-is
          ∙ stays-over n s e (traced_at t q).pid lawful-here legal-entry (made-at q within) over

      -- a process that it opens or leaves halts so still
      halts-later : (q : ℕ) → q < length t.traced → actor ≢ Controller k → Halts who first front (traced_at t q).pid
          → Halts who first next_front (traced_at t q).pid
      halts-later q within other halts x later =
          let f = files in
          let lives = lived run front e back place kept-here k hider q within (x, later) in
          by
          (others-halt n s k pid lawful-here
          (control-sole k pid (traced_at t q).control s lawful-here (f.control q within)) lives.0 lives.1
          (halts lives.0 lives.1) e legal-entry other)
        where
          pid : ℕ
          pid = (traced_at t q).pid

          there : live_process (after s e).system pid ≡ Some x
          there = ap (λ (z : TracedState). live_process z.system pid) (sym later-is) ∙ later

          by : {p : TracedProcess} → HaltsOn pid p (after s e).system → IsHalting x
          by (goes_on y stands halting memory) = subst IsHalting (same_Some y x (sym stands ∙ there)) halting
          by (killed z none stands status) = absurd (none-some x (sym none ∙ there))

      -- who opens or leaves a process has run nothing in it

      module _ (off : t.leaving ≡ false) where
        pub before : Closes who first front t
        before = let w = truss in cleaned k hider w.t w.is off

        abbrev CalmStage : Stage → Type 0
        CalmStage at =
            StageSo (Over who first front) (λ (x : OpeningStep) (pid : ℕ). CalmAt front pid) (CalmAt front) t at

        calm-stage : CalmStage t.stage
        calm-stage =
            let w = truss in
            let st = steps-at run passive unstepped front (e ∷ back) place in
            let it = st.trusses k hider w.t w.is off in
            let so = it.closing in so.stage

        calm-opening : (q : ℕ) (step : OpeningStep) → t.stage ≡ stage.Opening q step
            → NeverTraps front (traced_at t q).pid
        calm-opening q step at = inl (subst CalmStage at calm-stage)

        calm-leaving : (q : ℕ) → t.stage ≡ stage.Closing q OpenNext → NeverTraps front (traced_at t q).pid
        calm-leaving q at = by (subst CalmStage at calm-stage)
          where
            by : CalmStage (stage.Closing q OpenNext) → NeverTraps front (traced_at t q).pid
            by (inl over) = inr over
            by (inr it) = inl it.0

        stays-closes : actor ≢ Controller k
            → ((q : ℕ) → q < length t.traced → NeverTraps front (traced_at t q).pid
            → IsStanding front (traced_at t q).pid → Clean who first front (traced_at t q).pid
            → Clean who first next_front (traced_at t q).pid)
            → ((q : ℕ) → q < length t.traced
            → IsAsPatched (covers front (traced_at t q).pid) (covers next_front (traced_at t q).pid))
            → Closes who first next_front t
        stays-closes other clean stays =
            let w = truss in
            let g : GoesOn t = stays-on w off in
            let was = before in
            record {
              stage = stage-stays (Over who first front) (Over who first next_front) (Opens who first front)
                  (Opens who first next_front) (Leaves who first front) (Leaves who first next_front) t over-later
                  t.stage g.stage opens leaves was.stage;
              looks = was.looks;
            }
          where
            bare-later : (q : ℕ) → q < length t.traced → Bare who first front (traced_at t q).pid
                → Bare who first next_front (traced_at t q).pid
            bare-later q within bare = let a = stays q within in a.patches ∙ bare

            opens : (q : ℕ) (step : OpeningStep) → q < length t.traced → t.stage ≡ stage.Opening q step
                → Opens who first front step (traced_at t q).pid
                → Opens who first next_front step (traced_at t q).pid
            opens q step within at w = (
              clean q within (calm-opening q step at)
                  (either-stands who first front (is_halted step) (traced_at t q).pid w.1) w.0,
              by (is_halted step) w.1,
            )
              where
                by : (b : Bool) → Stands who first front b (traced_at t q).pid
                    → Stands who first next_front b (traced_at t q).pid
                by true halts = halts-later q within other halts
                by false bare = bare-later q within bare

            leaves : (q : ℕ) → q < length t.traced → t.stage ≡ stage.Closing q OpenNext
                → Leaves who first front (traced_at t q).pid → Leaves who first next_front (traced_at t q).pid
            leaves q within at w = (clean q within (calm-leaving q at) w.1 w.0, by w.1)
              where
                by : IsStanding front (traced_at t q).pid → IsStanding next_front (traced_at t q).pid
                by (inl bare) = inl (bare-later q within bare)
                by (inr halts) = inr (halts-later q within other halts)

      pub foreign-closes : actor ≢ Controller k
          → ((q : ℕ) → q < length t.traced → NeverTraps front (traced_at t q).pid → IsStanding front (traced_at t q).pid
          → Clean who first front (traced_at t q).pid → Clean who first next_front (traced_at t q).pid)
          → ((q : ℕ) → q < length t.traced
          → IsAsPatched (covers front (traced_at t q).pid) (covers next_front (traced_at t q).pid))
          → slice_get (controllers_at controllers next_front) k ≡ slice_get (controllers_at controllers front) k
          → (later : TrussState) → After next_front k later → later.leaving ≡ false → Closes who first next_front later
      foreign-closes other clean stays same later is =
          let w = truss in
          subst (λ (u : TrussState). u.leaving ≡ false → Closes who first next_front u)
          (same-truss t later _ w.is (sym same ∙ is)) (λ off. stays-closes off other clean stays)

  -- ---- turns and ticks

  pub turn-cleaned : (front back : List Entry) (acting id : ℕ) (turned : Turned)
      (place : h ≡ front ++ record { actor = Lwp acting id; act = act.Turn turned } ∷ back) → Cleaned front
      → Cleaned (front ++ record { actor = Lwp acting id; act = act.Turn turned } ∷ [])
  unfolding controllers_after
  turn-cleaned front back acting id turned place cleaned k hider later is off =
      let e : Entry = record { actor = Lwp acting id; act = act.Turn turned } in
      foreign-closes front (Lwp acting id) (act.Turn turned) back place cleaned k hider (λ same. cc)
      (λ q within calm stands clean. clean-turned front back acting id turned place _ calm stands clean)
      (λ q within. turn-covers run front back acting id turned place (kept front (e ∷ back) place) _)
      (ap (λ (cs : List ControllerState). slice_get cs k) (controllers-push controllers front e)) later is off

  pub tick-cleaned : (front back : List Entry) (moment : ℕ)
      (place : h ≡ front ++ record { actor = Clock; act = act.Tick moment } ∷ back) → Cleaned front
      → Cleaned (front ++ record { actor = Clock; act = act.Tick moment } ∷ [])
  unfolding controllers_after
  tick-cleaned front back moment place cleaned k hider later is off =
      foreign-closes front Clock (act.Tick moment) back place cleaned k hider (λ same. cc)
      (λ q within calm stands clean. clean-later _ clean) (λ q within. stays _)
      (ap (λ (cs : List ControllerState). slice_get cs k) (controllers-push controllers front e)) later is off
    where
      e : Entry
      e = record { actor = Clock; act = act.Tick moment }

      covers-same : covers (front ++ e ∷ []) ≡ covers front
      covers-same = tick-covers run front back moment place (kept front (e ∷ back) place)

      stays : (pid : ℕ) → IsAsPatched (covers front pid) (covers (front ++ e ∷ []) pid)
      stays pid = record {
        patches = ap (λ (cs : Covers). (cs pid).patches) covers-same;
        no_agent = λ free. ap (λ (cs : Covers). (cs pid).agent) covers-same ∙ free;
      }

      clean-later : (pid : ℕ) → Clean who first front pid → Clean who first (front ++ e ∷ []) pid
      clean-later pid clean = subst (λ (cs : Covers). IsClean (cs pid)) (sym covers-same) clean
