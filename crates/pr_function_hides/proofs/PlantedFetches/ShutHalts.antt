use Rattle.std.proofs.Common.{◌≡◌, ◌≢◌, ◌⊎◌, ◌<◌, ◌==◌, ◌++◌, ◌||◌, ℕ, Bool, true, false, cond, not, is_some, Option, Some, None, List, [], ◌∷◌, length, append-nil, append_assoc, refl, sym, subst, ap, ◌∙◌, inl, inr}
use Rattle.std.proofs.lemmas.Bool.{cases_eq, eqb-true, false≢true}
use Rattle.std.proofs.lemmas.Option.{none-some, same_Some}
use Rattle.std.specs.List.{All}
use Rattle.pr_function_hides.proofs.PlantedFetches.CalmEntries as Calm
use Rattle.pr_function_hides.proofs.Replies.ClosingStages.{stage-stays}
use Rattle.pr_function_hides.proofs.Replies.ClosingWalk.{CalledSo, ClosesSo, Lifts, LooksSo, StageSo, fed-closes, first-closes, is_opening}
use Rattle.pr_function_hides.proofs.Copying.CopyActs.{refused-same}
use Rattle.pr_function_hides.proofs.Copying.CopyForeign.{opening-halts}
use Rattle.pr_function_hides.proofs.Copying.CopyPlaces.{is_early}
use Rattle.pr_function_hides.proofs.Files.GoneTold.{called-within}
use Rattle.pr_function_hides.proofs.Clean.HaltedOpenings.{HaltsIn, is_halted, leaving-halts, step-halts}
use Rattle.pr_function_hides.proofs.Replies.OwnFiles.{IsBeside, IsWithin}
use Rattle.pr_function_hides.proofs.Replies.PlantedReplies.{So}
use Rattle.pr_function_hides.proofs.Replies.UnplantedReplies.{HasNone, none-later}
use Rattle.pr_function_hides.specs.Copying.{IsEmpty}
use Rattle.pr_function_laws.proofs.Stepping.BreakpointLemmas.{IsOwnEntry}
use Rattle.pr_function_laws.proofs.Pending.FrontLemmas.{all-entry, calm-answer}
use Rattle.pr_function_laws.proofs.Marks.KeptPlaces.{AtAside}
use Rattle.pr_function_laws.proofs.LeavingProcesses.LeftProcesses.{Lasts, foreign-lasts}
use Rattle.pr_function_laws.proofs.OpenedProcesses.OpenedCalls.{IsSo, read-mild, write-mild}
use Rattle.pr_function_laws.proofs.OpenedProcesses.StoodCalls.{BeginLeavingLwps}
use Rattle.pr_function_laws.specs.ReachedRuns.{IsReachedFunctionRun}
use Rattle.pr_function_laws.specs.Opened.{WasNotInterrupted, functions_at, is_opened}
use Rattle.pr_function_laws.specs.Runs.{functions_after}
use Rattle.pr_line.specs.declared.options.Options.{Options}
use Rattle.pr_model.specs.Legal.{state_after}
use Rattle.pr_model.specs.State.{TracedProcess, TracedState, live_process}
use Rattle.pr_model.specs.declared.calls.Call.TheVariants as call
use Rattle.pr_model.specs.declared.events.Entry.{Entry}
use Rattle.pr_num.specs.Messages.{spelling}
use Rattle.pr_num.specs.declared.messages.Message.TheVariants as message
use Rattle.pr_report_laws.proofs.Files.WatchHistories.{exchanges-both, no-exchanges}
use Rattle.pr_report_laws.proofs.Invariant.StandLemmas.{Each}
use Rattle.pr_report_laws.proofs.Watching.HistoryParts.{all-front}
use Rattle.pr_truss.specs.Asides.{marks_at}
use Rattle.pr_truss.specs.FunctionCalls.{call_beside, function_call_of, next_function_call_of, patch_call}
use Rattle.pr_truss.specs.FunctionFeeding.{fed_functions}
use Rattle.pr_truss.specs.Marks.{address_of, breakpoint, code_of, first_function, has_functions}
use Rattle.pr_truss.specs.NextCalls.{next_call_of}
use Rattle.pr_truss.specs.Openings.{step_after}
use Rattle.pr_truss.specs.Replies.{answer_of}
use Rattle.pr_truss.specs.Trusses.{TrussState, first_truss, traced_at}
use Rattle.pr_truss.specs.declared.asides.Aside.{Aside}
use Rattle.pr_truss.specs.declared.asides.Aside.TheVariants.{Nothing, Reading, Planting, Patching}
use Rattle.pr_truss.specs.declared.replies.Answer.TheVariants.{Accepted}
use Rattle.pr_truss.specs.declared.stages.AfterClosing.{AfterClosing}
use Rattle.pr_truss.specs.declared.stages.AfterClosing.TheVariants.{GoOn, OpenNext}
use Rattle.pr_truss.specs.declared.stages.OpeningStep.{OpeningStep}
use Rattle.pr_truss.specs.declared.stages.OpeningStep.TheVariants as opening
use Rattle.pr_truss.specs.declared.stages.Stage.{Stage}
use Rattle.pr_truss.specs.declared.stages.Stage.TheVariants as stage
use Rattle.pr_truss_laws.specs.Exchanges.{Exchange, exchange_of, exchanges}
use Rattle.pr_truss_laws.specs.Stills.{IsHalting}

-- A process that truss opens has nothing planted until only its start is left; and from then on, also where the opening
-- was refused and truss closes its files, each lwp of it stands still, or will stop before it does anything; or nothing
-- is planted in it.

none-busy : (plant lift : Option ℕ) → plant ≡ None → lift ≡ None → (is_some plant || is_some lift) ≡ false
none-busy None None one two = refl
none-busy (Some i) lift one two = absurd (none-some i (sym one))
none-busy None (Some i) one two = absurd (none-some i (sym two))

-- whether only the start is left
abbrev pub is_start : OpeningStep → Bool
is_start opening.Start = true
is_start step = false

start-late : (step : OpeningStep) → is_start step ≡ true → is_early step ≡ false
start-late opening.Start is = refl
start-late _ is = absurd (false≢true is)

late-halted : (step : OpeningStep) → is_early step ≡ false → is_halted step ≡ true
late-halted opening.ReadLwps late = refl
late-halted opening.TraceSignals late = refl
late-halted opening.TraceFaults late = refl
late-halted opening.TraceEntries late = refl
late-halted opening.TraceExits late = refl
late-halted opening.Follow late = refl
late-halted opening.Start late = refl
late-halted _ late = absurd (false≢true (sym late))

module _ (n k : ℕ) (o : Options) (s : TracedState) (h : List Entry) (run : IsReachedFunctionRun n k o s h) where
  abbrev pub truss : List Entry → TrussState
  truss front = functions_at k o front

  abbrev pub here : List Entry → TracedState
  here front = state_after s front

  abbrev pub Over : List Entry → ℕ → Type 0
  Over front pid = live_process (here front).system pid ≡ None

  abbrev pub Halts : List Entry → ℕ → Type 0
  Halts front pid = HaltsIn (here front) pid

  -- nothing is planted in the process of this id
  abbrev pub Unplanted : List Entry → ℕ → Type 0
  Unplanted front pid = Each (So (HasNone pid)) (truss front).traced

  abbrev pub Opens : List Entry → OpeningStep → ℕ → Type 0
  Opens front step pid = (is_start step ≡ true → Halts front pid) × (is_start step ≡ false → Unplanted front pid)

  abbrev pub Leaves : List Entry → ℕ → Type 0
  Leaves front pid = Halts front pid ⊎ Unplanted front pid

  abbrev pub Shuts : List Entry → Type 0
  Shuts front = ClosesSo (Over front) (Opens front) (Leaves front) (truss front)

  opens-leaves : (front : List Entry) (step : OpeningStep) (pid : ℕ) → Opens front step pid → Leaves front pid
  opens-leaves front step pid w = by (is_start step) refl
    where
      by : (b : Bool) → is_start step ≡ b → Leaves front pid
      by true is = inl (w.0 is)
      by false is = inr (w.1 is)

  -- ---- one entry

  module _ (front : List Entry) (e : Entry) (later : List Entry) (is : h ≡ front ++ e ∷ later)
      (calm : All WasNotInterrupted (exchanges k front)) (was : Shuts front) where
    abbrev t : TrussState
    t = truss front

    abbrev now : TracedState
    now = here front

    abbrev next_front : List Entry
    next_front = front ++ e ∷ []

    abbrev pid_at : ℕ → ℕ
    pid_at q = (traced_at t q).pid

    within-now : IsWithin (length t.traced) t.stage
    within-now = Calm.at-stage n k o s h run front e later is calm

    over-now : (q : ℕ) → q < length t.traced → Over front (pid_at q) → Over next_front (pid_at q)
    over-now q within none = Calm.over-next n k o s h run front e later is calm q within none

    start-halts : (q : ℕ) (step : OpeningStep) → t.stage ≡ stage.Opening q step → is_start step ≡ true
        → Halts front (pid_at q)
    start-halts q step at start p live =
        opening-halts n k o t now (Calm.goes n k o s h run front e later is calm) q step at p live
        (start-late step start)

    -- ---- of others

    module _ (none : exchange_of k e ≡ None) where
      same : truss next_front ≡ t
      same = Calm.same-truss n k o s h run front e later is calm none

      halts-on : (q : ℕ) → q < length t.traced → Halts front (pid_at q) → Halts next_front (pid_at q)
      halts-on q within halts y live =
          let legal = Calm.legal n k o s h run front e later is calm in
          let w =
          foreign-lasts n k o t now (Calm.lawful n k o s h run front e later is calm) e.actor e.act legal
          (Calm.foreign n k o s h run front e later is calm none) (pid_at q) (traced_at t q).control
          (Calm.control n k o s h run front e later is calm q within) y
          (sym (Calm.next-live n k o s h run front e later is calm (pid_at q)) ∙ live) in
          let lasts : Lasts w.0 y = w.1.1 in lasts.halting (halts w.0 w.1.0)

      unplanted-on : (pid : ℕ) → Unplanted front pid → Unplanted next_front pid
      unplanted-on pid all = subst (λ (u : TrussState). Each (So (HasNone pid)) u.traced) (sym same) all

      foreign-shuts : Shuts next_front
      foreign-shuts =
          subst (ClosesSo (Over next_front) (Opens next_front) (Leaves next_front)) (sym same) (record {
            stage = stage-stays (Over front) (Over next_front) (Opens front) (Opens next_front) (Leaves front)
                (Leaves next_front) t over-now t.stage within-now
                (λ q step within at w. (
                  λ start. halts-on q within (w.0 start),
                  λ other. unplanted-on (pid_at q) (w.1 other),
                ))
                (λ q within at. leaves-on q within) was.stage;
            looks = was.looks;
          })
        where
          leaves-on : (q : ℕ) → q < length t.traced → Leaves front (pid_at q) → Leaves next_front (pid_at q)
          leaves-on q within (inl halts) = inl (halts-on q within halts)
          leaves-on q within (inr none_planted) = inr (unplanted-on (pid_at q) none_planted)

    -- ---- of truss

    module _ (x : Exchange) (mine : exchange_of k e ≡ Some x) (unbroken : WasNotInterrupted x) where
      abbrev own : IsOwnEntry k now e x
      own = Calm.own n k o s h run front e later is calm x mine

      has-it : has_functions t.options ≡ true
      has-it = Calm.has n k o s h run front e later is calm

      next : next_function_call_of t ≡ Some x.call
      next = Calm.next n k o s h run front e later is calm x mine

      beside-is : (aside : Aside) → t.aside ≡ aside → call_beside t t.stage aside ≡ Some x.call
      unfolding next_function_call_of
      beside-is aside at =
          sym (ap (call_beside t t.stage) at)
          ∙ sym (ap (λ b. cond b (call_beside t t.stage t.aside) (next_call_of t)) has-it) ∙ next

      idle-is : t.aside ≡ Nothing → (st : Stage) → t.stage ≡ st → function_call_of t st ≡ Some x.call
      unfolding call_beside
      idle-is idle st at = ap (function_call_of t) (sym at) ∙ beside-is Nothing idle

      fed-is : truss next_front ≡ fed_functions t x.reply
      fed-is = Calm.fed-truss n k o s h run front e later is calm x mine

      left-is : (let it = own in it.answer.state ≡ here next_front)
      left-is = Calm.left-state n k o s h run front e later is calm x mine

      to-later : (pid : ℕ) → (let it = own in HaltsIn it.answer.state pid) → Halts next_front pid
      to-later pid halts = subst (λ (u : TracedState). HaltsIn u pid) left-is halts

      -- what it sends of a function
      abbrev read_bytes : ℕ → List ℕ
      read_bytes i = spelling (message.Read (address_of t.options i) 16) []

      abbrev plant_bytes : ℕ → List ℕ
      plant_bytes i = spelling (message.Write (address_of t.options i) 16) breakpoint

      abbrev lift_bytes : ℕ → List ℕ
      lift_bytes i = spelling (message.Write (address_of t.options i) 16) (code_of t.options i)

      -- a message that leaves the lwps
      sent : (q : ℕ) → q < length t.traced → (bytes_sent : List ℕ)
          → x.call ≡ call.Ctl (traced_at t q).control bytes_sent
          → BeginLeavingLwps bytes_sent → Halts front (pid_at q) → Halts next_front (pid_at q)
      sent q within bytes_sent is_call begins halts =
          let it = own in
          to-later (pid_at q)
          (leaving-halts n k o now (Calm.lawful n k o s h run front e later is calm) x.call it.answer
          it.is
          (Calm.over n k o s h run front e later is calm x mine) (traced_at t q) bytes_sent is_call
          (Calm.control n k o s h run front e later is calm q within) begins halts)

      -- the call was refused
      refused : answer_of x.reply ≢ Accepted → here next_front ≡ now
      refused other =
          let it = own in
          sym left-is
          ∙ refused-same n k now (Calm.lawful n k o s h run front e later is calm) x.call it.answer it.is
          (Calm.over n k o s h run front e later is calm x mine)
          (λ accepted. other (sym (ap answer_of it.replied) ∙ accepted))
          (λ broken. calm-answer x unbroken (sym (ap answer_of it.replied) ∙ broken))

      -- ---- what is planted

      unplanted-next : (pid : ℕ) → ((q i : ℕ) → t.aside ≡ Planting q i → pid_at q ≢ pid)
          → ((q : ℕ) (plants lifts : List Bool) (clear : Bool) → t.aside ≡ Patching q plants lifts clear
          → pid_at q ≡ pid → first_function plants ≡ None) → Unplanted front pid → Unplanted next_front pid
      unplanted-next pid plants_not patches_not all =
          subst (λ (u : TrussState). Each (So (HasNone pid)) u.traced) (sym fed-is)
          (none-later pid t x.reply (Calm.off n k o s h run front e later is calm)
          (Calm.follow n k o s h run front e later is calm) within-now
          (Calm.at-aside n k o s h run front e later is calm) (calm-answer x unbroken) has-it plants_not
          patches_not all)

      idle-unplanted : t.aside ≡ Nothing → (pid : ℕ) → Unplanted front pid → Unplanted next_front pid
      idle-unplanted idle pid =
          unplanted-next pid (λ q i at same. absurd (planting-not (sym idle ∙ at)))
          (λ q plants lifts clear at same. absurd (patching-not (sym idle ∙ at)))
        where
          planting-not : {q i : ℕ} → Nothing ≡ Planting q i → ⊥
          planting-not same = cc

          patching-not : {q : ℕ} {plants lifts : List Bool} {clear : Bool} → Nothing ≡ Patching q plants lifts clear → ⊥
          patching-not same = cc

      -- ---- a process that is opened

      opens-on : (q : ℕ) (step : OpeningStep) → q < length t.traced → t.stage ≡ stage.Opening q step
          → (t.aside ≢ Nothing) ⊎ (answer_of x.reply ≢ Accepted) → Opens front step (pid_at q)
          → Opens next_front step (pid_at q)
      unfolding call_beside
      opens-on q step within at why w =
          (λ start. halts start why, λ other. idle-unplanted (idle other) (pid_at q) (w.1 other))
        where
          same-step : {a b : ℕ} {c d : OpeningStep} → stage.Opening a c ≡ stage.Opening b d → (a ≡ b) × (c ≡ d)
          same-step both = (cc, cc)

          looking : (b : ℕ) → t.stage ≡ stage.Opening b opening.Start → is_start step ≡ true
          looking b start = ap is_start (same-step (sym at ∙ start)).1

          -- nothing comes before the call of any other step
          idle : is_start step ≡ false → t.aside ≡ Nothing
          idle other = by t.aside refl was.looks
            where
              by : (aside : Aside) → t.aside ≡ aside → LooksSo t.stage t.aside → t.aside ≡ Nothing
              by Nothing beside looks = beside
              by (Reading b i) beside looks =
                  absurd (false≢true (sym other ∙ looking b (subst (LooksSo t.stage) beside looks)))
              by (Planting b i) beside looks =
                  absurd (false≢true (sym other ∙ looking b (subst (LooksSo t.stage) beside looks)))
              by (Patching b plants lifts clear) beside looks =
                  absurd (false≢true (sym (subst (LooksSo t.stage) beside looks) ∙ ap is_opening at))
              by _ beside looks =
                  absurd (false≢true (sym (subst (LooksSo t.stage) beside looks) ∙ ap is_opening at))

          same-place : (b : ℕ) → t.stage ≡ stage.Opening b opening.Start → b ≡ q
          same-place b start = sym (same-step (sym at ∙ start)).0

          halts : is_start step ≡ true → (t.aside ≢ Nothing) ⊎ (answer_of x.reply ≢ Accepted)
              → Halts next_front (pid_at q)
          halts start (inr other) =
              subst (λ (u : TracedState). HaltsIn u (pid_at q)) (sym (refused other)) (w.0 start)
          halts start (inl busy) = by t.aside refl was.looks
            where
              by : (aside : Aside) → t.aside ≡ aside → LooksSo t.stage t.aside → Halts next_front (pid_at q)
              by Nothing beside looks = absurd (busy beside)
              by (Reading b i) beside looks =
                  let one = same-place b (subst (LooksSo t.stage) beside looks) in
                  sent q within (read_bytes i)
                  (sym (ap (λ m. call.Ctl (traced_at t m).control (read_bytes i)) (sym one)
                  ∙ same_Some _ x.call (beside-is (Reading b i) beside)))
                  (read-mild (address_of t.options i) 16).1 (w.0 start)
              by (Planting b i) beside looks =
                  let one = same-place b (subst (LooksSo t.stage) beside looks) in
                  sent q within (plant_bytes i)
                  (sym (ap (λ m. call.Ctl (traced_at t m).control (plant_bytes i)) (sym one)
                  ∙ same_Some _ x.call (beside-is (Planting b i) beside)))
                  (write-mild (address_of t.options i) 16 breakpoint).1 (w.0 start)
              by (Patching b plants lifts clear) beside looks =
                  absurd (false≢true (sym (subst (LooksSo t.stage) beside looks) ∙ ap is_opening at))
              by _ beside looks =
                  absurd (false≢true (sym (subst (LooksSo t.stage) beside looks) ∙ ap is_opening at))

      -- a step was granted
      steps-on : (q : ℕ) (step following : OpeningStep) → q < length t.traced → t.stage ≡ stage.Opening q step
          → t.aside ≡ Nothing → step_after t.options x.reply step ≡ Some following
          → Opens next_front following (pid_at q)
      unfolding step_after
      steps-on q step following within at idle behind = (
        λ start. granted start,
        λ other. idle-unplanted idle (pid_at q) (by-step other),
      )
        where
          so : Opens front step (pid_at q)
          so = subst (StageSo (Over front) (Opens front) (Leaves front) t) at was.stage

          -- the start is the last step
          not-start : is_start step ≡ false
          not-start = by step behind
            where
              by : (step : OpeningStep) → step_after t.options x.reply step ≡ Some following → is_start step ≡ false
              by opening.Start after_it = absurd (none-some following after_it)
              by opening.OpenStatus after_it = refl
              by opening.OpenLstatus after_it = refl
              by opening.OpenMemory after_it = refl
              by opening.ClearModes after_it = refl
              by opening.SetRelease after_it = refl
              by opening.Stop after_it = refl
              by (opening.AwaitStop until) after_it = refl
              by opening.ReadLwps after_it = refl
              by opening.TraceSignals after_it = refl
              by opening.TraceFaults after_it = refl
              by opening.TraceEntries after_it = refl
              by opening.TraceExits after_it = refl
              by opening.Follow after_it = refl

          by-step : is_start following ≡ false → Unplanted front (pid_at q)
          by-step other = so.1 not-start

          -- before the start the process halts already
          before-start : is_start following ≡ true → is_early step ≡ false
          before-start start = by step behind
            where
              not-so : {next : OpeningStep} → Some next ≡ Some following → is_start next ≡ false → ⊥
              not-so {next} same other =
                  false≢true (sym other ∙ ap is_start (same_Some next following same) ∙ start)

              by : (step : OpeningStep) → step_after t.options x.reply step ≡ Some following → is_early step ≡ false
              by opening.OpenStatus after_it = absurd (not-so after_it refl)
              by opening.OpenLstatus after_it = absurd (not-so after_it refl)
              by opening.OpenMemory after_it = absurd (not-so after_it refl)
              by opening.ClearModes after_it = absurd (not-so after_it refl)
              by opening.SetRelease after_it = absurd (not-so after_it refl)
              by opening.Stop after_it = absurd (not-so after_it refl)
              by (opening.AwaitStop until) after_it = absurd (not-so after_it refl)
              by opening.ReadLwps after_it = refl
              by opening.TraceSignals after_it = refl
              by opening.TraceFaults after_it = refl
              by opening.TraceEntries after_it = refl
              by opening.TraceExits after_it = refl
              by opening.Follow after_it = refl
              by opening.Start after_it = refl

          granted : is_start following ≡ true → Halts next_front (pid_at q)
          granted start =
              let it = own in
              let late = before-start start in
              to-later (pid_at q)
              (step-halts n k o now (Calm.lawful n k o s h run front e later is calm) x.call it.answer
              it.is
              (Calm.over n k o s h run front e later is calm x mine) t q step
              (Calm.control n k o s h run front e later is calm q within)
              (Calm.made-at n k o s h run front e later is calm q within)
              (idle-is idle (stage.Opening q step) at) (late-halted step late)
              (λ first. absurd (false≢true (sym not-start ∙ ap is_start first)))
              (λ p live.
              opening-halts n k o t now (Calm.goes n k o s h run front e later is calm) q step at p live
              late))

      -- ---- a process whose opening was refused

      module _ (q : ℕ) (within : q < length t.traced) (at : t.stage ≡ stage.Closing q OpenNext) where
        abbrev LiftsSo : Aside → Type 0
        LiftsSo aside = Lifts (Over front) (Opens front) (Leaves front) q aside (marks_at t q).planted

        so : StageSo (Over front) (Opens front) (Leaves front) t (stage.Closing q OpenNext)
        so = subst (StageSo (Over front) (Opens front) (Leaves front) t) at was.stage

        -- nothing is planted in it
        bare : IsEmpty (marks_at t q).planted → Unplanted front (pid_at q)
        bare none j inside same = elim (cases_eq j q) [
          | inl one ↦ subst (λ m. IsEmpty (marks_at t m).planted) (sym one) none
          | inr other ↦
              absurd (Calm.apart n k o s h run front e later is calm j q inside within other same)
        ]

        not-opening : {b : ℕ} {c : OpeningStep} → t.stage ≡ stage.Opening b c → ⊥
        not-opening other = let both = sym at ∙ other in cc

        -- its breakpoints are lifted
        module _ (b : ℕ) (plants lifts : List Bool) (clear : Bool) (beside : t.aside ≡ Patching b plants lifts clear)
            (lifted : LiftsSo (Patching b plants lifts clear)) where
          patch-same : {m : ℕ} {xs ys : List Bool} {c : Bool}
              → Patching b plants lifts clear ≡ Patching m xs ys c → plants ≡ xs
          patch-same same = cc

          planting-not : {m i : ℕ} → Patching b plants lifts clear ≡ Planting m i → ⊥
          planting-not same = cc

          unplanted-lift : Unplanted front (pid_at q) → Unplanted next_front (pid_at q)
          unplanted-lift =
              unplanted-next (pid_at q) (λ m i planting same. planting-not (sym beside ∙ planting))
              (λ m other_plants other_lifts other_clear patching same.
              sym (ap first_function (patch-same (sym beside ∙ patching))) ∙ lifted.1.0)

          sent-so : Some (patch_call t.options (traced_at t q).control None (first_function lifts)) ≡ Some x.call
          unfolding call_beside
          sent-so =
              ap (λ (p : Option ℕ). Some (patch_call t.options (traced_at t q).control p (first_function lifts)))
              (sym lifted.1.0)
              ∙ ap (λ m. Some (patch_call t.options (traced_at t m).control (first_function plants)
              (first_function lifts))) (sym lifted.0)
              ∙ beside-is (Patching b plants lifts clear) beside

          busy : (is_some (first_function plants) || is_some (first_function lifts)) ≡ true
          busy =
              let kept = Calm.kept n k o s h run front e later is calm in
              let at_aside = subst (AtAside (IsSo (Unit {0}) k t.options now) t.traced) beside kept.beside in
              at_aside.1.0

          lift-halts : Halts front (pid_at q) → Halts next_front (pid_at q)
          lift-halts halts = of (first_function lifts) refl
            where
              of : (lift : Option ℕ) → first_function lifts ≡ lift → Halts next_front (pid_at q)
              of (Some i) first =
                  sent q within (lift_bytes i)
                  (sym (same_Some _ x.call
                  (ap (λ (p : Option ℕ). Some (patch_call t.options (traced_at t q).control None p)) (sym first)
                  ∙ sent-so)))
                  (write-mild (address_of t.options i) 16 (code_of t.options i)).1 halts
              of None first = absurd (false≢true (sym (none-busy (first_function plants) (first_function lifts)
                  lifted.1.0 first) ∙ busy))

          lift-leaves : Leaves front (pid_at q) → Leaves next_front (pid_at q)
          lift-leaves (inl halts) = inl (lift-halts halts)
          lift-leaves (inr none) = inr (unplanted-lift none)

        leaves-by : (aside : Aside) → t.aside ≡ aside → IsBeside (length t.traced) aside → LooksSo t.stage aside
            → LiftsSo aside → Leaves front (pid_at q) → Leaves next_front (pid_at q)
        leaves-by Nothing beside inside looks lifts w = inr (idle-unplanted beside (pid_at q) (bare lifts))
        leaves-by (Reading b i) beside inside looks lifts w = absurd (not-opening looks)
        leaves-by (Planting b i) beside inside looks lifts w = absurd (not-opening looks)
        leaves-by (Patching b plants lifts clear) beside inside looks lifted w =
            lift-leaves b plants lifts clear beside lifted w
        leaves-by _ beside inside looks lifts w = absurd inside

        leaves-on : Leaves front (pid_at q) → Leaves next_front (pid_at q)
        leaves-on w = by so
          where
            by : Over front (pid_at q) ⊎ (Leaves front (pid_at q) × LiftsSo t.aside) → Leaves next_front (pid_at q)
            by (inl over) = inl (λ p live. absurd (none-some p (sym (over-now q within over) ∙ live)))
            by (inr it) =
                leaves-by t.aside refl (Calm.at-aside n k o s h run front e later is calm) was.looks it.1
                w

      called : CalledSo (Over next_front) (Opens next_front) (Leaves next_front) t x.reply
      called = record {
        stays = λ why.
            stage-stays (Over front) (Over next_front) (Opens front) (Opens next_front) (Leaves front)
            (Leaves next_front) t over-now t.stage within-now
            (λ q step within at w. opens-on q step within at why w) leaves-on was.stage;
        closes = λ q following v at left.
            stage-stays (Over front) (Over next_front) (Opens front) (Opens next_front) (Leaves front)
            (Leaves next_front) t over-now (stage.Closing q following)
            (subst (IsWithin (length t.traced)) at within-now)
            (λ b step within other. absurd (closing-not other))
            (λ b within same. leaves-on b within (at ∙ same))
            (subst (StageSo (Over front) (Opens front) (Leaves front) t) at was.stage);
        gone = λ q here_so told.
            over-now q
            (called-within t within-now (Calm.at-aside n k o s h run front e later is calm) q here_so)
            (Calm.gone n k o s h run front e later is calm x mine told q here_so);
        begins = λ pid at idle accepted. (
          λ start. absurd (false≢true start),
          λ other.
              idle-unplanted idle pid (λ j inside same.
              absurd (Calm.fresh n k o s h run front e later is calm x mine pid at idle accepted j inside
              same)),
        );
        steps = λ q step following at idle accepted behind.
            steps-on q step following (subst (IsWithin (length t.traced)) at within-now) at idle behind;
      }
        where
          closing-not : {a b : ℕ} {next : AfterClosing} {step : OpeningStep}
              → stage.Closing a next ≡ stage.Opening b step → ⊥
          closing-not same = cc

      own-shuts : Shuts next_front
      own-shuts =
          subst (ClosesSo (Over next_front) (Opens next_front) (Leaves next_front)) (sym fed-is)
          (fed-closes (Over next_front) (Opens next_front) (Leaves next_front) (opens-leaves next_front) t x.reply
          (Calm.off n k o s h run front e later is calm)
          (Calm.follow n k o s h run front e later is calm) within-now
          (Calm.at-aside n k o s h run front e later is calm) (calm-answer x unbroken) was.looks called
          has-it)

    entry-shuts : ((x : Exchange) → exchange_of k e ≡ Some x → WasNotInterrupted x) → Shuts next_front
    entry-shuts unbroken = by (exchange_of k e) refl
      where
        by : (x : Option Exchange) → exchange_of k e ≡ x → Shuts next_front
        by None none = foreign-shuts none
        by (Some x) mine = own-shuts x mine (unbroken x mine)

  -- ---- all of them

  walk : (rest done later : List Entry) → h ≡ done ++ (rest ++ later)
      → All WasNotInterrupted (exchanges k (done ++ rest)) → Shuts done → Shuts (done ++ rest)
  walk [] done later is calm w = subst Shuts (sym (append-nil done)) w
  walk (e ∷ rest) done later is calm w =
      let so_far : All WasNotInterrupted (exchanges k done) =
      all-front WasNotInterrupted (exchanges k done) (exchanges k (e ∷ rest))
      (subst (All WasNotInterrupted) (exchanges-both k done (e ∷ rest)) calm) in
      let next : Shuts (done ++ e ∷ []) =
      entry-shuts done e (rest ++ later) is so_far w
      (λ x mine. all-entry WasNotInterrupted k done rest e x calm mine) in
      let parts : done ++ e ∷ rest ≡ (done ++ e ∷ []) ++ rest = sym (append_assoc done (e ∷ []) rest) in
      subst Shuts (sym parts)
      (walk rest (done ++ e ∷ []) later (is ∙ sym (append_assoc done (e ∷ []) (rest ++ later)))
      (subst (λ (es : List Entry). All WasNotInterrupted (exchanges k es)) parts calm) next)

  pub shuts-at : (front later : List Entry) → h ≡ front ++ later → All WasNotInterrupted (exchanges k front)
      → Shuts front
  shuts-at front later is calm =
      walk front [] later is calm
      (subst (λ xs. ClosesSo (Over []) (Opens []) (Leaves []) (functions_after (first_truss o) xs))
      (sym (no-exchanges k)) (first-closes (Over []) (Opens []) (Leaves []) o))

  -- before the start nothing is planted in a process that truss opens
  pub opening-unplanted : (front later : List Entry) → h ≡ front ++ later → All WasNotInterrupted (exchanges k front)
      → (q : ℕ) → q < length (truss front).traced → (step : OpeningStep) → (truss front).stage ≡ stage.Opening q step
      → is_start step ≡ false → IsEmpty (marks_at (truss front) q).planted
  opening-unplanted front later is calm q within step at other =
      let w = shuts-at front later is calm in
      let so = subst (StageSo (Over front) (Opens front) (Leaves front) (truss front)) at w.stage in
      so.1 other q within refl

  -- one that truss opens or closes halts, or nothing is planted in it
  pub unopened-halts : (front later : List Entry) → h ≡ front ++ later → All WasNotInterrupted (exchanges k front)
      → (q : ℕ) → q < length (truss front).traced → is_opened (truss front).stage q ≡ false → (p : TracedProcess)
      → live_process (here front).system (traced_at (truss front) q).pid ≡ Some p
      → IsHalting p ⊎ IsEmpty (marks_at (truss front) q).planted
  unopened-halts front later is calm q within shut p live =
      let w = shuts-at front later is calm in by (truss front).stage shut w.stage
    where
      not-shut : {A : Type 0} → true ≡ false → A
      not-shut same = absurd (false≢true (sym same))

      one : (b : ℕ) → not (b == q) ≡ false → b ≡ q
      one b same = eqb-true b q (negated (b == q) same)
        where
          negated : (x : Bool) → not x ≡ false → x ≡ true
          negated true it = refl
          negated false it = not-shut it

      here_live : (b : ℕ) → b ≡ q → live_process (here front).system (traced_at (truss front) b).pid ≡ Some p
      here_live b same = ap (λ m. live_process (here front).system (traced_at (truss front) m).pid) same ∙ live

      empty : (b : ℕ) → b ≡ q → Unplanted front (traced_at (truss front) b).pid
          → IsEmpty (marks_at (truss front) q).planted
      empty b same none = none q within (ap (λ m. (traced_at (truss front) m).pid) (sym same))

      leaves : (b : ℕ) → b ≡ q → Leaves front (traced_at (truss front) b).pid
          → IsHalting p ⊎ IsEmpty (marks_at (truss front) q).planted
      leaves b same (inl halts) = inl (halts p (here_live b same))
      leaves b same (inr none) = inr (empty b same none)

      by : (st : Stage) → is_opened st q ≡ false → StageSo (Over front) (Opens front) (Leaves front) (truss front) st
          → IsHalting p ⊎ IsEmpty (marks_at (truss front) q).planted
      by (stage.Opening b step) closed w =
          leaves b (one b closed) (opens-leaves front step (traced_at (truss front) b).pid w)
      by (stage.Closing b OpenNext) closed (inl over) =
          absurd (none-some p (sym over ∙ here_live b (one b closed)))
      by (stage.Closing b OpenNext) closed (inr it) = leaves b (one b closed) it.0
      by (stage.Closing b GoOn) closed over = absurd (none-some p (sym over ∙ here_live b (one b closed)))
      by (stage.Closing b _) closed over = absurd (none-some p (sym over ∙ here_live b (one b closed)))
      by _ closed w = not-shut closed
