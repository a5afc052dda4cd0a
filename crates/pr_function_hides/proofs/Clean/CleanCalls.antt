use Rattle.std.proofs.Common.{◌≡◌, ◌≢◌, ◌⊎◌, ◌<◌, ◌++◌, ℕ, Bool, true, false, cond, Option, Some, None, List, [], ◌∷◌}
use Rattle.std.proofs.Common.{length, refl, sym, subst, ap, ◌∙◌, inl, inr}
use Rattle.std.proofs.lemmas.Bool.{eqb-true, false≢true}
use Rattle.std.proofs.lemmas.Option.{none-some, same_Some}
use Rattle.pr_api.specs.Entries.{call_entry}
use Rattle.pr_function_hides.proofs.Files.CallFacts.{close-bare, close-done}
use Rattle.pr_function_hides.proofs.Tidy.CalledCovers.{IsAsPatched}
use Rattle.pr_function_hides.proofs.Clean.CleanCovers.{IsClean, called-clean}
use Rattle.pr_function_hides.proofs.Closing.ClosingCalls.{IsLastMode, last-mode}
use Rattle.pr_function_hides.proofs.Replies.ClosingStages.{stage-stays}
use Rattle.pr_function_hides.proofs.Replies.ClosingWalk.{ClosesSo, Lifts, LooksSo, StageSo, is_opening}
use Rattle.pr_function_hides.proofs.Files.FilesCalls.{Files}
use Rattle.pr_function_hides.proofs.FaultStops.GoingCalls.{Going}
use Rattle.pr_function_hides.proofs.Clean.HaltedOpenings.{Follows, HaltsIn, follows, goes, is_halted, keeps_halting}
use Rattle.pr_function_hides.proofs.Clean.HaltedOpenings.{passes-halts, sent-halts, step-halts, stop-halts, stops}
use Rattle.pr_function_laws.proofs.Pending.KnownFiles.{Knows}
use Rattle.pr_function_hides.proofs.Clean.LiftedCovers.{lift-bare}
use Rattle.pr_function_hides.proofs.Tidy.OwnCalls.{opening-stays}
use Rattle.pr_function_hides.proofs.Replies.OwnFiles.{HoldsItsFiles, IsBeside}
use Rattle.pr_function_hides.proofs.Tidy.OwnWrites.{code-is, named-at, write-is}
use Rattle.pr_function_hides.proofs.GoingOn.SentMessages.{Admits, Clears, Sends, aside-sends}
use Rattle.pr_function_hides.proofs.Tidy.TidyCalls as Calls
use Rattle.pr_function_hides.proofs.Tidy.TidyEntries.{its-lawful, its-legal}
use Rattle.pr_function_hides.proofs.Tidy.TidyKept.{Kept}
use Rattle.pr_function_hides.proofs.Tidy.TidyLaw.{kept-at}
use Rattle.pr_function_hides.specs.RunsOfTrusses.{IsRunOfTrusses}
use Rattle.pr_function_laws.proofs.Stepping.BreakpointLemmas.{IsOwnEntry}
use Rattle.pr_function_laws.proofs.Marks.KeptPlaces.{AtAside, Kept as KeptPlaces}
use Rattle.pr_function_laws.proofs.Marks.MarkLemmas.{first-below}
use Rattle.pr_function_laws.proofs.OpenedProcesses.OpenedLemmas.{control-made}
use Rattle.pr_function_laws.proofs.Marks.SoundLemmas.{AsideIsBelow}
use Rattle.pr_hidden.specs.Covers.{Covers}
use Rattle.pr_hidden.specs.Hiders.{Hiders, covers_at, covers_called, hides}
use Rattle.pr_model.specs.Calls.{answer_to}
use Rattle.pr_model.specs.Handles.{handle_of, is_writable}
use Rattle.pr_model.specs.Lawful.{IsLawful}
use Rattle.pr_model.specs.Legal.{IsLegalEntry, state_after}
use Rattle.pr_model.specs.State.{TracedState, live_process}
use Rattle.pr_model.specs.declared.calls.Call.{Call}
use Rattle.pr_model.specs.declared.calls.Call.TheVariants as call
use Rattle.pr_model.specs.declared.calls.Reply.{Reply}
use Rattle.pr_model.specs.declared.events.Entry.{Entry}
use Rattle.pr_model.specs.declared.handles.Held.{Held}
use Rattle.pr_num.specs.declared.messages.Message.{Message}
use Rattle.pr_num.specs.declared.messages.Message.TheVariants as message
use Rattle.pr_truss.specs.Asides.{marks_at}
use Rattle.pr_truss.specs.FunctionCalls.{call_beside, function_call_of, lift_call, next_function_call_of, patch_call}
use Rattle.pr_truss.specs.Marks.{code_of, first_function}
use Rattle.pr_truss.specs.Messages.{message_call}
use Rattle.pr_truss.specs.NextCalls.{call_of, next_call_of, opening_call}
use Rattle.pr_truss.specs.Openings.{step_after}
use Rattle.pr_truss.specs.Processes.{last_handle, without_last}
use Rattle.pr_truss.specs.Replies.{answer_of}
use Rattle.pr_truss.specs.Trusses.{TrussState, traced_at}
use Rattle.pr_truss.specs.declared.asides.Aside.{Aside}
use Rattle.pr_truss.specs.declared.asides.Aside.TheVariants.{Nothing, Patching, Planting, Reading}
use Rattle.pr_truss.specs.declared.replies.Answer.TheVariants.{Accepted}
use Rattle.pr_truss.specs.declared.stages.AfterClosing.TheVariants.{OpenNext}
use Rattle.pr_truss.specs.declared.stages.OpeningStep.{OpeningStep}
use Rattle.pr_truss.specs.declared.stages.OpeningStep.TheVariants as opening
use Rattle.pr_truss.specs.declared.stages.Stage.{Stage}
use Rattle.pr_truss.specs.declared.stages.Stage.TheVariants as stage
use Rattle.pr_truss_laws.proofs.Machine.ForeignLemmas.{names}
use Rattle.pr_truss_laws.proofs.Machine.OverLemmas.{stays-over}
use Rattle.pr_world.specs.ControllerStates.{ControllerState}

-- Each lwp of a process that truss opens stands still or will stop, or no breakpoint stands in the process; so it is of
-- one whose opening was refused, until its control file is closed. And no lwp of it counts as standing at a fault of
-- one who hides. What a call of truss makes of that.

-- ---- what is so

module _ (who : Hiders) (first : TracedState) (front : List Entry) where
  abbrev covers : Covers
  covers = covers_at who first front

  -- no lwp of a process counts as standing at a fault of one who hides
  abbrev pub Clean : ℕ → Type 0
  Clean pid = IsClean (covers pid)

  -- no breakpoint stands in it
  abbrev pub Bare : ℕ → Type 0
  Bare pid = (covers pid).patches ≡ []

  -- each lwp of it stands still or will stop
  abbrev pub Halts : ℕ → Type 0
  Halts pid = HaltsIn (state_after first front) pid

  abbrev pub Over : ℕ → Type 0
  Over pid = live_process (state_after first front).system pid ≡ None

  -- it halts, or is bare
  abbrev pub Stands : Bool → ℕ → Type 0
  Stands true pid = Halts pid
  Stands false pid = Bare pid

  -- before a step of its opening, and where that was refused
  abbrev pub Opens : OpeningStep → ℕ → Type 0
  Opens step pid = Clean pid × Stands (is_halted step) pid

  abbrev pub Leaves : ℕ → Type 0
  Leaves pid = Clean pid × (Bare pid ⊎ Halts pid)

  abbrev pub Closes : TrussState → Type 0
  Closes t = ClosesSo Over Opens Leaves t

  pub either-stands : (b : Bool) (pid : ℕ) → Stands b pid → Bare pid ⊎ Halts pid
  either-stands true pid halts = inr halts
  either-stands false pid bare = inl bare

  pub opens-leaves : (step : OpeningStep) (pid : ℕ) → Opens step pid → Leaves pid
  opens-leaves step pid w = (w.0, either-stands (is_halted step) pid w.1)

-- ---- a call of truss

-- the messages before a call of a stage, while a process is opened or closed
abbrev Keeps : Message → Type 0
Keeps m = keeps_halting m ≡ true

admits-keeping : Admits Keeps
admits-keeping = record {
  stop = refl;
  strace = λ set. refl;
  sfault = λ set. refl;
  sentry = λ set. refl;
  sexit = λ set. refl;
  follow = refl;
  release = refl;
  unset = λ modes. refl;
  read = λ at size. refl;
  write = λ at. refl;
}

module _ {n : ℕ} {who : Hiders} {controllers : List ControllerState} {first : TracedState}
    {h : List Entry} (run : IsRunOfTrusses n who controllers first h)
    (front back : List Entry) (j : ℕ) (c : Call) (r : Reply) (place : h ≡ front ++ call_entry j c r ∷ back) where
  abbrev kept : Kept who controllers first h front
  kept = kept-at run front (call_entry j c r ∷ back) place

  abbrev later_front : List Entry
  later_front = front ++ call_entry j c r ∷ []

  abbrev v : TracedState
  v = state_after first front

  abbrev before : Covers
  before = covers_at who first front

  called-covers : covers_at who first later_front ≡ covers_called who before v j c r
  called-covers = Calls.called-is run front back j c r place kept

  -- a call adds no fault
  pub clean-called : (pid : ℕ) → Clean who first front pid → Clean who first later_front pid
  clean-called pid clean =
      subst (λ (cs : Covers). IsClean (cs pid)) (sym called-covers)
      (called-clean who run.are.no_probes before v j pid c r clean)

  module _ (hider : hides who j ≡ true) (on : Going run front back j c r place hider) where
    abbrev t : TrussState
    t = Calls.tr run front back j c r place kept hider

    abbrev own : IsOwnEntry j v (call_entry j c r) (record { call = c; reply = r })
    own = Calls.own run front back j c r place kept hider

    abbrev holds : HoldsItsFiles j t v
    holds = on.holds

    abbrev pid_at : ℕ → ℕ
    pid_at q = (traced_at t q).pid

    lawful-now : IsLawful v
    lawful-now = its-lawful run front (call_entry j c r) back place kept

    legal-now : IsLegalEntry n v (call_entry j c r)
    legal-now = its-legal run front (call_entry j c r) back place kept

    made-at : (q : ℕ) → q < length t.traced → pid_at q < v.system.made
    made-at q within =
        let f = holds in control-made j (pid_at q) (traced_at t q).control v lawful-now (f.control q within)

    over-own : (pid : ℕ) → pid < v.system.made → live_process v.system pid ≡ None
        → live_process own.answer.state.system pid ≡ None
    over-own pid made none =
        ap (λ (u : TracedState). live_process u.system pid) own.later
        ∙ stays-over n v (call_entry j c r) pid lawful-now legal-now made none

    -- the state that the call leaves
    left-is : own.answer.state ≡ state_after first later_front
    left-is = own.later ∙ sym (Calls.called-now run front back j c r place kept)

    over-later : (q : ℕ) → q < length t.traced → Over who first front (pid_at q) → Over who first later_front (pid_at q)
    over-later q within over =
        ap (λ (u : TracedState). live_process u.system (pid_at q)) (sym left-is)
        ∙ over-own (pid_at q) (made-at q within) over

    to-later : (pid : ℕ) → HaltsIn own.answer.state pid → Halts who first later_front pid
    to-later pid halts = subst (λ (u : TracedState). HaltsIn u pid) left-is halts

    beside-is : call_beside t t.stage t.aside ≡ Some c
    unfolding next_function_call_of
    beside-is =
        sym (ap (λ b. cond b (call_beside t t.stage t.aside) (next_call_of t))
        (Calls.has run front back j c r place kept hider))
        ∙ Calls.next run front back j c r place kept hider

    aside-is : (aside : Aside) → t.aside ≡ aside → call_beside t t.stage aside ≡ Some c
    aside-is aside is = sym (ap (call_beside t t.stage) is) ∙ beside-is

    idle-is : t.aside ≡ Nothing → (s : Stage) → t.stage ≡ s → function_call_of t s ≡ Some c
    unfolding call_beside
    idle-is idle s is = ap (function_call_of t) (sym is) ∙ aside-is Nothing idle

    -- ---- a step of an opening

    patched-at : (q : ℕ) (step : OpeningStep) → t.stage ≡ stage.Opening q step → t.aside ≡ Nothing → (pid : ℕ)
        → IsAsPatched (before pid) (covers_at who first later_front pid)
    patched-at q step is idle pid =
        Calls.called-stays run front back j c r place kept pid
        (opening-stays who run.are.no_probes j before v c r t (Calls.fits run front back j c r place kept hider)
        (Calls.these run front back j c r place kept hider) (Calls.files-now run front back j c r place kept hider)
        (Calls.below run front back j c r place kept hider) (λ i. ⊥) (λ i within none. absurd none)
        (λ i within none. absurd none) q step (idle-is idle (stage.Opening q step) is) pid)

    module _ (q : ℕ) (within : q < length t.traced) (step : OpeningStep) (is : t.stage ≡ stage.Opening q step)
        (idle : t.aside ≡ Nothing) where
      bare-later : Bare who first front (pid_at q) → Bare who first later_front (pid_at q)
      bare-later bare = let a = patched-at q step is idle (pid_at q) in a.patches ∙ bare

      -- any step but a start that is granted
      halts-later : is_halted step ≡ true → (step ≡ opening.Start → answer_of r ≢ Accepted)
          → Halts who first front (pid_at q) → Halts who first later_front (pid_at q)
      halts-later halted unless halts =
          let f = holds in
          to-later (pid_at q)
          (step-halts n j t.options v lawful-now c own.answer own.is over-own t q step (f.control q within)
          (made-at q within) (idle-is idle (stage.Opening q step) is) halted
          (λ start accepted. unless start (ap answer_of (sym own.replied) ∙ accepted)) halts)

      stands-later : (step ≡ opening.Start → answer_of r ≢ Accepted)
          → Stands who first front (is_halted step) (pid_at q)
          → Stands who first later_front (is_halted step) (pid_at q)
      stands-later unless = by (is_halted step) refl
        where
          by : (b : Bool) → is_halted step ≡ b → Stands who first front b (pid_at q)
              → Stands who first later_front b (pid_at q)
          by true halted halts = halts-later halted unless halts
          by false other bare = bare-later bare

      -- the next one
      pub stands-next : answer_of r ≡ Accepted → (next : OpeningStep) → step_after t.options r step ≡ Some next
          → Opens who first front step (pid_at q) → Opens who first later_front next (pid_at q)
      unfolding function_call_of call_of opening_call
      stands-next accepted next behind w = (
        clean-called (pid_at q) w.0,
        by (follows t.options r step next behind),
      )
        where
          granted : answer_of own.answer.reply ≡ Accepted
          granted = ap answer_of own.replied ∙ accepted

          stop-is : step ≡ opening.Stop → c ≡ message_call (traced_at t q).control message.Stop
          stop-is same =
              same_Some c _
              (sym (idle-is idle (stage.Opening q opening.Stop)
              (is ∙ ap (λ (x : OpeningStep). stage.Opening q x) same)))

          stopped : step ≡ opening.Stop → Halts who first later_front (pid_at q)
          stopped same =
              let f = holds in
              to-later (pid_at q)
              (stop-halts n j t.options v lawful-now c own.answer own.is over-own (traced_at t q) (f.control q within)
              (stop-is same) granted)

          by : Follows step next → Stands who first later_front (is_halted next) (pid_at q)
          by (stops same halted) =
              subst (λ b. Stands who first later_front b (pid_at q)) (sym halted) (stopped same)
          by (goes other same) =
              subst (λ b. Stands who first later_front b (pid_at q)) (sym same)
              (stands-later (λ start. absurd (other start)) w.1)

    -- ---- before the call of a stage

    known : KeptPlaces Knows t
    known = let w = on.facts in w.knows

    -- something is left to plant or to lift
    keeps-clears : (aside : Aside) → AtAside Knows t.traced aside
        → Clears Keeps admits-keeping t (Calls.fits run front back j c r place kept hider) c aside
    keeps-clears (Patching q plants lifts clear) w = λ none nothing. absurd (false≢true (rw (none, nothing) at w.1.0))
    keeps-clears _ w = tt

    -- a message to a process
    ctl-halts : (q : ℕ) → q < length t.traced → t.aside ≢ Nothing → (bytes : List ℕ)
        → c ≡ call.Ctl (traced_at t q).control bytes → Halts who first front (pid_at q)
        → Halts who first later_front (pid_at q)
    ctl-halts q within busy bytes is halts =
        let f = holds in
        let k = known in
        to-later (pid_at q)
        (sent-halts n j t.options v lawful-now c own.answer own.is over-own (traced_at t q) bytes is
        (f.control q within)
        (subst (Sends Keeps) is
        (aside-sends Keeps admits-keeping t (Calls.fits run front back j c r place kept hider) c t.aside f.beside
        (Calls.below run front back j c r place kept hider) busy (keeps-clears t.aside k.beside) beside-is)) halts)

    -- functions are looked at
    looking : (q b function : ℕ) (step : OpeningStep) (aside : Aside) → t.aside ≡ aside → aside ≢ Nothing
        → t.stage ≡ stage.Opening q step → t.stage ≡ stage.Opening b opening.Start → b < length t.traced
        → (bytes : List ℕ) → c ≡ call.Ctl (traced_at t b).control bytes
        → Stands who first front (is_halted step) (pid_at q) → Stands who first later_front (is_halted step) (pid_at q)
    looking q b function step aside is busy at start inside bytes sent stands =
        subst (λ (x : OpeningStep). Stands who first later_front (is_halted x) (pid_at q)) (sym which.1)
        (subst (λ i. Halts who first later_front (pid_at i)) (sym which.0)
        (ctl-halts b inside (λ none. busy (sym is ∙ none)) bytes sent
        (subst (λ i. Halts who first front (pid_at i)) which.0
        (subst (λ (x : OpeningStep). Stands who first front (is_halted x) (pid_at q)) which.1 stands))))
      where
        same : {a d : ℕ} {x y : OpeningStep} → stage.Opening a x ≡ stage.Opening d y → (a ≡ d) × (x ≡ y)
        same e = (cc, cc)

        which : (q ≡ b) × (step ≡ opening.Start)
        which = same (sym at ∙ start)

    opening-beside : (q : ℕ) (step : OpeningStep) → t.stage ≡ stage.Opening q step → LooksSo t.stage t.aside
        → (aside : Aside) → t.aside ≡ aside → aside ≢ Nothing → IsBeside (length t.traced) aside
        → Stands who first front (is_halted step) (pid_at q) → Stands who first later_front (is_halted step) (pid_at q)
    unfolding call_beside
    opening-beside q step at looks Nothing is busy w stands = absurd (busy refl)
    opening-beside q step at looks (Reading b function) is busy w stands =
        looking q b function step (Reading b function) is busy at (subst (LooksSo t.stage) is looks) w _
        (sym (same_Some _ c (aside-is (Reading b function) is))) stands
    opening-beside q step at looks (Planting b function) is busy w stands =
        looking q b function step (Planting b function) is busy at (subst (LooksSo t.stage) is looks) w _
        (sym (same_Some _ c (aside-is (Planting b function) is))) stands
    opening-beside q step at looks (Patching b plants lifts clear) is busy w stands =
        absurd (false≢true (sym (subst (LooksSo t.stage) is looks) ∙ ap is_opening at))
    opening-beside q step at looks _ is busy w stands = absurd w

    -- breakpoints are lifted
    module _ (q : ℕ) (within : q < length t.traced) (i : ℕ) (inside : i < length t.options.functions)
        (is : Some (lift_call t.options (traced_at t q).control i) ≡ Some c) where
      lifted-bare : Bare who first front (pid_at q) → Bare who first later_front (pid_at q)
      lifted-bare bare =
          let it = named-at t.options i inside in
          let f = it.0 in
          let sent =
          write-is t.options c (traced_at t q).control i f f.code (code_of t.options i) it.1
          (code-is t.options i f it.1) is in
          ap (λ (cs : Covers). (cs (pid_at q)).patches) called-covers
          ∙ ap (λ (d : Call). (covers_called who before v j d r (pid_at q)).patches) sent
          ∙ lift-bare who run.are.no_probes before v j t.options (Calls.fits run front back j c r place kept hider)
          (Calls.these run front back j c r place kept hider) i f it.1 (pid_at q) bare (traced_at t q).control r

    leaving-beside : (q : ℕ) → q < length t.traced → (aside : Aside) → t.aside ≡ aside → aside ≢ Nothing
        → AtAside Knows t.traced aside → AsideIsBelow (length t.options.functions) aside
        → Lifts (Over who first front) (Opens who first front) (Leaves who first front) q aside (marks_at t q).planted
        → Bare who first front (pid_at q) ⊎ Halts who first front (pid_at q)
        → Bare who first later_front (pid_at q) ⊎ Halts who first later_front (pid_at q)
    unfolding call_beside
    leaving-beside q within Nothing is busy at small lifts w = absurd (busy refl)
    leaving-beside q within (Patching b plants lifts clear) is busy at small w stands =
        by (first_function lifts) refl
        (ap (λ (x : Option ℕ). Some (patch_call t.options (traced_at t q).control x (first_function lifts)))
        (sym w.1.0)
        ∙ ap (λ m. Some (patch_call t.options (traced_at t m).control (first_function plants) (first_function lifts)))
        (sym w.0)
        ∙ aside-is (Patching b plants lifts clear) is) stands
      where
        by : (lift : Option ℕ) → first_function lifts ≡ lift
            → Some (patch_call t.options (traced_at t q).control None lift) ≡ Some c
            → Bare who first front (pid_at q) ⊎ Halts who first front (pid_at q)
            → Bare who first later_front (pid_at q) ⊎ Halts who first later_front (pid_at q)
        by (Some i) some sent (inl bare) =
            inl (lifted-bare q within i (first-below _ lifts i small.1 some) sent bare)
        by (Some i) some sent (inr halts) =
            inr (ctl-halts q within (λ none. busy (sym is ∙ none)) _ (sym (same_Some _ c sent)) halts)
        by None nothing sent both = absurd (false≢true (rw (w.1.0, nothing) at at.1.0))
    leaving-beside q within _ is busy at small w stands = absurd w

    -- a file is closed, and it is not the control file
    leaving-closes : (q : ℕ) → q < length t.traced → t.aside ≡ Nothing → t.stage ≡ stage.Closing q OpenNext
        → (last_handle (traced_at t q) ≡ (traced_at t q).control → without_last (traced_at t q) ≡ None → ⊥)
        → Bare who first front (pid_at q) ⊎ Halts who first front (pid_at q)
        → Bare who first later_front (pid_at q) ⊎ Halts who first later_front (pid_at q)
    unfolding function_call_of call_of
    leaving-closes q within idle at not_last = by
      where
        closes : c ≡ call.Close (last_handle (traced_at t q))
        closes = same_Some c _ (sym (idle-is idle (stage.Closing q OpenNext) at))

        files : Files j v (traced_at t q)
        files =
            let w = Calls.truss-now run front back j c r place kept hider in w.files q within

        named-is : (m : ℕ) → names c m ≡ true → m ≡ last_handle (traced_at t q)
        named-is m named = sym (eqb-true _ m (ap (λ (d : Call). names d m) (sym closes) ∙ named))

        apart : IsLastMode j v (traced_at t q) → (m : ℕ) (g : Held) → names c m ≡ true → handle_of v.opens j m ≡ Some g
            → is_writable g.mode ≡ true → g.pid ≢ pid_at q
        apart (inl control) m g named held writes same = absurd (not_last control.0 control.1)
        apart (inr reads) m g named held writes same =
            false≢true (sym (reads g (ap (handle_of v.opens j) (sym (named-is m named)) ∙ held)) ∙ writes)

        by : Bare who first front (pid_at q) ⊎ Halts who first front (pid_at q)
            → Bare who first later_front (pid_at q) ⊎ Halts who first later_front (pid_at q)
        by (inl bare) =
            inl (ap (λ (cs : Covers). (cs (pid_at q)).patches) called-covers
            ∙ ap (λ (d : Call). (covers_called who before v j d r (pid_at q)).patches) closes
            ∙ close-bare who run.are.no_probes before v j (pid_at q) (last_handle (traced_at t q)) r bare)
        by (inr halts) =
            inr (to-later (pid_at q)
            (passes-halts n j t.options v lawful-now c own.answer own.is over-own (pid_at q) (made-at q within)
            (apart (last-mode j v (traced_at t q) files)) halts))

    -- ---- what is so of a stage stays so

    module _ (was : Closes who first front t)
        (starts : (q : ℕ) (step : OpeningStep) → t.stage ≡ stage.Opening q step → t.aside ≡ Nothing
        → step ≡ opening.Start → answer_of r ≢ Accepted)
        (ends : (q : ℕ) → t.stage ≡ stage.Closing q OpenNext → t.aside ≡ Nothing
        → last_handle (traced_at t q) ≡ (traced_at t q).control → without_last (traced_at t q) ≡ None → ⊥) where
      opens-on : (q : ℕ) (step : OpeningStep) → q < length t.traced → t.stage ≡ stage.Opening q step
          → Opens who first front step (pid_at q) → Opens who first later_front step (pid_at q)
      opens-on q step within is w = (clean-called (pid_at q) w.0, by t.aside refl)
        where
          busy : t.aside ≢ Nothing → Stands who first later_front (is_halted step) (pid_at q)
          busy acts =
              let f = holds in opening-beside q step is was.looks t.aside refl acts f.beside w.1

          by : (aside : Aside) → t.aside ≡ aside → Stands who first later_front (is_halted step) (pid_at q)
          by Nothing idle = stands-later q within step is idle (starts q step is idle) w.1
          by _ at = busy (λ none. cc)

      leaves-on : (q : ℕ) → q < length t.traced → t.stage ≡ stage.Closing q OpenNext
          → Leaves who first front (pid_at q) → Leaves who first later_front (pid_at q)
      leaves-on q within is w = (clean-called (pid_at q) w.0, by t.aside refl)
        where
          so : StageSo (Over who first front) (Opens who first front) (Leaves who first front) t
              (stage.Closing q OpenNext)
          so = subst (StageSo (Over who first front) (Opens who first front) (Leaves who first front) t) is was.stage

          lifting : t.aside ≢ Nothing
              → StageSo (Over who first front) (Opens who first front) (Leaves who first front) t
              (stage.Closing q OpenNext)
              → Bare who first later_front (pid_at q) ⊎ Halts who first later_front (pid_at q)
          lifting acts (inl over) =
              inr (λ p live. absurd (none-some p (sym (over-later q within over) ∙ live)))
          lifting acts (inr it) =
              let k = known in
              leaving-beside q within t.aside refl acts k.beside (Calls.below run front back j c r place kept hider)
              it.1 w.1

          by : (aside : Aside) → t.aside ≡ aside
              → Bare who first later_front (pid_at q) ⊎ Halts who first later_front (pid_at q)
          by Nothing idle = leaving-closes q within idle is (ends q is idle) w.1
          by _ at = lifting (λ none. cc) so

      pub stage-on : StageSo (Over who first later_front) (Opens who first later_front) (Leaves who first later_front) t
          t.stage
      stage-on =
          let f = holds in
          stage-stays (Over who first front) (Over who first later_front) (Opens who first front)
          (Opens who first later_front) (Leaves who first front) (Leaves who first later_front) t over-later t.stage
          f.stage opens-on leaves-on was.stage

    -- a close of the control file is done
    pub ends-done : (q : ℕ) → q < length t.traced → t.stage ≡ stage.Closing q OpenNext → t.aside ≡ Nothing
        → last_handle (traced_at t q) ≡ (traced_at t q).control → answer_of r ≡ Accepted
    unfolding function_call_of call_of answer_of
    ends-done q within at idle last =
        let f = holds in
        let closes : c ≡ call.Close (traced_at t q).control =
        same_Some c _ (sym (idle-is idle (stage.Closing q OpenNext) at)) ∙ ap call.Close last in
        ap answer_of
        (sym own.replied
        ∙ close-done v j (traced_at t q).control _ (f.control q within) own.answer
        (ap (answer_to v j) (sym closes) ∙ own.is))
