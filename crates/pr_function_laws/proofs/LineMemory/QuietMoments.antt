use Rattle.std.proofs.Common.{◌≡◌, ◌<◌, ◌++◌, ℕ, Bool, true, false, Option, Some, None, List, [], ◌∷◌, append_assoc, length, refl, sym, subst, ap, ◌∙◌}
use Rattle.std.proofs.lemmas.Bool.{eq-eqb}
use Rattle.std.proofs.lemmas.List.{length-map}
use Rattle.std.specs.List.{cons_option}
use Rattle.pr_line.specs.declared.options.Options.{Options}
use Rattle.pr_model.specs.Lawful.{IsLawful}
use Rattle.pr_model.specs.Legal.{IsLegalEntry, after, state_after}
use Rattle.pr_model.specs.State.{TracedProcess, TracedState, live_process, process_of}
use Rattle.pr_model.specs.declared.events.Entry.{Entry}
use Rattle.pr_num.specs.Signals.{signal_number}
use Rattle.pr_num.specs.declared.signals.Sig.TheVariants.{Kill}
use Rattle.pr_rec.specs.declared.lwps.LwpStatus.{LwpStatus}
use Rattle.pr_report_laws.proofs.Files.FileLaws.{HasFiles}
use Rattle.pr_report_laws.proofs.Files.FileUses.{standing as standing-at}
use Rattle.pr_report_laws.proofs.Files.WatchHistories.{cons-exchanges, exchanges-both}
use Rattle.pr_report_laws.proofs.Invariant.StandLemmas.{IsAttached}
use Rattle.pr_report_laws.proofs.SeenChildren.Splits.{state_after-both}
use Rattle.pr_report_laws.specs.Watching.{is_away}
use Rattle.pr_truss.specs.Trusses.{TrussState, traced_at}
use Rattle.pr_truss.specs.declared.processes.Traced.{Traced}
use Rattle.pr_truss.specs.declared.stages.Stage.TheVariants.{ReadingText}
use Rattle.pr_truss_laws.proofs.Files.HeldLemmas.{Fits}
use Rattle.pr_truss_laws.proofs.Machine.FrameLemmas.{memory-next}
use Rattle.pr_truss_laws.proofs.Machine.HaltLemmas as halt
use Rattle.pr_truss_laws.proofs.Machine.HaltLemmas.{HaltsOn, others-halt}
use Rattle.pr_truss_laws.proofs.Machine.OverLemmas.{stays-over}
use Rattle.pr_truss_laws.specs.Exchanges.{Exchange, exchange_of, exchanges}
use Rattle.pr_truss_laws.specs.Stills.{IsFrozen, KeepsMemory}
use Rattle.pr_function_laws.proofs.LeavingProcesses.LeavingCourse.{calm-at, entry-legal, files-at, fits-at}
use Rattle.pr_function_laws.proofs.LeavingProcesses.LeavingFacts.{still-halts}
use Rattle.pr_function_laws.proofs.LeavingProcesses.LeavingHolds.{has-one-event-each}
use Rattle.pr_function_laws.proofs.LeavingProcesses.LeftProcesses.{its-control}
use Rattle.pr_function_laws.proofs.LineMemory.TextsAtOnce.{quiet-same}
use Rattle.pr_function_laws.proofs.OpenedProcesses.OpenedLemmas.{control-made, control-sole}
use Rattle.pr_function_laws.proofs.OrdinaryTruss.OrdinaryEntries as entries
use Rattle.pr_function_laws.proofs.OrdinaryTruss.OrdinaryFiles.{Follows}
use Rattle.pr_function_laws.proofs.OrdinaryTruss.OrdinaryReplies.{at-ordinary}
use Rattle.pr_function_laws.proofs.Stepping.BreakpointLemmas.{foreign-entry}
use Rattle.pr_function_laws.specs.Lifted.{HasControl}
use Rattle.pr_function_laws.specs.OneEvent.{HasOneEventEach, is_looked_at}
use Rattle.pr_function_laws.specs.ReachedRuns.{IsReachedFunctionRun}
use Rattle.pr_function_laws.specs.Opened.{IsFunctionRun, functions_at}
use Rattle.pr_function_laws.specs.Ordinary.{ordinary, unmarked}

-- From the read of an event to that of its memory: truss calls nothing, and the process stands still.

-- entries in which truss makes no call begin and end with such
none-parts : (k : ℕ) (front rest : List Entry) → exchanges k (front ++ rest) ≡ []
    → (exchanges k front ≡ []) × (exchanges k rest ≡ [])
none-parts k front rest none =
    both-none (exchanges k front) (exchanges k rest) (sym (exchanges-both k front rest) ∙ none)
  where
    both-none : (xs ys : List Exchange) → xs ++ ys ≡ [] → (xs ≡ []) × (ys ≡ [])
    both-none [] ys nothing = (refl, nothing)
    both-none (x ∷ xs) ys nothing = absurd (cc)

none-first : (k : ℕ) (e : Entry) (rest : List Entry) → exchanges k (e ∷ rest) ≡ [] → exchange_of k e ≡ None
none-first k e rest none = by (exchange_of k e) (sym (cons-exchanges k e rest) ∙ none)
  where
    by : (so : Option Exchange) → cons_option so (exchanges k rest) ≡ [] → so ≡ None
    by None nothing = refl
    by (Some x) nothing = absurd (cc)

module _ (n k : ℕ) (o : Options) (s : TracedState) (h : List Entry) (run : IsReachedFunctionRun n k o s h)
    (base middle rest : List Entry) (is : h ≡ base ++ (middle ++ rest)) (pid here : ℕ) (lwp : LwpStatus) (from len : ℕ)
    (at : (functions_at k o (base ++ middle)).stage ≡ ReadingText here lwp from len)
    (of : (traced_at (functions_at k o (base ++ middle)) here).pid ≡ pid) (none : exchanges k middle ≡ []) where
  -- ---- one entry

  module _ (done more : List Entry) (f : Entry) (split : middle ≡ done ++ f ∷ more) where
    abbrev front : List Entry
    front = base ++ done

    abbrev st : TracedState
    st = state_after s front

    abbrev t : TrussState
    t = functions_at k o front

    parts : h ≡ front ++ f ∷ (more ++ rest)
    parts =
        is ∙ ap (λ (es : List Entry). base ++ es)
        (ap (λ (es : List Entry). es ++ rest) split ∙ append_assoc done (f ∷ more) rest)
        ∙ sym (append_assoc base done (f ∷ (more ++ rest)))

    run-here : IsFunctionRun n k o s (front ++ f ∷ (more ++ rest))
    run-here = subst (IsFunctionRun n k o s) parts run.of

    legal : IsLegalEntry n st f
    legal = entry-legal (Unit {0}) n k o s h run.of (λ r. run.reached) (λ r. run.bytes) front f (more ++ rest) parts

    lawful : IsLawful st
    lawful =
        let w : Follows k o t st = entries.follows n k o s front (more ++ rest) f run-here in
        let g = w.reaches in g.lawful

    files : HasFiles k (ordinary t) st
    files = files-at (Unit {0}) n k o s h run.of (λ r. run.reached) (λ r. run.bytes) front (f ∷ (more ++ rest)) parts

    fits : Fits (ordinary t).traced t.stage
    fits = fits-at (Unit {0}) n k o s h run.of (λ r. run.reached) (λ r. run.bytes) front (f ∷ (more ++ rest)) parts

    state-is : state_after s (front ++ f ∷ []) ≡ after st f
    state-is = state_after-both s front (f ∷ [])

    -- ---- truss is as it is behind them all

    nones : (exchanges k done ≡ []) × (exchanges k (f ∷ more) ≡ [])
    nones = none-parts k done (f ∷ more) (ap (exchanges k) (sym split) ∙ none)

    foreign : exchange_of k f ≡ None
    foreign = none-first k f more nones.1

    same-truss : t ≡ functions_at k o (base ++ middle)
    same-truss = quiet-same k o base done nones.0 ∙ sym (quiet-same k o base middle none)

    stage-here : t.stage ≡ ReadingText here lwp from len
    stage-here = ap (λ (u : TrussState). u.stage) same-truss ∙ at

    pid-here : (traced_at t here).pid ≡ pid
    pid-here = ap (λ (u : TrussState). (traced_at u here).pid) same-truss ∙ of

    within : here < length t.traced
    within =
        subst (λ m. here < m) (length-map t.traced unmarked)
        (let fit : Fits (ordinary t).traced (ReadingText here lwp from len) =
        subst (Fits (ordinary t).traced) stage-here fits in fit)

    on-it : (traced_at t here).attached ≡ true
    on-it =
        let w = standing-at k (ordinary t) st (ReadingText here lwp from len) files stage-here in
        let a : IsAttached (traced_at (ordinary t) here) = w.at in
        ap (λ (z : Traced). z.attached) (sym (at-ordinary t here)) ∙ a.attached

    -- it stands still, whether truss leaves its processes or not
    frozen : (z : TracedProcess) → live_process st.system pid ≡ Some z → IsFrozen z
    frozen z live = by t.leaving refl
      where
        events : HasOneEventEach k o s h
        events = has-one-event-each n k o s h run

        live-at : live_process st.system (traced_at t here).pid ≡ Some z
        live-at = ap (live_process st.system) pid-here ∙ live

        by : (b : Bool) → t.leaving ≡ b → IsFrozen z
        by true on =
            events.looked_last front (f ∷ (more ++ rest)) here z parts on within on-it
            (ap (λ stage. is_away true stage here) stage-here ∙ eq-eqb here here refl) live-at
        by false off =
            events.still front (f ∷ (more ++ rest)) here z parts
            (calm-at (Unit {0}) n k o s h run.of (λ r. run.reached) (λ r. run.bytes) front (f ∷ (more ++ rest)) parts
            off)
            (ap (λ stage. is_looked_at stage here) stage-here ∙ eq-eqb here here refl) live-at

    has-control : HasControl k pid (traced_at t here).control st
    has-control =
        subst (λ i. HasControl k i (traced_at t here).control st) pid-here (its-control k t st files here within)

    -- it ended before
    stays-gone : live_process st.system pid ≡ None
        → live_process (state_after s (front ++ f ∷ [])).system pid ≡ None
    stays-gone gone =
        ap (λ (u : TracedState). live_process u.system pid) state-is
        ∙ stays-over n st f pid lawful legal (control-made k pid (traced_at t here).control st lawful has-control) gone

    -- ---- what becomes of it

    module _ (z : TracedProcess) (live : live_process st.system pid ≡ Some z) where
      data Goes : Type 0 where
        lives : (w : TracedProcess) → live_process (state_after s (front ++ f ∷ [])).system pid ≡ Some w
            → KeepsMemory z w → Goes
        is_killed : (w : TracedProcess) → live_process (state_after s (front ++ f ∷ [])).system pid ≡ None
            → process_of (state_after s (front ++ f ∷ [])).system pid ≡ Some w
            → w.ended ≡ Some (signal_number Kill) → Goes

      goes : Goes
      goes =
          let fe = foreign-entry n k st f legal foreign in
          let sole = control-sole k pid (traced_at t here).control st lawful has-control in
          by (others-halt n st k pid lawful sole z live (still-halts z (frozen z live)) f legal fe.other)
        where
          by : HaltsOn pid z (after st f).system → Goes
          by (halt.goes_on w live_w halting memory) =
              lives w (ap (λ (u : TracedState). live_process u.system pid) state-is ∙ live_w) memory
          by (halt.killed w gone left status) =
              is_killed w (ap (λ (u : TracedState). live_process u.system pid) state-is ∙ gone)
              (ap (λ (u : TracedState). process_of u.system pid) state-is ∙ left) status

  -- ---- all entries between

  module _ (p : TracedProcess) (Ended : List Entry → Type 0)
      (now : (done more : List Entry) (f : Entry) (z w : TracedProcess) → middle ≡ done ++ f ∷ more
      → live_process (state_after s (base ++ done)).system pid ≡ Some z
      → live_process (state_after s (base ++ (done ++ f ∷ []))).system pid ≡ None
      → process_of (state_after s (base ++ (done ++ f ∷ []))).system pid ≡ Some w
      → w.ended ≡ Some (signal_number Kill) → Ended (done ++ f ∷ []))
      (on : (done : List Entry) (f : Entry) → Ended done → Ended (done ++ f ∷ [])) where
    -- it lives, and has the memory that it had; or it ended
    pub data Fate (done : List Entry) : Type 0 where
      lives_on : (z : TracedProcess) → live_process (state_after s (base ++ done)).system pid ≡ Some z
          → KeepsMemory p z → Fate done
      is_over : live_process (state_after s (base ++ done)).system pid ≡ None → Ended done → Fate done

    fate-next : (done more : List Entry) (f : Entry) → middle ≡ done ++ f ∷ more → Fate done → Fate (done ++ f ∷ [])
    fate-next done more f split = by
      where
        same : (base ++ done) ++ f ∷ [] ≡ base ++ (done ++ f ∷ [])
        same = append_assoc base done (f ∷ [])

        by-goes : (z : TracedProcess) (live : live_process (state_after s (base ++ done)).system pid ≡ Some z)
            → KeepsMemory p z → Goes done more f split z live → Fate (done ++ f ∷ [])
        by-goes z live kept (lives w live_w memory) =
            lives_on w (subst (λ es. live_process (state_after s es).system pid ≡ Some w) same live_w)
            (memory-next p z w kept memory)
        by-goes z live kept (is_killed w gone left status) =
            let over : live_process (state_after s (base ++ (done ++ f ∷ []))).system pid ≡ None =
            subst (λ es. live_process (state_after s es).system pid ≡ None) same gone in
            is_over over
            (now done more f z w split live over
            (subst (λ es. process_of (state_after s es).system pid ≡ Some w) same left) status)

        by : Fate done → Fate (done ++ f ∷ [])
        by (lives_on z live kept) = by-goes z live kept (goes done more f split z live)
        by (is_over gone ended) =
            is_over
            (subst (λ es. live_process (state_after s es).system pid ≡ None) same (stays-gone done more f split gone))
            (on done f ended)

    pub fate-end : Fate [] → Fate middle
    fate-end first = entries.along Fate first middle (λ done more f split w. fate-next done more f split w)
