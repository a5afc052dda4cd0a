use Rattle.std.proofs.Common.{◌≡◌, ◌≢◌, ◌<◌, ◌++◌, ℕ, suc, true, false, cond, Option, Some, None, List, [], ◌∷◌, length, append-nil, refl, sym, subst, ap, ◌∙◌, inl, inr}
use Rattle.std.proofs.lemmas.Bool.{cases_eq, eq-eqb, false≢true}
use Rattle.std.proofs.lemmas.Option.{none-some, same_Some}
use Rattle.std.specs.List.{All}
use Rattle.std.specs.Option.{option_and_then}
use Rattle.pr_line.specs.Events.{event_of}
use Rattle.pr_line.specs.declared.events.Event.{Event}
use Rattle.pr_line.specs.declared.options.Options.{Options}
use Rattle.pr_model.specs.Lawful.{IsLawful}
use Rattle.pr_model.specs.Legal.{IsLegalEntry, after, state_after}
use Rattle.pr_model.specs.Replies.{bytes_in}
use Rattle.pr_model.specs.State.{TracedProcess, TracedState, live_process}
use Rattle.pr_model.specs.Statuses.{lwpstatus_of, status_of_found}
use Rattle.pr_model.specs.Stops.{representative}
use Rattle.pr_model.specs.declared.events.Actor.TheVariants.{Lwp}
use Rattle.pr_model.specs.declared.events.Entry.{Entry}
use Rattle.pr_rec.specs.declared.lwps.LwpStatus.{LwpStatus}
use Rattle.pr_report_laws.proofs.Invariant.StandLemmas.{Each}
use Rattle.pr_report_laws.specs.Memories.{WasKilled}
use Rattle.pr_report_laws.specs.Positions.{if_in}
use Rattle.pr_report_laws.specs.Shown.{LwpEvent, shown}
use Rattle.pr_truss.specs.Asides.{marks_at}
use Rattle.pr_truss.specs.FunctionCalls.{call_beside, function_call_of, next_function_call_of}
use Rattle.pr_truss.specs.Marks.{has_functions}
use Rattle.pr_truss.specs.NextCalls.{call_of, next_call_of, opening_call, read_record}
use Rattle.pr_truss.specs.Openings.{learnt, step_after}
use Rattle.pr_truss.specs.Records.{status_lwp}
use Rattle.pr_truss.specs.Replies.{answer_of}
use Rattle.pr_truss.specs.Trusses.{TrussState, first_truss, traced_at}
use Rattle.pr_truss.specs.declared.asides.Aside.{Aside}
use Rattle.pr_truss.specs.declared.asides.Aside.TheVariants.{Nothing, Reading, Planting, Patching}
use Rattle.pr_truss.specs.declared.processes.Traced.{Traced}
use Rattle.pr_truss.specs.declared.replies.Answer.TheVariants.{Accepted}
use Rattle.pr_truss.specs.declared.stages.OpeningStep.{OpeningStep}
use Rattle.pr_truss.specs.declared.stages.OpeningStep.TheVariants as opening
use Rattle.pr_truss.specs.declared.stages.Stage.{Stage}
use Rattle.pr_truss.specs.declared.stages.Stage.TheVariants.{OpeningControl, Opening, ReadingStatus, Running, ReadingLwps}
use Rattle.pr_truss_laws.proofs.Files.HeldLemmas.{at_place}
use Rattle.pr_truss_laws.specs.Exchanges.{Exchange, exchange_of, exchanges}
use Rattle.pr_truss_laws.specs.Sent.{sends}
use Rattle.pr_function_laws.proofs.Stepping.BreakpointLemmas.{IsOwnEntry, own-entry, read-is}
use Rattle.pr_function_laws.proofs.Pending.FrontLemmas as fronts
use Rattle.pr_function_laws.proofs.Pending.FrontLemmas.{calm-answer}
use Rattle.pr_function_laws.proofs.Marks.KeptPlaces.{Apart, AtStage, Kept, apart-at, opens, runs}
use Rattle.pr_function_laws.proofs.Listing.ListedStates as states
use Rattle.pr_function_laws.proofs.Listing.ListedStates.{clear, due, hidden, lost, standing}
use Rattle.pr_function_laws.proofs.Listing.ListedSteps.{events-push, fits, shown-event, shown-none, shown-other}
use Rattle.pr_function_laws.proofs.OpenedProcesses.OpenedCalls.{IsSo, call-is, control-fresh}
use Rattle.pr_function_laws.proofs.OpenedProcesses.OpenedLaws.{Goes}
use Rattle.pr_function_laws.proofs.OpenedProcesses.OpenedLemmas.{control-made}
use Rattle.pr_function_laws.proofs.OrdinaryTruss.OrdinaryFiles.{run-halfway}
use Rattle.pr_function_laws.proofs.OrdinaryTruss.OrdinaryStops.{FitsAside}
use Rattle.pr_function_laws.proofs.OpenedProcesses.StoodLemmas.{IsCounted, Stood}
use Rattle.pr_function_laws.proofs.CallTurns.TurnWalks.{own-in}
use Rattle.pr_function_laws.proofs.Pending.PendingReads.{sees, answered, tells-none}
use Rattle.pr_function_laws.proofs.Pending.PendingWalk.{On, Pending, is_to_run}
use Rattle.pr_function_laws.proofs.Listing.RanProcesses.{ran-unmet, start-unmet}
use Rattle.pr_function_laws.proofs.Listing.RestPlaces.{Cause, RestsAt, about, begun, ran, read, rest-cause, rested}
use Rattle.pr_function_laws.proofs.Listing.BusyStages.{is_reading}
use Rattle.pr_function_laws.specs.ListedEvents.{events_to_show, is_to_show, to_show_in}
use Rattle.pr_function_laws.specs.OneEvent.{HasMetNothing, is_looked_at}
use Rattle.pr_function_laws.specs.ReachedRuns.{IsReachedFunctionRun}
use Rattle.pr_function_laws.specs.Opened.{IsFunctionRun, WasNotInterrupted, functions_at, is_opened}
use Rattle.pr_function_laws.specs.Runs.{functions_on}
use Rattle.pr_function_laws.proofs.Listing.ListedRests as rests-of
use Rattle.pr_function_laws.proofs.Listing.ListedRests.{unmet-alone}

-- The events of a process that truss has shown are those that it is to show, also behind a call of truss: it reads the
-- status of the process, or does not.

module _ (n k : ℕ) (o : Options) (s : TracedState) (h : List Entry) (run : IsReachedFunctionRun n k o s h)
    (all_calm : All WasNotInterrupted (exchanges k h)) (pid : ℕ) where
  abbrev T : List Entry → TrussState
  T front = functions_at k o front

  abbrev S : List Entry → TracedState
  S front = state_after s front

  abbrev RestsSo : List Entry → ℕ → Type 0
  RestsSo f place = RestsAt (functions_at k o f) pid place

  abbrev Since : List Entry → LwpEvent → Type 0
  Since = states.Since k o s pid

  abbrev Missing : List Entry → ℕ → LwpEvent → TracedProcess → List LwpEvent → Type 0
  Missing = states.Missing k o s pid

  abbrev Stands : List Entry → List LwpEvent → Type 0
  Stands = states.Stands k o s pid RestsSo

  abbrev Listed : List Entry → Type 0
  Listed = states.Listed k o s pid RestsSo

  module _ (f : List Entry) (e : Entry) (later : List Entry) (is : h ≡ f ++ e ∷ later) where
    abbrev next : List Entry
    next = f ++ e ∷ []

    abbrev t : TrussState
    t = T f

    abbrev now : TracedState
    now = S f

    abbrev calm : All WasNotInterrupted (exchanges k f)
    calm = rests-of.calm n k o s h run all_calm pid f e later is

    abbrev there : Goes (Unit {0}) k o t now
    there = rests-of.there n k o s h run all_calm pid f e later is

    abbrev legal : IsLegalEntry n now e
    legal = rests-of.legal n k o s h run all_calm pid f e later is

    abbrev lawful : IsLawful now
    lawful = rests-of.lawful n k o s h run all_calm pid f e later is

    abbrev has : has_functions t.options ≡ true
    has = rests-of.has n k o s h run all_calm pid f e later is

    abbrev kept : Kept (IsSo ⊥ k t.options now) t
    kept = rests-of.kept n k o s h run all_calm pid f e later is

    abbrev apart : Apart t.traced
    apart = rests-of.apart n k o s h run all_calm pid f e later is

    abbrev run-here : IsFunctionRun n k o s (f ++ e ∷ later)
    run-here = rests-of.run-here n k o s h run all_calm pid f e later is

    abbrev truss-is : T next ≡ functions_on t (exchange_of k e)
    truss-is = rests-of.truss-is n k o s h run all_calm pid f e later is

    abbrev over : (i : ℕ) → i < now.system.made → live_process now.system i ≡ None
        → live_process (after now e).system i ≡ None
    over = rests-of.over n k o s h run all_calm pid f e later is

    abbrev live-next : (q : TracedProcess) → live_process (S next).system pid ≡ Some q
        → live_process (after now e).system pid ≡ Some q
    live-next = rests-of.live-next n k o s h run all_calm pid f e later is

    abbrev calm-of : (x : Exchange) → exchange_of k e ≡ Some x → WasNotInterrupted x
    calm-of = rests-of.calm-of n k o s h run all_calm pid f e later is

    abbrev its_events : List LwpEvent
    its_events = to_show_in t now pid e

    came-next : events_to_show k pid (first_truss o) s next ≡ events_to_show k pid (first_truss o) s f ++ its_events
    came-next = events-push k pid f (first_truss o) s e

    over-shown : live_process now.system pid ≡ None → shown pid (T next) ≡ shown pid t
    over-shown = states.over-shown k o s pid n h run.of f e later is lawful legal

    module _ (place : ℕ) (w : RestsAt t pid place) where
      abbrev was : Traced
      was = at_place t.traced place

      abbrev live-was : (p : TracedProcess) → live_process now.system pid ≡ Some p
          → live_process now.system was.pid ≡ Some p
      live-was = rests-of.live-was n k o s h run all_calm pid f e later is place w

      abbrev pending-now : (H : TracedProcess → Type 0)
          → ((p : TracedProcess) → live_process now.system pid ≡ Some p → H p) → Pending k o s was H f
      pending-now = rests-of.pending-now n k o s h run all_calm pid f e later is place w

      abbrev NotRead : Type 0
      NotRead =
          (x : Exchange) → exchange_of k e ≡ Some x → (q : ℕ) → t.stage ≡ ReadingStatus q → (traced_at t q).pid ≢ pid

      module _ (p : TracedProcess) (live : live_process now.system pid ≡ Some p) (event : LwpEvent) (on : On event p)
          (other : NotRead) where
        abbrev stand-next : (missing : List LwpEvent) → Missing f place event p missing → Stands next missing
        stand-next = rests-of.stand-next n k o s h run all_calm pid f e later is place w p live event on
            other

    lost-next : (event : LwpEvent) (w : Since f event) → pid < now.system.made → live_process now.system pid ≡ None
        → WasKilled pid (S (w.front ++ w.entry ∷ [])) w.mid → Stands next (event ∷ [])
    lost-next = states.lost-next k o s pid n h run.of f e later is lawful legal RestsSo

    -- ---- where the process stands

    read-within : (q : ℕ) → t.stage ≡ ReadingStatus q → q < length t.traced
    read-within q at =
        let x = kept in
        let stands : AtStage (IsSo ⊥ k t.options now) t.traced (ReadingStatus q) =
        subst (AtStage (IsSo ⊥ k t.options now) t.traced) at x.stage in stands.0

    elsewhere-empty : ((own : ℕ) → e.actor ≢ Lwp pid own) → its_events ≡ []
    elsewhere-empty = states.elsewhere-empty k o s pid n h run.of f e later is lawful legal

    abbrev Before : List LwpEvent → Type 0
    Before missing = events_to_show k pid (first_truss o) s f ≡ shown pid t ++ missing

    same-listed : (missing : List LwpEvent) → Before missing → its_events ≡ [] → shown pid (T next) ≡ shown pid t
        → Stands next missing → Listed next
    same-listed = states.same-listed k o s pid n h run.of f e later is lawful legal RestsSo

    -- ---- an exchange of truss

    module _ (x : Exchange) (own : exchange_of k e ≡ Some x) where
      it : IsOwnEntry k now e x
      it = own-entry n k now e x legal own

      sent : next_function_call_of t ≡ Some x.call
      sent = fronts.makes-next n k o s h run.of f e later is calm x own

      exchange-empty : its_events ≡ []
      exchange-empty = elsewhere-empty (λ i. own-in k pid i e.actor e.act x own)

      over-answer : (i : ℕ) → i < now.system.made → live_process now.system i ≡ None
          → live_process it.answer.state.system i ≡ None
      over-answer i its_made gone = ap (λ (u : TracedState). live_process u.system i) it.later ∙ over i its_made gone

      fresh : (number : ℕ) → t.stage ≡ OpeningControl number → t.aside ≡ Nothing → answer_of x.reply ≡ Accepted
          → Each (λ (u : Traced). u.pid ≢ number) t.traced
      fresh number at idle accepted =
          control-fresh ⊥ n k now lawful x.call it.answer it.is over-answer t kept (λ none. absurd none) number at idle
          has sent (ap answer_of it.replied ∙ accepted)

      stage-call : (st : Stage) → t.stage ≡ st → t.aside ≡ Nothing → function_call_of t st ≡ Some x.call
      unfolding next_function_call_of call_beside
      stage-call st at idle =
          ap (function_call_of t) (sym at) ∙ ap (call_beside t t.stage) (sym idle)
          ∙ sym (ap (λ b. cond b (call_beside t t.stage t.aside) (next_call_of t)) has) ∙ sent

      answer-live : (q : TracedProcess) → live_process (S next).system pid ≡ Some q
          → live_process it.answer.state.system pid ≡ Some q
      answer-live q live_q = ap (λ (u : TracedState). live_process u.system pid) it.later ∙ live-next q live_q

      -- a process that lives afterwards lived before
      lived : pid < now.system.made → (q : TracedProcess) → live_process (S next).system pid ≡ Some q
          → (p : TracedProcess) × (live_process now.system pid ≡ Some p)
      lived its_made q live_q = by (live_process now.system pid) refl
        where
          by : (y : Option TracedProcess) → live_process now.system pid ≡ y
              → (p : TracedProcess) × (live_process now.system pid ≡ Some p)
          by None gone = absurd (none-some q (sym (over pid its_made gone) ∙ live-next q live_q))
          by (Some p) live = (p, live)

      -- it is not read
      away-read : (place : ℕ) (w : RestsAt t pid place) → is_looked_at t.stage place ≡ false → NotRead place w
      away-read place w away y of q at its_pid = elim (cases_eq q place) [
        | inl one ↦ false≢true (sym away ∙ ap (λ (st : Stage). is_looked_at st place) at ∙ eq-eqb q place one)
        | inr differs ↦ apart-at t.traced q place (read-within q at) w.within differs apart (its_pid ∙ sym w.its)
      ]

      module _ (quiet_if : (place : ℕ) → RestsAt t pid place → is_looked_at t.stage place ≡ false → (p : TracedProcess)
          → live_process now.system pid ≡ Some p → HasMetNothing p) (q : TracedProcess)
          (live_q : live_process (S next).system pid ≡ Some q) where
        -- it rested before
        from-rest : (place : ℕ) (w : RestsAt t pid place) → is_looked_at t.stage place ≡ false → HasMetNothing q
        from-rest place w away =
            rests-of.has-next n k o s h run all_calm pid f e later is place w HasMetNothing unmet-alone
            (quiet_if place w away)
            (λ i turn entry_is took after_is p live_p.
            absurd (own-in k (traced_at t place).pid i e.actor e.act x own (ap (λ (d : Entry). d.actor) entry_is)))
            (away-read place w away) q live_q

        -- it is run
        from-run : (place : ℕ) → t.aside ≡ Nothing → t.stage ≡ Running place → (traced_at t place).pid ≡ pid
            → (traced_at t place).old ≡ 0 → HasMetNothing q
        unfolding function_call_of call_of
        from-run place idle at its_pid old =
            let u : Traced = traced_at t place in
            let g = there in
            let w = g.kept in
            let here_it : AtStage (IsSo (Unit {0}) k t.options now) t.traced (Running place) =
            subst (AtStage (IsSo (Unit {0}) k t.options now) t.traced) at w.stage in
            let so : IsSo (Unit {0}) k t.options now runs u = here_it.1.1 in
            let files = so.holds in
            let half = run-halfway n k o s f (e ∷ later) run-here in
            let follows = half.follows in
            let fit = follows.fit in
            let sound = fit.sound in
            let names = sound.names in
            let marks = names.marks place in
            let its_made : pid < now.system.made =
            subst (λ i. i < now.system.made) its_pid (control-made k u.pid u.control now lawful files.its) in
            let p = lived its_made q live_q in
            let live : live_process now.system u.pid ≡ Some p.0 = ap (live_process now.system) its_pid ∙ p.1 in
            let stands = so.stands tt in
            let stood = stands.stood p.0 live in
            let set = files.set p.0 live in
            ran-unmet n k now lawful x.call it.answer it.is u files.its marks.flags
            (sym (same_Some _ x.call (stage-call (Running place) at idle))) p.0 live set.1 stood.1
            (subst (λ m. Stood u.marks.flags (suc m) p.0) old stood.0) q
            (ap (live_process it.answer.state.system) its_pid ∙ answer-live q live_q)

        -- it is run at the end of its opening
        from-start : (place : ℕ) → t.aside ≡ Nothing → t.stage ≡ Opening place opening.Start
            → answer_of x.reply ≡ Accepted
            → (traced_at t place).pid ≡ pid → (traced_at t place).old ≡ 0 → HasMetNothing q
        unfolding opening_call
        from-start place idle at accepted its_pid old =
            let u : Traced = traced_at t place in
            let g = there in
            let w = g.kept in
            let here_it : AtStage (IsSo (Unit {0}) k t.options now) t.traced (Opening place opening.Start) =
            subst (AtStage (IsSo (Unit {0}) k t.options now) t.traced) at w.stage in
            let so : IsSo (Unit {0}) k t.options now (opens opening.Start) u = here_it.1.1 in
            let files = so.holds in
            let stands = so.stands tt in
            start-unmet n k o now lawful x.call it.answer it.is over-answer u files.its
            (ap answer_of it.replied ∙ accepted)
            (sym (same_Some _ x.call
            (sym (call-is t place opening.Start) ∙ stage-call (Opening place opening.Start) at idle)))
            (λ p live. subst (λ m. IsCounted (suc m) p) old (stands.stood p live)) q
            (ap (live_process it.answer.state.system) its_pid ∙ answer-live q live_q)

        from-begun : (place : ℕ) (step : OpeningStep) → t.aside ≡ Nothing → t.stage ≡ Opening place step
            → step_after t.options x.reply step ≡ None → answer_of x.reply ≡ Accepted → (traced_at t place).pid ≡ pid
            → (learnt (traced_at t place) x.reply step).old ≡ 0 → HasMetNothing q
        unfolding step_after learnt
        from-begun place opening.Start idle at ends accepted its_pid old = from-start place idle at accepted its_pid old
        from-begun place opening.OpenStatus idle at ends accepted its_pid old = absurd (none-some _ (sym ends))
        from-begun place opening.OpenLstatus idle at ends accepted its_pid old = absurd (none-some _ (sym ends))
        from-begun place opening.OpenMemory idle at ends accepted its_pid old = absurd (none-some _ (sym ends))
        from-begun place opening.ClearModes idle at ends accepted its_pid old = absurd (none-some _ (sym ends))
        from-begun place opening.SetRelease idle at ends accepted its_pid old = absurd (none-some _ (sym ends))
        from-begun place opening.Stop idle at ends accepted its_pid old = absurd (none-some _ (sym ends))
        from-begun place (opening.AwaitStop until) idle at ends accepted its_pid old = absurd (none-some _ (sym ends))
        from-begun place opening.ReadLwps idle at ends accepted its_pid old = absurd (none-some _ (sym ends))
        from-begun place opening.TraceSignals idle at ends accepted its_pid old = absurd (none-some _ (sym ends))
        from-begun place opening.TraceFaults idle at ends accepted its_pid old = absurd (none-some _ (sym ends))
        from-begun place opening.TraceEntries idle at ends accepted its_pid old = absurd (none-some _ (sym ends))
        from-begun place opening.TraceExits idle at ends accepted its_pid old = absurd (none-some _ (sym ends))
        from-begun place opening.Follow idle at ends accepted its_pid old = absurd (none-some _ (sym ends))

        by-cause : (is_reading t.stage ≡ true → pid ≢ about t x.reply pid) → Cause t x.reply pid → HasMetNothing q
        by-cause not_read_it (rested place w away) = from-rest place w away
        by-cause not_read_it (ran place within idle at its_pid old) = from-run place idle at its_pid old
        by-cause not_read_it (begun place step within idle at ends accepted its_pid old) =
            from-begun place step idle at ends accepted its_pid old
        by-cause not_read_it (read reading its_pid) = absurd (not_read_it reading its_pid)

        still-clear : (place : ℕ) → RestsAt (T next) pid place → HasMetNothing q
        still-clear place rest =
            let cause =
            rest-cause t x.reply pid (IsSo ⊥ k t.options now) kept (fits n k o s f (e ∷ later) pid run-here) fresh has
            (calm-answer x (calm-of x own)) place
            (subst (λ (u : TrussState). RestsAt u pid place) (truss-is ∙ ap (functions_on t) own) rest) in
            by-cause cause.0 cause.1

      clear-next : ((place : ℕ) → RestsAt t pid place → is_looked_at t.stage place ≡ false → (p : TracedProcess)
          → live_process now.system pid ≡ Some p → HasMetNothing p) → Stands next []
      clear-next quiet_if = clear (λ place rest q live_q. still-clear quiet_if q live_q place rest)

      -- ---- where it reads no status of the process

      no-lwps : t.stage ≢ ReadingLwps
      no-lwps at =
          let w = kept in
          let stands : AtStage (IsSo ⊥ k t.options now) t.traced ReadingLwps =
          subst (AtStage (IsSo ⊥ k t.options now) t.traced) at w.stage in absurd stands

      module _ (other : (q : ℕ) → t.stage ≡ ReadingStatus q → (traced_at t q).pid ≢ pid) where
        unshown : shown pid (T next) ≡ shown pid t
        unshown =
            shown-other n k o s f later e pid run-here no-lwps (λ q reads its_pid. absurd (other q reads its_pid))

        other-next : {missing : List LwpEvent} → Stands f missing → Before missing → Listed next
        other-next (clear unmet) are =
            same-listed [] are exchange-empty unshown (clear-next (λ place w away. unmet place w))
        other-next (standing place w p live event on missing m) are =
            same-listed missing are exchange-empty unshown
            (stand-next place w p live event on (λ y of. other) missing m)
        other-next (lost event w made_it gone was_killed) are =
            same-listed (event ∷ []) are exchange-empty unshown (lost-next event w made_it gone was_killed)

      -- ---- where it reads the status of the process

      module _ (place : ℕ) (at : t.stage ≡ ReadingStatus place) (its_pid : (traced_at t place).pid ≡ pid) where
        same-place : (other : ℕ) → RestsAt t pid other → place ≡ other
        same-place other w = elim (cases_eq place other) [
          | inl one ↦ one
          | inr differs ↦ absurd
              (apart-at t.traced place other (read-within place at) w.within differs apart (its_pid ∙ sym w.its))
        ]

        -- it rests no more
        none-away : {A : Type 0} (other : ℕ) → RestsAt t pid other → is_looked_at t.stage other ≡ false → A
        none-away other w away =
            absurd (false≢true (sym away ∙ ap (λ (st : Stage). is_looked_at st other) at
            ∙ eq-eqb place other (same-place other w)))

        read-clear : Stands next []
        read-clear = clear-next (λ other w away. none-away other w away)

        -- the process has ended
        gone-next : live_process now.system pid ≡ None → {missing : List LwpEvent} → Stands f missing → Before missing
            → Listed next
        gone-next gone (clear unmet) are = same-listed [] are exchange-empty (over-shown gone) read-clear
        gone-next gone (standing other w p live event on missing m) are = absurd (none-some p (sym gone ∙ live))
        gone-next gone (lost event w made_it over_it was_killed) are =
            same-listed (event ∷ []) are exchange-empty (over-shown gone)
            (lost-next event w made_it over_it was_killed)

        module _ (new : (traced_at t place).old ≡ 0) (p : TracedProcess)
            (live : live_process now.system pid ≡ Some p) where
          at-it : RestsAt t pid place
          at-it = record {
            within = read-within place at;
            its = its_pid;
            opened = ap (λ (st : Stage). is_opened st place) at;
            away = ap (λ (st : Stage). is_to_run st place) at;
            new = new;
          }

          idle : t.aside ≡ Nothing
          idle = by t.aside refl (subst (FitsAside t.aside) at (fits n k o s f (e ∷ later) pid run-here))
            where
              by : (aside : Aside) → t.aside ≡ aside → FitsAside aside (ReadingStatus place) → t.aside ≡ Nothing
              by Nothing is_it fit = is_it
              by (Reading q function) is_it fit = absurd fit
              by (Planting q function) is_it fit = absurd fit
              by (Patching q plants lifts clears) is_it fit = absurd fit.0
              by _ is_it fit = cc

          reads : x.call ≡ read_record (traced_at t place).status
          reads = same_Some _ _ (sym sent ∙ read-is t place has at idle)

          unsent : sends x.call ≡ false
          unsent = ap sends reads

          abbrev told : LwpStatus
          told = status_of_found p (representative p)

          module _ (H : TracedProcess → Type 0) (so : H p) where
            pending-read : Pending k o s (traced_at t place) H f
            pending-read = pending-now place at-it H (λ q live_q. subst H (same_Some p q (sym live ∙ live_q)) so)

          tells : option_and_then status_lwp (bytes_in x.reply) ≡ Some told
          tells =
              sees n k o s h run f later e is calm (traced_at t place) (λ q. Unit {0})
              (pending-read (λ q. Unit {0}) tt) x own reads p (live-was place at-it p live)

          -- no lwp stands on an event
          quiet-read : HasMetNothing p → Before [] → Listed next
          quiet-read unmet are =
              same-listed [] are exchange-empty
              (shown-none n k o s f later e pid run-here (IsSo ⊥ k t.options now) kept place at-it at x own unsent told
              tells (by (event_of told) refl)) read-clear
            where
              by : (y : Option Event) → event_of told ≡ y → event_of told ≡ None
              by None none_told = none_told
              by (Some ev) on =
                  absurd
                  (tells-none n k o s h run f later e is calm (traced_at t place) HasMetNothing
                  (pending-read HasMetNothing unmet) x own reads p (live-was place at-it p live) unmet told ev tells on)

          -- one does: that is shown, if it is to be shown
          module _ (event : LwpEvent) (on : On event p) (are_missing : List LwpEvent)
              (are : Before are_missing)
              (due_is : are_missing ≡ if_in (is_to_show o (marks_at t place)) event) where
            abbrev its_told : LwpStatus
            its_told = lwpstatus_of p event.id on.lwp

            tells-it : option_and_then status_lwp (bytes_in x.reply) ≡ Some its_told
            tells-it =
                answered n k o s h run f later e is calm (traced_at t place) (On event)
                (pending-read (On event) on) x own reads p (live-was place at-it p live) event on

            its-id : its_told.id ≡ event.id
            unfolding lwpstatus_of
            its-id = refl

            shown-it : shown pid (T next) ≡ shown pid t ++ if_in (is_to_show o (marks_at t place)) event
            shown-it =
                shown-event n k o s f later e pid run-here (IsSo ⊥ k t.options now) kept place at-it at x own unsent
                its_told tells-it event on.tells its-id

            event-read : Listed next
            event-read = record {
              missing = [];
              are = came-next ∙ ap (λ xs. events_to_show k pid (first_truss o) s f ++ xs) exchange-empty
                  ∙ append-nil (events_to_show k pid (first_truss o) s f) ∙ are
                  ∙ ap (λ xs. shown pid t ++ xs) due_is ∙ sym shown-it ∙ sym (append-nil (shown pid (T next)));
              stands = read-clear;
            }

          due-of : (other : ℕ) → place ≡ other → (event : LwpEvent) (y : TracedProcess) (missing : List LwpEvent)
              → Missing f other event y missing → missing ≡ if_in (is_to_show o (marks_at t place)) event
          due-of other one event y missing (hidden off) =
              ap (λ b. cond {A = List LwpEvent} b (event ∷ []) [])
              (sym (ap (λ i. is_to_show o (marks_at t i) event.event) one ∙ off))
          due-of other one event y missing (due chosen since kept_so) =
              ap (λ b. cond {A = List LwpEvent} b (event ∷ []) [])
              (sym (ap (λ i. is_to_show o (marks_at t i) event.event) one ∙ chosen))

          live-read : {missing : List LwpEvent} → Stands f missing → Before missing → Listed next
          live-read (clear unmet) are = quiet-read (unmet place at-it p live) are
          live-read (standing other w y live_y event on missing m) are =
              event-read event (subst (On event) (same_Some y p (sym live_y ∙ live)) on) missing are
              (due-of other (same-place other w) event y missing m)
          live-read (lost event w made_it gone was_killed) are = absurd (none-some p (sym gone ∙ live))

        -- a stop is left that stood before truss came: it shows nothing
        old-next : (traced_at t place).old ≢ 0 → {missing : List LwpEvent} → Stands f missing → Before missing
            → Listed next
        old-next old st are = by st are
          where
            unshown-old : shown pid (T next) ≡ shown pid t
            unshown-old =
                shown-other n k o s f later e pid run-here no-lwps
                (λ q reads q_pid new.
                let place-same : ReadingStatus q ≡ ReadingStatus place = sym reads ∙ at in
                let one : q ≡ place = cc in
                old (ap (λ i. (traced_at t i).old) (sym one) ∙ new))

            by : {missing : List LwpEvent} → Stands f missing → Before missing → Listed next
            by (clear unmet) are_it = same-listed [] are_it exchange-empty unshown-old read-clear
            by (standing other w p live event on missing m) are_it =
                absurd (old (ap (λ i. (traced_at t i).old) (same-place other w) ∙ w.new))
            by (lost event w made_it gone was_killed) are_it =
                same-listed (event ∷ []) are_it exchange-empty unshown-old (lost-next event w made_it gone was_killed)

        read-next : {missing : List LwpEvent} → Stands f missing → Before missing → Listed next
        read-next st are = elim (cases_eq (traced_at t place).old 0) [
          | inl new ↦ by new (live_process now.system pid) refl
          | inr old ↦ old-next old st are
        ]
          where
            by : (traced_at t place).old ≡ 0 → (y : Option TracedProcess) → live_process now.system pid ≡ y
                → Listed next
            by new None gone = gone-next gone st are
            by new (Some p) live = live-read new p live st are

      pub exchange-next : Listed f → Listed next
      exchange-next it_was = by t.stage refl
        where
          at-other : ((q : ℕ) → t.stage ≡ ReadingStatus q → (traced_at t q).pid ≢ pid) → Listed next
          at-other other = other-next other it_was.stands it_was.are

          by : (st : Stage) → t.stage ≡ st → Listed next
          by (ReadingStatus q) at = elim (cases_eq (traced_at t q).pid pid) [
            | inl its_pid ↦ read-next q at its_pid it_was.stands it_was.are
            | inr differs ↦ at-other (λ i reads its_pid.
                differs (ap (λ j. (traced_at t j).pid) (place-same q i (sym at ∙ reads)) ∙ its_pid))
          ]
            where
              place-same : (q i : ℕ) → ReadingStatus q ≡ ReadingStatus i → q ≡ i
              place-same q i same = cc
          by _ at = at-other (λ q reads its_pid. let same = sym at ∙ reads in cc)
