use Rattle.std.proofs.Common.{◌≡◌, ◌≢◌, ◌<◌, ◌==◌, ◌&&◌, ◌++◌, not, ℕ, Bool, true, false, cond, Option, Some, None, List, [], ◌∷◌, length, append-nil, refl, sym, subst, ap, ◌∙◌, inl, inr}
use Rattle.std.proofs.lemmas.Bool.{cases_eq, false≢true}
use Rattle.std.proofs.lemmas.Option.{none-some, same_Some}
use Rattle.std.specs.List.{All}
use Rattle.pr_line.specs.Selections.{is_selected}
use Rattle.pr_line.specs.declared.events.Event.{Event}
use Rattle.pr_line.specs.declared.options.Options.{Options}
use Rattle.pr_model.proofs.TurnLemmas.{turn-taken}
use Rattle.pr_model.specs.Events.{events_of}
use Rattle.pr_model.specs.Lawful.{IsLawful}
use Rattle.pr_model.specs.Legal.{IsLegal, IsLegalEntry, after, after_turn, state_after}
use Rattle.pr_model.specs.LwpTurns.{LwpTurn, turn_of}
use Rattle.pr_model.specs.State.{TracedProcess, TracedState, TracedSystem, live_process}
use Rattle.pr_model.specs.declared.events.Act.{Act}
use Rattle.pr_model.specs.declared.events.Act.TheVariants as act
use Rattle.pr_model.specs.declared.events.Actor.{Actor}
use Rattle.pr_model.specs.declared.events.Actor.TheVariants.{Controller, Lwp, Clock}
use Rattle.pr_model.specs.declared.events.Entry.{Entry}
use Rattle.pr_reached.proofs.Together.ReachedLemmas.{later-reached}
use Rattle.pr_reached.specs.ByteHistories.{HasBytes}
use Rattle.pr_report_laws.proofs.Files.FileUses.{place-is}
use Rattle.pr_report_laws.proofs.Invariant.OtherSteps.{lives-later}
use Rattle.pr_report_laws.proofs.Machine.OwnTurnLaws.{event-halts, halting-picks}
use Rattle.pr_report_laws.proofs.Watching.HistoryParts.{legal-front}
use Rattle.pr_report_laws.specs.Memories.{WasKilled}
use Rattle.pr_report_laws.specs.Shown.{LwpEvent, picked, shown}
use Rattle.pr_report_laws.specs.Watching.{is_away, place_of, watches, watches_at}
use Rattle.pr_truss.specs.Asides.{marks_at}
use Rattle.pr_truss.specs.Trusses.{TrussState, first_truss, traced_at}
use Rattle.pr_truss.specs.declared.processes.Traced.{Traced}
use Rattle.pr_truss.specs.declared.stages.Stage.{Stage}
use Rattle.pr_truss.specs.declared.stages.Stage.TheVariants.{Opening, ReadingStatus, Closing}
use Rattle.pr_truss_laws.proofs.Machine.FrameLemmas.{memory-self}
use Rattle.pr_truss_laws.proofs.Files.HeldLemmas.{at_place}
use Rattle.pr_truss_laws.proofs.Machine.OutlastLemmas.{others-entry}
use Rattle.pr_truss_laws.proofs.Machine.StillLemmas.{frozen-turns}
use Rattle.pr_truss_laws.specs.Exchanges.{Exchange, exchange_of, exchanges}
use Rattle.pr_truss_laws.specs.Handles.{HasNoOtherWriter}
use Rattle.pr_truss_laws.specs.Stills.{IsFrozen}
use Rattle.pr_function_laws.proofs.Stepping.BreakpointLemmas.{IsForeign, foreign-entry}
use Rattle.pr_function_laws.proofs.Pending.EventTurns.{AfterQuiet, MeetsEvent, all-picked, fewer-picked, goes_on, meets, quiet-turn}
use Rattle.pr_function_laws.proofs.Marks.KeptPlaces.{AtStage, Kept}
use Rattle.pr_function_laws.proofs.Listing.ListedStates as states
use Rattle.pr_function_laws.proofs.Listing.ListedStates.{clear, due, hidden, lost, nothing-before, standing}
use Rattle.pr_function_laws.proofs.Listing.ListedSteps.{events-push, its-place, watched}
use Rattle.pr_function_laws.proofs.Listing.OldStops.{still-while-old}
use Rattle.pr_function_laws.proofs.OpenedProcesses.OpenedCalls.{IsSo}
use Rattle.pr_function_laws.proofs.OpenedProcesses.OpenedLaws.{Goes, bytes-front, holds-opened, still-there}
use Rattle.pr_function_laws.proofs.Pending.PendingWalk.{On, is_to_run}
use Rattle.pr_function_laws.proofs.Listing.RestPlaces.{RestsAt}
use Rattle.pr_function_laws.specs.ListedEvents.{events_to_show, is_own_fault, is_to_show, is_to_show_in, to_show_in}
use Rattle.pr_function_laws.specs.OneEvent.{HasMetNothing}
use Rattle.pr_function_laws.specs.ReachedRuns.{IsReachedFunctionRun}
use Rattle.pr_function_laws.specs.Opened.{IsFunctionRun, WasNotInterrupted, functions_at, is_opened}
use Rattle.pr_function_laws.specs.Runs.{functions_on}
use Rattle.pr_function_laws.proofs.Listing.ListedRests as rests-of
use Rattle.pr_function_laws.proofs.Listing.ListedRests.{looked-run, unmet-alone}

-- The events of a process that truss has shown are those that it is to show, also behind an entry that is no call of
-- truss: a turn of the process, or what others do.

module _ (n k : ℕ) (o : Options) (s : TracedState) (h : List Entry) (run : IsReachedFunctionRun n k o s h)
    (all_calm : All WasNotInterrupted (exchanges k h)) (pid : ℕ) where
  abbrev T : List Entry → TrussState
  T front = functions_at k o front

  abbrev S : List Entry → TracedState
  S front = state_after s front

  abbrev RestsSo : List Entry → ℕ → Type 0
  RestsSo f place = RestsAt (functions_at k o f) pid place

  abbrev Since : List Entry → LwpEvent → Type 0
  Since = states.Since k o s pid

  abbrev Missing : List Entry → ℕ → LwpEvent → TracedProcess → List LwpEvent → Type 0
  Missing = states.Missing k o s pid

  abbrev Stands : List Entry → List LwpEvent → Type 0
  Stands = states.Stands k o s pid RestsSo

  abbrev Listed : List Entry → Type 0
  Listed = states.Listed k o s pid RestsSo

  module _ (f : List Entry) (e : Entry) (later : List Entry) (is : h ≡ f ++ e ∷ later) where
    abbrev next : List Entry
    next = f ++ e ∷ []

    abbrev t : TrussState
    t = T f

    abbrev now : TracedState
    now = S f

    abbrev calm : All WasNotInterrupted (exchanges k f)
    calm = rests-of.calm n k o s h run all_calm pid f e later is

    abbrev here : Goes ⊥ k o t now
    here = rests-of.here n k o s h run all_calm pid f e later is

    abbrev legal : IsLegalEntry n now e
    legal = rests-of.legal n k o s h run all_calm pid f e later is

    abbrev lawful : IsLawful now
    lawful = rests-of.lawful n k o s h run all_calm pid f e later is

    abbrev kept : Kept (IsSo ⊥ k t.options now) t
    kept = rests-of.kept n k o s h run all_calm pid f e later is

    abbrev run-here : IsFunctionRun n k o s (f ++ e ∷ later)
    run-here = rests-of.run-here n k o s h run all_calm pid f e later is

    abbrev state-is : S next ≡ after now e
    state-is = rests-of.state-is n k o s h run all_calm pid f e later is

    abbrev truss-is : T next ≡ functions_on t (exchange_of k e)
    truss-is = rests-of.truss-is n k o s h run all_calm pid f e later is

    abbrev over : (i : ℕ) → i < now.system.made → live_process now.system i ≡ None
        → live_process (after now e).system i ≡ None
    over = rests-of.over n k o s h run all_calm pid f e later is

    abbrev live-next : (q : TracedProcess) → live_process (S next).system pid ≡ Some q
        → live_process (after now e).system pid ≡ Some q
    live-next = rests-of.live-next n k o s h run all_calm pid f e later is

    abbrev its_events : List LwpEvent
    its_events = to_show_in t now pid e

    came-next : events_to_show k pid (first_truss o) s next ≡ events_to_show k pid (first_truss o) s f ++ its_events
    came-next = events-push k pid f (first_truss o) s e

    module _ (place : ℕ) (w : RestsAt t pid place) where
      abbrev was : Traced
      was = at_place t.traced place

      abbrev made : pid < now.system.made
      made = rests-of.made n k o s h run all_calm pid f e later is place w

      abbrev sole : HasNoOtherWriter k pid now.opens
      sole = rests-of.sole n k o s h run all_calm pid f e later is place w

      abbrev live-was : (p : TracedProcess) → live_process now.system pid ≡ Some p
          → live_process now.system was.pid ≡ Some p
      live-was = rests-of.live-was n k o s h run all_calm pid f e later is place w

      abbrev NotRead : Type 0
      NotRead =
          (x : Exchange) → exchange_of k e ≡ Some x → (q : ℕ) → t.stage ≡ ReadingStatus q → (traced_at t q).pid ≢ pid

      module _ (p : TracedProcess) (live : live_process now.system pid ≡ Some p) (event : LwpEvent) (on : On event p)
          (other : NotRead) where
        abbrev stand-next : (missing : List LwpEvent) → Missing f place event p missing → Stands next missing
        stand-next = rests-of.stand-next n k o s h run all_calm pid f e later is place w p live event on
            other

    -- a lost event stays lost
    lost-next : (event : LwpEvent) (w : Since f event) → pid < now.system.made → live_process now.system pid ≡ None
        → WasKilled pid (S (w.front ++ w.entry ∷ [])) w.mid → Stands next (event ∷ [])
    lost-next = states.lost-next k o s pid n h run.of f e later is lawful legal RestsSo

    rest-place : (place : ℕ) → RestsAt t pid place → place_of t pid ≡ Some place
    rest-place place w = its-place n k o s f (e ∷ later) pid run-here (IsSo ⊥ k t.options now) kept place w

    -- while truss counts stops that stood before it came the process stands still
    old-still : (front back : List Entry) (place : ℕ) (p : TracedProcess) → h ≡ front ++ back
        → All WasNotInterrupted (exchanges k front) → place < length (T front).traced
        → (traced_at (T front) place).pid ≡ pid → is_opened (T front).stage place ≡ true
        → (traced_at (T front) place).old ≢ 0 → live_process (S front).system pid ≡ Some p → IsFrozen p
    old-still = let w = still-while-old n k o s h run pid in w.each

    -- it rests at a place, is not watched, or stands still
    data Where (p : TracedProcess) : Type 0 where
      at_rest : (place : ℕ) → RestsAt t pid place → Where p
      nowhere : watches t pid ≡ false → ((place : ℕ) → RestsAt t pid place → ⊥) → Where p
      stands_still : IsFrozen p → Where p

    unnot : (b : Bool) → not b ≡ false → b ≡ true
    unnot true is_off = refl
    unnot false is_off = sym is_off

    away-closed : (place : ℕ) (st : Stage) → AtStage (IsSo ⊥ k t.options now) t.traced st → is_opened st place ≡ false
        → is_away t.leaving st place ≡ true
    away-closed place (Opening q step) w closed = unnot (q == place) closed
    away-closed place (Closing q opened_next) w closed = unnot (q == place) closed
    away-closed place _ w closed = absurd (false≢true (sym closed))

    off-watch : (b : Bool) → (b && false) ≡ false
    off-watch true = refl
    off-watch false = refl

    where-is : (p : TracedProcess) → live_process now.system pid ≡ Some p → Where p
    unfolding watches
    where-is p live = by (place_of t pid) refl
      where
        by-run : (place : ℕ) → place < length t.traced → (traced_at t place).pid ≡ pid → is_opened t.stage place ≡ true
            → (b : Bool) → is_to_run t.stage place ≡ b → Where p
        by-run place within its opened true running =
            stands_still
            (still-there n k o s h run f (e ∷ later) is calm place p
            (ap (live_process now.system) its ∙ live) (looked-run t.stage place running))
        by-run place within its opened false away = elim (cases_eq (traced_at t place).old 0) [
          | inl new ↦ at_rest place (record { within = within; its = its; opened = opened; away = away; new = new })
          | inr old ↦ stands_still (old-still f (e ∷ later) place p is calm within its opened old live)
        ]

        by-opened : (place : ℕ) → place_of t pid ≡ Some place → place < length t.traced → (traced_at t place).pid ≡ pid
            → (b : Bool) → is_opened t.stage place ≡ b → Where p
        by-opened place at within its true opened = by-run place within its opened (is_to_run t.stage place) refl
        by-opened place at within its false closed =
            nowhere
            (ap (watches_at t) at
            ∙ ap (λ b. (traced_at t place).attached && not b)
            (let x = kept in away-closed place t.stage x.stage closed)
            ∙ off-watch (traced_at t place).attached)
            (λ other w.
            false≢true (sym closed
            ∙ ap (is_opened t.stage) (same_Some place other (sym at ∙ rest-place other w)) ∙ w.opened))

        by : (x : Option ℕ) → place_of t pid ≡ x → Where p
        by None at =
            nowhere (ap (watches_at t) at) (λ place w. none-some place (sym at ∙ rest-place place w))
        by (Some place) at =
            let found = place-is t pid place at in
            by-opened place at found.0 found.1 (is_opened t.stage place) refl

    -- what is no turn of the process brings no event of it
    elsewhere-empty : ((own : ℕ) → e.actor ≢ Lwp pid own) → its_events ≡ []
    elsewhere-empty = states.elsewhere-empty k o s pid n h run.of f e later is lawful legal

    abbrev Before : List LwpEvent → Type 0
    Before missing = events_to_show k pid (first_truss o) s f ≡ shown pid t ++ missing

    -- nothing came, and nothing was shown
    same-listed : (missing : List LwpEvent) → Before missing → its_events ≡ [] → shown pid (T next) ≡ shown pid t
        → Stands next missing → Listed next
    same-listed = states.same-listed k o s pid n h run.of f e later is lawful legal RestsSo

    -- ---- an entry of others, or a turn

    module _ (foreign : exchange_of k e ≡ None) where
      same-truss : T next ≡ t
      same-truss = truss-is ∙ ap (functions_on t) foreign

      its : IsForeign k now e
      its = foreign-entry n k now e legal foreign

      shown-same : shown pid (T next) ≡ shown pid t
      shown-same = ap (shown pid) same-truss

      rests-still : (place : ℕ) → RestsAt (T next) pid place → RestsAt t pid place
      rests-still place rest = subst (λ (u : TrussState). RestsAt u pid place) same-truss rest

      not-read : (place : ℕ) (w : RestsAt t pid place) → NotRead place w
      not-read place w x own = absurd (none-some x (sym foreign ∙ own))

      others-next : ((own : ℕ) → e.actor ≢ Lwp pid own) → {missing : List LwpEvent} → Stands f missing → Before missing
          → Listed next
      others-next elsewhere (clear unmet) are =
          same-listed [] are (elsewhere-empty elsewhere) shown-same (clear (λ place rest q live_q.
          let w = rests-still place rest in
          let p =
          lives-later o pid t now (after now e)
          (λ p live. others-entry n now k pid e p lawful (sole place w) legal elsewhere its.other live)
          (over pid (made place w)) q (live-next q live_q) in
          unmet-alone p.0 q p.1.1 (unmet place w p.0 p.1.0)))
      others-next elsewhere (standing place w p live event on missing m) are =
          same-listed missing are (elsewhere-empty elsewhere) shown-same
          (stand-next place w p live event on (not-read place w) missing m)
      others-next elsewhere (lost event w made_it gone was_killed) are =
          same-listed (event ∷ []) are (elsewhere-empty elsewhere) shown-same
          (lost-next event w made_it gone was_killed)

      -- ---- a turn

      module _ (own : ℕ) (turn : LwpTurn) (entry_is : e ≡ record { actor = Lwp pid own; act = act.Turn turn.turned })
          (took : turn_of now.system pid own ≡ Some turn) (after_is : (after now e).system ≡ turn.system) where
        p : TracedProcess
        p = let it = turn-taken now.system pid own turn took in it.process

        live : live_process now.system pid ≡ Some p
        unfolding p
        live = let it = turn-taken now.system pid own turn took in it.live

        later-live : (q : TracedProcess) → live_process (S next).system pid ≡ Some q
            → live_process turn.system pid ≡ Some q
        later-live q live_q = ap (λ (x : TracedSystem). live_process x pid) (sym after_is) ∙ live-next q live_q

        -- where it is watched the events are those that are picked
        module _ (place : ℕ) (w : RestsAt t pid place) where
          abbrev picks : Event → Bool
          picks = is_to_show_in t (Some place)

          picked-is : its_events
              ≡ picked picks pid (events_of now (record { actor = Lwp pid own; act = act.Turn turn.turned }))
          picked-is =
              ap (λ b. cond {A = List LwpEvent} b (picked (is_to_show_in t (place_of t pid)) pid (events_of now e)) [])
              (watched n k o s f (e ∷ later) pid run-here (IsSo ⊥ k t.options now) kept place w)
              ∙ ap (λ (x : Option ℕ). picked (is_to_show_in t x) pid (events_of now e)) (rest-place place w)
              ∙ ap (λ (x : Entry). picked picks pid (events_of now x)) entry_is

          options-is : t.options ≡ o
          options-is = let g = here in g.options

          fewer : (ev : Event) → is_selected o ev ≡ false → picks ev ≡ false
          fewer ev off =
              ap (λ b. b && not (is_own_fault t.options (marks_at t place) ev))
              (ap (λ (y : Options). is_selected y ev) options-is ∙ off)

          after-quiet : HasMetNothing p
              → AfterQuiet pid own picks turn
              (picked picks pid (events_of now (record { actor = Lwp pid own; act = act.Turn turn.turned })))
          after-quiet unmet =
              let owned = holds-opened n k o s h run.of in
              let owns = owned.each f (e ∷ later) place is calm w.within w.opened in
              let all = owns.traces p (live-was place w p live) in
              let stops = all.stops in
              let at = later-reached n s f run.reached
              (bytes-front f (e ∷ later) (subst HasBytes is run.bytes))
              (legal-front n s f (e ∷ later) (subst (IsLegal n s) is run.of.legal)) in
              quiet-turn now pid own p turn (let l = lawful in l.system) at.fit live took stops.directs picks
              (fewer-picked p.control (is_selected o) picks fewer (all-picked o p.control all)) unmet

          -- the event on which the lwp stands then
          module _ (m : MeetsEvent pid own picks turn
              (picked picks pid (events_of now (record { actor = Lwp pid own; act = act.Turn turn.turned }))))
              (are : Before []) where
            abbrev event : LwpEvent
            event = record { id = own; event = m.event }

            q-live : live_process (S next).system pid ≡ Some m.process
            q-live =
                ap (λ (u : TracedState). live_process u.system pid) state-is
                ∙ ap (λ (x : TracedSystem). live_process x pid) after_is ∙ m.live

            rests-now : RestsAt (T next) pid place
            rests-now = subst (λ (u : TrussState). RestsAt u pid place) (sym same-truss) w

            same-picks : is_to_show o (marks_at (T next) place) m.event ≡ picks m.event
            same-picks =
                ap (λ (u : TrussState). is_to_show o (marks_at u place) m.event) same-truss
                ∙ ap (λ (y : Options). is_to_show y (marks_at t place) m.event) (sym options-is)

            listed-with : (missing : List LwpEvent) → its_events ≡ missing
                → Missing next place event m.process missing → Listed next
            listed-with missing came m_is = record {
              missing = missing;
              are = came-next ∙ ap (λ xs. events_to_show k pid (first_truss o) s f ++ xs) came
                  ∙ ap (λ xs. xs ++ missing) (are ∙ append-nil (shown pid t) ∙ sym shown-same);
              stands = standing place rests-now m.process q-live event m.has missing m_is;
            }

            meets-next : Listed next
            meets-next = by (picks m.event) refl
              where
                by : (b : Bool) → picks m.event ≡ b → Listed next
                by true chosen =
                    let came : its_events ≡ event ∷ [] =
                    picked-is ∙ m.lists ∙ ap (λ b. cond {A = List LwpEvent} b (event ∷ []) []) chosen in
                    listed-with (event ∷ []) came (due (same-picks ∙ chosen) (record {
                      front = f;
                      entry = e;
                      mid = [];
                      is = refl;
                      came = came;
                      none_before = are ∙ append-nil (shown pid t);
                      process = m.process;
                      lives = q-live;
                      unanswered = record { each = λ between rest d parts reads. nothing-before between rest d parts };
                    }) (memory-self m.process))
                by false off =
                    listed-with []
                    (picked-is ∙ m.lists ∙ ap (λ b. cond {A = List LwpEvent} b (event ∷ []) []) off)
                    (hidden (same-picks ∙ off))

          by-quiet : Before []
              → AfterQuiet pid own picks turn
              (picked picks pid (events_of now (record { actor = Lwp pid own; act = act.Turn turn.turned })))
              → Listed next
          by-quiet are (goes_on empty unmet) =
              same-listed [] are (picked-is ∙ empty) shown-same
              (clear (λ place2 rest q live_q. unmet q (later-live q live_q)))
          by-quiet are (meets m) = meets-next m are

        from-clear : ((place : ℕ) → RestsAt t pid place → (x : TracedProcess) → live_process now.system pid ≡ Some x
            → HasMetNothing x) → Before [] → Where p → Listed next
        from-clear unmet are (at_rest place w) = by-quiet place w are (after-quiet place w (unmet place w p live))
        from-clear unmet are (nowhere off none_rest) =
            same-listed [] are
            (ap (λ b. cond {A = List LwpEvent} b (picked (is_to_show_in t (place_of t pid)) pid (events_of now e)) [])
            off) shown-same
            (clear (λ place rest q live_q. absurd (none_rest place (rests-still place rest))))
        from-clear unmet are (stands_still frozen) =
            absurd (none-some turn (sym (frozen-turns now.system pid p live frozen own) ∙ took))

        turn-next : {missing : List LwpEvent} → Stands f missing → Before missing → Listed next
        turn-next (clear unmet) are = from-clear unmet are (where-is p live)
        turn-next (standing place w x live_x event on missing m) are =
            same-listed missing are
            (picked-is place w
            ∙ halting-picks (picks place w) now pid own x turn live_x (event-halts x event.id event.event on) took)
            shown-same (stand-next place w x live_x event on (not-read place w) missing m)
        turn-next (lost event w made_it gone was_killed) are = absurd (none-some p (sym gone ∙ live))

      foreign-by : {missing : List LwpEvent} → Stands f missing → Before missing → (actor : Actor) (it : Act)
          → e ≡ record { actor = actor; act = it } → IsLegalEntry n now (record { actor = actor; act = it })
          → Listed next
      unfolding IsLegalEntry after
      foreign-by st are (Controller j) (act.Call c r) same legal_here =
          others-next
          (λ own at. let it : Controller j ≡ Lwp pid own = ap (λ (x : Entry). x.actor) (sym same) ∙ at in cc) st are
      foreign-by st are (Lwp acting own) (act.Turn turned) same legal_here = elim (cases_eq acting pid) [
        | inl one ↦ turn-next own (record { system = legal_here.0; turned = turned })
            (same ∙ ap (λ i. record { actor = Lwp i own; act = act.Turn turned }) one)
            (subst (λ i. turn_of now.system i own ≡ Some (record { system = legal_here.0; turned = turned })) one
            legal_here.1)
            (ap (λ (x : Entry). (after now x).system) same
            ∙ ap (λ (x : Option LwpTurn). (after_turn now x).system) legal_here.1) st are
        | inr differs ↦ others-next (λ i at.
            differs (let it : Lwp acting own ≡ Lwp pid i = ap (λ (x : Entry). x.actor) (sym same) ∙ at in cc)) st are
      ]
      foreign-by st are Clock (act.Tick moment) same legal_here =
          others-next
          (λ own at. let it : Clock ≡ Lwp pid own = ap (λ (x : Entry). x.actor) (sym same) ∙ at in cc) st are
      foreign-by st are _ _ same legal_here = absurd legal_here

      pub foreign-next : Listed f → Listed next
      foreign-next it_was = foreign-by it_was.stands it_was.are e.actor e.act refl legal
