use Rattle.std.proofs.Common.{◌≡◌, ◌≢◌, ◌<◌, ◌&&◌, ◌++◌, not, ℕ, Bool, true, false, cond, Option, Some}
use Rattle.std.proofs.Common.{None, List, [], ◌∷◌, length, append-nil, refl, sym, subst, ap, ◌∙◌, inl, inr}
use Rattle.std.proofs.lemmas.Bool.{cases_eq, eq-eqb, eqb-true, false≢true}
use Rattle.std.proofs.lemmas.Option.{none-some, same_Some}
use Rattle.pr_line.specs.Selections.{is_selected}
use Rattle.pr_line.specs.declared.events.Event.{Event}
use Rattle.pr_line.specs.declared.options.Options.{Options}
use Rattle.pr_model.proofs.TurnLemmas.{turn-taken}
use Rattle.pr_model.specs.Events.{events_of}
use Rattle.pr_model.specs.Lawful.{IsLawful}
use Rattle.pr_model.specs.Legal.{IsLegalEntry, after, after_turn, state_after}
use Rattle.pr_model.specs.LwpTurns.{LwpTurn, turn_of}
use Rattle.pr_model.specs.State.{TracedProcess, TracedState, TracedSystem, live_process, process_of}
use Rattle.pr_model.specs.declared.events.Act.{Act}
use Rattle.pr_model.specs.declared.events.Act.TheVariants as act
use Rattle.pr_model.specs.declared.events.Actor.{Actor}
use Rattle.pr_model.specs.declared.events.Actor.TheVariants.{Controller, Lwp, Clock}
use Rattle.pr_model.specs.declared.events.Entry.{Entry}
use Rattle.pr_num.specs.Signals.{signal_number}
use Rattle.pr_num.specs.declared.signals.Sig.TheVariants.{Kill}
use Rattle.pr_report_laws.proofs.Files.FileLaws.{HasFiles, only-position}
use Rattle.pr_report_laws.proofs.Files.FileUses.{place-is}
use Rattle.pr_report_laws.proofs.Machine.OwnTurnLaws.{event-halts, halting-picks}
use Rattle.pr_report_laws.specs.Memories.{WasKilled}
use Rattle.pr_report_laws.specs.Shown.{LwpEvent, picked, shown}
use Rattle.pr_report_laws.specs.Watching.{is_away, is_of, place_of, watches, watches_at}
use Rattle.pr_truss.specs.Asides.{marks_at}
use Rattle.pr_truss.specs.Trusses.{TrussState, first_truss, nobody, traced_at}
use Rattle.pr_truss_laws.proofs.Machine.FrameLemmas.{memory-self}
use Rattle.pr_truss_laws.proofs.Machine.HaltLemmas as halt
use Rattle.pr_truss_laws.proofs.Machine.HaltLemmas.{HaltsOn, others-halt}
use Rattle.pr_truss_laws.proofs.Machine.StillLemmas.{frozen-turns}
use Rattle.pr_truss_laws.specs.Exchanges.{exchange_of}
use Rattle.pr_truss_laws.specs.Handles.{HasNoOtherWriter}
use Rattle.pr_truss_laws.specs.Stills.{IsFrozen, KeepsMemory}
use Rattle.pr_function_laws.proofs.Stepping.BreakpointLemmas.{IsForeign, foreign-entry}
use Rattle.pr_function_laws.proofs.Pending.EventTurns.{AfterQuiet, MeetsEvent, all-picked, fewer-picked, goes_on, meets, quiet-turn}
use Rattle.pr_function_laws.proofs.LeavingProcesses.LeavingHolds.{away-looked, here-unlooked}
use Rattle.pr_function_laws.proofs.LeavingProcesses.LeftProcesses.{IsLeaving, foreign-lasts, its-apart, its-control}
use Rattle.pr_function_laws.proofs.Listing.ListedStates as states
use Rattle.pr_function_laws.proofs.Listing.ListedStates.{clear, due, hidden, lost, nothing-before, standing}
use Rattle.pr_function_laws.proofs.Listing.ListedRests.{unmet-alone}
use Rattle.pr_function_laws.proofs.OpenedProcesses.OpenedLaws.{elsewhere-alone}
use Rattle.pr_function_laws.proofs.Pending.PendingWalk.{On}
use Rattle.pr_function_laws.proofs.OpenedProcesses.TracedSets.{IsSetBy}
use Rattle.pr_function_laws.specs.Lifted.{HasControl}
use Rattle.pr_function_laws.specs.ListedEvents.{events_to_show, is_own_fault, is_to_show, is_to_show_in, to_show_in}
use Rattle.pr_function_laws.specs.OneEvent.{HasMetNothing}
use Rattle.pr_function_laws.specs.ReachedRuns.{IsReachedFunctionRun}
use Rattle.pr_function_laws.specs.Opened.{TracesAll, functions_at}
use Rattle.pr_function_laws.specs.Ordinary.{ordinary}
use Rattle.pr_function_laws.specs.Runs.{functions_on}
use Rattle.pr_function_laws.proofs.Listing.AwaitedLooks as awaited
use Rattle.pr_function_laws.proofs.Listing.AwaitedLooks.{AwaitsLook, StillOld}

-- The events of a process that truss leaves are shown but for the last one, also behind an entry that is no call of
-- truss: a turn of the process, or what others do.

module _ (n k : ℕ) (o : Options) (s : TracedState) (h : List Entry) (run : IsReachedFunctionRun n k o s h)
    (pid : ℕ) where
  abbrev T : List Entry → TrussState
  T front = functions_at k o front

  abbrev S : List Entry → TracedState
  S front = state_after s front

  abbrev Leaves : List Entry → Type 0
  Leaves f = IsLeaving (Unit {0}) k o (T f) (S f)

  abbrev AwaitsAt : List Entry → ℕ → Type 0
  AwaitsAt f place = AwaitsLook (T f) pid place

  abbrev Stands : List Entry → List LwpEvent → Type 0
  Stands = states.Stands k o s pid AwaitsAt

  abbrev Listed : List Entry → Type 0
  Listed = states.Listed k o s pid AwaitsAt

  abbrev Since : List Entry → LwpEvent → Type 0
  Since = states.Since k o s pid

  abbrev Missing : List Entry → ℕ → LwpEvent → TracedProcess → List LwpEvent → Type 0
  Missing = states.Missing k o s pid

  abbrev ReadsIts : List Entry → Entry → Type 0
  ReadsIts = states.ReadsIts k o s pid

  module _ (f : List Entry) (e : Entry) (later : List Entry) (is : h ≡ f ++ e ∷ later) (g : Leaves f) where
    abbrev next : List Entry
    next = f ++ e ∷ []

    abbrev t : TrussState
    t = T f

    abbrev now : TracedState
    now = S f

    abbrev legal : IsLegalEntry n now e
    legal = awaited.legal n k o s h run pid f e later is g

    abbrev lawful : IsLawful now
    lawful = awaited.lawful n k o s h run pid f e later is g

    abbrev files : HasFiles k (ordinary t) now
    files = awaited.files n k o s h run pid f e later is g

    abbrev state-is : S next ≡ after now e
    state-is = awaited.state-is n k o s h run pid f e later is g

    abbrev truss-is : T next ≡ functions_on t (exchange_of k e)
    truss-is = awaited.truss-is n k o s h run pid f e later is g

    abbrev live-next : (q : TracedProcess) → live_process (S next).system pid ≡ Some q
        → live_process (after now e).system pid ≡ Some q
    live-next = awaited.live-next n k o s h run pid f e later is g

    abbrev next-live : (q : TracedProcess) → live_process (after now e).system pid ≡ Some q
        → live_process (S next).system pid ≡ Some q
    next-live = awaited.next-live n k o s h run pid f e later is g

    abbrev its_events : List LwpEvent
    its_events = to_show_in t now pid e

    abbrev Before : List LwpEvent → Type 0
    Before missing = events_to_show k pid (first_truss o) s f ≡ shown pid t ++ missing

    same-listed : (missing : List LwpEvent) → Before missing → its_events ≡ [] → shown pid (T next) ≡ shown pid t
        → Stands next missing → Listed next
    same-listed = states.same-listed k o s pid n h run.of f e later is lawful legal AwaitsAt

    elsewhere-empty : ((own : ℕ) → e.actor ≢ Lwp pid own) → its_events ≡ []
    elsewhere-empty = states.elsewhere-empty k o s pid n h run.of f e later is lawful legal

    lost-next : (event : LwpEvent) (w : Since f event) → pid < now.system.made → live_process now.system pid ≡ None
        → WasKilled pid (S (w.front ++ w.entry ∷ [])) w.mid → Stands next (event ∷ [])
    lost-next = states.lost-next k o s pid n h run.of f e later is lawful legal AwaitsAt

    abbrev control : (place : ℕ) → AwaitsLook t pid place → HasControl k pid (traced_at t place).control now
    control = awaited.control n k o s h run pid f e later is g

    abbrev sole : (place : ℕ) → AwaitsLook t pid place → HasNoOtherWriter k pid now.opens
    sole = awaited.sole n k o s h run pid f e later is g

    abbrev live-at : (place : ℕ) → AwaitsLook t pid place → (p : TracedProcess) → live_process now.system pid ≡ Some p
        → live_process now.system (traced_at t place).pid ≡ Some p
    live-at = awaited.live-at n k o s h run pid f e later is g

    abbrev gone-stands : (event : LwpEvent) (missing : List LwpEvent) (place : ℕ) → AwaitsLook t pid place
        → (p : TracedProcess) → Missing f place event p missing → (ReadsIts f e → ⊥)
        → live_process now.system pid ≡ Some p
        → live_process (after now e).system pid ≡ None → (z : TracedProcess)
        → process_of (after now e).system pid ≡ Some z → z.ended ≡ Some (signal_number Kill) → Stands next missing
    gone-stands = awaited.gone-stands n k o s h run pid f e later is g

    abbrev still-missing : (event : LwpEvent) (missing : List LwpEvent) (place place2 : ℕ) (p q : TracedProcess)
        → Missing f place event p missing → (ReadsIts f e → ⊥) → marks_at (T next) place2 ≡ marks_at t place
        → KeepsMemory p q → Missing next place2 event q missing
    still-missing = awaited.still-missing n k o s h run pid f e later is g

    -- ---- an entry of others, or a turn

    module _ (foreign : exchange_of k e ≡ None) where
      same-truss : T next ≡ t
      same-truss = truss-is ∙ ap (functions_on t) foreign

      fe : IsForeign k now e
      fe = foreign-entry n k now e legal foreign

      shown-same : shown pid (T next) ≡ shown pid t
      shown-same = ap (shown pid) same-truss

      quiet : ReadsIts f e → ⊥
      quiet = states.others-quiet k o s pid n h run.of f e later is lawful legal foreign

      before-rest : (place : ℕ) → AwaitsLook (T next) pid place → AwaitsLook t pid place
      before-rest place rest = subst (λ (u : TrussState). AwaitsLook u pid place) same-truss rest

      after-rest : (place : ℕ) → AwaitsLook t pid place → AwaitsLook (T next) pid place
      after-rest place rest = subst (λ (u : TrussState). AwaitsLook u pid place) (sym same-truss) rest

      stands-on : (place : ℕ) (w : AwaitsLook t pid place) (p : TracedProcess) → live_process now.system pid ≡ Some p
          → (event : LwpEvent) → On event p → (missing : List LwpEvent) → Missing f place event p missing
          → Stands next missing
      stands-on place w p live event on missing m =
          by (others-halt n now k pid lawful (sole place w) p live (event-halts p event.id event.event on) e legal
          fe.other)
        where
          by : HaltsOn pid p (after now e).system → Stands next missing
          by (halt.goes_on q live_q halting memory) =
              let was =
              foreign-lasts n k o t now lawful e.actor e.act legal fe pid (traced_at t place).control (control place w)
              q
              live_q in
              let lasts = was.1.1 in
              standing place (after-rest place w) q (next-live q live_q) event
              (lasts.event event (subst (On event) (same_Some p was.0 (sym live ∙ was.1.0)) on)) missing
              (still-missing event missing place place p q m quiet
              (ap (λ (u : TrussState). marks_at u place) same-truss) memory)
          by (halt.killed z gone left status) = gone-stands event missing place w p m quiet live gone z left status

      others-next : ((own : ℕ) → e.actor ≢ Lwp pid own) → {missing : List LwpEvent} → Stands f missing → Before missing
          → Listed next
      others-next elsewhere (clear unmet) are =
          same-listed [] are (elsewhere-empty elsewhere) shown-same (clear (λ place rest q live_q.
          let w = before-rest place rest in
          let was =
          elsewhere-alone n k now lawful e legal fe pid (traced_at t place).control (control place w) o t elsewhere q
          (live-next q live_q) in
          unmet-alone was.0 q was.1.1 (unmet place w was.0 was.1.0)))
      others-next elsewhere (standing place w p live event on missing m) are =
          same-listed missing are (elsewhere-empty elsewhere) shown-same
          (stands-on place w p live event on missing m)
      others-next elsewhere (lost event w made_it gone was_killed) are =
          same-listed (event ∷ []) are (elsewhere-empty elsewhere) shown-same
          (lost-next event w made_it gone was_killed)

      -- ---- a turn of its own

      module _ (own : ℕ) (turn : LwpTurn) (entry_is : e ≡ record { actor = Lwp pid own; act = act.Turn turn.turned })
          (took : turn_of now.system pid own ≡ Some turn) (after_is : (after now e).system ≡ turn.system)
          (p : TracedProcess) (live : live_process now.system pid ≡ Some p) where
        later-live : (q : TracedProcess) → live_process (S next).system pid ≡ Some q
            → live_process turn.system pid ≡ Some q
        later-live q live_q = ap (λ (x : TracedSystem). live_process x pid) (sym after_is) ∙ live-next q live_q

        -- it awaits truss's look, is not watched, or stands still
        data Where : Type 0 where
          at_rest : (place : ℕ) → AwaitsLook t pid place → watches t pid ≡ true → place_of t pid ≡ Some place → Where
          nowhere : watches t pid ≡ false → ((place : ℕ) → AwaitsLook t pid place → ⊥) → Where
          stands_still : IsFrozen p → Where

        its-place : (place : ℕ) → AwaitsLook t pid place → place_of t pid ≡ Some place
        its-place place w =
            only-position (is_of pid) t.traced nobody place w.within (eq-eqb (traced_at t place).pid pid w.its)
            (λ q inside passes. elim (cases_eq q place) [
              | inl one_place ↦ one_place
              | inr differs ↦ absurd
                  (its-apart k t now files q place inside w.within differs
                  (eqb-true (traced_at t q).pid pid passes ∙ sym w.its))
            ])

        where-is : StillOld pid t now → Where
        unfolding watches
        where-is old_still = by (place_of t pid) refl
          where
            by-look : (place : ℕ) → place_of t pid ≡ Some place → place < length t.traced
                → (traced_at t place).pid ≡ pid → (traced_at t place).attached ≡ true → (b : Bool)
                → is_away true t.stage place ≡ b → Where
            by-look place at within its attached true away =
                nowhere
                (ap (watches_at t) at
                ∙ ap (λ l. (traced_at t place).attached && not (is_away l t.stage place)) g.on
                ∙ ap (λ b. (traced_at t place).attached && not b) away ∙ ap (λ b. b && false) attached)
                (λ other w.
                let both = away-looked t place g.at away in
                let one : place ≡ other = same_Some place other (sym at ∙ its-place other w) in
                w.unlooked both.1 (sym one ∙ both.0))
            by-look place at within its attached false here = elim (cases_eq (traced_at t place).old 0) [
              | inl new ↦
                  at_rest place (record {
                    within = within;
                    its = its;
                    attached = attached;
                    unlooked = here-unlooked t place g.at here;
                    new = new;
                  })
                  (ap (watches_at t) at
                  ∙ ap (λ l. (traced_at t place).attached && not (is_away l t.stage place)) g.on
                  ∙ ap (λ b. (traced_at t place).attached && not b) here ∙ ap (λ b. b && true) attached) at
              | inr old ↦
                  stands_still (old_still place within its attached (here-unlooked t place g.at here) old p live)
            ]

            by-attached : (place : ℕ) → place_of t pid ≡ Some place → place < length t.traced
                → (traced_at t place).pid ≡ pid → (b : Bool) → (traced_at t place).attached ≡ b → Where
            by-attached place at within its true attached =
                by-look place at within its attached (is_away true t.stage place) refl
            by-attached place at within its false not_attached =
                nowhere
                (ap (watches_at t) at ∙ ap (λ b. b && not (is_away t.leaving t.stage place)) not_attached)
                (λ other w.
                let one : place ≡ other = same_Some place other (sym at ∙ its-place other w) in
                false≢true (sym not_attached ∙ ap (λ i. (traced_at t i).attached) one ∙ w.attached))

            by : (x : Option ℕ) → place_of t pid ≡ x → Where
            by None at =
                nowhere (ap (watches_at t) at) (λ place w. none-some place (sym at ∙ its-place place w))
            by (Some place) at =
                let found = place-is t pid place at in
                by-attached place at found.0 found.1 (traced_at t place).attached refl

        module _ (place : ℕ) (w : AwaitsLook t pid place) (watched : watches t pid ≡ true)
            (at : place_of t pid ≡ Some place) where
          abbrev picks : Event → Bool
          picks = is_to_show_in t (Some place)

          abbrev its_picked : List LwpEvent
          its_picked = picked picks pid (events_of now (record { actor = Lwp pid own; act = act.Turn turn.turned }))

          picked-is : its_events ≡ its_picked
          picked-is =
              ap (λ b. cond {A = List LwpEvent} b (picked (is_to_show_in t (place_of t pid)) pid (events_of now e)) [])
              watched
              ∙ ap (λ (x : Option ℕ). picked (is_to_show_in t x) pid (events_of now e)) at
              ∙ ap (λ (x : Entry). picked picks pid (events_of now x)) entry_is

          fewer : (ev : Event) → is_selected o ev ≡ false → picks ev ≡ false
          fewer ev off =
              ap (λ b. b && not (is_own_fault t.options (marks_at t place) ev))
              (ap (λ (y : Options). is_selected y ev) g.options ∙ off)

          after-quiet : HasMetNothing p → AfterQuiet pid own picks turn its_picked
          after-quiet unmet =
              let set : IsSetBy o None p = g.sets place w.within w.attached p (live-at place w p live) in
              let all : TracesAll o p.control = set.0 in
              let stops = all.stops in
              let at_reached = g.reached tt in
              quiet-turn now pid own p turn (let l = lawful in l.system) at_reached.fit live took stops.directs picks
              (fewer-picked p.control (is_selected o) picks fewer (all-picked o p.control all)) unmet

          module _ (m : MeetsEvent pid own picks turn its_picked) (are : Before []) where
            abbrev event : LwpEvent
            event = record { id = own; event = m.event }

            q-live : live_process (S next).system pid ≡ Some m.process
            q-live =
                ap (λ (u : TracedState). live_process u.system pid) state-is
                ∙ ap (λ (x : TracedSystem). live_process x pid) after_is ∙ m.live

            same-picks : is_to_show o (marks_at (T next) place) m.event ≡ picks m.event
            same-picks =
                ap (λ (u : TrussState). is_to_show o (marks_at u place) m.event) same-truss
                ∙ ap (λ (y : Options). is_to_show y (marks_at t place) m.event) (sym g.options)

            listed-with : (missing : List LwpEvent) → its_events ≡ missing
                → Missing next place event m.process missing → Listed next
            listed-with missing came m_is = record {
              missing = missing;
              are = states.came-next k o s pid n h run.of f e later is lawful legal
                  ∙ ap (λ xs. events_to_show k pid (first_truss o) s f ++ xs) came
                  ∙ ap (λ xs. xs ++ missing) (are ∙ append-nil (shown pid t) ∙ sym shown-same);
              stands = standing place (after-rest place w) m.process q-live event m.has missing m_is;
            }

            meets-next : Listed next
            meets-next = by (picks m.event) refl
              where
                by : (b : Bool) → picks m.event ≡ b → Listed next
                by true chosen =
                    let came : its_events ≡ event ∷ [] =
                    picked-is ∙ m.lists ∙ ap (λ b. cond {A = List LwpEvent} b (event ∷ []) []) chosen in
                    listed-with (event ∷ []) came (due (same-picks ∙ chosen) (record {
                      front = f;
                      entry = e;
                      mid = [];
                      is = refl;
                      came = came;
                      none_before = are ∙ append-nil (shown pid t);
                      process = m.process;
                      lives = q-live;
                      unanswered = record {
                        each = λ between rest d parts read_it. nothing-before between rest d parts;
                      };
                    }) (memory-self m.process))
                by false off =
                    listed-with []
                    (picked-is ∙ m.lists ∙ ap (λ b. cond {A = List LwpEvent} b (event ∷ []) []) off)
                    (hidden (same-picks ∙ off))

          by-quiet : Before [] → AfterQuiet pid own picks turn its_picked → Listed next
          by-quiet are (goes_on empty unmet) =
              same-listed [] are (picked-is ∙ empty) shown-same
              (clear (λ place2 rest q live_q. unmet q (later-live q live_q)))
          by-quiet are (meets m) = meets-next m are

        from-clear : ((place : ℕ) → AwaitsLook t pid place → (x : TracedProcess)
            → live_process now.system pid ≡ Some x → HasMetNothing x) → Before [] → Where → Listed next
        from-clear unmet are (at_rest place w watched at) =
            by-quiet place w watched at are (after-quiet place w watched at (unmet place w p live))
        from-clear unmet are (nowhere off none_rest) =
            same-listed [] are
            (ap (λ b. cond {A = List LwpEvent} b (picked (is_to_show_in t (place_of t pid)) pid (events_of now e)) [])
            off) shown-same
            (clear (λ place rest q live_q. absurd (none_rest place (before-rest place rest))))
        from-clear unmet are (stands_still frozen) =
            absurd (none-some turn (sym (frozen-turns now.system pid p live frozen own) ∙ took))

        -- where an lwp of it stands on an event, nothing comes
        halted-empty : (x : TracedProcess) → live_process now.system pid ≡ Some x → (event : LwpEvent) → On event x
            → its_events ≡ []
        halted-empty x live_x event on =
            ap (λ b. cond {A = List LwpEvent} b (picked (is_to_show_in t (place_of t pid)) pid (events_of now e)) [])
            refl
            ∙ ap (λ (xs : List LwpEvent). cond (watches t pid) xs [])
            (ap (λ (y : Entry). picked (is_to_show_in t (place_of t pid)) pid (events_of now y)) entry_is
            ∙ halting-picks (is_to_show_in t (place_of t pid)) now pid own x turn live_x
            (event-halts x event.id event.event on) took)
            ∙ none-either (watches t pid)
          where
            none-either : (b : Bool) → cond {A = List LwpEvent} b [] [] ≡ []
            none-either true = refl
            none-either false = refl

        turn-next : StillOld pid t now → {missing : List LwpEvent} → Stands f missing → Before missing → Listed next
        turn-next old_still (clear unmet) are = from-clear unmet are (where-is old_still)
        turn-next old_still (standing place w x live_x event on missing m) are =
            same-listed missing are (halted-empty x live_x event on) shown-same
            (stands-on place w x live_x event on missing m)
        turn-next old_still (lost event w made_it gone was_killed) are = absurd (none-some p (sym gone ∙ live))

      foreign-by : StillOld pid t now → {missing : List LwpEvent} → Stands f missing → Before missing → (actor : Actor)
          (it : Act) → e ≡ record { actor = actor; act = it } → IsLegalEntry n now (record { actor = actor; act = it })
          → Listed next
      unfolding IsLegalEntry after
      foreign-by old_still st are (Controller j) (act.Call c r) same legal_here =
          others-next
          (λ own at. let it : Controller j ≡ Lwp pid own = ap (λ (x : Entry). x.actor) (sym same) ∙ at in cc) st are
      foreign-by old_still st are (Lwp acting own) (act.Turn turned) same legal_here = elim (cases_eq acting pid) [
        | inl one_pid ↦
            let turn : LwpTurn = record { system = legal_here.0; turned = turned } in
            let took : turn_of now.system pid own ≡ Some turn =
            subst (λ i. turn_of now.system i own ≡ Some turn) one_pid legal_here.1 in
            let it = turn-taken now.system pid own turn took in
            turn-next own turn (same ∙ ap (λ i. record { actor = Lwp i own; act = act.Turn turned }) one_pid) took
            (ap (λ (x : Entry). (after now x).system) same
            ∙ ap (λ (x : Option LwpTurn). (after_turn now x).system) legal_here.1) it.process it.live old_still st are
        | inr differs ↦ others-next (λ i at.
            differs (let it : Lwp acting own ≡ Lwp pid i = ap (λ (x : Entry). x.actor) (sym same) ∙ at in cc)) st are
      ]
      foreign-by old_still st are Clock (act.Tick moment) same legal_here =
          others-next
          (λ own at. let it : Clock ≡ Lwp pid own = ap (λ (x : Entry). x.actor) (sym same) ∙ at in cc) st are
      foreign-by old_still st are _ _ same legal_here = absurd legal_here

      pub still-foreign : StillOld pid t now → StillOld pid (T next) (S next)
      still-foreign old_still =
          subst (λ (u : TrussState). StillOld pid u (S next)) (sym same-truss) (λ place within its attached unlooked old
          q live.
          let was =
          foreign-lasts n k o t now lawful e.actor e.act legal fe pid (traced_at t place).control
          (subst (λ i. HasControl k i (traced_at t place).control now) its (its-control k t now files place within)) q
          (live-next q live) in
          let lasts = was.1.1 in
          lasts.frozen (old_still place within its attached unlooked old was.0 was.1.0))

      pub foreign-next : StillOld pid t now → Listed f → Listed next
      foreign-next old_still it_was = foreign-by old_still it_was.stands it_was.are e.actor e.act refl legal
