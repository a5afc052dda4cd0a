use Rattle.std.proofs.Common.{◌≡◌, ◌⊎◌, ◌||◌, ◌<◌, ◌++◌, ℕ, Bool, true, false, Some, List, ◌∷◌, length}
use Rattle.std.proofs.Common.{refl, sym, ap, ◌∙◌, inl, inr}
use Rattle.std.proofs.lemmas.Bool.{cases_Bool, false≢true}
use Rattle.std.proofs.lemmas.Option.{same_Some}
use Rattle.std.specs.List.{slice_get}
use Rattle.pr_line.specs.declared.options.Options.{Options}
use Rattle.pr_model.proofs.TurnLemmas.{turn-taken}
use Rattle.pr_model.specs.Legal.{state_after}
use Rattle.pr_model.specs.LwpTurns.{LwpTurn, is_held_back, turn_of}
use Rattle.pr_model.specs.State.{TracedLwp, TracedProcess, TracedState, TracedSystem, live_process, lwp_of}
use Rattle.pr_model.specs.Stops.{has_event_stop}
use Rattle.pr_model.specs.declared.events.Act.TheVariants as act
use Rattle.pr_model.specs.declared.events.Actor.TheVariants.{Lwp}
use Rattle.pr_model.specs.declared.events.Entry.{Entry}
use Rattle.pr_model.specs.declared.events.Turned.{Turned}
use Rattle.pr_probe_laws.proofs.Hiding.HiddenFacts.{legal-turn}
use Rattle.pr_report_laws.proofs.Machine.OwnTurnLaws.{event-halts}
use Rattle.pr_report_laws.specs.Watching.{is_away}
use Rattle.pr_truss.specs.Asides.{marks_at}
use Rattle.pr_truss.specs.Marks.{has_function}
use Rattle.pr_truss.specs.Trusses.{TrussState, traced_at}
use Rattle.pr_truss_laws.specs.Stills.{IsFrozen, IsHalting, stands_still}
use Rattle.pr_function_laws.proofs.LeavingProcesses.LeavingCourse.{entry-legal, options-at}
use Rattle.pr_function_laws.proofs.LeavingProcesses.LeavingHolds.{here-unlooked, has-one-event-each}
use Rattle.pr_function_laws.specs.ReachedRuns.{IsReachedFunctionRun}
use Rattle.pr_function_laws.specs.Opened.{functions_at}
use Rattle.pr_function_hides.proofs.PlantedFetches.BreakpointBytes.{breakpoint-fetched}
use Rattle.pr_function_hides.proofs.PlantedFetches.ForeignEntries.{AllHold, patchable-at}
use Rattle.pr_function_hides.proofs.PlantedFetches.LeavingBreakpoints as Leaving
use Rattle.pr_function_hides.proofs.PlantedFetches.LeavingBreakpoints.{goes_calm, has_left}
use Rattle.pr_function_hides.proofs.PlantedFetches.StandingBreakpoints as Standing
use Rattle.pr_function_hides.proofs.PlantedFetches.UnattachedBare.{each-none}
use Rattle.pr_function_hides.specs.Copying.{IsEmpty}
use Rattle.pr_function_hides.specs.FunctionHiders.{ArePatchable}
use Rattle.pr_function_hides.specs.ListedCalls.{FetchesBreakpoints}
use Rattle.pr_function_hides.specs.PlantedBreakpoints.{LeavesPlanted}

-- What is fetched at a function that truss has marked as planted is a breakpoint, as long as programs leave these
-- functions alone: the lwp that fetches it has a turn, so its process neither stands still nor will stop, and the
-- breakpoint stands.

-- ---- who has a turn

moves-then : (a b c : Bool) → (a || (b || c)) ≡ false → (a || b) ≡ false
moves-then true b c free = free
moves-then false true c free = free
moves-then false false c free = refl

module _ (s : TracedSystem) (pid id : ℕ) (turn : LwpTurn) (took : turn_of s pid id ≡ Some turn) (p : TracedProcess)
    (l : TracedLwp) (live : live_process s pid ≡ Some p) (there : lwp_of p id ≡ Some l) where
  -- it does not stand still
  turn-moves : stands_still l ≡ false
  unfolding is_held_back
  turn-moves =
      let it = turn-taken s pid id turn took in
      let same : it.process ≡ p = same_Some it.process p (sym it.live ∙ live) in
      let its : it.lwp ≡ l =
      same_Some it.lwp l (sym it.there ∙ ap (λ (x : TracedProcess). lwp_of x id) same ∙ there) in
      ap stands_still (sym its)
      ∙ moves-then (has_event_stop it.lwp) it.lwp.suspended _ it.free

  turn-goes : l.control.directed ≡ false → IsHalting p → ⊥
  turn-goes going halts =
      false≢true (sym (ap (λ b. b || l.control.directed) turn-moves ∙ going) ∙ halts.each id l there)

  turn-thaws : IsFrozen p → ⊥
  turn-thaws frozen = false≢true (sym turn-moves ∙ frozen.each id l there)

-- ---- a history

module _ (n k : ℕ) (o : Options) (s : TracedState) (h : List Entry) (run : IsReachedFunctionRun n k o s h)
    (fit : ArePatchable o) (spared : LeavesPlanted k o s h) where
  abbrev T : List Entry → TrussState
  T front = functions_at k o front

  abbrev S : List Entry → TracedState
  S front = state_after s front

  module _ (front later : List Entry) (q id : ℕ) (turned : Turned) (p : TracedProcess) (l : TracedLwp)
      (is : h ≡ front ++ record { actor = Lwp (traced_at (T front) q).pid id; act = act.Turn turned } ∷ later)
      (within : q < length (T front).traced)
      (live : live_process (S front).system (traced_at (T front) q).pid ≡ Some p) (there : lwp_of p id ≡ Some l)
      (going : l.control.directed ≡ false) where
    abbrev pid : ℕ
    pid = (traced_at (T front) q).pid

    abbrev its : Entry
    its = record { actor = Lwp pid id; act = act.Turn turned }

    taken : (next : TracedSystem) × (turn_of (S front).system pid id
        ≡ Some (record { system = next; turned = turned }))
    taken =
        legal-turn n (S front) pid id turned
        (entry-legal (Unit {0}) n k o s h run.of (λ r. run.reached) (λ r. run.bytes) front its later is)

    not-halting : IsHalting p → ⊥
    not-halting =
        turn-goes (S front).system pid id (record { system = taken.0; turned = turned }) taken.1 p l live there going

    not-frozen : IsFrozen p → ⊥
    not-frozen =
        turn-thaws (S front).system pid id (record { system = taken.0; turned = turned }) taken.1 p l live there

    -- a function is marked as planted there
    module _ (i : ℕ) (planted : has_function (marks_at (T front) q).planted i ≡ true) where
      not-empty : IsEmpty (marks_at (T front) q).planted → ⊥
      not-empty none = false≢true (sym (none i) ∙ planted)

      standing : AllHold o (marks_at (T front) q) p
      standing = by (Leaving.course-of n k o s h run fit spared front (its ∷ later) is)
        where
          of-calm : Standing.Waits n k o s h run fit spared front pid
              ⊎ AllHold o (marks_at (T front) q) p → AllHold o (marks_at (T front) q) p
          of-calm (inl w) =
              let pending = w.pending in
              let it = pending.is in
              absurd (not-halting
              (event-halts p w.id w.event (it.has p (ap (live_process (S front).system) w.own ∙ live))))
          of-calm (inr hold) = hold

          of-left : IsHalting p ⊎ AllHold o (marks_at (T front) q) p → AllHold o (marks_at (T front) q) p
          of-left (inl halts) = absurd (not-halting halts)
          of-left (inr hold) = hold

          by : Leaving.CourseOf n k o s h run fit spared front
              → AllHold o (marks_at (T front) q) p
          by (goes_calm calm) =
              of-calm (Standing.stand-at n k o s h run fit spared front (its ∷ later) is calm q
              within p live)
          by (has_left w) = elim (cases_Bool (traced_at (T front) q).attached) [
            | inl attached ↦
                elim (cases_Bool (is_away true (T front).stage q)) [
                  | inl away ↦
                      absurd (not-frozen
                      (let each = has-one-event-each n k o s h run in
                      let none = w.none in
                      each.looked_last front (its ∷ later) q p is none.on within attached away live))
                  | inr here ↦
                      of-left (w.fine q within attached
                      (let none = w.none in here-unlooked (T front) q none.at here) p live)
                ]
            | inr loose ↦
                absurd (not-empty (each-none (T front) w.none q within loose))
          ]

  pub fetches_breakpoints : FetchesBreakpoints k o s h
  fetches_breakpoints = record {
    each = λ front later q id i turned p l f xs is within live there user going named at planted fetch.
        let its_named : slice_get o.functions i ≡ Some f =
        ap (λ (x : Options). slice_get x.functions i)
        (sym (options-at (Unit {0}) n k o s h run.of (λ r. run.reached) (λ r. run.bytes) front
        (record { actor = Lwp (traced_at (T front) q).pid id; act = act.Turn turned } ∷ later) is)) ∙ named in
        breakpoint-fetched f (patchable-at o fit i f its_named) p
        (standing front later q id turned p l is within live there going i planted i f its_named planted) xs fetch;
  }
