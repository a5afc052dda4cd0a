use Rattle.std.proofs.Common.{◌≡◌, ℕ, Bool, true, false, cond, Some, List, [], ◌++◌, refl, sym, subst, ap, ◌∙◌}
use Rattle.std.proofs.lemmas.Bool.{false≢true}
use Rattle.std.proofs.lemmas.List.{append-nil}
use Rattle.std.proofs.lemmas.Option.{same_Some, none-some}
use Rattle.pr_line.specs.declared.options.Options.{Options}
use Rattle.pr_model.specs.Events.{events_of}
use Rattle.pr_model.specs.Lawful.{IsLawfulSystem}
use Rattle.pr_model.specs.LwpTurns.{LwpTurn, turn_of}
use Rattle.pr_model.specs.declared.events.Act.TheVariants.{Turn}
use Rattle.pr_model.specs.declared.events.Actor.TheVariants.{Lwp}
use Rattle.pr_model.specs.declared.events.Entry.{Entry}
use Rattle.pr_model.specs.State.{TracedControl, TracedProcess, TracedState, TracedSystem, has_agent, live_process}
use Rattle.pr_num.specs.Control.{async_mode, has_flags, klc_mode}
use Rattle.pr_truss.specs.Trusses.{TrussState, traced_at}
use Rattle.pr_truss.specs.declared.stages.OpeningStep.{OpeningStep}
use Rattle.pr_truss.specs.declared.stages.OpeningStep.TheVariants as opening
use Rattle.pr_truss_laws.proofs.Machine.StillLemmas.{frozen-turns}
use Rattle.pr_truss_laws.specs.Stills.{HasSameSettings, IsFrozen, IsHalting}
use Rattle.pr_report_laws.proofs.Invariant.Tallies.{IsWhole, Tally, came-nothing, unread, with_came}
use Rattle.pr_report_laws.proofs.Invariant.OtherSteps.{accounted-all, is-watched}
use Rattle.pr_report_laws.proofs.Machine.OwnTurnLaws as own
use Rattle.pr_report_laws.proofs.Machine.OwnTurnLaws.{AfterTurn, event-picks, event-turn, halting-turn, quiet-turn}
use Rattle.pr_report_laws.proofs.Invariant.Standing.{Accounted, HasEntries, HasExits, HasFaults, HasSignals, has_read, is_named, IsAttached, IsCounted, IsSpared, Opened, Position, Prepares, Standing, apart, goes, has_event, lives, old_stops, over, stop_read}
use Rattle.pr_report_laws.proofs.Machine.TracedPoints.{PicksTraced}
use Rattle.pr_report_laws.proofs.Machine.TurnSettings.{turn-settings}
use Rattle.pr_reached.specs.Fits.{IsFitSystem}
use Rattle.pr_report_laws.proofs.Invariant.Positions.{IsTracedBy}
use Rattle.pr_report_laws.specs.Shown.{LwpEvent, picked}
use Rattle.pr_report_laws.specs.Watching.{is_away, place_of, watches}

-- What a turn of one of its own lwps makes of a process that truss has to do with.

-- nothing more came
no-more : (tally : Tally) (rest more : List LwpEvent) → more ≡ [] → tally.came ≡ rest → tally.came ++ more ≡ rest
no-more tally rest more none is =
    ap (λ (xs : List LwpEvent). tally.came ++ xs) none ∙ append-nil tally.came ∙ is

-- the traced sets and the modes
module _ (p q : TracedProcess) (same : HasSameSettings p q) where
  same-modes : q.control.modes ≡ p.control.modes
  same-modes = ap (λ (c : TracedControl). c.modes) same.control

  same-spared : IsSpared p → IsSpared q
  same-spared h = record {
    directs = ap (λ m. has_flags m async_mode) same-modes ∙ h.directs;
    spares = ap (λ m. has_flags m klc_mode) same-modes ∙ h.spares;
  }

module _ (o : Options) (pid : ℕ) (t : TrussState) (s : TracedState) (id : ℕ) (d : LwpTurn)
    (lawful : IsLawfulSystem s.system) (fit : IsFitSystem s.system) (turn : turn_of s.system pid id ≡ Some d) where
  -- a frozen process has no turn
  no-turn : {X : Type 0} (p : TracedProcess) → live_process s.system pid ≡ Some p → IsFrozen p → X
  no-turn p live frozen = absurd (none-some d (sym (frozen-turns s.system pid p live frozen id) ∙ turn))

  -- the entry of the turn
  abbrev turned_entry : Entry
  turned_entry = record { actor = Lwp pid id; act = Turn d.turned }

  -- ---- a process that is being opened

  module _ (p q : TracedProcess) (live : live_process s.system pid ≡ Some p)
      (later : live_process d.system pid ≡ Some q) where
    settings : HasSameSettings p q
    settings = turn-settings s.system pid p id d lawful live turn q later

    agent-stays : IsAttached p → has_agent q ≡ false → has_agent p ≡ false
    agent-stays h none =
        let a = halting-turn s.system pid id p d live h.halting turn in
        sym a.agent ∙ ap has_agent (same_Some a.process q (sym a.live ∙ later)) ∙ none

    turned-attached : IsAttached p → IsAttached q
    turned-attached h =
        let a = halting-turn s.system pid id p d live h.halting turn in
        record {
          spared = same-spared p q settings h.spared;
          halting = subst (λ (x : TracedProcess). IsHalting x) (same_Some a.process q (sym a.live ∙ later)) a.halting;
          stops = λ none. no-turn p live (h.waits (agent-stays h none)).frozen;
          waits = λ none. no-turn p live (h.waits (agent-stays h none)).frozen;
        }

    module _ (old : ℕ) where
      turned-counted : IsCounted p old → IsCounted q old
      turned-counted h = record {
        attached = turned-attached h.attached;
        counts = λ none. no-turn p live (h.attached.waits (agent-stays h.attached none)).frozen;
      }

      turned-signals : HasSignals o p old → HasSignals o q old
      turned-signals h = record {
        counted = turned-counted h.counted;
        signals = ap (λ (c : TracedControl). c.traced_signals) settings.control ∙ h.signals;
      }

      turned-faults : HasFaults o p old → HasFaults o q old
      turned-faults h = record {
        before = turned-signals h.before;
        faults = ap (λ (c : TracedControl). c.traced_faults) settings.control ∙ h.faults;
      }

      turned-entries : HasEntries o p old → HasEntries o q old
      turned-entries h = record {
        before = turned-faults h.before;
        entries = ap (λ (c : TracedControl). c.traced_entries) settings.control ∙ h.entries;
      }

      turned-exits : HasExits o p old → HasExits o q old
      turned-exits h = record {
        before = turned-entries h.before;
        exits = ap (λ (c : TracedControl). c.traced_exits) settings.control ∙ h.exits;
      }

      turned-halting : IsHalting p → IsHalting q
      turned-halting h =
          let a = halting-turn s.system pid id p d live h turn in
          subst (λ (x : TracedProcess). IsHalting x) (same_Some a.process q (sym a.live ∙ later)) a.halting

      turned-opened : (step : OpeningStep) → Opened o step p old → Opened o step q old
      unfolding Opened
      turned-opened opening.OpenStatus h = tt
      turned-opened opening.OpenLstatus h = tt
      turned-opened opening.OpenMemory h = tt
      turned-opened opening.ClearModes h = tt
      turned-opened opening.SetRelease h = same-spared p q settings h
      turned-opened opening.Stop h = same-spared p q settings h
      turned-opened (opening.AwaitStop until) h = (same-spared p q settings h.0, turned-halting h.1)
      turned-opened opening.ReadLwps h = turned-attached h
      turned-opened opening.TraceSignals h = turned-counted h
      turned-opened opening.TraceFaults h = turned-signals h
      turned-opened opening.TraceEntries h = turned-faults h
      turned-opened opening.TraceExits h = turned-entries h
      turned-opened opening.Follow h = turned-exits h
      turned-opened opening.Start h = turned-exits h

  module _ (u : TracedState) (now : u.system ≡ d.system) where
    pub turned-prepares : (p : TracedProcess) → live_process s.system pid ≡ Some p → Prepares o pid t s
        → Prepares o pid t u
    turned-prepares p live h = record {
      opened =
          λ place step q stage at later. turned-opened p q live
          (ap (λ (x : TracedSystem). live_process x pid) (sym now)
          ∙ later) (traced_at t place).old step (h.opened place step p stage at live);
      until = h.until;
      child =
          λ parent place step q stage at later. no-turn p live (h.child parent place step p stage at live).waits.frozen;
      new = h.new;
    }

    -- ---- a process that is watched

    module _ (Why : Type 0) (tally : Tally) (within : PicksTraced o tally.picks) where
      -- what was picked of the turn
      of_turn : List LwpEvent
      of_turn = picked tally.picks pid (events_of s turned_entry)

      live-on : (q : TracedProcess) → live_process d.system pid ≡ Some q → live_process u.system pid ≡ Some q
      live-on q later = ap (λ (x : TracedSystem). live_process x pid) now ∙ later

      -- a process that truss does not watch, and one that it watches
      sel : Bool → List LwpEvent
      sel b = picked tally.picks pid (cond b (events_of s turned_entry) [])

      nothing : (b : Bool) → b ≡ false → sel b ≡ []
      unfolding sel picked
      nothing true is = cc
      nothing false is = refl

      module _ (p : TracedProcess) (live : live_process s.system pid ≡ Some p) (place : ℕ)
          (at : place_of t pid ≡ Some place) (attached : (traced_at t place).attached ≡ true)
          (here : is_away t.leaving t.stage place ≡ false) where
        watched-sel : (b : Bool) → watches t pid ≡ b → sel b ≡ of_turn
        unfolding sel of_turn
        watched-sel true is = refl
        watched-sel false is = absurd (false≢true (sym is ∙ is-watched t pid place at attached here))

        abbrev next : List LwpEvent → Type 0
        next more = Standing Why o pid t u (with_came tally more)

        after-quiet : has_read t.stage place ≡ false → is_named t.stage place ≡ false → (traced_at t place).old ≡ 0
            → IsWhole tally → (more : List LwpEvent) → AfterTurn o tally.picks pid id d.system more → next more
        after-quiet read named none whole more (own.goes_on q later quiet traced nothing) =
            lives place q at attached here (live-on q later) traced
            (goes read named none quiet (no-more tally tally.told more nothing whole))
        after-quiet read named none whole more (own.halts q event later stands traced one) =
            lives place q at attached here (live-on q later) traced
            (has_event id event read none stands (λ is. absurd (false≢true (sym named
            ∙ is))) (ap (λ (xs : List LwpEvent). xs ++ more) whole
            ∙ ap (λ (xs : List LwpEvent). tally.told ++ xs) one))
        after-quiet read named none whole more (own.over ended nothing) =
            over (is-watched t pid place at attached here) (ap (λ (x : TracedSystem). live_process x pid) now
            ∙ ended)
            (accounted-all Why (with_came tally more) (no-more tally tally.told more nothing whole))

        position-turned : IsTracedBy o p → Position o t.stage place (traced_at t place).old p tally
            → next of_turn
        unfolding of_turn
        position-turned traced (stop_read read waits whole) = no-turn p live waits.frozen
        position-turned traced (old_stops n read counts waits whole) = no-turn p live waits.frozen
        position-turned traced (goes read named none quiet whole) =
            after-quiet read named none whole of_turn
            (quiet-turn o tally.picks within s pid id p d lawful fit live traced quiet turn)
        position-turned traced (has_event own_id event read none stands named whole) =
            let a = event-turn o s.system pid own_id id p event d live stands traced turn in
            let nothing = event-picks tally.picks s pid own_id id p event d live stands turn in
            lives place a.process at attached here (live-on a.process a.live) a.traced
            (has_event own_id event read none a.event (λ is. no-turn p live (named is).frozen)
            (no-more tally (tally.told ++ unread tally own_id event) of_turn nothing whole))

      pub turned-standing : (p : TracedProcess) → live_process s.system pid ≡ Some p → (b : Bool) → watches t pid ≡ b
          → Standing Why o pid t s tally
          → Standing Why o pid t u (with_came tally (picked tally.picks pid (cond b (events_of s turned_entry) [])))
      unfolding sel
      turned-standing p live b watched (apart not_watched a) =
          apart not_watched
          (subst (Accounted Why)
          (sym (ap (with_came tally) (nothing b (sym watched ∙ not_watched)) ∙ came-nothing tally)) a)
      turned-standing p live b watched (over on none a) = absurd (none-some p (sym none ∙ live))
      turned-standing p live b watched (lives place x at attached here living traced position) =
          let same : x ≡ p = same_Some x p (sym living ∙ live) in
          subst (λ (xs : List LwpEvent). Standing Why o pid t u (with_came tally xs))
          (sym (watched-sel x living place at attached here b watched))
          (position-turned x living place at attached here traced position)
