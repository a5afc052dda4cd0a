use Rattle.std.proofs.Common.{◌≡◌, ◌≢◌, ◌<◌, ◌==◌, ℕ, true, false, Option, Some, None, List, length, refl, sym, subst, ◌∙◌}
use Rattle.std.proofs.lemmas.Bool.{eq-eqb, eqb-true, false≢true}
use Rattle.std.proofs.lemmas.Option.{same_Some}
use Rattle.pr_line.specs.declared.options.Options.{Options}
use Rattle.pr_model.specs.Legal.{IsLegalEntry, after}
use Rattle.pr_model.specs.LwpTurns.{LwpTurn, turn_of}
use Rattle.pr_model.specs.State.{TracedProcess, TracedState, has_agent, live_process}
use Rattle.pr_model.specs.declared.events.Entry.{Entry}
use Rattle.pr_truss.specs.Trusses.{TrussState, traced_at}
use Rattle.pr_truss.specs.declared.marks.Marks.{Marks}
use Rattle.pr_truss.specs.declared.processes.Traced.{Traced}
use Rattle.pr_truss.specs.declared.stages.AfterClosing.TheVariants.{OpenNext, GoOn}
use Rattle.pr_truss.specs.declared.stages.OpeningStep.{OpeningStep}
use Rattle.pr_truss.specs.declared.stages.OpeningStep.TheVariants as opening
use Rattle.pr_truss.specs.declared.stages.Stage.{Stage}
use Rattle.pr_truss.specs.declared.stages.Stage.TheVariants.{Spawning, OpeningControl, Opening, Polling, ReadingStatus, ReadingText, Running, Closing, Finished}
use Rattle.pr_truss_laws.proofs.Files.HeldLemmas.{at_place}
use Rattle.pr_truss_laws.specs.Exchanges.{exchange_of}
use Rattle.pr_truss_laws.specs.Stills.{IsFrozen, IsHalting}
use Rattle.pr_function_laws.proofs.Stepping.BreakpointLemmas.{foreign-entry}
use Rattle.pr_function_laws.proofs.Marks.KeptPlaces.{AtStage, Position, looks, opens, rests, runs}
use Rattle.pr_function_laws.proofs.OpenedProcesses.OpenedCalls.{IsSo, lowest}
use Rattle.pr_function_laws.proofs.OpenedProcesses.OpenedLaws.{Goes}
use Rattle.pr_function_laws.proofs.OpenedProcesses.StoodLemmas.{StoodOpening}
use Rattle.pr_function_laws.specs.Lifted.{HasControl}
use Rattle.pr_function_laws.specs.Opened.{TracesAll}
use Rattle.pr_function_hides.proofs.StoppedCopies.CopyOthers.{others-wait}
use Rattle.pr_function_hides.proofs.StoppedCopies.CopyPasses.{Passed, alone, passed, turned}
use Rattle.pr_function_hides.proofs.Copying.CopyPlaces.{CopiesSo, RestsSo, StandingSo, closes-turn, closes_so, is_about, is_early, no-turn, opens-turn, opens_so, rests-alone, rests_new, rests_old, rests_so, runs_so, standing-alone}
use Rattle.pr_function_hides.specs.Copying.{CopiesStand, HaveNoCopyGoing, IsTracedIn, NoCopyGoesIn, bare, none_goes, one_goes}
use Rattle.pr_function_hides.specs.Treating.{is_run_soon}

-- What is no call of truss leaves its processes as they stand, with their forks, vforks and execs.

-- ---- what is so by where truss has come

-- of a process that it neither opens nor closes nor runs soon
pub rests-at : (P : Position → Traced → Type 0) (ts : List Traced) (place : ℕ) → place < length ts → (stage : Stage)
    → is_about stage place ≡ false → AtStage P ts stage → P rests (at_place ts place)
rests-at P ts place within stage is w = by stage is w
  where
    apart : (b : ℕ) → (b == place) ≡ false → place ≢ b
    apart b other same = false≢true (sym other ∙ eq-eqb b place (sym same))

    by : (stage : Stage) → is_about stage place ≡ false → AtStage P ts stage → P rests (at_place ts place)
    by (Spawning program) is w = w place within
    by (OpeningControl pid) is w = w place within
    by (Opening b step) is w = w.1.0 place within (apart b is)
    by Polling is w = w place within
    by (ReadingStatus b) is w = w.1.0 place within
    by (ReadingText b l from len) is w = w.1.0 place within
    by (Running b) is w = w.1.0 place within (apart b is)
    by (Closing b OpenNext) is w = w.1.0 place within (apart b is)
    by (Closing b GoOn) is w = w.1.0 place within (apart b is)
    by Finished is w = w place within
    by _ is w = absurd w

-- of one of which a step of the opening comes next
pub opens-at : (P : Position → Traced → Type 0) (ts : List Traced) (stage : Stage) (place : ℕ) (step : OpeningStep)
    → stage ≡ Opening place step → AtStage P ts stage → P (opens step) (at_place ts place)
opens-at P ts stage place step is w = let it = subst (AtStage P ts) is w in it.1.1

module _ (n k : ℕ) (o : Options) (t : TrussState) (s : TracedState) (g : Goes (Unit {0}) k o t s) where
  abbrev So : Position → Traced → Type 0
  So = IsSo (Unit {0}) k t.options s

  pub control-at : (place : ℕ) → place < length t.traced
      → HasControl k (traced_at t place).pid (traced_at t place).control s
  control-at place within =
      let w = g.kept in
      let low = lowest (Unit {0}) k t.options s t.traced t.stage w.stage place within in
      let held = low.holds in held.its

  -- one that is run soon stands still
  pub soon-still : (place : ℕ) → is_run_soon t.stage place ≡ true → (p : TracedProcess)
      → live_process s.system (traced_at t place).pid ≡ Some p → IsFrozen p
  soon-still place soon p live = let w = g.kept in by t.stage soon w.stage
    where
      here : (b : ℕ) → (b == place) ≡ true → live_process s.system (traced_at t b).pid ≡ Some p
      here b same = subst (λ i. live_process s.system (traced_at t i).pid ≡ Some p) (sym (eqb-true b place same)) live

      by : (stage : Stage) → is_run_soon stage place ≡ true → AtStage So t.traced stage → IsFrozen p
      by (Running b) is w =
          let h : So runs (traced_at t b) = w.1.1 in
          let stands = h.stands tt in (stands.stood p (here b is)).1
      by (ReadingText b l from len) is w =
          let h : So looks (traced_at t b) = w.1.1 in
          let stands = h.stands tt in stands.stood p (here b is)
      by _ is w = absurd (false≢true is)

  -- one whose opening is past the direction to stop halts, and once it was looked at it stands still
  module _ (place : ℕ) (step : OpeningStep) (is : t.stage ≡ Opening place step) (p : TracedProcess)
      (live : live_process s.system (traced_at t place).pid ≡ Some p) where
    stood-opening : StoodOpening step (traced_at t place).old p
    stood-opening =
        let w = g.kept in
        let h : So (opens step) (traced_at t place) = opens-at So t.traced t.stage place step is w.stage in
        let stands = h.stands tt in stands.stood p live

    pub opening-halts : is_early step ≡ false → IsHalting p
    opening-halts late = by step late stood-opening
      where
        by : (step : OpeningStep) → is_early step ≡ false → StoodOpening step (traced_at t place).old p → IsHalting p
        by opening.ReadLwps late h = h.halting
        by opening.TraceSignals late h = let w = h.stopped in w.halting
        by opening.TraceFaults late h = let w = h.stopped in w.halting
        by opening.TraceEntries late h = let w = h.stopped in w.halting
        by opening.TraceExits late h = let w = h.stopped in w.halting
        by opening.Follow late h = let w = h.stopped in w.halting
        by opening.Start late h = let w = h.stopped in w.halting
        by _ late h = absurd (false≢true (sym late))

    pub opening-stands : is_early step ≡ false → step ≢ opening.ReadLwps → has_agent p ≡ false → IsFrozen p
    opening-stands late other none = by step late other stood-opening
      where
        by : (step : OpeningStep) → is_early step ≡ false → step ≢ opening.ReadLwps
            → StoodOpening step (traced_at t place).old p → IsFrozen p
        by opening.ReadLwps late other h = absurd (other refl)
        by opening.TraceSignals late other h = let w = h.stopped in w.frozen none
        by opening.TraceFaults late other h = let w = h.stopped in w.frozen none
        by opening.TraceEntries late other h = let w = h.stopped in w.frozen none
        by opening.TraceExits late other h = let w = h.stopped in w.frozen none
        by opening.Follow late other h = let w = h.stopped in w.frozen none
        by opening.Start late other h = let w = h.stopped in w.frozen none
        by _ late other h = absurd (false≢true (sym late))

  -- truss traces what rests
  pub traced-at : (place : ℕ) → place < length t.traced → is_about t.stage place ≡ false
      → IsTracedIn t.options (traced_at t place).pid s
  traced-at place within other = record {
    live = λ p live.
        let w = g.kept in
        let h : So rests (traced_at t place) = rests-at So t.traced place within t.stage other w.stage in
        let held = h.holds in
        let traces : TracesAll t.options p.control = (held.set p live).0 in traces;
  }

  -- ---- an entry

  module _ (e : Entry) (legal : IsLegalEntry n s e) (other : exchange_of k e ≡ None) (c : CopiesSo t s.system)
      (place : ℕ) (within : place < length t.traced) where
    abbrev pid : ℕ
    pid = (traced_at t place).pid

    its : HasControl k pid (traced_at t place).control s
    its = control-at place within

    -- a process of which no copy goes on, or all is lifted
    copies-later : is_about t.stage place ≡ false → (m : Marks) (p q : TracedProcess)
        → live_process s.system pid ≡ Some p → live_process (after s e).system pid ≡ Some q → CopiesStand m p
        → CopiesStand m q
    copies-later rest m p q live later stands = by stands
      where
        goes : (but : Option ℕ) → HaveNoCopyGoing but p → NoCopyGoesIn pid but (after s e)
        goes but all =
            others-wait n k t.options s e pid (traced_at t place).control but g.lawful legal other its
            (traced-at place within rest)
            (record { live = λ x there. subst (HaveNoCopyGoing but) (same_Some p x (sym live ∙ there)) all })

        by : CopiesStand m p → CopiesStand m q
        by (none_goes all) = let a = goes None all in none_goes (a.live q later)
        by (one_goes id lifted all) = let a = goes (Some id) all in one_goes id lifted (a.live q later)
        by (bare lifted none) = bare lifted none

    rests-later : is_about t.stage place ≡ false → (p q : TracedProcess) → live_process s.system pid ≡ Some p
        → live_process (after s e).system pid ≡ Some q → Passed s pid p q → RestsSo (traced_at t place) p
        → RestsSo (traced_at t place) q
    rests-later rest p q live later how (rests_new none stands) =
        rests_new none (copies-later rest (traced_at t place).marks p q live later stands)
    rests-later rest p q live later (alone a) (rests_old flags some w) =
        rests-alone p q a (traced_at t place) (rests_old flags some w)
    rests-later rest p q live later (turned own turn is at) (rests_old flags some w) =
        no-turn s.system pid p own turn g.lawful.system live is q at w.frozen

    turned-later : (p q : TracedProcess) → live_process s.system pid ≡ Some p → (own : ℕ) (turn : LwpTurn)
        → turn_of s.system pid own ≡ Some turn → live_process turn.system pid ≡ Some q → StandingSo t place p
        → live_process (after s e).system pid ≡ Some q → StandingSo t place q
    turned-later p q live own turn is at (rests_so rest w) later =
        rests_so rest (rests-later rest p q live later (turned own turn is at) w)
    turned-later p q live own turn is at (opens_so step opening_is w) later =
        opens_so step opening_is
        (opens-turn s.system pid p own turn g.lawful.system live is q at step (traced_at t place)
        (opening-halts place step opening_is p live) (opening-stands place step opening_is p live) w)
    turned-later p q live own turn is at (closes_so next closing_is w) later =
        closes_so next closing_is
        (closes-turn s.system pid p own turn g.lawful.system live is q at t.aside (traced_at t place) w)
    turned-later p q live own turn is at (runs_so soon w) later =
        no-turn s.system pid p own turn g.lawful.system live is q at (soon-still place soon p live)

    standing-later : (q : TracedProcess) → live_process (after s e).system pid ≡ Some q → StandingSo t place q
    standing-later q later =
        let was =
        passed n k o s g.lawful e.actor e.act legal (foreign-entry n k s e legal other) pid
        (traced_at t place).control its q later in
        by was.0 was.1.0 was.1.1 (c.each place within was.0 was.1.0)
      where
        by : (p : TracedProcess) → live_process s.system pid ≡ Some p → Passed s pid p q → StandingSo t place p
            → StandingSo t place q
        by p live (alone a) (rests_so rest w) =
            rests_so rest (rests-later rest p q live later (alone a) w)
        by p live (alone a) w = standing-alone p q a t place w
        by p live (turned own turn is at) w = turned-later p q live own turn is at w later

  pub foreign-copies : (e : Entry) → IsLegalEntry n s e → exchange_of k e ≡ None → CopiesSo t s.system
      → CopiesSo t (after s e).system
  foreign-copies e legal other c = record {
    clean = c.clean;
    fits = c.fits;
    each = λ place within q later. standing-later e legal other c place within q later;
  }
