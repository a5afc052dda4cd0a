-- The run of a scenario: its first world, and what the driver says of the last.
use Rattle.std.proofs.Common.{◌≡◌, ◌≤◌, ◌-◌, ℕ, Bool, true, false, List, [], Option, Some, None, Result, Ok, Err, IfOk, OnErr, length, refl, sym, ◌∙◌, ap, subst, arith}
use Rattle.pr_api.specs.Views.{KernelView, kernel_of}
use Rattle.pr_kern.specs.Kernels.{Kernel}
use Rattle.pr_model.specs.State.{TracedState}
use Rattle.pr_model.specs.declared.events.Actor.{Actor}
use Rattle.pr_model.specs.declared.events.Entry.{Entry}
use Rattle.pr_num.specs.declared.memory.NoMemory.{NoMemory}
use Rattle.pr_run.specs.OneRuns.{end_of_run}
use Rattle.pr_run_laws.specs.ScenarioRuns.{controllers_of, first_state_of, first_world, run_of}
use Rattle.pr_run_laws.proofs.KeptRuns.KeptLemmas.{first-fresh, first-told}
use Rattle.pr_scen.specs.Scenarios.{Scenario}
use Rattle.pr_world.proofs.RunLemmas.{run-function, run-longer, run-places}
use Rattle.pr_world.specs.Runs.{IsFresh, StoppedIn, TellsMachine, after_moves}
use Rattle.pr_world.specs.Worlds.{WorldOf, WorldState, end_of, ended_as, goes_on, seen}
use Rattle.pr_world.specs.ControllerStates.{ControllerState}
use Rattle.pr_world.specs.declared.ends.End.{End}
use Rattle.pr_commands.specs.Made.{IsWorldsWay, kern_view}

pub first_world-places : (s : Scenario) → (first_world s).kernel.places ≡ s.turns
unfolding first_world kernel_of
first_world-places s = refl

-- ---- the first world

-- A world that is made of the parts of a scenario's first world is seen as that.
made : TracedState → List Entry → ℕ → List ControllerState → List Actor → Option Actor → WorldState
made s h n controllers schedule last =
    record { kernel = kernel_of s h n; controllers = controllers; schedule = schedule; last = last }

pub first-seen : (s : Scenario) (w : WorldOf Kernel) → w.kernel.state ≡ first_state_of s → w.kernel.history ≡ []
    → w.kernel.places ≡ s.turns → w.controllers ≡ controllers_of s → w.schedule ≡ s.schedule
    → w.last ≡ None → seen kern_view w ≡ first_world s
unfolding first_world made
first-seen s w state history places controllers schedule last =
    ap (λ x. made x w.kernel.history w.kernel.places w.controllers w.schedule w.last) state
    ∙ ap (λ x. made (first_state_of s) x w.kernel.places w.controllers w.schedule w.last) history
    ∙ ap (λ x. made (first_state_of s) [] x w.controllers w.schedule w.last) places
    ∙ ap (λ x. made (first_state_of s) [] s.turns x w.schedule w.last) controllers
    ∙ ap (λ x. made (first_state_of s) [] s.turns (controllers_of s) x w.last) schedule
    ∙ ap (λ x. made (first_state_of s) [] s.turns (controllers_of s) s.schedule x) last

-- The world that is made of a kernel and the parts of a scenario is its first world.
pub first-made : (r : Result (WorldOf Kernel) NoMemory) (s : Scenario) (k : Kernel) (controllers : List ControllerState)
    (schedule : List Actor) → k.state ≡ first_state_of s → k.history ≡ [] → k.places ≡ s.turns
    → controllers ≡ controllers_of s → schedule ≡ s.schedule
    → IfOk r
    (λ world. world
    ≡ record { kernel = k; controllers = controllers; schedule = schedule; last = None; made = false })
    → IfOk r (λ world. seen kern_view world ≡ first_world s)
first-made (Ok w) s k controllers schedule state history places all acts is =
    first-seen s w
    (ap (λ (x : WorldOf Kernel). x.kernel.state) is ∙ state)
    (ap (λ (x : WorldOf Kernel). x.kernel.history) is ∙ history)
    (ap (λ (x : WorldOf Kernel). x.kernel.places) is ∙ places)
    (ap (λ (x : WorldOf Kernel). x.controllers) is ∙ all) (ap (λ (x : WorldOf Kernel). x.schedule) is ∙ acts)
    (ap (λ (x : WorldOf Kernel). x.last) is)
first-made (Err e) s k controllers schedule state history places all acts is = tt

pub seen-told : (s : Scenario) (w : WorldState) → w ≡ first_world s → TellsMachine w
seen-told s w is = subst TellsMachine (sym is) (first-told s)

pub seen-fresh : (s : Scenario) (w : WorldState) → w ≡ first_world s → IsFresh w
seen-fresh s w is = subst IsFresh (sym is) (first-fresh s)

-- The moves of the first world are the run.
pub run-is : (s : Scenario) (w : WorldState) → w ≡ first_world s → after_moves w.kernel.places w ≡ run_of s
run-is s w is =
    ap (λ (x : WorldState). after_moves x.kernel.places x) is
    ∙ ap (λ (n : ℕ). after_moves n (first_world s)) (first_world-places s)

-- ---- the end of a run

pub ended-is : (w : WorldState) (end : End) → ended_as w ≡ Some end → end ≡ end_of w
unfolding ended_as
ended-is w end is = of (goes_on w) refl
  where
    of : (b : Bool) → goes_on w ≡ b → end ≡ end_of w
    of true goes = cc
    of false goes = cc

pub last-is : (first w : WorldState) → TellsMachine first → IsFresh first → (TellsMachine first → w ≡ end_of_run first)
    → w ≡ after_moves first.kernel.places first
last-is first w told fresh is =
    let none = ap length fresh.history in
    is told ∙ ap
    (λ (n : ℕ). after_moves n first) {x = first.kernel.places - length first.kernel.history}
    {y = first.kernel.places} (omega (arith, none))

pub run-stopped : (r : Result End NoMemory) (first w : WorldState) → TellsMachine first → OnErr r (StoppedIn first w)
    → length w.kernel.history ≤ w.kernel.places → OnErr r (IsWorldsWay first w.kernel.history)
run-stopped (Ok end) first w told stopped within = tt
run-stopped (Err e) first w told s within =
    let history : w.kernel.history ≡ s.world.kernel.history = ap (λ (k : KernelView). k.history) s.kernel in
    let places : w.kernel.places ≡ first.kernel.places =
    ap (λ (k : KernelView). k.places) s.kernel ∙ run-places s.made first s.world s.runs in
    let long = ap length history ∙ run-longer s.made first s.world s.runs in
    record {
      moves = s.made;
      within = omega (arith, long, places, within);
      is = history ∙ ap (λ (x : WorldState). x.kernel.history) (run-function s.made first s.world told s.runs);
    }

-- The last world of a run is on its way.
pub last-way : (first w : WorldState) → w ≡ after_moves first.kernel.places first → IsWorldsWay first w.kernel.history
last-way first w is =
    record { moves = first.kernel.places; within = omega arith; is = ap (λ (x : WorldState). x.kernel.history) is }
