-- A run that was made in part goes on to an end: what is so of each world to which more moves lead, and of the last.
use Rattle.std.proofs.Common.{◌≡◌, ◌≤◌, ◌+◌, ◌-◌, ◌++◌, ◌∙◌, ℕ, zero, suc, false, List, [], ◌∷◌, Option, Some, None, length, refl, sym, ap, subst, arith, append_assoc, length-append}
use Rattle.std.proofs.lemmas.List.{append-nil}
use Rattle.std.proofs.lemmas.Option.{none-some, same_Some}
use Rattle.pr_api.proofs.ShapeLemmas.{machine-shaped}
use Rattle.pr_api.specs.Views.{IsLawful, KernelView, kernel_of}
use Rattle.pr_lawful.proofs.LawfulStates.HistoryLemmas.{history-state}
use Rattle.pr_lawful.proofs.LawfulStates.StartLemmas.{first-lawful}
use Rattle.pr_model.specs.Lawful.{IsLawful as IsLawfulState, IsLawfulSystem}
use Rattle.pr_model.specs.Legal.{IsLegalEntry, after}
use Rattle.pr_model.specs.State.{TracedState}
use Rattle.pr_model.specs.declared.events.Act.{Act}
use Rattle.pr_model.specs.declared.events.Act.TheVariants.{Call, Turn, Tick}
use Rattle.pr_model.specs.declared.events.Actor.{Actor}
use Rattle.pr_model.specs.declared.events.Actor.TheVariants.{Controller, Lwp, Clock}
use Rattle.pr_model.specs.declared.events.Entry.{Entry}
use Rattle.pr_run.proofs.OneLemmas.{full-ends, stuck-ends}
use Rattle.pr_run_laws.proofs.KeptRuns.KeptLemmas.{first-told}
use Rattle.pr_run_laws.specs.Prefixes.{IsPrefix}
use Rattle.pr_run_laws.specs.ScenarioRanges.{IsScenarioInRange}
use Rattle.pr_run_laws.specs.ScenarioRuns.{controllers_of, files_of, first_state_of, first_world}
use Rattle.pr_scen.specs.Scenarios.{Scenario}
use Rattle.pr_commands.proofs.RunLemmas.{first_world-places}
use Rattle.pr_commands.specs.Answers.{IsEndOf}
use Rattle.pr_commands.specs.Histories.{IsLedTo}
use Rattle.pr_world.proofs.RunLemmas.{came-first, came-on, moves-told, next-leads, picked-kernel, signalled-lawful, stuck-next}
use Rattle.pr_world.proofs.ToldLemmas.{is-told, told-at}
use Rattle.pr_world.specs.Moves.{IsMachines, IsShaped, Moves, entry_of}
use Rattle.pr_world.specs.Runs.{CameFrom, IsMachineRun, TellsMachine, after_moves, after_next}
use Rattle.pr_world.specs.Worlds.{Pick, WorldState, goes_on, next_pick, with_pick}

pub led-places : (s : Scenario) (w : WorldState) → CameFrom (first_world s) w → w.kernel.places ≡ s.turns
led-places s w came = came.led.places ∙ first_world-places s

-- ---- one move more

-- a reply of the machine has the shape of its call
entry-shaped : (n : ℕ) (m : TracedState) (actor : Actor) (it : Act) → IsLawfulSystem m.system
    → IsLegalEntry n m (entry_of actor it) → IsShaped it
unfolding IsLegalEntry IsShaped
entry-shaped n m (Controller k) (Call c r) lawful legal =
    machine-shaped m k c (record { state = legal.1.0; reply = r }) lawful legal.1.1
entry-shaped n m (Lwp pid id) (Turn t) lawful legal = tt
entry-shaped n m Clock (Tick moment) lawful legal = tt
entry-shaped n m _ _ lawful legal = absurd legal

picked-came : (first w : WorldState) (p : Pick) → CameFrom first w → CameFrom first (with_pick p w)
unfolding with_pick
picked-came first w p came = record {
  led = record {
    entries = came.led.entries;
    history = came.led.history;
    places = came.led.places;
    controllers = came.led.controllers;
    machine = came.led.machine;
  };
  calls = came.calls;
}

-- the machine of a world, and that of its first one
run-of : (s : Scenario) (w : WorldState) (came : CameFrom (first_world s) w)
    → IsMachineRun (controllers_of s) came.led.entries w.kernel.machine (first_state_of s)
unfolding first_world kernel_of
run-of s w came = came.led.machine

machine-state : (s : Scenario) (w : WorldState) → IsScenarioInRange s → (t : TellsMachine w)
    → CameFrom (first_world s) w
    → IsLawfulState t.machine
machine-state s w range t came =
    let run = run-of s w came in
    let first = first-lawful s.programs (files_of s) s.spawns range.start in
    let later = history-state (length (controllers_of s)) (first_state_of s) came.led.entries first run.legal in
    subst IsLawfulState (same_Some _ t.machine (sym run.state ∙ is-told t.machine w t.is)) later

-- How a world stands after so many further moves, or as many as there could be: while an actor can move, each was made.
record Onward (s : Scenario) (w : WorldState) (n : ℕ) (v : WorldState) : Type 0 where
  told : TellsMachine v
  came : CameFrom (first_world s) v
  begins : IsPrefix w.kernel.history v.kernel.history
  most : length v.kernel.history ≤ length w.kernel.history + n
  moving : (p : Pick) → next_pick v ≡ Some p → length v.kernel.history ≡ length w.kernel.history + n

module _ (s : Scenario) (range : IsScenarioInRange s) (w : WorldState) where
  onward-next : (n : ℕ) (v : WorldState) → Onward s w n v → (next : Option Pick) → next_pick v ≡ next
      → Onward s w (suc n) (after_next v)
  onward-next n v on None rest = subst (Onward s w (suc n)) (sym (stuck-next v rest)) (record {
    told = on.told;
    came = on.came;
    begins = on.begins;
    most = omega (arith, on.most);
    moving = λ p next. absurd (none-some p (sym rest ∙ next));
  })
  onward-next n v on (Some p) next =
      let step = next-leads v p on.told next in
      let u = with_pick step.pick v in
      let e = entry_of step.pick.actor step.leads.act in
      let now = on.told.machine in
      let kernel = picked-kernel step.pick v in
      let machine = ap (λ (k : KernelView). k.machine) kernel ∙ is-told now v on.told.is in
      let made : IsMachines (length u.controllers) e (after_next v).kernel.machine now =
      told-at u.kernel.machine _ now machine step.leads.machine in
      let lawful = (machine-state s v range on.told on.came).system in
      let shaped = entry-shaped (length u.controllers) now step.pick.actor step.leads.act lawful made.legal in
      let moves : Moves u step.pick.actor (after_next v) = record { leads = step.leads; shaped = shaped } in
      let history : (after_next v).kernel.history ≡ v.kernel.history ++ e ∷ [] =
      step.leads.history ∙ ap (λ (k : KernelView). k.history ++ e ∷ []) kernel in
      let more = ap length history ∙ length-append v.kernel.history (e ∷ []) in
      let before = on.moving p next in
      record {
        told = record { machine = after now e; is = step.leads.lawful.told (after now e) made.state };
        came = came-on (first_world s) u (after_next v) step.pick.actor
            (subst IsLawful (sym kernel) (signalled-lawful v on.told)) (picked-came (first_world s) v step.pick on.came)
            moves;
        begins = record {
          more = on.begins.more ++ e ∷ [];
          is = history ∙ (ap (λ (h : List Entry). h ++ e ∷ []) on.begins.is
              ∙ append_assoc w.kernel.history on.begins.more (e ∷ []));
        };
        most = omega (arith, more, before);
        moving = λ q again. omega (arith, more, before);
      }

  onward : (n : ℕ) → TellsMachine w → CameFrom (first_world s) w → Onward s w n (after_moves n w)
  unfolding after_moves
  onward zero told came = record {
    told = told;
    came = came;
    begins = record { more = []; is = sym (append-nil w.kernel.history) };
    most = omega arith;
    moving = λ p next. omega arith;
  }
  onward (suc n) told came =
      onward-next n (after_moves n w) (onward n told came) (next_pick (after_moves n w)) refl

-- ---- how long a run is

first-none : (s : Scenario) → (first_world s).kernel.history ≡ []
unfolding first_world kernel_of
first-none s = refl

-- a move adds an entry at most
next-short : (v : WorldState) (n : ℕ) → TellsMachine v → length v.kernel.history ≤ n → (next : Option Pick)
    → next_pick v ≡ next → length (after_next v).kernel.history ≤ suc n
next-short v n told before None rest =
    subst (λ (w : WorldState). length w.kernel.history ≤ suc n) (sym (stuck-next v rest)) (omega (arith, before))
next-short v n told before (Some p) next =
    let step = next-leads v p told next in
    let e = entry_of step.pick.actor step.leads.act in
    let history : (after_next v).kernel.history ≡ v.kernel.history ++ e ∷ [] =
    step.leads.history ∙ ap (λ (k : KernelView). k.history ++ e ∷ []) (picked-kernel step.pick v) in
    let more = ap length history ∙ length-append v.kernel.history (e ∷ []) in
    omega (arith, more, before)

-- and so many moves add as many at most
pub run-short : (s : Scenario) (n : ℕ) → length (after_moves n (first_world s)).kernel.history ≤ n
unfolding after_moves
run-short s zero = let none = ap length (first-none s) in omega (arith, none)
run-short s (suc n) =
    let v = after_moves n (first_world s) in
    next-short v n (moves-told (first_world s) n (first-told s)) (run-short s n) (next_pick v) refl

-- ---- the end

-- A world in which a run of the scenario may end, whose history begins with this one.
pub record HasEnd (s : Scenario) (history : List Entry) : Type 0 where
  pub world : WorldState
  pub ends : IsEndOf s world
  pub begins : IsPrefix history world.kernel.history

over-after : (s : Scenario) (w v : WorldState) (n : ℕ) → n ≡ s.turns - length w.kernel.history → Onward s w n v
    → goes_on v ≡ false
over-after s w v n is on = of (next_pick v) refl
  where
    of : (next : Option Pick) → next_pick v ≡ next → goes_on v ≡ false
    of None rest = stuck-ends v rest
    of (Some p) next = full-ends v (omega (arith, is, on.moving p next, led-places s v on.came))

told-end : (s : Scenario) (w : WorldState) → IsScenarioInRange s → TellsMachine w → CameFrom (first_world s) w
    → length w.kernel.history ≤ s.turns → HasEnd s w.kernel.history
told-end s w range told came within =
    let n = s.turns - length w.kernel.history in
    let v = after_moves n w in
    let on = onward s range w n told came in
    record {
      world = v;
      ends = record {
        came = on.came;
        told = on.told;
        over = over-after s w v n refl on;
        within = omega (arith, within, on.most, led-places s v on.came);
      };
      begins = on.begins;
    }

-- a run that threads made in part may go on to an end
pub led-end : (s : Scenario) (history : List Entry) → IsScenarioInRange s → IsLedTo s history → HasEnd s history
led-end s history range led =
    let few : length led.world.kernel.history ≤ s.turns = omega (arith, led.within, ap length led.is) in
    subst (HasEnd s) (sym led.is) (told-end s led.world range led.told led.came few)

-- and one of which nothing was made yet
pub first-end : (s : Scenario) → IsScenarioInRange s → HasEnd s []
first-end s range =
    let none = first-none s in
    let few : length (first_world s).kernel.history ≤ s.turns = omega (arith, ap length none) in
    subst (HasEnd s) none (told-end s (first_world s) range (first-told s) (came-first (first_world s)) few)
