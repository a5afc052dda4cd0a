use Rattle.std.proofs.Common.{◌≡◌, ◌+◌, ℕ, zero, suc, Bool, true, false, Option, Some, None, IfSome, is_some, List, [], ◌∷◌, ◌++◌, length, refl, sym, ◌∙◌, ap, subst, arith, append_assoc, length-append}
use Rattle.std.proofs.lemmas.List.{append-nil}
use Rattle.std.specs.Option.{option_and_then, option_map}
use Rattle.pr_api.specs.MachineLaws.{machine-lawful}
use Rattle.pr_api.specs.Sleepers.{some_sleeper}
use Rattle.pr_api.specs.Views.{IsLawful, KernelView}
use Rattle.pr_model.proofs.HistoryLemmas.{IsLegal-push, state_after-push}
use Rattle.pr_model.specs.Legal.{IsLegalEntry, after, state_after}
use Rattle.pr_model.specs.State.{TracedState}
use Rattle.pr_model.specs.declared.events.Act.{Act}
use Rattle.pr_model.specs.declared.events.Act.TheVariants.{Call as Called, Turn, Tick}
use Rattle.pr_model.specs.declared.events.Actor.{Actor}
use Rattle.pr_model.specs.declared.events.Actor.TheVariants.{Controller, Lwp, Clock}
use Rattle.pr_model.specs.declared.events.Entry.{Entry}
use Rattle.pr_world.specs.Controllers.{is_clock_awaited}
use Rattle.pr_world.specs.Moves.{Does, IsMachines, IsShaped, Leads, Moves, after_move, entry_of, move_in}
use Rattle.pr_world.specs.Protocol.{FollowsAt, IsNextCall, controllers_after, controllers_at}
use Rattle.pr_world.specs.Runs.{CameFrom, IsFresh, IsMachineRun, LedFrom, RunsFor, StepLeads, Steps, TellsMachine, after_moves, after_next, moved_by, or_unmoved}
use Rattle.pr_world.specs.Worlds.{Pick, WorldState, actor_of, can_act, next_actor, next_pick, with_pick}
use Rattle.pr_world.specs.ControllerStates.{ControllerState}
use Rattle.pr_world.proofs.MoveLemmas.{told-clock}
use Rattle.pr_world.proofs.ProtocolLemmas.{AreNextCalls-push, Follows-push, controllers_at-count, controllers_at-push}
use Rattle.pr_world.proofs.RestLemmas.{pick-acts}
use Rattle.pr_world.proofs.ToldLemmas.{Goes, acts-goes, is-told, move-is, told-sleeper}

-- ---- a world that came from another, and moves, came from it

-- a move follows the protocol
does-next : (w v : WorldState) (actor : Actor) (act : Act) → Does w v actor act → IsShaped act
    → IsNextCall w.controllers (entry_of actor act)
unfolding Does IsShaped IsNextCall
does-next w v (Controller k) (Called c r) does shaped = (does, shaped)
does-next w v (Lwp pid id) (Turn t) does shaped = tt
does-next w v Clock (Tick n) does shaped = tt
does-next w v _ _ does shaped = absurd does

follows-next : (s : TracedState) (w v : WorldState) (actor : Actor) (act : Act) → w.kernel.clock ≡ s.system.clock
    → w.kernel.has_sleeper ≡ some_sleeper s.system → can_act w actor ≡ true → Does w v actor act
    → FollowsAt w.controllers s (entry_of actor act)
unfolding Does FollowsAt can_act
follows-next s w v (Controller k) (Called c r) clock sleeper acts does = does
follows-next s w v (Lwp pid id) (Turn t) clock sleeper acts does = tt
follows-next s w v Clock (Tick n) clock sleeper acts does =
    ap (λ (n : ℕ). is_clock_awaited n (some_sleeper s.system) w.controllers) (sym clock)
    ∙ ap (λ (b : Bool). is_clock_awaited w.kernel.clock b w.controllers) (sym sleeper) ∙ acts
follows-next s w v _ _ clock sleeper acts does = absurd does

-- over a machine
machine-on : (first w v : WorldState) (actor : Actor) (h : List Entry) (s : TracedState)
    → w.controllers ≡ controllers_at first.controllers h → IsLawful w.kernel → (m : Leads w actor v)
    → IsMachineRun first.controllers h w.kernel.machine s
    → IsMachineRun first.controllers (h ++ entry_of actor m.act ∷ []) v.kernel.machine s
machine-on first w v actor h s controllers lawful m run =
    let now = state_after s h in
    let e = entry_of actor m.act in
    let made : IsMachines (length w.controllers) e v.kernel.machine now = let P : Option TracedState → Type 0 =
    λ o. IfSome o (IsMachines (length w.controllers) e v.kernel.machine) in subst P run.state m.machine in
    let many : length w.controllers ≡ length first.controllers =
    ap length controllers ∙ controllers_at-count first.controllers h in
    let legal : IsLegalEntry (length first.controllers) now e =
    subst (λ (n : ℕ). IsLegalEntry n now e) many made.legal in
    let here : FollowsAt w.controllers now e =
    follows-next now w v actor m.act (told-clock w.kernel now lawful run.state)
    (told-sleeper w.kernel now lawful run.state) m.acts m.does in
    record {
      legal = IsLegal-push (length first.controllers) s h e run.legal legal;
      follows =
          Follows-push first.controllers s h e run.follows
          (subst (λ (cs : List ControllerState). FollowsAt cs now e) controllers here);
      state = made.state ∙ ap Some (sym (state_after-push s h e));
    }

on-machine : (o : Option TracedState) (A B : TracedState → Type 0) → ((s : TracedState) → A s → B s) → IfSome o A
    → IfSome o B
on-machine None A B f a = tt
on-machine (Some s) A B f a = f s a

led-on : (first w v : WorldState) (actor : Actor) → IsLawful w.kernel → LedFrom first w → Leads w actor v
    → LedFrom first v
led-on first w v actor lawful led m =
    let e = entry_of actor m.act in
    record {
      entries = led.entries ++ e ∷ [];
      history =
          m.history ∙ ap (λ (h : List Entry). h ++ e ∷ []) led.history
          ∙ append_assoc first.kernel.history led.entries (e ∷ []);
      places = m.places ∙ led.places;
      controllers =
          m.controllers ∙ ap (λ (cs : List ControllerState). controllers_after cs e) led.controllers
          ∙ sym (controllers_at-push first.controllers led.entries e);
      machine =
          on-machine first.kernel.machine _ _
          (λ s run. machine-on first w v actor led.entries s led.controllers lawful m run) led.machine;
    }

pub came-on : (first w v : WorldState) (actor : Actor) → IsLawful w.kernel → CameFrom first w → Moves w actor v
    → CameFrom first v
unfolding led-on
came-on first w v actor lawful came m =
    let e = entry_of actor m.leads.act in
    record {
      led = led-on first w v actor lawful came.led m.leads;
      calls = AreNextCalls-push first.controllers came.led.entries e came.calls
          (subst (λ (cs : List ControllerState). IsNextCall cs e) came.led.controllers
          (does-next w v actor m.leads.act m.leads.does m.shaped));
    }

begins : (first : WorldState) (o : Option TracedState) → o ≡ first.kernel.machine
    → IfSome o (IsMachineRun first.controllers [] first.kernel.machine)
begins first None e = tt
begins first (Some s) e = record { legal = tt; follows = tt; state = sym e }

led-first : (first : WorldState) → LedFrom first first
led-first first = record {
  entries = [];
  history = sym (append-nil first.kernel.history);
  places = refl;
  controllers = refl;
  machine = begins first first.kernel.machine refl;
}

pub came-first : (first : WorldState) → CameFrom first first
unfolding led-first
came-first first = record { led = led-first first; calls = tt }

-- who was picked changes nothing of where a world came from
led-picked : (first w : WorldState) (p : Pick) → LedFrom first w → LedFrom first (with_pick p w)
unfolding with_pick
led-picked first w p led =
    record {
      entries = led.entries;
      history = led.history;
      places = led.places;
      controllers = led.controllers;
      machine =
          led.machine;
    }

came-picked : (first w : WorldState) (p : Pick) → CameFrom first w → CameFrom first (with_pick p w)
unfolding led-picked
came-picked first w p came = record { led = led-picked first w p came.led; calls = came.calls }

pub picked-kernel : (p : Pick) (w : WorldState) → (with_pick p w).kernel ≡ w.kernel
unfolding with_pick
picked-kernel p w = refl

lawful-picked : (w : WorldState) (p : Pick) → IsLawful w.kernel → IsLawful (with_pick p w).kernel
lawful-picked w p lawful = subst IsLawful (sym (picked-kernel p w)) lawful

came-step : (first w v : WorldState) → IsLawful w.kernel → CameFrom first w → Steps w v → CameFrom first v
came-step first w v lawful came step =
    came-on first (with_pick step.pick w) v step.pick.actor (lawful-picked w step.pick lawful)
    (came-picked first w step.pick came) step.moves

led-step : (first w v : WorldState) → IsLawful w.kernel → LedFrom first w → StepLeads w v → LedFrom first v
led-step first w v lawful led step =
    led-on first (with_pick step.pick w) v step.pick.actor (lawful-picked w step.pick lawful)
    (led-picked first w step.pick led) step.leads

step-leads : (w v : WorldState) → Steps w v → StepLeads w v
step-leads w v step = record { pick = step.pick; next = step.next; leads = step.moves.leads }

-- ---- runs of any kernel

record Came (first w : WorldState) : Type 0 where
  lawful : IsLawful w.kernel
  came : CameFrom first w

runs-came : (n : ℕ) (first w : WorldState) → IsLawful first.kernel → RunsFor n first w → Came first w
unfolding RunsFor
runs-came zero first w lawful run = subst (Came first) (sym run) (record { lawful = lawful; came = came-first first })
runs-came (suc n) first w lawful run =
    let before = runs-came n first run.0 lawful run.1 in
    record { lawful = run.2.moves.leads.lawful; came = came-step first run.0 w before.lawful before.came run.2 }

pub run-came : (n : ℕ) (first w : WorldState) → IsLawful first.kernel → RunsFor n first w → CameFrom first w
run-came n first w lawful run = (runs-came n first w lawful run).came

-- each step is an entry, and the places stay
step-longer : (w v : WorldState) → StepLeads w v → length v.kernel.history ≡ length w.kernel.history + 1
step-longer w v step =
    ap length step.leads.history
    ∙ length-append (with_pick step.pick w).kernel.history (entry_of step.pick.actor step.leads.act ∷ [])
    ∙ ap (λ (k : KernelView). length k.history + 1) (picked-kernel step.pick w)

pub run-longer : (n : ℕ) (first w : WorldState) → RunsFor n first w
    → length w.kernel.history ≡ length first.kernel.history + n
unfolding RunsFor
run-longer zero first w run = let same = ap (λ (x : WorldState). length x.kernel.history) run in omega (arith, same)
run-longer (suc n) first w run =
    let before = run-longer n first run.0 run.1 in
    let more = step-longer run.0 w (step-leads run.0 w run.2) in
    omega (arith, before, more)

pub run-places : (n : ℕ) (first w : WorldState) → RunsFor n first w → w.kernel.places ≡ first.kernel.places
unfolding RunsFor
run-places zero first w run = ap (λ (x : WorldState). x.kernel.places) run
run-places (suc n) first w run =
    run.2.moves.leads.places ∙ ap (λ (k : KernelView). k.places) (picked-kernel run.2.pick run.0)
    ∙ run-places n first run.0 run.1

-- ---- runs of a machine that is told

pub signalled-lawful : (w : WorldState) → TellsMachine w → IsLawful w.kernel
signalled-lawful w t = subst IsLawful (sym t.is) (machine-lawful t.machine w.kernel.history w.kernel.places)

told-is : (w : WorldState) (t : TellsMachine w) → w.kernel.machine ≡ Some t.machine
told-is w t = is-told t.machine w t.is

-- a world that a told one moved to is told
told-on : (w v : WorldState) (actor : Actor) → TellsMachine w → Leads w actor v → TellsMachine v
told-on w v actor t m =
    let e = entry_of actor m.act in
    let made : IsMachines (length w.controllers) e v.kernel.machine t.machine = let P : Option TracedState → Type 0 =
    λ o. IfSome o (IsMachines (length w.controllers) e v.kernel.machine) in subst P (told-is w t) m.machine in
    record { machine = after t.machine e; is = m.lawful.told (after t.machine e) made.state }

told-picked : (w : WorldState) (p : Pick) → TellsMachine w → TellsMachine (with_pick p w)
unfolding with_pick
told-picked w p t = record { machine = t.machine; is = t.is }

-- a move of a told world is the function's
after_move-is : (w v : WorldState) (actor : Actor) → TellsMachine w → Leads w actor v → after_move w actor ≡ Some v
unfolding after_move
after_move-is w v actor t m =
    ap (option_and_then (λ s. move_in s w actor)) (told-is w t)
    ∙ move-is t.machine w v actor (signalled-lawful w t) (told-is w t) m

step-is : (w v : WorldState) → TellsMachine w → StepLeads w v → after_next w ≡ v
unfolding after_next
step-is w v t step =
    ap (moved_by w) step.next
    ∙ ap (or_unmoved w) (after_move-is (with_pick step.pick w) v step.pick.actor (told-picked w step.pick t) step.leads)

-- where no actor can move, nothing moves
pub stuck-next : (w : WorldState) → next_pick w ≡ None → after_next w ≡ w
unfolding after_next
stuck-next w e = ap (moved_by w) e

-- picked or not, an actor can move
pub can_act-picked : (w : WorldState) (p : Pick) (actor : Actor) → can_act (with_pick p w) actor ≡ can_act w actor
unfolding can_act with_pick
can_act-picked w p (Controller k) = refl
can_act-picked w p (Lwp pid id) = refl
can_act-picked w p Clock = refl

-- the next move of a told world
pub next-leads : (w : WorldState) (p : Pick) → TellsMachine w → next_pick w ≡ Some p → StepLeads w (after_next w)
next-leads w p t e =
    let u = with_pick p w in
    let told = told-picked w p t in
    let goes : Goes told.machine u p.actor =
    acts-goes told.machine u told.is p.actor (can_act-picked w p p.actor ∙ pick-acts w p e) in
    let step : StepLeads w goes.to = record { pick = p; next = e; leads = goes.leads } in
    subst (StepLeads w) (sym (step-is w goes.to t step)) step

step-told : (w v : WorldState) → TellsMachine w → StepLeads w v → TellsMachine v
step-told w v t step = told-on (with_pick step.pick w) v step.pick.actor (told-picked w step.pick t) step.leads

record IsRun (n : ℕ) (first w : WorldState) : Type 0 where
  told : TellsMachine w
  is : w ≡ after_moves n first

runs-function : (n : ℕ) (first w : WorldState) → TellsMachine first → RunsFor n first w → IsRun n first w
unfolding RunsFor after_moves
runs-function zero first w t run = record { told = subst TellsMachine (sym run) t; is = run }
runs-function (suc n) first w t run =
    let before = runs-function n first run.0 t run.1 in
    let step = step-leads run.0 w run.2 in
    record {
      told = step-told run.0 w before.told step;
      is =
          sym (step-is run.0 w before.told step) ∙ ap after_next before.is;
    }

pub run-function : (n : ℕ) (first w : WorldState) → TellsMachine first → RunsFor n first w → w ≡ after_moves n first
run-function n first w t run = (runs-function n first w t run).is

-- and after so many moves of the function
record Reached (first w : WorldState) : Type 0 where
  told : TellsMachine w
  led : LedFrom first w

reached-next : (first w : WorldState) (next : Option Pick) → next_pick w ≡ next → Reached first w
    → Reached first (after_next w)
reached-next first w None e r = subst (Reached first) (sym (stuck-next w e)) r
reached-next first w (Some p) e r =
    let step = next-leads w p r.told e in
    record {
      told = step-told w (after_next w) r.told step;
      led =
          led-step first w (after_next w) (signalled-lawful w r.told) r.led step;
    }

reached : (first : WorldState) (n : ℕ) → TellsMachine first → Reached first (after_moves n first)
unfolding after_moves
reached first zero t = record { told = t; led = led-first first }
reached first (suc n) t =
    reached-next first (after_moves n first) (next_pick (after_moves n first)) refl (reached first n t)

pub moves-told : (first : WorldState) (n : ℕ) → TellsMachine first → TellsMachine (after_moves n first)
moves-told first n t = (reached first n t).told

pub moves-led : (first : WorldState) (n : ℕ) → TellsMachine first → LedFrom first (after_moves n first)
moves-led first n t = (reached first n t).led

-- ---- how many entries there are

pub stuck-stays : (w : WorldState) (i k n : ℕ) → n ≡ k + i → next_pick (after_moves i w) ≡ None
    → after_moves n w ≡ after_moves i w
unfolding after_moves
stuck-stays w i zero n e stuck = let same : n ≡ i = omega arith in ap (λ (m : ℕ). after_moves m w) same
stuck-stays w i (suc k) zero e stuck = absurd (omega arith)
stuck-stays w i (suc k) (suc n) e stuck =
    let less : n ≡ k + i = omega arith in
    let before = stuck-stays w i k n less stuck in
    ap after_next before ∙ stuck-next (after_moves i w) stuck

not_next : (w : WorldState) → next_pick w ≡ None → is_some (next_actor w) ≡ false
unfolding next_actor
not_next w e = ap (λ (o : Option Pick). is_some (option_map actor_of o)) e

some_next : (w : WorldState) (p : Pick) → next_pick w ≡ Some p → is_some (next_actor w) ≡ true
unfolding next_actor
some_next w p e = ap (λ (o : Option Pick). is_some (option_map actor_of o)) e

-- While an actor can move, there are as many entries as there were moves.
counted-on : (w : WorldState) (n : ℕ) (next : Option Pick) → next_pick w ≡ next → TellsMachine w
    → (is_some (next_actor w) ≡ true → length w.kernel.history ≡ n) → is_some (next_actor (after_next w)) ≡ true
    → length (after_next w).kernel.history ≡ n + 1
counted-on w n None e t before h = let same = ap (λ (x : WorldState). is_some (next_actor x)) (stuck-next w e) in
    let no = not_next w e in cc
counted-on w n (Some p) e t before h =
    let so_far = before (some_next w p e) in
    let more = step-longer w (after_next w) (next-leads w p t e) in
    omega (arith, so_far, more)

pub moves-counted : (first : WorldState) (n : ℕ) → TellsMachine first → IsFresh first
    → is_some (next_actor (after_moves n first)) ≡ true → length (after_moves n first).kernel.history ≡ n
unfolding after_moves
moves-counted first zero t fresh h = ap length fresh.history
moves-counted first (suc n) t fresh h =
    let w = after_moves n first in
    let on = counted-on w n (next_pick w) refl (moves-told first n t) (moves-counted first n t fresh) h in
    omega (arith, on)
