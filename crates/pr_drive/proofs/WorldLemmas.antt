use Rattle.std.proofs.Common.{◌≡◌, ◌<◌, ◌++◌, ℕ, List, [], ◌∷◌, Option, Some, length, refl, sym, ap, subst, ◌∙◌}
use Rattle.std.proofs.lemmas.Option.{same_Some}
use Rattle.pr_api.specs.Views.{kernel_of}
use Rattle.pr_model.specs.Calls.{Answer, answer_to}
use Rattle.pr_model.specs.Legal.{IsLegalEntry, after}
use Rattle.pr_model.specs.LwpTurns.{LwpTurn}
use Rattle.pr_model.specs.State.{TracedState}
use Rattle.pr_model.specs.declared.calls.Call.{Call}
use Rattle.pr_model.specs.declared.events.Act.{Act}
use Rattle.pr_model.specs.declared.events.Act.TheVariants.{Call as Called, Turn, Tick}
use Rattle.pr_model.specs.declared.events.Actor.{Actor}
use Rattle.pr_model.specs.declared.events.Actor.TheVariants.{Controller, Lwp, Clock}
use Rattle.pr_model.specs.declared.events.Entry.{Entry}
use Rattle.pr_world.proofs.RunLemmas.{next-leads}
use Rattle.pr_world.specs.ControllerStates.{ControllerState}
use Rattle.pr_world.specs.Moves.{Does, IsMachines, Leads, entry_of}
use Rattle.pr_world.specs.Protocol.{controllers_after}
use Rattle.pr_world.specs.Runs.{TellsMachine, after_next}
use Rattle.pr_world.specs.Worlds.{Pick, WorldState, next_pick, with_pick}
use Rattle.pr_tool_laws.specs.OwnCalls.{IsOwnCall}
use Rattle.pr_drive.specs.Going.{SeatsState, after_entry}

-- A move of a run whose world has the kernel of a session, with these controllers.

-- its world, with what is left of its schedule, and who moved last
abbrev pub world_with : List ControllerState → SeatsState → List Actor → Option Actor → WorldState
world_with cs s schedule last = record {
  kernel = kernel_of s.kernel.state s.kernel.history s.kernel.places;
  controllers = cs;
  schedule = schedule;
  last = last;
}

-- what an actor does in its move is what the machine does
same-act : (n : ℕ) (w v : WorldState) (t : TracedState) (actor : Actor) (act act' : Act) → n ≡ length w.controllers
    → IsLegalEntry n t (record { actor = actor; act = act })
    → IsOwnCall w.controllers (record { actor = actor; act = act })
    → IsLegalEntry n t (record { actor = actor; act = act' }) → Does w v actor act' → act' ≡ act
unfolding IsLegalEntry IsOwnCall Does
same-act n w v t (Controller k) (Called c r) (Called d q) count legal own other does =
    let call : d ≡ c = same_Some d c (sym does ∙ own (subst (λ (m : ℕ). k < m) count legal.0)) in
    let here : answer_to t k c ≡ Some (record { state = other.1.0; reply = q }) = ap (answer_to t k) (sym call)
    ∙ other.1.1 in
    let answer : ◌≡◌ {A = Answer} (record { state = other.1.0; reply = q }) (record { state = legal.1.0; reply = r }) =
    same_Some _ _ (sym here ∙ legal.1.1) in
    ap (λ (x : Call). Called x q) call ∙ ap (λ (a : Answer). Called c a.reply) answer
same-act n w v t (Controller k) (Called c r) (Turn did) count legal own other does = absurd other
same-act n w v t (Controller k) (Called c r) (Tick m) count legal own other does = absurd other
same-act n w v t (Lwp p l) (Turn did) (Turn did') count legal own other does =
    let turn : ◌≡◌ {A = LwpTurn} (record { system = other.0; turned = did' })
    (record { system = legal.0; turned = did }) = same_Some _ _ (sym other.1 ∙ legal.1) in
    ap (λ (x : LwpTurn). Turn x.turned) turn
same-act n w v t (Lwp p l) (Turn did) (Called c r) count legal own other does = absurd other
same-act n w v t (Lwp p l) (Turn did) (Tick m) count legal own other does = absurd other
same-act n w v t Clock (Tick m) (Tick m') count legal own other does = ap Tick (other.1 ∙ sym legal.1)
same-act n w v t Clock (Tick m) (Called c r) count legal own other does = absurd other
same-act n w v t Clock (Tick m) (Turn did) count legal own other does = absurd other
same-act n w v t _ _ act' count legal own other does = absurd legal

world-told : (cs : List ControllerState) (s : SeatsState) (schedule : List Actor) (last : Option Actor)
    → TellsMachine (world_with cs s schedule last)
unfolding kernel_of
world-told cs s schedule last = record { machine = s.kernel.state; is = refl }

-- a world that was led to by a move is the one of the state behind its entry
module _ (cs : List ControllerState) (s : SeatsState) (schedule : List Actor) (last : Option Actor) (p : Pick)
    (e : Entry) (legal : IsLegalEntry (length cs) s.kernel.state e) (own : IsOwnCall cs e) (v : WorldState)
    (leads : Leads (with_pick p (world_with cs s schedule last)) e.actor v) where
  abbrev e' : Entry
  e' = entry_of e.actor leads.act

  made : IsMachines (length cs) e' v.kernel.machine s.kernel.state
  unfolding with_pick kernel_of
  made = leads.machine

  its-act : leads.act ≡ e.act
  unfolding with_pick
  its-act =
      same-act (length cs) (with_pick p (world_with cs s schedule last)) v s.kernel.state e.actor e.act leads.act refl
      legal own made.legal leads.does

  its-entry : e' ≡ e
  its-entry = ap (entry_of e.actor) its-act

  its-history : (kernel_of s.kernel.state s.kernel.history s.kernel.places).history ++ e' ∷
      [] ≡ s.kernel.history ++ e' ∷ []
  unfolding kernel_of
  its-history = refl

  its-places : (kernel_of s.kernel.state s.kernel.history s.kernel.places).places ≡ s.kernel.places
  unfolding kernel_of
  its-places = refl

  its-kernel : v.kernel ≡ kernel_of (after s.kernel.state e) (s.kernel.history ++ e ∷ []) s.kernel.places
  unfolding with_pick
  its-kernel =
      let history : v.kernel.history ≡ (kernel_of s.kernel.state s.kernel.history s.kernel.places).history ++ e' ∷ [] =
      leads.history in
      leads.lawful.told (after s.kernel.state e') made.state
      ∙ ap (λ (h : List Entry). kernel_of (after s.kernel.state e') h v.kernel.places) (history ∙ its-history)
      ∙ ap (kernel_of (after s.kernel.state e') (s.kernel.history ++ e' ∷ [])) (leads.places ∙ its-places)
      ∙ ap (λ (x : Entry). kernel_of (after s.kernel.state x) (s.kernel.history ++ x ∷ []) s.kernel.places) its-entry

  led-world : v ≡ world_with (controllers_after cs e) (after_entry e s) p.schedule p.last
  unfolding with_pick
  led-world =
      let fed : v.controllers ≡ controllers_after cs e = leads.controllers ∙ ap (controllers_after cs) its-entry in
      ap (λ k. let x : WorldState = record
      { kernel = k; controllers = v.controllers; schedule = v.schedule; last = v.last } in x) its-kernel
      ∙ ap (λ (c : List ControllerState). world_with c (after_entry e s) v.schedule v.last) fed
      ∙ ap (λ (q : List Actor). world_with (controllers_after cs e) (after_entry e s) q v.last) leads.schedule
      ∙ ap (world_with (controllers_after cs e) (after_entry e s) p.schedule) leads.last

-- the move that comes next, where it is legal and each controller makes its own calls
pub moved-with : (cs : List ControllerState) (s : SeatsState) (schedule : List Actor) (last : Option Actor) (p : Pick)
    (e : Entry) → IsLegalEntry (length cs) s.kernel.state e → IsOwnCall cs e → p.actor ≡ e.actor
    → next_pick (world_with cs s schedule last) ≡ Some p
    → after_next (world_with cs s schedule last)
    ≡ world_with (controllers_after cs e) (after_entry e s) p.schedule p.last
moved-with cs s schedule last p e legal own its next =
    let w = world_with cs s schedule last in
    let step = next-leads w p (world-told cs s schedule last) next in
    let picked : step.pick ≡ p = same_Some step.pick p (sym step.next ∙ next) in
    let leads : Leads (with_pick p w) p.actor (after_next w) = subst
    (λ (q : Pick). Leads (with_pick q w) q.actor (after_next w)) picked step.leads in
    led-world cs s schedule last p e legal own (after_next w)
    (subst (λ (a : Actor). Leads (with_pick p w) a (after_next w)) its leads)
