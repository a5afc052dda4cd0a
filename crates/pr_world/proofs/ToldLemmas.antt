use Rattle.std.proofs.Common.{◌≡◌, ◌+◌, ℕ, Bool, true, false, Option, Some, None, IfSome, is_some, List, [], ◌∷◌, ◌++◌, length, cond, refl, sym, ◌∙◌, ap, subst}
use Rattle.std.specs.Option.{option_map}
use Rattle.pr_api.specs.Entries.{call_entry, tick_entry, turn_entry}
use Rattle.pr_api.specs.MachineLaws.{machine-lawful}
use Rattle.pr_api.specs.Sleepers.{some_sleeper}
use Rattle.pr_api.specs.Steps.{IsAnswer, IsTicked, IsTurned}
use Rattle.pr_api.specs.Views.{IsLawful, KernelView, kernel_of}
use Rattle.pr_model.specs.Calls.{Answer, answer_to}
use Rattle.pr_model.specs.Legal.{IsLegalEntry, after, after_call, after_turn, ticked}
use Rattle.pr_model.specs.LwpTurns.{LwpTurn, can_move, may_turn, may_turn_in, may_turn_of, turn_of, turn_of_lwp, turn_of_process}
use Rattle.pr_model.specs.State.{TracedState, TracedSystem, TracedProcess, TracedLwp, live_process, lwp_of, with_system}
use Rattle.pr_model.specs.declared.calls.Call.{Call}
use Rattle.pr_model.specs.declared.events.Act.{Act}
use Rattle.pr_model.specs.declared.events.Act.TheVariants.{Call as Called, Turn, Tick}
use Rattle.pr_model.specs.declared.events.Actor.{Actor}
use Rattle.pr_model.specs.declared.events.Actor.TheVariants.{Controller, Lwp, Clock}
use Rattle.pr_model.specs.declared.events.Entry.{Entry}
use Rattle.pr_world.specs.Controllers.{call_by, is_clock_awaited, with_fed}
use Rattle.pr_world.specs.Moves.{Does, IsMachines, Leads, after_call_by, entry_of, move_in, with_answer, with_entry, with_tick, with_turn}
use Rattle.pr_world.specs.Protocol.{controllers_after}
use Rattle.pr_world.specs.Worlds.{WorldState, can_act}
use Rattle.pr_world.specs.ControllerStates.{ControllerState}
use Rattle.pr_world.proofs.MoveLemmas.{acts-call, clock-leads, controller-leads, lwp-leads, told-clock}

-- Over a machine that is told a move is a function of the world.

-- ---- an lwp has a turn exactly where it can move

pub turns-move : (s : TracedSystem) (pid id : ℕ) → is_some (turn_of s pid id) ≡ can_move s pid id
unfolding turn_of can_move
turns-move s pid id = of_process (live_process s pid)
  where
    if_may : (t : LwpTurn) (b : Bool) → is_some (cond b (Some t) None) ≡ b
    if_may t true = refl
    if_may t false = refl

    of_lwp : (p : TracedProcess) (l : Option TracedLwp) → is_some (turn_of_lwp s pid id p l) ≡ may_turn_in s pid id p l
    of_lwp p None = refl
    of_lwp p (Some l) = if_may _ (may_turn s pid p id l)

    of_process : (o : Option TracedProcess) → is_some (turn_of_process s pid id o) ≡ may_turn_of s pid id o
    of_process None = refl
    of_process (Some p) = of_lwp p (lwp_of p id)

-- ---- what a move led to is what the function says

same-world : (v : WorldState) (k : KernelView) (cs : List ControllerState) (schedule : List Actor) (last : Option Actor)
    → v.kernel ≡ k → v.controllers ≡ cs → v.schedule ≡ schedule → v.last ≡ last
    → v ≡ record { kernel = k; controllers = cs; schedule = schedule; last = last }
same-world v k cs schedule last a b c d =
    ap (λ (x : KernelView). let u : WorldState =
    record { kernel = x; controllers = v.controllers; schedule = v.schedule; last = v.last } in u) a
    ∙ ap (λ (x : List ControllerState). let u : WorldState =
    record { kernel = k; controllers = x; schedule = v.schedule; last = v.last } in u) b
    ∙ ap (λ (x : List Actor). let u : WorldState =
    record { kernel = k; controllers = cs; schedule = x; last = v.last } in u) c
    ∙ ap (λ (x : Option Actor). let u : WorldState =
    record { kernel = k; controllers = cs; schedule = schedule; last = x } in u) d

module _ (s : TracedState) (w : WorldState) where
  -- the world one entry later
  later : Actor → Act → WorldState
  later actor act =
      record w {
        kernel = kernel_of (after s (entry_of actor act)) (w.kernel.history ++ entry_of actor act ∷ []) w.kernel.places;
        controllers = controllers_after w.controllers (entry_of actor act);
      }

  led : (v : WorldState) (actor : Actor) (m : Leads w actor v)
      → IsMachines (length w.controllers) (entry_of actor m.act) v.kernel.machine s → v ≡ later actor m.act
  unfolding later
  led v actor m made =
      let e = entry_of actor m.act in
      let kernel : v.kernel ≡ kernel_of (after s e) (w.kernel.history ++ e ∷ []) w.kernel.places =
      m.lawful.told (after s e) made.state ∙ ap (λ (h : List Entry). kernel_of (after s e) h v.kernel.places) m.history
      ∙ ap (kernel_of (after s e) (w.kernel.history ++ e ∷ [])) m.places in
      same-world v _ _ _ _ kernel m.controllers m.schedule m.last

  row : (v : WorldState) (actor : Actor) (act : Act) → w.kernel.clock ≡ s.system.clock
      → w.kernel.has_sleeper ≡ some_sleeper s.system → can_act w actor ≡ true → Does w v actor act
      → IsLegalEntry (length w.controllers) s (entry_of actor act) → move_in s w actor ≡ Some (later actor act)
  unfolding later Does IsLegalEntry move_in after controllers_after with_answer with_turn with_tick with_entry can_act
  row v (Controller k) (Called c r) clock sleeper acts does legal =
      let a : Answer = record { state = legal.1.0; reply = r } in
      ap (after_call_by s w k) does ∙ ap (option_map (with_answer w k c)) legal.1.1
      ∙ ap (λ (t : TracedState).
      Some (let v : WorldState =
      record w {
        kernel = kernel_of t (w.kernel.history ++ call_entry k c r ∷ []) w.kernel.places;
        controllers =
            with_fed k r w.controllers;
      } in v)) (sym (ap (after_call s) legal.1.1))
  row v (Lwp pid id) (Turn t) clock sleeper acts does legal =
      ap (option_map (with_turn s w pid id)) legal.1
      ∙ ap (λ (t' : TracedState).
      Some (let v : WorldState =
      record w { kernel = kernel_of t' (w.kernel.history ++ turn_entry pid id t ∷ []) w.kernel.places } in v))
      (sym (ap (after_turn s) legal.1))
  row v Clock (Tick n) clock sleeper acts does legal =
      ap (λ (b : Bool). cond b (Some (with_tick s w)) None)
      (ap (λ (n : ℕ). is_clock_awaited n (some_sleeper s.system) w.controllers) (sym clock)
      ∙ ap (λ (b : Bool). is_clock_awaited w.kernel.clock b w.controllers) (sym sleeper) ∙ acts)
      ∙ ap (λ (m : ℕ).
      Some (let v : WorldState =
      record w
      { kernel = kernel_of (with_system ticked s) (w.kernel.history ++ tick_entry m ∷ []) w.kernel.places } in v))
      (sym legal.1)
  row v _ _ clock sleeper acts does legal = absurd does

pub told-sleeper : (k : KernelView) (s : TracedState) → IsLawful k → k.machine ≡ Some s
    → k.has_sleeper ≡ some_sleeper s.system
unfolding kernel_of
told-sleeper k s lawful is = ap (λ (x : KernelView). x.has_sleeper) (lawful.told s is)

-- what holds of a value that may stand there holds of the one that does
pub told-at : {X : Type 0} (o : Option X) (P : X → Type 0) (x : X) → o ≡ Some x → IfSome o P → P x
told-at o P x e h = let Q : Option _ → Type 0 = λ q. IfSome q P in subst Q e h

pub move-is : (s : TracedState) (w v : WorldState) (actor : Actor) → IsLawful w.kernel → w.kernel.machine ≡ Some s
    → Leads w actor v → move_in s w actor ≡ Some v
move-is s w v actor lawful is m =
    let made : IsMachines (length w.controllers) (entry_of actor m.act) v.kernel.machine s =
    told-at w.kernel.machine _ s is m.machine in
    row s w v actor m.act (told-clock w.kernel s lawful is) (told-sleeper w.kernel s lawful is) m.acts m.does made.legal
    ∙ ap Some (sym (led s w v actor m made))

-- ---- what the function says is a move

-- where an actor's move leads to
pub record Goes (s : TracedState) (w : WorldState) (actor : Actor) : Type 0 where
  pub to : WorldState
  pub led : move_in s w actor ≡ Some to
  pub leads : Leads w actor to

module _ (s : TracedState) (w : WorldState) (is : w.kernel ≡ kernel_of s w.kernel.history w.kernel.places) where
  -- what is seen of the kernel is what the machine says
  pub is-told : w.kernel.machine ≡ Some s
  unfolding kernel_of
  is-told = ap (λ (k : KernelView). k.machine) is

  is-ready : (k : ℕ) (c : Call) → w.kernel.is_ready k c ≡ is_some (answer_to s k c)
  unfolding kernel_of
  is-ready k c = ap (λ (x : KernelView). x.is_ready k c) is

  turns : (pid id : ℕ) → w.kernel.can_turn pid id ≡ can_move s.system pid id
  unfolding kernel_of
  turns pid id = ap (λ (x : KernelView). x.can_turn pid id) is

  is-clock : w.kernel.clock ≡ s.system.clock
  unfolding kernel_of
  is-clock = ap (λ (k : KernelView). k.clock) is

  is-sleeper : w.kernel.has_sleeper ≡ some_sleeper s.system
  unfolding kernel_of
  is-sleeper = ap (λ (k : KernelView). k.has_sleeper) is

  -- ---- the moves of the kinds

  answers : (k : ℕ) (c : Call) (a : Answer) → answer_to s k c ≡ Some a
      → IfSome w.kernel.machine (IsAnswer k c a.reply (Some a.state))
  answers k c a made = let P : Option TracedState → Type 0 = λ o. IfSome o (IsAnswer k c a.reply (Some a.state)) in
      subst P (sym is-told) (a.state, made, refl)

  controller-led : (k : ℕ) (c : Call) (a : Answer) → can_act w (Controller k) ≡ true → call_by w.controllers k ≡ Some c
      → answer_to s k c ≡ Some a → Leads w (Controller k) (with_answer w k c a)
  unfolding with_answer with_entry kernel_of
  controller-led k c a acts next made =
      controller-leads w (with_answer w k c a) k c a.reply acts next refl refl (answers k c a made) refl refl refl
      (machine-lawful a.state _ _)

  turned : (pid id : ℕ) (t : LwpTurn) → turn_of s.system pid id ≡ Some t
      → IsTurned pid id t.turned w.kernel (with_turn s w pid id t).kernel
  unfolding with_turn with_entry kernel_of
  turned pid id t made = record {
    history = refl;
    places = refl;
    machine = let P : Option TracedState → Type 0 =
        λ o. IfSome o
        (λ x. (u : TracedSystem) × (turn_of x.system pid id ≡ Some (record { system = u; turned = t.turned }))
        × (Some (record s { system = t.system }) ≡ Some (record x { system = u }))) in
        subst P (sym is-told) (t.system, made, refl);
  }

  lwp-led : (pid id : ℕ) (t : LwpTurn) → can_act w (Lwp pid id) ≡ true → turn_of s.system pid id ≡ Some t
      → Leads w (Lwp pid id) (with_turn s w pid id t)
  unfolding with_turn with_entry
  lwp-led pid id t acts made =
      lwp-leads w (with_turn s w pid id t) pid id t.turned acts (turned pid id t made) refl refl refl
      (machine-lawful (record s { system = t.system }) _ _)

  ticks : IsTicked w.kernel (with_tick s w).kernel
  unfolding with_tick with_entry kernel_of
  ticks = record {
    history = ap (λ (n : ℕ). w.kernel.history ++ tick_entry (n + 1) ∷ []) (sym is-clock);
    places = refl;
    clock = ap (λ (n : ℕ). n + 1) (sym is-clock);
    machine = let P : Option TracedState → Type 0 =
        λ o. IfSome o (λ x. Some (with_system ticked s) ≡ Some (with_system ticked x)) in subst P (sym is-told) refl;
  }

  own-lawful : IsLawful w.kernel
  own-lawful = subst IsLawful (sym is) (machine-lawful s w.kernel.history w.kernel.places)

  clock-led : can_act w Clock ≡ true → Leads w Clock (with_tick s w)
  unfolding with_tick with_entry
  clock-led acts =
      clock-leads w (with_tick s w) acts ticks refl refl refl own-lawful (machine-lawful (with_system ticked s) _ _)

  -- ---- whoever can move, moves

  controller-goes : (k : ℕ) (c : Call) (o : Option Answer) → can_act w (Controller k) ≡ true
      → call_by w.controllers k ≡ Some c → answer_to s k c ≡ o → is_some o ≡ true → Goes s w (Controller k)
  unfolding move_in
  controller-goes k c None acts next made h = cc
  controller-goes k c (Some a) acts next made h = record {
    to = with_answer w k c a;
    led = ap (after_call_by s w k) next ∙ ap (option_map (with_answer w k c)) made;
    leads = controller-led k c a acts next made;
  }

  lwp-goes : (pid id : ℕ) (o : Option LwpTurn) → can_act w (Lwp pid id) ≡ true → turn_of s.system pid id ≡ o
      → is_some o ≡ true → Goes s w (Lwp pid id)
  unfolding move_in
  lwp-goes pid id None acts made h = cc
  lwp-goes pid id (Some t) acts made h = record {
    to = with_turn s w pid id t;
    led = ap (option_map (with_turn s w pid id)) made;
    leads = lwp-led pid id t acts made;
  }

  clock-awaited : can_act w Clock ≡ true → is_clock_awaited s.system.clock (some_sleeper s.system) w.controllers ≡ true
  unfolding can_act
  clock-awaited h =
      ap (λ (n : ℕ). is_clock_awaited n (some_sleeper s.system) w.controllers) (sym is-clock)
      ∙ ap (λ (b : Bool). is_clock_awaited w.kernel.clock b w.controllers) (sym is-sleeper) ∙ h

  clock-goes : can_act w Clock ≡ true → Goes s w Clock
  unfolding move_in
  clock-goes h = record {
    to = with_tick s w;
    led = ap (λ (b : Bool). cond b (Some (with_tick s w)) None) (clock-awaited h);
    leads = clock-led h;
  }

  pub acts-goes : (actor : Actor) → can_act w actor ≡ true → Goes s w actor
  unfolding can_act
  acts-goes (Controller k) h = let call = acts-call w k h in
      controller-goes k call.call (answer_to s k call.call) h call.next refl (sym (is-ready k call.call) ∙ call.ready)
  acts-goes (Lwp pid id) h =
      lwp-goes pid id (turn_of s.system pid id) h refl (turns-move s.system pid id ∙ (sym (turns pid id) ∙ h))
  acts-goes Clock h = clock-goes h
