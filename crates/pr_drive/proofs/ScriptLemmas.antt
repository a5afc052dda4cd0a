use Rattle.std.proofs.Common.{◌≡◌, ◌+◌, ◌++◌, ◌⊎◌, inl, inr, ℕ, Bool, true, false, List, [], ◌∷◌}
use Rattle.std.proofs.Common.{Option, Some, None, length, cond, refl, sym, ap, subst, ◌∙◌}
use Rattle.std.proofs.lemmas.List.{length-map, map-append}
use Rattle.std.proofs.lemmas.List.Elements.{All-head, All-tail}
use Rattle.std.specs.List.{All}
use Rattle.pr_api.specs.Views.{kernel_of}
use Rattle.pr_model.specs.declared.events.Actor.{Actor}
use Rattle.pr_model.specs.declared.events.Actor.TheVariants.{Controller, Lwp, Clock}
use Rattle.pr_run_laws.specs.ScenarioRuns.{controller_of, controllers_of, first_world, world_after}
use Rattle.pr_scen.specs.Scenarios.{Scenario}
use Rattle.pr_scen.specs.Scripts.{ScriptState}
use Rattle.pr_scen.specs.declared.plans.Plan.TheVariants as plan
use Rattle.pr_world.specs.ControllerStates.{ControllerState, Script}
use Rattle.pr_world.specs.Runs.{after_moves, after_next}
use Rattle.pr_world.specs.Worlds.{WorldState, can_act, first_scheduled}
use Rattle.pr_world.specs.Worlds.{next_pick}
use Rattle.pr_drive.specs.Alone.{IsPartOfRun}
use Rattle.pr_drive.specs.Going.{Moved, MovesIf, SeatsState, Stayed, after_entry}
use Rattle.pr_drive.specs.Going.{can_move, has_place, outside_of, world_of}
use Rattle.pr_drive.specs.Rounds.{GoesBySchedule}
use Rattle.pr_drive.specs.Rounds.{RoundsState}
use Rattle.pr_drive.specs.Rounds.{first_controllers}
use Rattle.pr_drive.specs.Scripted.{AllSaid, IsUnnamed, is_controller}
use Rattle.pr_drive.specs.Scripted.{with_script}
use Rattle.pr_drive.specs.Served.{Begins}
use Rattle.pr_drive.specs.Sessions.{AnsweredAll, Stand}
use Rattle.pr_drive.specs.Starts.{first_seats}
use Rattle.pr_drive.proofs.AloneLemmas.{has-place, none-scheduled, one-more, pick_of, picked-first}
use Rattle.pr_drive.proofs.KeptLemmas.{entry-outside}
use Rattle.pr_drive.proofs.TurnLemmas.{acts-clock, acts-lwp, acts-other}
use Rattle.pr_drive.proofs.TurnLemmas.{next-none, next_of_all, until_of, world}
use Rattle.pr_drive.proofs.WorldLemmas.{world_with}
use Rattle.pr_drive.proofs.ScriptMoves.{Stands, others-moved}
use Rattle.pr_drive.proofs.ScriptTurns.{AtTurn, InRound, in-finish}
use Rattle.pr_drive.proofs.ScriptLines.{said-all, says-wait}

-- A session of calls alone goes as a run in which a script makes them, from the schedule on.

-- ---- the schedule

-- A run stands as a session in which these actors of the schedule are left.
record FollowsAs (script : ScriptState) (b : SeatsState) (rest : List Actor) (w : WorldState) : Type 0 where
  schedule : List Actor
  is : w ≡ world script b schedule None
  left : first_scheduled (world script b schedule None) schedule ≡ first_scheduled (world script b schedule None) rest

record Followed (script : ScriptState) (run : Scenario) (b : SeatsState) (rest : List Actor) : Type 0 where
  history : IsPartOfRun run b.kernel.history
  cases : FollowsAs script b rest (world_after (length b.kernel.history) run) ⊎ (has_place b ≡ false)

followed-as : (script : ScriptState) (run : Scenario) (b : SeatsState) (rest : List Actor)
    → FollowsAs script b rest (world_after (length b.kernel.history) run) → Followed script run b rest
unfolding IsPartOfRun kernel_of
followed-as script run b rest st =
    record { history = ap (λ (x : WorldState). x.kernel.history) (sym st.is); cases = inl st }

-- who is not the outside can move as in the session
acts-same : (script : ScriptState) (b : SeatsState) (schedule : List Actor) (last : Option Actor) (a : Actor)
    → until_of script ≡ 0 → is_controller (outside_of b) a ≡ false
    → can_act (world script b schedule last) a ≡ can_move 0 b a
unfolding can_move
acts-same script b schedule last a still other =
    of a other ∙ ap (λ (m : ℕ). can_act (world_of m b) a) still
  where
    of : (a : Actor) → is_controller (outside_of b) a ≡ false
        → can_act (world script b schedule last) a ≡ can_act (world_of (until_of script) b) a
    of (Controller k) other = acts-other script b schedule last k other
    of (Lwp pid id) other = acts-lwp script b schedule last pid id
    of Clock other = acts-clock script b schedule last

scheduled-first : (script : ScriptState) (b : SeatsState) (schedule : List Actor) (a : Actor) (rest : List Actor)
    (can : Bool) → until_of script ≡ 0 → is_controller (outside_of b) a ≡ false → can_move 0 b a ≡ can
    → first_scheduled (world script b schedule None) (a ∷ rest) ≡ cond can (Some (pick_of a rest))
    (first_scheduled (world script b schedule None) rest)
unfolding first_scheduled
scheduled-first script b schedule a rest can still other is =
    ap (λ (x : Bool). cond x (Some (pick_of a rest)) (first_scheduled (world script b schedule None) rest))
    (acts-same script b schedule None a still other ∙ is)

follows-moved : (script : ScriptState) (run : Scenario) (a : Actor) (rest : List Actor) (b m : SeatsState)
    → until_of script ≡ 0 → is_controller (outside_of b) a ≡ false → Followed script run b (a ∷ rest) → Moved 0 a b m
    → Followed script run m rest
follows-moved script run a rest b m still other far moved =
    subst (λ (x : SeatsState). Followed script run x rest) (sym moved.is) (of far.cases)
  where
    can : can_move 0 b a ≡ true
    can = ap (can_move 0 b) (sym moved.its) ∙ moved.move.can

    of : FollowsAs script b (a ∷ rest) (world_after (length b.kernel.history) run) ⊎ (has_place b ≡ false)
        → Followed script run (after_entry moved.entry b) rest
    of (inl st) =
        let w = world script b st.schedule None in
        let next : next_pick w ≡ Some (pick_of a rest) = picked-first w (pick_of a rest)
        (st.left ∙ scheduled-first script b st.schedule a rest true still other can) in
        let made =
        others-moved script b st.schedule None (pick_of a rest) moved.entry moved.move (sym moved.its) next in
        followed-as script run (after_entry moved.entry b) rest
        (record {
          schedule = rest;
          is = one-more run b.kernel.history moved.entry ∙ ap after_next st.is ∙ made;
          left = refl;
        })
    of (inr full) = has-place 0 b moved.entry (Followed script run (after_entry moved.entry b) rest) moved.move full

follows-stayed : (script : ScriptState) (run : Scenario) (a : Actor) (rest : List Actor) (b m : SeatsState)
    → until_of script ≡ 0 → is_controller (outside_of b) a ≡ false → Followed script run b (a ∷ rest) → Stayed 0 a b m
    → Followed script run m rest
follows-stayed script run a rest b m still other far stayed =
    subst (λ (x : SeatsState). Followed script run x rest) (sym stayed.same)
    (record { history = far.history; cases = of far.cases stayed.cannot })
  where
    of : FollowsAs script b (a ∷ rest) (world_after (length b.kernel.history) run) ⊎ (has_place b ≡ false)
        → (has_place b ≡ false) ⊎ (can_move 0 b a ≡ false)
        → FollowsAs script b rest (world_after (length b.kernel.history) run) ⊎ (has_place b ≡ false)
    of (inl st) (inl full) = inr full
    of (inl st) (inr cannot) = inl
        (record {
          schedule = st.schedule;
          is = st.is;
          left = st.left ∙ scheduled-first script b st.schedule a rest false still other cannot;
        })
    of (inr full) cannot = inr full

follows-if : (script : ScriptState) (run : Scenario) (moved : Bool) (a : Actor) (rest : List Actor) (b m : SeatsState)
    → until_of script ≡ 0 → is_controller (outside_of b) a ≡ false → Followed script run b (a ∷ rest)
    → MovesIf moved 0 a b m → Followed script run m rest
follows-if script run true a rest b m still other far h = follows-moved script run a rest b m still other far h
follows-if script run false a rest b m still other far h = follows-stayed script run a rest b m still other far h

if-outside : (moved : Bool) (a : Actor) (b m : SeatsState) → MovesIf moved 0 a b m → outside_of m ≡ outside_of b
if-outside true a b m h = ap outside_of h.is ∙ entry-outside h.entry b
if-outside false a b m h = ap outside_of h.same

follows-all : (script : ScriptState) (run : Scenario) (n : ℕ) (actors : List Actor) (b c : SeatsState)
    → until_of script ≡ 0 → outside_of b ≡ n → All (λ a. is_controller n a ≡ false) actors
    → Followed script run b actors → GoesBySchedule actors b c → Followed script run c []
follows-all script run n [] b c still count others far same =
    subst (λ (x : SeatsState). Followed script run x []) (sym same) far
follows-all script run n (a ∷ actors) b c still count others far h =
    let other : is_controller (outside_of b) a ≡ false =
    ap (λ (m : ℕ). is_controller m a) count ∙ All-head (λ x. is_controller n x ≡ false) a actors others in
    follows-all script run n actors h.1 c still (if-outside h.0 a b h.1 h.2.0 ∙ count)
    (All-tail (λ x. is_controller n x ≡ false) a actors others)
    (follows-if script run h.0 a actors b h.1 still other far h.2.0) h.2.1

controllers-with : (script : ScriptState) (s : Scenario)
    → controllers_of (with_script script s) ≡ controllers_of s ++ Script script ∷ []
unfolding controller_of
controllers-with script s = map-append controller_of s.controllers (plan.Script script ∷ [])

follows-first : (script : ScriptState) (s : Scenario)
    → Followed script (with_script script s) (first_seats s) s.schedule
unfolding first_seats first_world after_moves
follows-first script s =
    followed-as script (with_script script s) (first_seats s) s.schedule
    (record {
      schedule = s.schedule;
      is = ap (λ (cs : List ControllerState). world_with cs (first_seats s) s.schedule None)
          (controllers-with script s);
      left = refl;
    })

-- where none is left of it the rounds begin
in-first : (script : ScriptState) (run : Scenario) (b : SeatsState) → Followed script run b []
    → InRound script run (record { seats = b; place = first_controllers })
in-first script run b far = record { history = far.history; cases = of far.cases }
  where
    of : FollowsAs script b [] (world_after (length b.kernel.history) run) ⊎ (has_place b ≡ false)
        → Stands script b (next_of_all script b first_controllers) (world_after (length b.kernel.history) run)
        ⊎ (has_place b ≡ false)
    of (inl st) = inl (record {
      schedule = st.schedule;
      last = None;
      is = st.is;
      over = st.left ∙ none-scheduled (world script b st.schedule None);
      who = next-none script b st.schedule;
    })
    of (inr full) = inr full

outside-first : (s : Scenario) → outside_of (first_seats s) ≡ length s.controllers
unfolding first_seats
outside-first s = length-map s.controllers controller_of

at-first-turn : (script : ScriptState) (s : Scenario) (first : RoundsState) → until_of script ≡ 0 → IsUnnamed s
    → Begins s first → AtTurn script (with_script script s) first
at-first-turn script s first still unnamed begins =
    let run = with_script script s in
    in-finish script run (record { seats = begins.followed; place = first_controllers }) first still
    (in-first script run begins.followed
    (follows-all script run (length s.controllers) s.schedule (first_seats s) begins.followed still (outside-first s)
    unnamed (follows-first script s) begins.schedule)) begins.round

-- the history of a session of calls alone
pub scripted-runs : (s : Scenario) (above : ℕ) (a b : Stand) (before after : Option (List ℕ))
    (all : AnsweredAll above a b before after) → Begins s a.rounds → (script : ScriptState)
    → AllSaid all.exchanges script → IsUnnamed s
    → IsPartOfRun (with_script script s) b.rounds.seats.kernel.history
scripted-runs s above a b before after all begins script said unnamed =
    let run = with_script script s in
    let turn = at-first-turn script s a.rounds (says-wait all.exchanges script said) unnamed begins in
    let ran = said-all all.exchanges script run (above + 1) a all.reached said (inl turn) all.answered in
    subst (λ (r : RoundsState). IsPartOfRun run r.seats.kernel.history) (sym all.same) ran
