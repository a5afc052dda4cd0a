use Rattle.std.proofs.Common.{◌≡◌, ◌+◌, ◌++◌, ◌||◌, ◌⊎◌, inl, inr, ℕ, suc, Bool, true, false, List, [], ◌∷◌}
use Rattle.std.proofs.Common.{Option, Some, None, length, cond, refl, sym, ap, subst, ◌∙◌}
use Rattle.std.proofs.Common.{arith, length-append}
use Rattle.std.proofs.lemmas.Bool.{le-ltb, lt-ltb}
use Rattle.std.specs.Option.{option_map, option_or}
use Rattle.pr_api.specs.Sleepers.{some_sleeper}
use Rattle.pr_api.specs.Views.{kernel_of, next_of, turns_after}
use Rattle.pr_model.specs.Legal.{after}
use Rattle.pr_model.specs.declared.events.Actor.{Actor}
use Rattle.pr_model.specs.declared.events.Actor.TheVariants.{Controller, Lwp, Clock}
use Rattle.pr_model.specs.declared.events.Entry.{Entry}
use Rattle.pr_run_laws.specs.ScenarioRuns.{first_world, world_after}
use Rattle.pr_scen.specs.Scenarios.{Scenario}
use Rattle.pr_world.specs.Controllers.{is_clock_awaited}
use Rattle.pr_world.specs.Runs.{after_moves, after_next}
use Rattle.pr_world.specs.Worlds.{Pick, WorldState, can_act, first_lwp, first_scheduled, in_rounds, next_in_round}
use Rattle.pr_world.specs.Worlds.{next_in_rounds, next_pick}
use Rattle.pr_drive.specs.Alone.{IsPartOfRun, OnlyLetOthers}
use Rattle.pr_drive.specs.Going.{IsMove, Moved, MovesIf, SeatsState, Stayed, after_entry, can_move}
use Rattle.pr_drive.specs.Going.{has_place, outside_of, world_of}
use Rattle.pr_drive.specs.Rounds.{FinishesRound, GoesBySchedule, IsStepOn}
use Rattle.pr_drive.specs.Rounds.{Rests, RoundsState, after_step, first_controllers, first_place, last_at}
use Rattle.pr_drive.specs.Rounds.{next_from, next_left, next_on, place_behind}
use Rattle.pr_drive.specs.declared.places.Place.TheVariants as place
use Rattle.pr_drive.specs.Served.{Begins}
use Rattle.pr_drive.specs.Sessions.{AnsweredAll, Stand}
use Rattle.pr_drive.specs.Starts.{first_seats}
use Rattle.pr_drive.proofs.LettingLemmas.{exchanges-kept, finish-kept}
use Rattle.pr_drive.proofs.RoundLemmas.{at_last, last-acts, last-lwps, next_on-is, rounds-at, same-controller, same-lwp}
use Rattle.pr_drive.proofs.WorldLemmas.{moved-with, world_with}

-- A session in which the outside makes no call goes as a run does.

-- ---- the world of a run

-- the world of a run that stands as a session does, with what is left of its schedule, and who moved last
abbrev world : SeatsState → List Actor → Option Actor → WorldState
world s schedule last = world_with s.controllers s schedule last

module _ (s : SeatsState) (schedule : List Actor) (last : Option Actor) where
  world-acts : (a : Actor) → can_act (world s schedule last) a ≡ can_act (world_of 0 s) a
  unfolding can_act world_of kernel_of
  world-acts (Controller k) = refl
  world-acts (Lwp pid id) = refl
  world-acts Clock =
      ap (λ (b : Bool). is_clock_awaited s.kernel.state.system.clock (b || some_sleeper s.kernel.state.system)
      s.controllers)
      (sym (le-ltb s.kernel.state.system.clock 0 (omega arith)))

  world-lwps : (behind : Option (ℕ × ℕ)) → first_lwp (world s schedule last) behind ≡ first_lwp (world_of 0 s) behind
  unfolding first_lwp next_of turns_after world_of kernel_of
  world-lwps behind = refl

  world-count : length (world s schedule last).controllers ≡ length (world_of 0 s).controllers
  unfolding world_of
  world-count = refl

  -- who is next behind an actor
  world-round : (a : Option Actor)
      → next_in_round (world s schedule last) a ≡ next_in_round (at_last (world_of 0 s) a) a
  unfolding next_in_round
  world-round None = refl
  world-round (Some Clock) = refl
  world-round (Some (Controller k)) =
      same-controller (world_of 0 s) (world s schedule last) world-acts world-count world-lwps (k + 1)
      ∙ sym (same-controller (world_of 0 s) (at_last (world_of 0 s) (Some (Controller k)))
      (last-acts (world_of 0 s) (Some (Controller k))) refl (last-lwps (world_of 0 s) (Some (Controller k)))
      (k + 1))
  world-round (Some (Lwp pid id)) =
      same-lwp (world_of 0 s) (world s schedule last) world-acts world-count world-lwps (Some (pid, id))
      ∙ sym (same-lwp (world_of 0 s) (at_last (world_of 0 s) (Some (Lwp pid id)))
      (last-acts (world_of 0 s) (Some (Lwp pid id))) refl (last-lwps (world_of 0 s) (Some (Lwp pid id)))
      (Some (pid, id)))

  -- who is next in its rounds is who is next past the outside's turn
  world-next : (r : RoundsState) → r.seats ≡ s
      → next_in_round (world s schedule last) last ≡ next_in_round (world s schedule last)
      (last_at (outside_of s) r.place)
      → next_in_rounds (world s schedule last) ≡ next_on 0 (record { seats = s; place = r.place })
  unfolding next_on
  world-next r same behind =
      let l = last_at (outside_of s) r.place in
      let v = at_last (world_of 0 s) l in
      rounds-at (world_of 0 s) (world s schedule last) world-acts world-count world-lwps (next_in_round v l)
      (behind ∙ world-round l)
      ∙ sym (rounds-at (world_of 0 s) v (last-acts (world_of 0 s) l) refl (last-lwps (world_of 0 s) l)
      (next_in_round v l) refl)

-- ---- a move of both

moved-world : (s : SeatsState) (schedule : List Actor) (last : Option Actor) (p : Pick) (e : Entry) → IsMove 0 s e
    → p.actor ≡ e.actor → next_pick (world s schedule last) ≡ Some p
    → after_next (world s schedule last) ≡ world (after_entry e s) p.schedule p.last
moved-world s schedule last p e move its next =
    moved-with s.controllers s schedule last p e move.legal move.own its next

-- ---- rounds

-- A run stands as the rounds of a session: its schedule is over, and the same actor is next.
record StandsAs (r : RoundsState) (w : WorldState) : Type 0 where
  schedule : List Actor
  last : Option Actor
  is : w ≡ world r.seats schedule last
  over : first_scheduled (world r.seats schedule last) schedule ≡ None
  next : next_in_rounds (world r.seats schedule last) ≡ next_on 0 r

-- the run of a scenario does so after as many moves; or no place is left, and it has the same history
record Ran (s : Scenario) (r : RoundsState) : Type 0 where
  history : IsPartOfRun s r.seats.kernel.history
  cases : StandsAs r (world_after (length r.seats.kernel.history) s) ⊎ (has_place r.seats ≡ false)

stands-history : (r : RoundsState) (w : WorldState) → StandsAs r w → r.seats.kernel.history ≡ w.kernel.history
unfolding kernel_of
stands-history r w st = ap (λ (x : WorldState). x.kernel.history) (sym st.is)

pub behind-at : (outside : ℕ) (a : Actor) → last_at outside (place_behind a) ≡ Some a
unfolding last_at place_behind
behind-at outside (Lwp pid id) = refl
behind-at outside Clock = refl
behind-at outside (Controller k) =
    let number : k + 1 ≡ suc k = omega arith in
    ap (λ (m : ℕ). last_at outside (place.Controllers m)) number

pub picked-next : (w : WorldState) (a : Actor) → first_scheduled w w.schedule ≡ None → next_in_rounds w ≡ Some a
    → next_pick w ≡ Some (in_rounds a)
unfolding next_pick
picked-next w a over next =
    ap (λ (o : Option Pick). option_or o (option_map in_rounds (next_in_rounds w))) over
    ∙ ap (option_map in_rounds) next

pub none-scheduled : (w : WorldState) → first_scheduled w [] ≡ None
unfolding first_scheduled
none-scheduled w = refl

stands-step : (r : RoundsState) (w : WorldState) (e : Entry) → StandsAs r w → IsStepOn 0 r e
    → StandsAs (after_step e r) (after_next w)
stands-step r w e st one =
    let now = world r.seats st.schedule st.last in
    let s = after_entry e r.seats in
    let next = world s [] (Some e.actor) in
    record {
      schedule = [];
      last = Some e.actor;
      is = ap after_next st.is
          ∙ moved-world r.seats st.schedule st.last (in_rounds e.actor) e one.move refl
          (picked-next now e.actor st.over (st.next ∙ one.next));
      over = none-scheduled next;
      next = world-next s [] (Some e.actor) (after_step e r) refl
          (ap (next_in_round next) (sym (behind-at (outside_of s) e.actor)));
    }

-- so many moves, and one more
pub one-more : (s : Scenario) (h : List Entry) (e : Entry)
    → world_after (length (h ++ e ∷ [])) s ≡ after_next (world_after (length h) s)
unfolding after_moves
one-more s h e =
    let count : length (h ++ e ∷ []) ≡ suc (length h) = omega (arith, length-append h (e ∷ [])) in
    ap (λ (n : ℕ). world_after n s) count

ran-as : (s : Scenario) (r : RoundsState) → StandsAs r (world_after (length r.seats.kernel.history) s) → Ran s r
unfolding IsPartOfRun
ran-as s r st = record { history = stands-history r (world_after (length r.seats.kernel.history) s) st; cases = inl st }

pub has-place : (until : ℕ) (s : SeatsState) (e : Entry) (P : Type 0) → IsMove until s e → has_place s ≡ false → P
has-place until s e P move full =
    let place : has_place s ≡ true = lt-ltb (length s.kernel.history) s.kernel.places move.place in
    let no : true ≡ false = sym place ∙ full in cc

ran-step : (s : Scenario) (r : RoundsState) (e : Entry) → Ran s r → IsStepOn 0 r e → Ran s (after_step e r)
ran-step s r e ran one = of ran.cases
  where
    of : StandsAs r (world_after (length r.seats.kernel.history) s) ⊎ (has_place r.seats ≡ false)
        → Ran s (after_step e r)
    of (inl st) =
        ran-as s (after_step e r)
        (subst (StandsAs (after_step e r)) (sym (one-more s r.seats.kernel.history e))
        (stands-step r (world_after (length r.seats.kernel.history) s) e st one))
    of (inr full) = has-place 0 r.seats e (Ran s (after_step e r)) one.move full

first-left : (until : ℕ) (q : RoundsState) → q.place ≡ first_place
    → next_left until q ≡ next_from (world_of until q.seats) first_place
unfolding next_left
first-left until q at = ap (next_from (world_of until q.seats)) at

twice : (o : Option Actor) → option_or o o ≡ o
twice None = refl
twice (Some a) = refl

-- who is next stays where nobody moved
rests-next : (r q : RoundsState) → Rests 0 r q → next_on 0 q ≡ next_on 0 r
rests-next r q rests = of rests.none
  where
    of : ((has_place r.seats ≡ false) × (q.place ≡ r.place)) ⊎ ((next_left 0 r ≡ None) × (q.place ≡ first_place))
        → next_on 0 q ≡ next_on 0 r
    of (inl full) =
        ap (λ (x : SeatsState). let y : RoundsState = record { seats = x; place = q.place } in next_on 0 y) rests.same
        ∙ ap (λ p. let y : RoundsState = record { seats = r.seats; place = p } in next_on 0 y) full.1
    of (inr here) =
        next_on-is 0 q
        ∙ ap (λ (o : Option Actor). option_or o (next_from (world_of 0 q.seats) first_place))
        (first-left 0 q here.1)
        ∙ twice (next_from (world_of 0 q.seats) first_place)
        ∙ ap (λ (x : SeatsState). next_from (world_of 0 x) first_place) rests.same
        ∙ sym (next_on-is 0 r
        ∙ ap (λ (o : Option Actor). option_or o (next_from (world_of 0 r.seats) first_place)) here.0)

stands-same : (r q : RoundsState) (w : WorldState) → q.seats ≡ r.seats → next_on 0 q ≡ next_on 0 r → StandsAs r w
    → StandsAs q w
stands-same r q w same next st = record {
  schedule = st.schedule;
  last = st.last;
  is = st.is ∙ ap (λ (x : SeatsState). world x st.schedule st.last) (sym same);
  over = subst (λ (x : SeatsState). first_scheduled (world x st.schedule st.last) st.schedule ≡ None) (sym same)
      st.over;
  next = subst (λ (x : SeatsState). next_in_rounds (world x st.schedule st.last) ≡ next_on 0 r) (sym same) st.next
      ∙ sym next;
}

ran-rests : (s : Scenario) (r q : RoundsState) → Ran s r → Rests 0 r q → Ran s q
ran-rests s r q ran rests = record {
  history = subst (λ (x : SeatsState). IsPartOfRun s x.kernel.history) (sym rests.same) ran.history;
  cases = of ran.cases;
}
  where
    of : StandsAs r (world_after (length r.seats.kernel.history) s) ⊎ (has_place r.seats ≡ false)
        → StandsAs q (world_after (length q.seats.kernel.history) s) ⊎ (has_place q.seats ≡ false)
    of (inl st) =
        inl (subst (λ (x : SeatsState). StandsAs q (world_after (length x.kernel.history) s)) (sym rests.same)
        (stands-same r q (world_after (length r.seats.kernel.history) s) rests.same (rests-next r q rests) st))
    of (inr full) = inr (ap has_place rests.same ∙ full)

ran-finish : (s : Scenario) (r q : RoundsState) → Ran s r → FinishesRound 0 r q → Ran s q
ran-finish s r q ran round = finish-kept (Ran s) (ran-step s) (ran-rests s) r q ran round

-- ---- the schedule

-- A run stands as a session in which these actors of the schedule are left.
record FollowsAs (b : SeatsState) (rest : List Actor) (w : WorldState) : Type 0 where
  schedule : List Actor
  is : w ≡ world b schedule None
  left : first_scheduled (world b schedule None) schedule ≡ first_scheduled (world b schedule None) rest

record Followed (s : Scenario) (b : SeatsState) (rest : List Actor) : Type 0 where
  history : IsPartOfRun s b.kernel.history
  cases : FollowsAs b rest (world_after (length b.kernel.history) s) ⊎ (has_place b ≡ false)

followed-as : (s : Scenario) (b : SeatsState) (rest : List Actor)
    → FollowsAs b rest (world_after (length b.kernel.history) s) → Followed s b rest
unfolding IsPartOfRun kernel_of
followed-as s b rest st = record { history = ap (λ (x : WorldState). x.kernel.history) (sym st.is); cases = inl st }

abbrev pub pick_of : Actor → List Actor → Pick
pick_of a rest = record { actor = a; schedule = rest; last = None }

scheduled-first : (b : SeatsState) (schedule : List Actor) (a : Actor) (rest : List Actor) (can : Bool)
    → can_move 0 b a ≡ can
    → first_scheduled (world b schedule None) (a ∷ rest) ≡ cond can (Some (pick_of a rest))
    (first_scheduled (world b schedule None) rest)
unfolding first_scheduled can_move
scheduled-first b schedule a rest can is =
    ap (λ (x : Bool). cond x (Some (pick_of a rest)) (first_scheduled (world b schedule None) rest))
    (world-acts b schedule None a ∙ is)

pub picked-first : (w : WorldState) (p : Pick) → first_scheduled w w.schedule ≡ Some p → next_pick w ≡ Some p
unfolding next_pick
picked-first w p e = ap (λ (o : Option Pick). option_or o (option_map in_rounds (next_in_rounds w))) e

follows-moved : (s : Scenario) (a : Actor) (rest : List Actor) (b m : SeatsState) → Followed s b (a ∷ rest)
    → Moved 0 a b m → Followed s m rest
follows-moved s a rest b m far moved = subst (λ (x : SeatsState). Followed s x rest) (sym moved.is) (of far.cases)
  where
    can : can_move 0 b a ≡ true
    can = ap (can_move 0 b) (sym moved.its) ∙ moved.move.can

    of : FollowsAs b (a ∷ rest) (world_after (length b.kernel.history) s) ⊎ (has_place b ≡ false)
        → Followed s (after_entry moved.entry b) rest
    of (inl st) =
        let w = world b st.schedule None in
        let next : next_pick w ≡ Some (pick_of a rest) = picked-first w (pick_of a rest)
        (st.left ∙ scheduled-first b st.schedule a rest true can) in
        let made = moved-world b st.schedule None (pick_of a rest) moved.entry moved.move (sym moved.its) next in
        followed-as s (after_entry moved.entry b) rest
        (record {
          schedule = rest;
          is = one-more s b.kernel.history moved.entry ∙ ap after_next st.is
              ∙ made;
          left = refl;
        })
    of (inr full) = has-place 0 b moved.entry (Followed s (after_entry moved.entry b) rest) moved.move full

follows-stayed : (s : Scenario) (a : Actor) (rest : List Actor) (b m : SeatsState) → Followed s b (a ∷ rest)
    → Stayed 0 a b m → Followed s m rest
follows-stayed s a rest b m far stayed = subst (λ (x : SeatsState). Followed s x rest) (sym stayed.same)
    (record { history = far.history; cases = of far.cases stayed.cannot })
  where
    of : FollowsAs b (a ∷ rest) (world_after (length b.kernel.history) s) ⊎ (has_place b ≡ false)
        → (has_place b ≡ false) ⊎ (can_move 0 b a ≡ false) → FollowsAs b rest (world_after (length b.kernel.history) s)
        ⊎ (has_place b ≡ false)
    of (inl st) (inl full) = inr full
    of (inl st) (inr cannot) = inl
        (record {
          schedule = st.schedule;
          is = st.is;
          left = st.left
              ∙ scheduled-first b st.schedule a rest false cannot;
        })
    of (inr full) cannot = inr full

follows-if : (s : Scenario) (moved : Bool) (a : Actor) (rest : List Actor) (b m : SeatsState) → Followed s b (a ∷ rest)
    → MovesIf moved 0 a b m → Followed s m rest
follows-if s true a rest b m far h = follows-moved s a rest b m far h
follows-if s false a rest b m far h = follows-stayed s a rest b m far h

follows-all : (s : Scenario) (actors : List Actor) (b c : SeatsState) → Followed s b actors → GoesBySchedule actors b c
    → Followed s c []
follows-all s [] b c far same = subst (λ (x : SeatsState). Followed s x []) (sym same) far
follows-all s (a ∷ actors) b c far h =
    follows-all s actors h.1 c (follows-if s h.0 a actors b h.1 far h.2.0) h.2.1

follows-first : (s : Scenario) → Followed s (first_seats s) s.schedule
unfolding first_seats first_world after_moves
follows-first s = followed-as s (first_seats s) s.schedule (record { schedule = s.schedule; is = refl; left = refl })

first-behind : (w : WorldState) (outside : ℕ)
    → next_in_round w None ≡ next_in_round w (last_at outside first_controllers)
unfolding next_in_round last_at
first-behind w outside = refl

-- where none is left of it the rounds begin
ran-first : (s : Scenario) (b : SeatsState) → Followed s b [] → Ran s (record { seats = b; place = first_controllers })
ran-first s b far = record { history = far.history; cases = of far.cases }
  where
    of : FollowsAs b [] (world_after (length b.kernel.history) s) ⊎ (has_place b ≡ false)
        → StandsAs (record { seats = b; place = first_controllers }) (world_after (length b.kernel.history) s)
        ⊎ (has_place b ≡ false)
    of (inl st) = inl (record {
      schedule = st.schedule;
      last = None;
      is = st.is;
      over = st.left ∙ none-scheduled (world b st.schedule None);
      next = world-next b st.schedule None (record { seats = b; place = first_controllers }) refl
          (first-behind (world b st.schedule None) (outside_of b));
    })
    of (inr full) = inr full

ran-begins : (s : Scenario) (first : RoundsState) → Begins s first → Ran s first
ran-begins s first begins =
    ran-finish s (record { seats = begins.followed; place = first_controllers }) first
    (ran-first s begins.followed
    (follows-all s s.schedule (first_seats s) begins.followed (follows-first s) begins.schedule)) begins.round

-- the history of a session in which the outside makes no call
pub alone-runs : (s : Scenario) (above : ℕ) (a b : Stand) (before after : Option (List ℕ))
    (all : AnsweredAll above a b before after) → Begins s a.rounds → OnlyLetOthers all.exchanges
    → IsPartOfRun s b.rounds.seats.kernel.history
alone-runs s above a b before after all begins only =
    let ran =
    exchanges-kept (Ran s) (ran-step s) (ran-rests s) all.exchanges (above + 1) a all.reached only
    (ran-begins s a.rounds begins) all.answered in
    (subst (Ran s) (sym all.same) ran).history
