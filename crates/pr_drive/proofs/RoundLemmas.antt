use Rattle.std.proofs.Common.{◌≡◌, ◌≤◌, ◌+◌, ◌-◌, ◌⊎◌, inl, inr, ℕ, zero, suc, Bool, true, false, Option, Some}
use Rattle.std.proofs.Common.{None, is_some, Result, Ok, Err, IfOk, OnOk, List, [], ◌∷◌, length, cond, find, refl, sym, ap, subst, ◌∙◌, arith}
use Rattle.std.specs.List.{range_with_len}
use Rattle.std.specs.Option.{option_map, option_or}
use Rattle.std.proofs.lemmas.Bool.{le-ltb, lt-ltb}
use Rattle.std.proofs.lemmas.Option.{same_Some}
use Rattle.pr_api.specs.MachineLaws.{machine-lawful}
use Rattle.pr_api.specs.Views.{IsLawful, kernel_of, next_of, turns_after}
use Rattle.pr_kern.specs.Orders.{next_movable, next_of as next_lwp_of}
use Rattle.pr_model.specs.State.{TracedState}
use Rattle.pr_model.specs.declared.events.Actor.{Actor}
use Rattle.pr_model.specs.declared.events.Actor.TheVariants.{Controller, Lwp, Clock}
use Rattle.pr_model.specs.declared.events.Entry.{Entry}
use Rattle.pr_num.proofs.SearchLemmas.{find-passes}
use Rattle.pr_num.specs.declared.memory.NoMemory.{NoMemory}
use Rattle.pr_proc.specs.Orders.{asked_after, next_asked}
use Rattle.pr_world.proofs.RestLemmas.{either, from_lwp-next, mapped-back, rounds-rest}
use Rattle.pr_world.proofs.SearchLemmas.{search-end}
use Rattle.pr_world.specs.Worlds.{WorldState, as_lwp, can_act, clock_if_awaited, controller_acts, first_controller}
use Rattle.pr_world.specs.Worlds.{first_lwp, from_controller, from_lwp, next_in_round, next_in_rounds}
use Rattle.pr_drive.specs.Going.{IsMove, Moved, NobodyMoves, NoneCanMove, SeatsState, SomeCanMove, after_entry}
use Rattle.pr_drive.specs.Going.{can_move, has_place, world_of}
use Rattle.pr_drive.specs.Rounds.{GoesOnIf, IsAtRest, IsStep, IsStepOn, MovesOn, Rests, RoundsState, Steps, StepsIf}
use Rattle.pr_drive.specs.Rounds.{first_place, from_clock, from_lwps, last_at, next_from, next_left}
use Rattle.pr_drive.specs.Rounds.{next_on, place_behind}
use Rattle.pr_drive.specs.declared.places.Place.{Place}
use Rattle.pr_drive.specs.declared.places.Place.TheVariants as place

-- Who is next in a round.

same-find : (p q : ℕ → Bool) (xs : List ℕ) → ((k : ℕ) → p k ≡ q k) → find p xs ≡ find q xs
same-find p q [] same = refl
same-find p q (x ∷ xs) same =
    ap (λ (b : Bool). cond b (Some x) (find p xs)) (same x) ∙ ap (cond (q x) (Some x)) (same-find p q xs same)

-- ---- who is next can move

controller-next : (w : WorldState) (from : ℕ) (a : Actor) → first_controller w from ≡ Some a → can_act w a ≡ true
unfolding first_controller controller_acts
controller-next w from a e =
    let numbers = range_with_len from (length w.controllers - from) in
    let found = mapped-back Controller (find (controller_acts w) numbers) a e in
    ap (can_act w) found.1.1 ∙ find-passes (controller_acts w) numbers found.0 found.1.0

lwp-next : (w : WorldState) (after : Option (ℕ × ℕ)) (a : Actor) → first_lwp w after ≡ Some a → can_act w a ≡ true
unfolding from_lwp
lwp-next w after a e = from_lwp-next w after a (ap (λ (o : Option Actor). option_or o (clock_if_awaited w)) e)

clock-next : (w : WorldState) (a : Actor) → clock_if_awaited w ≡ Some a → can_act w a ≡ true
unfolding clock_if_awaited
clock-next w a e = of (can_act w Clock) refl e
  where
    of : (b : Bool) → can_act w Clock ≡ b → cond b (Some Clock) None ≡ Some a → can_act w a ≡ true
    of true is e = ap (can_act w) (sym (same_Some Clock a e)) ∙ is
    of false is e = cc

clock-from : (w : WorldState) (a : Actor) → from_clock w ≡ Some a → can_act w a ≡ true
unfolding from_clock
clock-from w a e = either (clock_if_awaited w) (first_controller w 0) a (λ x. can_act w x ≡ true) e (clock-next w a)
    (controller-next w 0 a)

next-acts : (w : WorldState) (p : Place) (a : Actor) → next_from w p ≡ Some a → can_act w a ≡ true
unfolding next_from from_lwps
next-acts w (place.Lwps after) a e = either (first_lwp w after) (from_clock w) a (λ x. can_act w x ≡ true) e
    (lwp-next w after a) (clock-from w a)
next-acts w (place.Controllers from) a e = controller-next w from a e

pub next-can : (until : ℕ) (s : SeatsState) (p : Place) (a : Actor) → Some a ≡ next_from (world_of until s) p
    → can_move until s a ≡ true
unfolding can_move
next-can until s p a e = next-acts (world_of until s) p a (sym e)

-- ---- where none is next in a whole round, none can move

neither : (a b : Option Actor) → option_or a b ≡ None → (a ≡ None) × (b ≡ None)
neither None b e = (refl, e)
neither (Some x) b e = cc

lawful : (until : ℕ) (s : SeatsState) → IsLawful (world_of until s).kernel
unfolding world_of kernel_of
lawful until s = record {
  live = (machine-lawful s.kernel.state s.kernel.history s.kernel.places).live;
  told = λ (x : TracedState) e. cc;
}

unpicked : (until : ℕ) (s : SeatsState) → (world_of until s).last ≡ None
unfolding world_of
unpicked until s = refl

round-none : (w : WorldState) → w.last ≡ None → from_lwps w None ≡ None → next_in_rounds w ≡ None
unfolding from_lwps from_clock from_controller from_lwp next_in_rounds next_in_round
round-none w unpicked e =
    let lwps = neither (first_lwp w None) (from_clock w) e in
    let others = neither (clock_if_awaited w) (first_controller w 0) lwps.1 in
    ap (λ (o : Option Actor). option_or (next_in_round w o) (from_controller w 0)) unpicked
    ∙ ap (λ (o : Option Actor). option_or o (option_or (first_lwp w None) (clock_if_awaited w))) others.1
    ∙ ap (λ (o : Option Actor). option_or o (clock_if_awaited w)) lwps.0 ∙ others.0

pub none-can : (until : ℕ) (s : SeatsState) → next_from (world_of until s) first_place ≡ None → NoneCanMove until s
unfolding next_from can_move
none-can until s e = record {
  none = λ (a : Actor). rounds-rest (world_of until s) a (lawful until s)
      (round-none (world_of until s) (unpicked until s) e);
}

-- ---- the kernel's next lwp

pub lwps-next : (until : ℕ) (s : SeatsState) (after : Option (ℕ × ℕ))
    → option_map as_lwp (next_lwp_of true s.kernel.state.system after) ≡ first_lwp (world_of until s) after
unfolding world_of kernel_of first_lwp next_of turns_after next_movable next_asked asked_after
lwps-next until s after = refl

-- ---- from a place on

pub clock-here : (until : ℕ) (s : SeatsState) → can_move until s Clock ≡ true
    → Some Clock ≡ from_clock (world_of until s)
unfolding can_move from_clock clock_if_awaited
clock-here until s can = ap (λ (b : Bool). option_or (cond b (Some Clock) None) (first_controller (world_of until s) 0))
    (sym can)

pub clock-past : (until : ℕ) (s : SeatsState) → can_move until s Clock ≡ false
    → first_controller (world_of until s) 0 ≡ from_clock (world_of until s)
unfolding can_move from_clock clock_if_awaited
clock-past until s cannot = ap
    (λ (b : Bool). option_or (cond b (Some Clock) None) (first_controller (world_of until s) 0)) (sym cannot)

pub lwps-here : (until : ℕ) (s : SeatsState) (after : Option (ℕ × ℕ)) (x : ℕ × ℕ)
    → Some x ≡ next_lwp_of true s.kernel.state.system after → Some (as_lwp x) ≡ from_lwps (world_of until s) after
unfolding from_lwps
lwps-here until s after x e = ap (λ (o : Option Actor). option_or o (from_clock (world_of until s)))
    (ap (option_map as_lwp) e ∙ lwps-next until s after)

pub lwps-past : (until : ℕ) (s : SeatsState) (after : Option (ℕ × ℕ))
    → None ≡ next_lwp_of true s.kernel.state.system after
    → from_clock (world_of until s) ≡ from_lwps (world_of until s) after
unfolding from_lwps
lwps-past until s after e = ap (λ (o : Option Actor). option_or o (from_clock (world_of until s)))
    (ap (option_map as_lwp) e ∙ lwps-next until s after)

-- ---- whether others can move

pub some-can : (s : SeatsState) (next : Option Actor) → next ≡ next_from (world_of 0 s) first_place
    → is_some next ≡ true → SomeCanMove 0 s
some-can s None e h = cc
some-can s (Some a) e h = record { actor = a; can = next-can 0 s first_place a e }

pub no-can : (s : SeatsState) (next : Option Actor) → next ≡ next_from (world_of 0 s) first_place → is_some next ≡ false
    → NoneCanMove 0 s
no-can s None e h = none-can 0 s (sym e)
no-can s (Some a) e h = cc

-- ---- a step, from inside rounds, whose fields these are

abbrev rounds : SeatsState → Place → RoundsState
rounds s p = record { seats = s; place = p }

module _ (until : ℕ) (r : RoundsState) (s : SeatsState) (p : Place) (is : rounds s p ≡ r) where
  same-seats : s ≡ r.seats
  same-seats = ap (λ (x : RoundsState). x.seats) is

  same-next : next_from (world_of until s) p ≡ next_left until r
  unfolding next_left
  same-next = ap (λ (x : RoundsState). next_from (world_of until x.seats) x.place) is

  pub nobody-left : None ≡ next_from (world_of until s) p → Rests until r (rounds s first_place)
  nobody-left e = record { same = same-seats; none = inr (sym same-next ∙ sym e, refl) }

  pub somebody-moved : (a : Actor) (new : SeatsState) (behind : Place) → Some a ≡ next_from (world_of until s) p
      → Moved until a s new → behind ≡ place_behind a → Steps until r (rounds new behind)
  somebody-moved a new behind e moved at = record {
    entry = moved.entry;
    step = record {
      next = sym same-next ∙ sym e ∙ ap Some (sym moved.its);
      move = subst (λ (x : SeatsState). IsMove until x moved.entry) same-seats moved.move;
    };
    is = ap (λ (x : SeatsState). rounds x behind) (moved.is ∙ ap (after_entry moved.entry) same-seats)
        ∙ ap (rounds (after_entry moved.entry r.seats)) (at ∙ ap place_behind (sym moved.its));
  }

-- ---- where nobody moves

no_place : (s : SeatsState) → s.kernel.places ≤ length s.kernel.history → has_place s ≡ false
no_place s full = le-ltb (length s.kernel.history) s.kernel.places full

pub place-rests : (until : ℕ) (r : RoundsState) → has_place r.seats ≡ false → Rests until r r
place-rests until r full = record { same = refl; none = inl (full, refl) }

-- where the places are all taken, nobody moves
pub full-rests : (until : ℕ) (r : RoundsState) → r.seats.kernel.places ≤ length r.seats.kernel.history → Rests until r r
full-rests until r full = place-rests until r (no_place r.seats full)

left-at : (until : ℕ) (b : RoundsState) → b.place ≡ first_place → next_left until b ≡ None → NoneCanMove until b.seats
unfolding next_left
left-at until b at e = none-can until b.seats (ap (next_from (world_of until b.seats)) (sym at) ∙ e)

-- Where nobody moved in what was left of a round, and then nobody in a whole one, nobody can.
pub rests-twice : (until : ℕ) (a b c : RoundsState) → Rests until a b → Rests until b c → IsAtRest until a c
rests-twice until a b c first second = record {
  between = b;
  left = first;
  round = second;
  same = second.same ∙ first.same;
  nobody = subst (NobodyMoves until) (sym second.same) (record { cases = of first.none second.none });
}
  where
    of : ((has_place a.seats ≡ false) × (b.place ≡ a.place)) ⊎ ((next_left until a ≡ None) × (b.place ≡ first_place))
        → ((has_place b.seats ≡ false) × (c.place ≡ b.place)) ⊎ ((next_left until b ≡ None) × (c.place ≡ first_place))
        → (has_place b.seats ≡ false) ⊎ NoneCanMove until b.seats
    of (inl full) there = inl (ap has_place first.same ∙ full.0)
    of (inr here) (inl full) = inl full.0
    of (inr here) (inr there) = inr (left-at until b here.1 there.0)

-- where there is no place, nobody moves twice
pub full-rest : (until : ℕ) (r : RoundsState) → r.seats.kernel.places ≤ length r.seats.kernel.history
    → IsAtRest until r r
full-rest until r full = rests-twice until r r r (full-rests until r full) (full-rests until r full)

-- what came of a step, by whether somebody moved
pub stepped : (until : ℕ) (moved : Bool) (a b : RoundsState) → moved ≡ true → StepsIf moved until a b → Steps until a b
stepped until moved a b is h = subst (λ (m : Bool). StepsIf m until a b) is h

pub rested : (until : ℕ) (moved : Bool) (a b : RoundsState) → moved ≡ false → StepsIf moved until a b → Rests until a b
rested until moved a b is h = subst (λ (m : Bool). StepsIf m until a b) is h

-- where somebody moved, this came of both
pub moved-then : {More Made Then : Type 0} (r : Result Bool NoMemory) → IfOk r (λ moved. moved ≡ true → More)
    → OnOk r Made → (More → Made → Then) → IfOk r (λ moved. moved ≡ true → Then)
moved-then (Ok moved) more made makes = λ somebody. makes (more somebody) made
moved-then (Err e) more made makes = tt

-- ---- past the outside's turn

-- Worlds in which the same actors can move.
module _ (w v : WorldState) (acts : (a : Actor) → can_act v a ≡ can_act w a)
    (count : length v.controllers ≡ length w.controllers)
    (lwps : (after : Option (ℕ × ℕ)) → first_lwp v after ≡ first_lwp w after) where
  same-asked : (k : ℕ) → controller_acts v k ≡ controller_acts w k
  unfolding controller_acts
  same-asked k = acts (Controller k)

  same-controllers : (from : ℕ) → first_controller v from ≡ first_controller w from
  unfolding first_controller
  same-controllers from =
      ap (λ (n : ℕ). option_map Controller (find (controller_acts v) (range_with_len from (n - from)))) count
      ∙ ap (option_map Controller)
      (same-find (controller_acts v) (controller_acts w) (range_with_len from (length w.controllers - from))
      same-asked)

  same-clock : clock_if_awaited v ≡ clock_if_awaited w
  unfolding clock_if_awaited
  same-clock = ap (λ (b : Bool). cond b (Some Clock) None) (acts Clock)

  pub same-lwp : (after : Option (ℕ × ℕ)) → from_lwp v after ≡ option_or (first_lwp w after) (clock_if_awaited w)
  unfolding from_lwp
  same-lwp after =
      ap (λ (o : Option Actor). option_or o (clock_if_awaited v)) (lwps after)
      ∙ ap (option_or (first_lwp w after)) same-clock

  pub same-controller : (from : ℕ)
      → from_controller v from ≡ option_or (first_controller w from) (option_or (first_lwp w None) (clock_if_awaited w))
  unfolding from_controller
  same-controller from =
      ap (λ (o : Option Actor). option_or o (from_lwp v None)) (same-controllers from)
      ∙ ap (option_or (first_controller w from)) (same-lwp None)

  pub rounds-at : (left : Option Actor) → next_in_round v v.last ≡ left
      → next_in_rounds v ≡ option_or left
      (option_or (first_controller w 0) (option_or (first_lwp w None) (clock_if_awaited w)))
  unfolding next_in_rounds
  rounds-at left e =
      ap (λ (o : Option Actor). option_or o (from_controller v 0)) e ∙ ap (option_or left) (same-controller 0)

-- The same world in which another actor moved last.
abbrev pub at_last : WorldState → Option Actor → WorldState
at_last w last = record w { last = last }

pub last-acts : (w : WorldState) (last : Option Actor) (a : Actor) → can_act (at_last w last) a ≡ can_act w a
unfolding can_act
last-acts w last (Controller k) = refl
last-acts w last (Lwp pid id) = refl
last-acts w last Clock = refl

pub last-lwps : (w : WorldState) (last : Option Actor) (after : Option (ℕ × ℕ))
    → first_lwp (at_last w last) after ≡ first_lwp w after
unfolding first_lwp
last-lwps w last after = refl

-- which of four is the first
from-lwp : (x l c f : Option Actor)
    → option_or (option_or x c) (option_or f (option_or l c)) ≡ option_or (option_or x (option_or c f))
    (option_or l (option_or c f))
from-lwp (Some x) l c f = refl
from-lwp None l (Some c) f = refl
from-lwp None l None (Some f) = refl
from-lwp None (Some l) None None = refl
from-lwp None None None None = refl

from-first : (l c f : Option Actor) → option_or f (option_or l c) ≡ option_or f (option_or l (option_or c f))
from-first l c (Some f) = refl
from-first l (Some c) None = refl
from-first l None None = refl

from-later : (g l c f : Option Actor)
    → option_or (option_or g (option_or l c)) (option_or f (option_or l c)) ≡ option_or g (option_or l (option_or c f))
from-later (Some g) l c f = refl
from-later None (Some l) c f = refl
from-later None None (Some c) f = refl
from-later None None None (Some f) = refl
from-later None None None None = refl

-- behind the last controller there is none
past-last : (w : WorldState) → first_controller w (length w.controllers + 1) ≡ None
unfolding first_controller
past-last w = ap (option_map Controller)
    (search-end (controller_acts w) (length w.controllers + 1) (length w.controllers) (omega arith))

-- Who is next in the rounds of a world that stands at a place: the next one in what is left of the round, or the first
-- of a whole one.
on-at : (w : WorldState) (p : Place)
    → next_in_rounds (at_last w (last_at (length w.controllers) p)) ≡ option_or (next_from w p) (from_lwps w None)
unfolding last_at next_from from_lwps from_clock next_in_round
on-at w (place.Lwps None) =
    let last : Option Actor = Some (Controller (length w.controllers)) in
    let v = at_last w last in
    let lwps = option_or (first_lwp w None) (clock_if_awaited w) in
    rounds-at w v (last-acts w last) refl (last-lwps w last) lwps
    (same-controller w v (last-acts w last) refl (last-lwps w last) (length w.controllers + 1)
    ∙ ap (λ (o : Option Actor). option_or o lwps) (past-last w))
    ∙ from-lwp (first_lwp w None) (first_lwp w None) (clock_if_awaited w) (first_controller w 0)
on-at w (place.Lwps (Some i)) =
    let last : Option Actor = Some (as_lwp i) in
    let v = at_last w last in
    rounds-at w v (last-acts w last) refl (last-lwps w last) (option_or (first_lwp w (Some i)) (clock_if_awaited w))
    (same-lwp w v (last-acts w last) refl (last-lwps w last) (Some i))
    ∙ from-lwp (first_lwp w (Some i)) (first_lwp w None) (clock_if_awaited w) (first_controller w 0)
on-at w (place.Controllers zero) =
    let last : Option Actor = Some Clock in
    rounds-at w (at_last w last) (last-acts w last) refl (last-lwps w last) None refl
    ∙ from-first (first_lwp w None) (clock_if_awaited w) (first_controller w 0)
on-at w (place.Controllers (suc k)) =
    let last : Option Actor = Some (Controller k) in
    let v = at_last w last in
    let lwps = option_or (first_lwp w None) (clock_if_awaited w) in
    let number : k + 1 ≡ suc k = omega arith in
    rounds-at w v (last-acts w last) refl (last-lwps w last) (option_or (first_controller w (suc k)) lwps)
    (same-controller w v (last-acts w last) refl (last-lwps w last) (k + 1)
    ∙ ap (λ (n : ℕ). option_or (first_controller w n) lwps) number)
    ∙ from-later (first_controller w (suc k)) (first_lwp w None) (clock_if_awaited w) (first_controller w 0)

pub next_on-is : (until : ℕ) (r : RoundsState)
    → next_on until r ≡ option_or (next_left until r) (next_from (world_of until r.seats) first_place)
unfolding next_on next_left next_from world_of
next_on-is until r = on-at (world_of until r.seats) r.place

-- who is left in the round is next
pub step-on : (until : ℕ) (r : RoundsState) (e : Entry) → IsStep until r e → IsStepOn until r e
step-on until r e one = record {
  next = next_on-is until r
      ∙ ap (λ (o : Option Actor). option_or o (next_from (world_of until r.seats) first_place)) one.next;
  move = one.move;
}

pub steps-on : (until : ℕ) (a b : RoundsState) → Steps until a b → GoesOnIf true until a b
steps-on until a b one = record { entry = one.entry; step = step-on until a one.entry one.step; is = one.is }

-- where nobody is, the first of a whole one is
first-next : (until : ℕ) (a b : RoundsState) (e : Entry) → b.seats ≡ a.seats → next_left until a ≡ None
    → b.place ≡ first_place → next_left until b ≡ Some e.actor → next_on until a ≡ Some e.actor
unfolding next_left
first-next until a b e same none at next =
    next_on-is until a ∙ ap (λ (o : Option Actor). option_or o (next_from (world_of until a.seats) first_place)) none
    ∙ ap (λ (s : SeatsState). next_from (world_of until s) first_place) (sym same)
    ∙ ap (next_from (world_of until b.seats)) (sym at) ∙ next

rests-step : (until : ℕ) (a b c : RoundsState) → Rests until a b → Steps until b c → MovesOn until a c
rests-step until a b c first one = of first.none
  where
    place : has_place b.seats ≡ true
    place = lt-ltb (length b.seats.kernel.history) b.seats.kernel.places one.step.move.place

    of : ((has_place a.seats ≡ false) × (b.place ≡ a.place)) ⊎ ((next_left until a ≡ None) × (b.place ≡ first_place))
        → MovesOn until a c
    of (inl full) = let no : true ≡ false = sym place ∙ ap has_place first.same ∙ full.0 in cc
    of (inr here) = record {
      entry = one.entry;
      step = record {
        next = first-next until a b one.entry first.same here.0 here.1 one.step.next;
        move = subst (λ (s : SeatsState). IsMove until s one.entry) first.same one.step.move;
      };
      is = one.is ∙ ap (λ (s : SeatsState). rounds (after_entry one.entry s) (place_behind one.entry.actor)) first.same;
    }

pub rests-on : (until : ℕ) (moved : Bool) (a b c : RoundsState) → Rests until a b → StepsIf moved until b c
    → GoesOnIf moved until a c
rests-on until true a b c first one = rests-step until a b c first one
rests-on until false a b c first second = rests-twice until a b c first second
