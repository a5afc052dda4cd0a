use Rattle.std.specs.Prelude.{◌≡◌, ◌<◌, ◌+◌, ◌⊎◌, ℕ, zero, suc, Bool, true, false, List, [], ◌∷◌, Option, Some, None}
use Rattle.std.specs.Prelude.{length}
use Rattle.std.specs.Option.{option_or}
use Rattle.pr_model.specs.declared.events.Actor.{Actor}
use Rattle.pr_model.specs.declared.events.Actor.TheVariants.{Controller, Lwp, Clock}
use Rattle.pr_model.specs.declared.events.Entry.{Entry}
use Rattle.pr_num.specs.Limits.{controller_limit}
use Rattle.pr_world.specs.Worlds.{WorldState, as_lwp, clock_if_awaited, first_controller, first_lwp, next_in_rounds}
use Rattle.pr_drive.specs.declared.places.Place.{Place}
use Rattle.pr_drive.specs.declared.places.Place.TheVariants as place
use Rattle.pr_drive.specs.Going.{IsMove, MovesIf, NobodyMoves, SeatsState, after_entry, has_place, outside_of, world_of}

-- The rounds of the others. The outside's turn comes after the controllers of the scenario, so that from one turn of it
-- to the next they come in the order: lwps by process and lwp, the clock, controllers by number.

-- the kernel with the controllers, and the place in the round
pub record RoundsState : Type 0 where
  pub seats : SeatsState
  pub place : Place

-- The first that can move in what is left of a round: from the clock on, from an lwp on, and from a place on, a row a
-- place.
unfoldable pub from_clock : WorldState → Option Actor
from_clock w = option_or (clock_if_awaited w) (first_controller w 0)

unfoldable pub from_lwps : WorldState → Option (ℕ × ℕ) → Option Actor
from_lwps w after = option_or (first_lwp w after) (from_clock w)

unfoldable pub next_from : WorldState → Place → Option Actor
next_from w (place.Lwps after) = from_lwps w after
next_from w (place.Controllers from) = first_controller w from

-- who is next in the round, before the outside's turn, if anybody is left in it
unfoldable pub next_left : ℕ → RoundsState → Option Actor
next_left until r = next_from (world_of until r.seats) r.place

-- the place behind an actor, which is not asked again in the round
unfoldable pub place_behind : Actor → Place
place_behind (Lwp pid id) = place.Lwps (Some (pid, id))
place_behind Clock = place.Controllers 0
place_behind (Controller k) = place.Controllers (k + 1)

-- a controller has one of the numbers that controllers may have
abbrev pub HasNumber : Actor → Type 0
HasNumber (Controller k) = k < controller_limit
HasNumber _ = Unit {0}

-- where a round begins, and where the first of a session does
abbrev pub first_place : Place
first_place = place.Lwps None

abbrev pub first_controllers : Place
first_controllers = place.Controllers 0

-- ---- one step

-- An entry is the move of who is next in the round.
pub record IsStep (until : ℕ) (r : RoundsState) (e : Entry) : Type 0 where
  pub next : next_left until r ≡ Some e.actor
  pub move : IsMove until r.seats e

-- the rounds after an entry: they go on behind who moved
abbrev pub after_step : Entry → RoundsState → RoundsState
after_step e r = record { seats = after_entry e r.seats; place = place_behind e.actor }

-- Who was next in the round moved.
pub record Steps (until : ℕ) (old new : RoundsState) : Type 0 where
  pub entry : Entry
  pub step : IsStep until old entry
  pub is : new ≡ after_step entry old

-- Nobody moved: there is no place, and nothing changed; or nobody was left in the round, and the next one begins.
pub record Rests (until : ℕ) (old new : RoundsState) : Type 0 where
  pub same : new.seats ≡ old.seats
  pub none : ((has_place old.seats ≡ false) × (new.place ≡ old.place))
      ⊎ ((next_left until old ≡ None) × (new.place ≡ first_place))

abbrev pub StepsIf : Bool → ℕ → RoundsState → RoundsState → Type 0
StepsIf true until old new = Steps until old new
StepsIf false until old new = Rests until old new

-- ---- up to the outside's turn

-- these entries, one after another, are such moves
abbrev pub AreSteps : ℕ → RoundsState → List Entry → Type 0
AreSteps until r [] = Unit {0}
AreSteps until r (e ∷ es) = IsStep until r e × AreSteps until (after_step e r) es

abbrev pub after_steps : List Entry → RoundsState → RoundsState
after_steps [] r = r
after_steps (e ∷ es) r = after_steps es (after_step e r)

-- What was left of a round went by, up to the outside's turn: who was next moved, one after another, until nobody was
-- left in it, or there was no place.
pub record FinishesRound (until : ℕ) (old new : RoundsState) : Type 0 where
  pub entries : List Entry
  pub steps : AreSteps until old entries
  pub rests : Rests until (after_steps entries old) new

-- So it did, or where nobody was left in it a whole round; and somebody moved.
pub record GoesRound (until : ℕ) (old new : RoundsState) : Type 0 where
  pub between : RoundsState
  pub begins : (between ≡ old) ⊎ Rests until old between
  pub goes : FinishesRound until between new
  pub some : 0 < length goes.entries

-- The actors of a schedule moved in their order, each if it could; no round goes on by that.
abbrev pub GoesBySchedule : List Actor → SeatsState → SeatsState → Type 0
GoesBySchedule [] old new = new ≡ old
GoesBySchedule (actor ∷ actors) old new =
    (moved : Bool) × (m : SeatsState) × (MovesIf moved 0 actor old m × GoesBySchedule actors m new)

-- ---- past the outside's turn

-- Who moved last, as a world has it in which the outside is one more controller, behind those of the scenario: where a
-- round begins the outside's turn was last.
unfoldable pub last_at : ℕ → Place → Option Actor
last_at outside (place.Lwps None) = Some (Controller outside)
last_at outside (place.Lwps (Some i)) = Some (as_lwp i)
last_at outside (place.Controllers zero) = Some Clock
last_at outside (place.Controllers (suc k)) = Some (Controller k)

-- who is next where the outside makes no call: it is the next one in the rounds of such a world
unfoldable pub next_on : ℕ → RoundsState → Option Actor
next_on until r = next_in_rounds (record (world_of until r.seats) { last = last_at (outside_of r.seats) r.place })

pub record IsStepOn (until : ℕ) (r : RoundsState) (e : Entry) : Type 0 where
  pub next : next_on until r ≡ Some e.actor
  pub move : IsMove until r.seats e

abbrev pub AreStepsOn : ℕ → RoundsState → List Entry → Type 0
AreStepsOn until r [] = Unit {0}
AreStepsOn until r (e ∷ es) = IsStepOn until r e × AreStepsOn until (after_step e r) es

-- who was next moved
pub record MovesOn (until : ℕ) (old new : RoundsState) : Type 0 where
  pub entry : Entry
  pub step : IsStepOn until old entry
  pub is : new ≡ after_step entry old

-- Nobody moved in what was left of a round, nor in a whole one: none of the others can, or there is no place.
pub record IsAtRest (until : ℕ) (old new : RoundsState) : Type 0 where
  pub between : RoundsState
  pub left : Rests until old between
  pub round : Rests until between new
  pub same : new.seats ≡ old.seats
  pub nobody : NobodyMoves until new.seats

abbrev pub GoesOnIf : Bool → ℕ → RoundsState → RoundsState → Type 0
GoesOnIf true until old new = MovesOn until old new
GoesOnIf false until old new = IsAtRest until old new
