use Rattle.std.specs.Prelude.{◌&&◌, ◌+◌, ◌-◌, ℕ, Bool, true, false, List, [], ◌∷◌, Option, Some, None, is_some, find, length, nat_lt, option_map, if◌then◌else◌}
use Rattle.std.specs.List.{list_all, range_with_len}
use Rattle.std.specs.Option.{option_or}
use Rattle.pr_model.specs.declared.calls.Call.{Call}
use Rattle.pr_model.specs.declared.events.Actor.{Actor}
use Rattle.pr_model.specs.declared.events.Actor.TheVariants.{Controller, Lwp, Clock}
use Rattle.pr_api.specs.Views.{KernelView, next_of}
use Rattle.pr_world.specs.Controllers.{call_by, has_finished, is_clock_awaited}
use Rattle.pr_world.specs.ControllerStates.{ControllerState}
use Rattle.pr_world.specs.declared.ends.End.{End}
use Rattle.pr_world.specs.declared.ends.End.TheVariants.{Quiet, Spent, Stuck}

-- A world is a kernel and its controllers. Here stands who of them can move, who moves next, and how a world ends.

-- The kernel, seen as every kernel is; the controllers by number; what is left of the schedule; and in the rounds that
-- follow it the actor that was picked last, if one was.
pub record WorldState : Type 0 where
  pub kernel : KernelView
  pub controllers : List ControllerState
  pub schedule : List Actor
  pub last : Option Actor

-- The same of a kernel of any type, and whether the next call of each controller was made: then who can move, who moves
-- next and how the world has ended is told without memory.
pub record WorldOf (K : Type 0) : Type 0 where
  pub kernel : K
  pub controllers : List ControllerState
  pub schedule : List Actor
  pub last : Option Actor
  pub made : Bool

-- what is seen of it where nobody asks for memory
abbrev pub seen : {K : Type 0} → (K → KernelView) → WorldOf K → WorldState
seen view w = record { kernel = view w.kernel; controllers = w.controllers; schedule = w.schedule; last = w.last }

-- ---- who can move

-- whether a call of a controller, if it makes one, is ready
abbrev pub is_answered : KernelView → ℕ → Option Call → Bool
is_answered kernel k None = false
is_answered kernel k (Some c) = kernel.is_ready k c

-- Whether an actor can move, a row a kind: a controller whose next call is ready, an lwp that can have a turn, and the
-- clock where it is awaited.
unfoldable pub can_act : WorldState → Actor → Bool
can_act w (Controller k) = is_answered w.kernel k (call_by w.controllers k)
can_act w (Lwp pid id) = w.kernel.can_turn pid id
can_act w Clock = is_clock_awaited w.kernel.clock w.kernel.has_sleeper w.controllers

-- ---- rounds

-- In rounds the actors come in the order: controllers by number, lwps by process and lwp id, the clock. Next is the
-- first that can move after the one that was picked last; where none is left in the round, the first of a new round.

-- whether a controller can move
unfoldable pub controller_acts : WorldState → ℕ → Bool
controller_acts w k = can_act w (Controller k)

-- the first controller from a number on that can move
unfoldable pub first_controller : WorldState → ℕ → Option Actor
first_controller w from =
    option_map Controller (find (controller_acts w) (range_with_len from (length w.controllers - from)))

-- the lwp of a process's id and its own
abbrev pub as_lwp : ℕ × ℕ → Actor
as_lwp i = Lwp i.0 i.1

-- the first lwp after another that can move
unfoldable pub first_lwp : WorldState → Option (ℕ × ℕ) → Option Actor
first_lwp w after = option_map as_lwp (next_of w.kernel true after)

unfoldable pub clock_if_awaited : WorldState → Option Actor
clock_if_awaited w = if can_act w Clock then Some Clock else None

-- who moves next in a round from an lwp on, and from a controller on
unfoldable pub from_lwp : WorldState → Option (ℕ × ℕ) → Option Actor
from_lwp w after = option_or (first_lwp w after) (clock_if_awaited w)

unfoldable pub from_controller : WorldState → ℕ → Option Actor
from_controller w k = option_or (first_controller w k) (from_lwp w None)

-- who moves next in the round in which an actor was picked, a row a kind
unfoldable pub next_in_round : WorldState → Option Actor → Option Actor
next_in_round w None = None
next_in_round w (Some (Controller k)) = from_controller w (k + 1)
next_in_round w (Some (Lwp pid id)) = from_lwp w (Some (pid, id))
next_in_round w (Some Clock) = None

-- who moves next in the rounds
unfoldable pub next_in_rounds : WorldState → Option Actor
next_in_rounds w = option_or (next_in_round w w.last) (from_controller w 0)

-- ---- who moves next

-- Who is picked, and what is left of the schedule then, and who was picked last in the rounds.
pub record Pick : Type 0 where
  pub actor : Actor
  pub schedule : List Actor
  pub last : Option Actor

-- The first actor of the schedule that can move. Those before it, which cannot, are spent with it.
unfoldable pub first_scheduled : WorldState → List Actor → Option Pick
first_scheduled w [] = None
first_scheduled w (a ∷ rest) =
    if can_act w a then Some (record { actor = a; schedule = rest; last = w.last }) else first_scheduled w rest

-- an actor of the rounds: the schedule is at its end
abbrev pub in_rounds : Actor → Pick
in_rounds a = record { actor = a; schedule = []; last = Some a }

-- The schedule's actors come first, and then the rounds.
unfoldable pub next_pick : WorldState → Option Pick
next_pick w = option_or (first_scheduled w w.schedule) (option_map in_rounds (next_in_rounds w))

abbrev pub actor_of : Pick → Actor
actor_of p = p.actor

-- who moves next; none where no actor can move
unfoldable pub next_actor : WorldState → Option Actor
next_actor w = option_map actor_of (next_pick w)

-- the world in which an actor was picked
unfoldable pub with_pick : Pick → WorldState → WorldState
with_pick p w = record { kernel = w.kernel; controllers = w.controllers; schedule = p.schedule; last = p.last }

-- the same, where one was
abbrev pub picked : Option Pick → WorldState → WorldState
picked None w = w
picked (Some p) w = with_pick p w

-- ---- ends

-- whether all controllers have finished
unfoldable pub all_finished : WorldState → Bool
all_finished w = list_all has_finished w.controllers

-- How a world stands: no actor can move, and all controllers have finished or some have not; or an actor can move
-- still, for which there has to be a place.
abbrev pub quiet_end : Bool → End
quiet_end true = Quiet
quiet_end false = Stuck

abbrev pub end_with : WorldState → Option Actor → End
end_with w None = quiet_end (all_finished w)
end_with w (Some actor) = Spent

unfoldable pub end_of : WorldState → End
end_of w = end_with w (next_actor w)

-- whether an actor can move and there is a place for the entry
unfoldable pub goes_on : WorldState → Bool
goes_on w = nat_lt (length w.kernel.history) w.kernel.places && is_some (next_actor w)

-- how a world has ended; none where it goes on
unfoldable pub ended_as : WorldState → Option End
ended_as w = if goes_on w then None else Some (end_of w)

-- ---- calls that are made

-- whether all next calls are made after a move of an actor, where they were or were not before: a controller has got a
-- reply, after which its next call is to be made
abbrev pub made_after : Actor → Bool → Bool
made_after (Controller k) made = false
made_after (Lwp pid id) made = made
made_after Clock made = made
