use Rattle.std.specs.Prelude.{◌≡◌, ◌<◌, ◌||◌, ◌⊎◌, ℕ, Bool, true, false, List, [], ◌∷◌, Some, None, length, nat_lt}
use Rattle.pr_api.specs.Entries.{call_entry}
use Rattle.pr_api.specs.Sleepers.{some_sleeper}
use Rattle.pr_api.specs.Views.{kernel_of}
use Rattle.pr_kern.specs.Kernels.{Kernel, with_entry}
use Rattle.pr_model.specs.Calls.{Answer, answer_to}
use Rattle.pr_model.specs.Legal.{IsLegalEntry, after}
use Rattle.pr_model.specs.declared.calls.Call.{Call as AnyCall}
use Rattle.pr_model.specs.declared.events.Actor.{Actor}
use Rattle.pr_model.specs.declared.events.Entry.{Entry}
use Rattle.pr_world.specs.ControllerStates.{ControllerState}
use Rattle.pr_world.specs.Protocol.{controllers_after}
use Rattle.pr_tool_laws.specs.OwnCalls.{IsOwnCall}
use Rattle.pr_world.specs.Worlds.{WorldState, can_act}

-- A kernel with the controllers of a scenario, beside which one more controller calls it from outside: it has the
-- number behind theirs.

pub record SeatsState : Type 0 where
  pub kernel : Kernel
  pub controllers : List ControllerState

-- the number of the outside
abbrev pub outside_of : SeatsState → ℕ
outside_of s = length s.controllers

-- whether the history has a place for one more entry
abbrev pub has_place : SeatsState → Bool
has_place s = nat_lt (length s.kernel.history) s.kernel.places

-- The world of the others while the outside waits until a moment, or 0. To the clock a moment that is still to come is
-- as one until which an lwp sleeps; so that what is seen of the kernel is more than its machine tells.
unfoldable pub world_of : ℕ → SeatsState → WorldState
world_of until s = record {
  kernel = record (kernel_of s.kernel.state s.kernel.history s.kernel.places) {
    machine = None;
    has_sleeper = nat_lt s.kernel.state.system.clock until || some_sleeper s.kernel.state.system;
  };
  controllers = s.controllers;
  schedule = [];
  last = None;
}

-- whether an actor can move meanwhile; the outside is none of them
unfoldable pub can_move : ℕ → SeatsState → Actor → Bool
can_move until s actor = can_act (world_of until s) actor

-- ---- one entry more

-- what an entry makes of a kernel and its controllers: the machine is in the state after it, and who called got the
-- reply
abbrev pub after_entry : Entry → SeatsState → SeatsState
after_entry e s = record {
  kernel = with_entry (after s.kernel.state e) e s.kernel;
  controllers = controllers_after s.controllers e;
}

-- An entry is the move of one of the others: it can move, there is a place, and it does what the machine does then, and
-- a controller what it calls next.
pub record IsMove (until : ℕ) (s : SeatsState) (e : Entry) : Type 0 where
  pub can : can_move until s e.actor ≡ true
  pub place : length s.kernel.history < s.kernel.places
  pub legal : IsLegalEntry (outside_of s) s.kernel.state e
  pub own : IsOwnCall s.controllers e

-- ---- the move of an actor

-- it made its move
pub record Moved (until : ℕ) (actor : Actor) (old new : SeatsState) : Type 0 where
  pub entry : Entry
  pub its : entry.actor ≡ actor
  pub move : IsMove until old entry
  pub is : new ≡ after_entry entry old

-- it did not, as it cannot, or there is no place; and nothing changed
pub record Stayed (until : ℕ) (actor : Actor) (old new : SeatsState) : Type 0 where
  pub same : new ≡ old
  pub cannot : (has_place old ≡ false) ⊎ (can_move until old actor ≡ false)

abbrev pub MovesIf : Bool → ℕ → Actor → SeatsState → SeatsState → Type 0
MovesIf true until actor old new = Moved until actor old new
MovesIf false until actor old new = Stayed until actor old new

-- what entries, one after another, make of it
abbrev pub after_entries : List Entry → SeatsState → SeatsState
after_entries [] s = s
after_entries (e ∷ es) s = after_entries es (after_entry e s)

-- ---- whether others can move

pub record SomeCanMove (until : ℕ) (s : SeatsState) : Type 0 where
  pub actor : Actor
  pub can : can_move until s actor ≡ true

pub record NoneCanMove (until : ℕ) (s : SeatsState) : Type 0 where
  pub none : (actor : Actor) → can_move until s actor ≡ false

-- none of them can, or there is no place for an entry
pub record NobodyMoves (until : ℕ) (s : SeatsState) : Type 0 where
  pub cases : (has_place s ≡ false) ⊎ NoneCanMove until s

-- ---- calls of the outside

-- The outside made a call, which was ready, and got the machine's reply.
pub record Called (c : AnyCall) (old new : SeatsState) : Type 0 where
  pub answer : Answer
  pub answered : answer_to old.kernel.state (outside_of old) c ≡ Some answer
  pub place : length old.kernel.history < old.kernel.places
  pub is : new ≡ after_entry (call_entry (outside_of old) c answer.reply) old
