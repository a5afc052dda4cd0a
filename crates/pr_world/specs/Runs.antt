use Rattle.std.specs.Prelude.{◌≡◌, ◌++◌, ◌-◌, ◌≤◌, ℕ, zero, suc, List, [], Option, Some, None, IfSome, length}
use Rattle.pr_api.specs.Views.{kernel_of}
use Rattle.pr_model.specs.Legal.{IsLegal, state_after}
use Rattle.pr_model.specs.State.{TracedState}
use Rattle.pr_model.specs.declared.events.Entry.{Entry}
use Rattle.pr_world.specs.Moves.{Leads, Moves, after_move}
use Rattle.pr_world.specs.Protocol.{AreNextCalls, Follows, controllers_at}
use Rattle.pr_world.specs.Worlds.{Pick, WorldState, next_pick, with_pick}
use Rattle.pr_world.specs.ControllerStates.{ControllerState}

-- Runs of a world.

-- ---- moves in any order

-- A history of a machine that began in this state is legal and follows the protocol of its controllers, and the machine
-- is now in the state after it.
pub record IsMachineRun (controllers : List ControllerState) (h : List Entry) (now : Option TracedState)
    (first : TracedState) : Type 0 where
  pub legal : IsLegal (length controllers) first h
  pub follows : Follows controllers first h
  pub state : now ≡ Some (state_after first h)

-- A world was led to from another by these entries, in whatever order its actors moved: of a machine that is told they
-- are a legal history.
pub record LedFrom (first w : WorldState) : Type 0 where
  pub entries : List Entry
  pub history : w.kernel.history ≡ first.kernel.history ++ entries
  pub places : w.kernel.places ≡ first.kernel.places
  pub controllers : w.controllers ≡ controllers_at first.controllers entries
  pub machine : IfSome first.kernel.machine (IsMachineRun first.controllers entries w.kernel.machine)

-- It came from there, whatever the kernel: each controller made its next calls, and got replies of their shapes.
pub record CameFrom (first w : WorldState) : Type 0 where
  pub led : LedFrom first w
  pub calls : AreNextCalls first.controllers led.entries

-- ---- one move after another

-- A step of a run: the actor that is picked moves.
pub record Steps (w v : WorldState) : Type 0 where
  pub pick : Pick
  pub next : next_pick w ≡ Some pick
  pub moves : Moves (with_pick pick w) pick.actor v

-- the same, whatever the shape of a reply
pub record StepLeads (w v : WorldState) : Type 0 where
  pub pick : Pick
  pub next : next_pick w ≡ Some pick
  pub leads : Leads (with_pick pick w) pick.actor v

-- a run of so many steps
unfoldable pub RunsFor : ℕ → WorldState → WorldState → Type 0
RunsFor zero w v = v ≡ w
RunsFor (suc n) w v = (u : WorldState) × RunsFor n w u × Steps u v

-- A run that was stopped where memory ran out: so many steps were made, at most as many as there were places left, and
-- after them an actor may have been picked.
pub record StoppedIn (first w : WorldState) : Type 0 where
  pub made : ℕ
  pub within : made ≤ first.kernel.places - length first.kernel.history
  pub world : WorldState
  pub runs : RunsFor made first world
  pub kernel : w.kernel ≡ world.kernel
  pub controllers : w.controllers ≡ world.controllers

-- ---- over a machine that is told a run is a function

-- a world whose kernel tells its machine
pub record TellsMachine (w : WorldState) : Type 0 where
  pub machine : TracedState
  pub is : w.kernel ≡ kernel_of machine w.kernel.history w.kernel.places

-- what a move led to, or the world as it was
abbrev pub or_unmoved : WorldState → Option WorldState → WorldState
or_unmoved w None = w
or_unmoved w (Some moved) = moved

abbrev pub moved_by : WorldState → Option Pick → WorldState
moved_by w None = w
moved_by w (Some p) = or_unmoved w (after_move (with_pick p w) p.actor)

-- the world after the move that comes next, or as it is where no actor can move
unfoldable pub after_next : WorldState → WorldState
after_next w = moved_by w (next_pick w)

-- the world after so many moves
unfoldable pub after_moves : ℕ → WorldState → WorldState
after_moves zero w = w
after_moves (suc n) w = after_next (after_moves n w)

-- a world in which nothing was done yet: no entry stands in the history of its kernel
pub record IsFresh (w : WorldState) : Type 0 where
  pub history : w.kernel.history ≡ []
