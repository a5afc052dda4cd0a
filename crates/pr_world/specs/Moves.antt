use Rattle.std.specs.Prelude.{◌≡◌, ◌+◌, ◌++◌, ℕ, true, [], ◌∷◌, Option, Some, None, IfSome, length, option_map, option_and_then, if◌then◌else◌}
use Rattle.pr_api.specs.Entries.{call_entry, turn_entry, tick_entry}
use Rattle.pr_api.specs.Shapes.{has_shape}
use Rattle.pr_api.specs.Sleepers.{some_sleeper}
use Rattle.pr_api.specs.Views.{IsLawful, kernel_of}
use Rattle.pr_model.specs.Calls.{Answer, answer_to}
use Rattle.pr_model.specs.Legal.{IsLegalEntry, after, ticked}
use Rattle.pr_model.specs.LwpTurns.{LwpTurn, turn_of}
use Rattle.pr_model.specs.State.{TracedState, with_system}
use Rattle.pr_model.specs.declared.calls.Call.{Call}
use Rattle.pr_model.specs.declared.events.Act.{Act}
use Rattle.pr_model.specs.declared.events.Act.TheVariants.{Call as Called, Turn, Tick}
use Rattle.pr_model.specs.declared.events.Actor.{Actor}
use Rattle.pr_model.specs.declared.events.Actor.TheVariants.{Controller, Lwp, Clock}
use Rattle.pr_model.specs.declared.events.Entry.{Entry}
use Rattle.pr_world.specs.Controllers.{call_by, is_clock_awaited, with_fed}
use Rattle.pr_world.specs.Protocol.{controllers_after}
use Rattle.pr_world.specs.Worlds.{WorldState, can_act}

-- The moves of a world: each is one entry.

-- ---- over any kernel

-- What an actor does in its move, a row a kind: a controller makes its next call; an lwp has a turn; the clock goes on
-- by a millisecond. No actor does anything else.
unfoldable pub Does : WorldState → WorldState → Actor → Act → Type 0
Does w v (Controller k) (Called c r) = call_by w.controllers k ≡ Some c
Does w v (Lwp pid id) (Turn t) = Unit {0}
Does w v Clock (Tick n) = (n ≡ w.kernel.clock + 1) × (v.kernel.clock ≡ n)
Does w v _ _ = ⊥

-- the reply to a call has the call's shape
unfoldable pub IsShaped : Act → Type 0
IsShaped (Called c r) = has_shape c r ≡ true
IsShaped _ = Unit {0}

-- An entry is what the machine does, and leads to its state.
pub record IsMachines (controllers : ℕ) (e : Entry) (now : Option TracedState) (s : TracedState) : Type 0 where
  pub legal : IsLegalEntry controllers s e
  pub state : now ≡ Some (after s e)

abbrev pub entry_of : Actor → Act → Entry
entry_of actor act = record { actor = actor; act = act }

-- A move of an actor that can move leads from one world to another: its one entry is added, and a controller gets its
-- reply. The places, the schedule and the round stay. Of a machine that is told the entry is legal, and the state
-- becomes the one after it.
pub record Leads (w : WorldState) (actor : Actor) (v : WorldState) : Type 0 where
  pub act : Act
  pub acts : can_act w actor ≡ true
  pub does : Does w v actor act
  pub history : v.kernel.history ≡ w.kernel.history ++ entry_of actor act ∷ []
  pub places : v.kernel.places ≡ w.kernel.places
  pub controllers : v.controllers ≡ controllers_after w.controllers (entry_of actor act)
  pub schedule : v.schedule ≡ w.schedule
  pub last : v.last ≡ w.last
  pub machine : IfSome w.kernel.machine (IsMachines (length w.controllers) (entry_of actor act) v.kernel.machine)
  pub lawful : IsLawful v.kernel

-- A move, whatever the kernel: a reply also has the shape of its call. A machine's replies have it in each lawful
-- state.
pub record Moves (w : WorldState) (actor : Actor) (v : WorldState) : Type 0 where
  pub leads : Leads w actor v
  pub shaped : IsShaped leads.act

-- ---- over a machine

-- the world with its machine in this state, one entry later
unfoldable pub with_entry : TracedState → Entry → WorldState → WorldState
with_entry s e w = record w { kernel = kernel_of s (w.kernel.history ++ e ∷ []) w.kernel.places }

-- the world after the machine answered a controller's call: the kernel has its entry, and the controller the reply
unfoldable pub with_answer : WorldState → ℕ → Call → Answer → WorldState
with_answer w k c a =
    record (with_entry a.state (call_entry k c a.reply) w) { controllers = with_fed k a.reply w.controllers }

-- A controller makes its next call. None: it has finished, or its call is not ready.
abbrev pub after_call_by : TracedState → WorldState → ℕ → Option Call → Option WorldState
after_call_by s w k None = None
after_call_by s w k (Some c) = option_map (with_answer w k c) (answer_to s k c)

-- the world after an lwp had a turn
unfoldable pub with_turn : TracedState → WorldState → ℕ → ℕ → LwpTurn → WorldState
with_turn s w pid id t = with_entry (record s { system = t.system }) (turn_entry pid id t.turned) w

-- the world a millisecond later
unfoldable pub with_tick : TracedState → WorldState → WorldState
with_tick s w = with_entry (with_system ticked s) (tick_entry (s.system.clock + 1)) w

-- The world after a move of an actor, whose machine is in this state, a row a kind. None: it cannot move.
unfoldable pub move_in : TracedState → WorldState → Actor → Option WorldState
move_in s w (Controller k) = after_call_by s w k (call_by w.controllers k)
move_in s w (Lwp pid id) = option_map (with_turn s w pid id) (turn_of s.system pid id)
move_in s w Clock =
    if is_clock_awaited s.system.clock (some_sleeper s.system) w.controllers then Some (with_tick s w) else None

-- The world after a move of an actor. None: it cannot move, or the kernel tells no machine.
unfoldable pub after_move : WorldState → Actor → Option WorldState
after_move w actor = option_and_then (λ s. move_in s w actor) w.kernel.machine
