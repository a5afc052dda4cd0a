use Rattle.std.specs.Prelude.{◌≡◌, ◌≤◌, ◌==◌, ◌++◌, ◌⊎◌, ℕ, Bool, true, false, List, [], ◌∷◌, Option, Some, None, Ok, Err, All, length, if◌then◌else◌}
use Rattle.pr_api.specs.Views.{kernel_of}
use Rattle.pr_asks.specs.Asks.{ask_of}
use Rattle.pr_asks.specs.Replies.{reply_line}
use Rattle.pr_asks.specs.declared.asks.Ask.TheVariants as ask
use Rattle.pr_asks.specs.declared.asks.AskKind.{AskKind}
use Rattle.pr_model.specs.declared.calls.Call.{Call}
use Rattle.pr_model.specs.declared.calls.Reply.{Reply}
use Rattle.pr_model.specs.declared.events.Actor.{Actor}
use Rattle.pr_model.specs.declared.events.Actor.TheVariants.{Controller}
use Rattle.pr_scen.specs.Scenarios.{Scenario}
use Rattle.pr_scen.specs.Scripts.{ScriptState, fed, next_call_of}
use Rattle.pr_scen.specs.declared.plans.Plan.TheVariants as plan
use Rattle.pr_world.specs.ControllerStates.{Script}
use Rattle.pr_world.specs.Controllers.{wait_end_of}
use Rattle.pr_world.specs.Worlds.{WorldState, is_answered}
use Rattle.pr_drive.specs.Alone.{lets_others}
use Rattle.pr_drive.specs.Exchanges.{wait_of}
use Rattle.pr_drive.specs.Going.{SeatsState, outside_of}
use Rattle.pr_drive.specs.Sessions.{Exchange}
use Rattle.pr_drive.specs.declared.places.Place.{Place}
use Rattle.pr_drive.specs.declared.places.Place.TheVariants as place

-- The outside as a script: a run in which a script is one more controller, behind those of the scenario.

-- ---- the scenario of such a run

-- the scenario with this script behind its controllers
abbrev pub with_script : ScriptState → Scenario → Scenario
with_script script s = record s { controllers = s.controllers ++ plan.Script script ∷ [] }

abbrev pub is_controller : ℕ → Actor → Bool
is_controller n (Controller k) = k == n
is_controller n _ = false

-- The schedule names no controller behind those of the scenario: there the run would let the script move, and a session
-- lets nobody.
abbrev pub IsUnnamed : Scenario → Type 0
IsUnnamed s = All (λ a. is_controller (length s.controllers) a ≡ false) s.schedule

-- ---- a turn of the outside

-- The world in which a script is behind the controllers, and in which that actor was picked last in the rounds.
unfoldable pub beside : ScriptState → SeatsState → Option Actor → WorldState
beside script s last = record {
  kernel = kernel_of s.kernel.state s.kernel.history s.kernel.places;
  controllers = s.controllers ++ Script script ∷ [];
  schedule = [];
  last = last;
}

-- the outside, where the script's next call is ready
unfoldable pub outside_if : ScriptState → SeatsState → Option Actor
outside_if script s =
    if is_answered (kernel_of s.kernel.state s.kernel.history s.kernel.places) (outside_of s) (next_call_of script)
    then Some (Controller (outside_of s)) else None

-- A place in a round is not behind the outside's turn.
abbrev pub IsBefore : ℕ → Place → Type 0
IsBefore outside (place.Lwps after) = Unit {0}
IsBefore outside (place.Controllers from) = from ≤ outside

-- ---- what a session said

-- A line is the call that a script makes next, which waits for no moment. It was answered with the line of a reply, so
-- that it was not taken back; and a reply that has this line makes the script so.
pub record SaysCall (x : Exchange) (before after : ScriptState) : Type 0 where
  pub call : Call
  pub asked : ask_of x.line ≡ Ok (ask.Call call)
  pub next : next_call_of before ≡ Some call
  pub at_once : wait_end_of call ≡ 0
  pub reply : Reply
  pub told : x.reply ≡ reply_line reply
  pub got : (reply : Reply) → x.reply ≡ reply_line reply → after ≡ fed before reply

-- A line asks for nothing.
pub record SaysNothing (x : Exchange) (before after : ScriptState) : Type 0 where
  pub kind : AskKind
  pub asked : ask_of x.line ≡ Err kind
  pub same : after ≡ before

-- A line only lets others move, and the script has no call any more.
pub record SaysNoMore (x : Exchange) (before after : ScriptState) : Type 0 where
  pub over : next_call_of before ≡ None
  pub lets : lets_others (ask_of x.line) ≡ true
  pub same : after ≡ before

abbrev pub Says : Exchange → ScriptState → ScriptState → Type 0
Says x before after = SaysCall x before after ⊎ (SaysNothing x before after ⊎ SaysNoMore x before after)

-- The lines are the calls of a script, one after another, and where it has ended others may be let move. If it has a
-- further call, that waits for no moment.
abbrev pub AllSaid : List Exchange → ScriptState → Type 0
AllSaid [] script = wait_of (next_call_of script) ≡ 0
AllSaid (x ∷ xs) script = (s : ScriptState) × (Says x script s × AllSaid xs s)
