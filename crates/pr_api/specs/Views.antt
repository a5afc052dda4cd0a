use Rattle.std.specs.Prelude.{◌≡◌, ◌&&◌, ℕ, Bool, true, false, List, Option, Some, find, is_some}
use Rattle.std.specs.List.{Contains}
use Rattle.pr_model.specs.Calls.{answer_to}
use Rattle.pr_model.specs.LwpTurns.{can_move}
use Rattle.pr_model.specs.State.{TracedState}
use Rattle.pr_model.specs.declared.calls.Call.{Call}
use Rattle.pr_model.specs.declared.events.Entry.{Entry}
unfoldable pub use Rattle.pr_model.specs.Order.{is_after, live_lwps}
use Rattle.pr_api.specs.Sleepers.{some_sleeper}

-- What contracts see of a kernel, whichever it is.

-- The state of the machine that it tells, or none where it tells none; the steps that were made, and how many there are
-- places for in all; which calls of which controllers are ready; the live lwps by rising ids, each after its process's
-- id, and which of them can have a turn; the clock; and whether some lwp sleeps until a moment that is still to come.
pub record KernelView : Type 0 where
  pub machine : Option TracedState
  pub history : List Entry
  pub places : ℕ
  pub is_ready : ℕ → Call → Bool
  pub lwps : List (ℕ × ℕ)
  pub can_turn : ℕ → ℕ → Bool
  pub clock : ℕ
  pub has_sleeper : Bool

-- A kernel that tells its machine: all that is seen of it beside the history is what the machine's state says.
unfoldable pub kernel_of : TracedState → List Entry → ℕ → KernelView
kernel_of s history places = record {
  machine = Some s;
  history = history;
  places = places;
  is_ready = λ by c. is_some (answer_to s by c);
  lwps = live_lwps s.system;
  can_turn = can_move s.system;
  clock = s.system.clock;
  has_sleeper = some_sleeper s.system;
}

-- whether an lwp comes after another one, or after none, and can have a turn
unfoldable pub turns_after : KernelView → Option (ℕ × ℕ) → ℕ × ℕ → Bool
turns_after k after lwp = is_after after lwp && k.can_turn lwp.0 lwp.1

-- The least live lwp above another one, or of all; only one that can have a turn, where that is asked.
unfoldable pub next_of : KernelView → Bool → Option (ℕ × ℕ) → Option (ℕ × ℕ)
next_of k true after = find (turns_after k after) k.lwps
next_of k false after = find (is_after after) k.lwps

-- What holds of every kernel: only a live lwp can have a turn; and one that tells its machine's state is the kernel of
-- that state.
pub record IsLawful (k : KernelView) : Type 0 where
  pub live : (pid id : ℕ) → k.can_turn pid id ≡ true → Contains k.lwps (pid, id)
  pub told : (s : TracedState) → k.machine ≡ Some s → k ≡ kernel_of s k.history k.places
