use Rattle.std.specs.Prelude.{◌≡◌, ◌<◌, ◌+◌, ◌-◌, ◌⊎◌, ◌&&◌, ◌||◌, ℕ, Bool, true, false, List, [], ◌∷◌, Option, Some, None, All, flat_map, is_none, is_some, length, nat_le, nat_lt, slice_index_or, take, if◌then◌else◌}
use Rattle.std.specs.Option.{option_or}
use Rattle.pr_api.specs.Views.{IsLawful, KernelView}
use Rattle.pr_lock.specs.History.{AreAll, IsInOrder, StandIn}
use Rattle.pr_lock.specs.Seats.{IsOutside, first_of, own_of, saw_over, seen_of, shares_of}
use Rattle.pr_lock.specs.declared.seats.Seat.{Seat}
use Rattle.pr_lock.specs.declared.seats.Shared.{Shared}
use Rattle.pr_model.specs.declared.events.Actor.{Actor}
use Rattle.pr_model.specs.declared.events.Actor.TheVariants.{Controller, Lwp, Clock}
use Rattle.pr_model.specs.declared.events.Entry.{Entry}
use Rattle.pr_run.specs.Logs.{entries_of, log_of}
use Rattle.pr_run.specs.declared.duties.Duty.{Duty}
use Rattle.pr_run.specs.declared.shared_worlds.SharedWorld.{SharedWorld}
use Rattle.pr_run.specs.declared.shared_worlds.LoggedEntry.{LoggedEntry}
use Rattle.pr_run.specs.declared.workers.Progress.{Progress}
use Rattle.pr_run.specs.declared.workers.Progress.TheVariants.{Moved, Idle, Done}
use Rattle.pr_world.specs.Controllers.{call_by}
use Rattle.pr_world.specs.Moves.{Moves}
use Rattle.pr_world.specs.Runs.{CameFrom}
use Rattle.pr_world.specs.Worlds.{WorldState, can_act, ended_as, from_lwp, seen}

-- A run on several threads. Its workers have numbers: those below the number of processors move lwps and the clock, and
-- behind them the worker of each controller moves that one alone. They take the world in turn, in any order.

-- ---- one turn

-- whether the worker of a number moves an actor, of so many processors
abbrev pub IsMovedBy : ℕ → ℕ → Actor → Type 0
IsMovedBy processors worker (Controller k) = worker ≡ processors + k
IsMovedBy processors worker (Lwp pid id) = worker < processors
IsMovedBy processors worker Clock = worker < processors

-- the lwp that an actor is; none of a controller and of the clock
abbrev pub lwp_of : Actor → Option (ℕ × ℕ)
lwp_of (Controller k) = None
lwp_of (Lwp pid id) = Some (pid, id)
lwp_of Clock = None

-- who a worker of the processor moves next: the first lwp after the one that it moved last, then the clock where it is
-- awaited; and where none of them can move, the first lwp of all, or the clock
unfoldable pub next_on_processor : Option (ℕ × ℕ) → WorldState → Option Actor
next_on_processor last w = option_or (from_lwp w last) (from_lwp w None)

unfoldable pub next_of_controller : ℕ → WorldState → Option Actor
next_of_controller k w = if can_act w (Controller k) then Some (Controller k) else None

-- who a worker moves next, if anybody
unfoldable pub next_for : ℕ → ℕ → Option (ℕ × ℕ) → WorldState → Option Actor
next_for processors worker last w =
    if nat_lt worker processors then next_on_processor last w else next_of_controller (worker - processors) w

-- whether it moves a controller, and that makes no call any more
unfoldable pub is_finished : ℕ → ℕ → WorldState → Bool
is_finished processors worker w = nat_le processors worker && is_none (call_by w.controllers (worker - processors))

-- whether a worker has nothing more to do: the world has ended, or its controller has finished
unfoldable pub is_done : ℕ → ℕ → WorldState → Bool
is_done processors worker w = is_some (ended_as w) || is_finished processors worker w

-- The actor that the worker moves next made its move. Where that is an lwp, the worker goes on after it, and else from
-- the first lwp on. There was a place for the entry.
pub record MovesNext (processors worker : ℕ) (old new : Option (ℕ × ℕ)) (w v : WorldState) : Type 0 where
  pub place : length w.kernel.history < w.kernel.places
  pub actor : Actor
  pub next : next_for processors worker old w ≡ Some actor
  pub moves : Moves w actor v
  pub last : new ≡ lwp_of actor

-- No actor moved, and the worker goes on where it would have.
pub record Rests (old new : Option (ℕ × ℕ)) (w v : WorldState) : Type 0 where
  pub world : v ≡ w
  pub last : new ≡ old

-- What a worker makes in a turn of a world, and of the lwp that it moved last, by what came of it.
abbrev pub MakesTurn : ℕ → ℕ → Option (ℕ × ℕ) → Option (ℕ × ℕ) → WorldState → WorldState → Progress → Type 0
MakesTurn processors worker old new w v Moved = MovesNext processors worker old new w v
MakesTurn processors worker old new w v Idle =
    Rests old new w v × (is_done processors worker w ≡ false) × (next_for processors worker old w ≡ None)
MakesTurn processors worker old new w v Done = Rests old new w v × (is_done processors worker w ≡ true)

-- A worker asks the world where the calls of all controllers are made. So they are after a turn in which no actor
-- moved.
abbrev pub AsksMade : Progress → Bool → Type 0
AsksMade Moved made = Unit {0}
AsksMade Idle made = made ≡ true
AsksMade Done made = made ≡ true

-- whatever came of a turn: at most one move, of the actor that comes next
abbrev pub IsTurnOf : ℕ → ℕ → Option (ℕ × ℕ) → Option (ℕ × ℕ) → WorldState → WorldState → Type 0
IsTurnOf processors worker old new w v = Rests old new w v ⊎ MovesNext processors worker old new w v

-- Whether what lies under the lock is over: memory was refused to a worker, or the world has ended, and the calls of
-- all controllers are made, so that how it ended is told without memory. It stays so.
abbrev pub is_over : {Q : Type 0} → (Q → KernelView) → SharedWorld Q → Bool
is_over view shared =
    is_some shared.refusal || (shared.world.made && is_some (ended_as (seen view shared.world)))

-- ---- all turns

-- An entry of this history, of a worker that had moved this lwp last: it is the move of the actor that came next for
-- the worker, in a world that came from the first one. What stands before the entry is the history of that world, and
-- with the entry it is that of the world after the move.
pub record IsNextOf (first : WorldState) (history : List Entry) (processors worker : ℕ) (last : Option (ℕ × ℕ))
    (e : ℕ × Entry) : Type 0 where
  pub before : WorldState
  pub lawful : IsLawful before.kernel
  pub came : CameFrom first before
  pub begins : before.kernel.history ≡ take e.0 history
  pub next : next_for processors worker last before ≡ Some e.1.actor
  pub after : WorldState
  pub moves : Moves before e.1.actor after
  pub ends : after.kernel.history ≡ take (e.0 + 1) history

-- a worker that had moved this lwp last went on with these entries, with each after the lwp that it had moved before
abbrev pub GoesOn : WorldState → List Entry → ℕ → ℕ → Option (ℕ × ℕ) → List (ℕ × Entry) → Type 0
GoesOn first history processors worker last [] = Unit {0}
GoesOn first history processors worker last (e ∷ own) =
    IsNextOf first history processors worker last e × GoesOn first history processors worker (lwp_of e.1.actor) own

-- the lwp that a worker has moved last, where it was this one before these entries
abbrev pub last_lwp : Option (ℕ × ℕ) → List (ℕ × Entry) → Option (ℕ × ℕ)
last_lwp last [] = last
last_lwp last (e ∷ own) = last_lwp (lwp_of e.1.actor) own

-- Entries of a history that a worker made, each with its place in it: they stand in order, are of actors that it moves,
-- and with each it went on after the lwp that it had moved last.
pub record IsWorkOf (first : WorldState) (history : List Entry) (processors worker : ℕ)
    (own : List (ℕ × Entry)) : Type 0 where
  pub order : IsInOrder own
  pub its : All (λ e. IsMovedBy processors worker e.1.actor) own
  pub rounds : GoesOn first history processors worker None own

-- Entries that a worker made, as the log has them: in each history in whose log they stand they are its work.
pub record HasMade (first : WorldState) (processors worker : ℕ) (own : List (ℕ × LoggedEntry)) : Type 0 where
  pub work : (history : List Entry) → StandIn (log_of history) own
      → IsWorkOf first history processors worker (entries_of own)

-- so is each element of a list, by its place
abbrev pub AtPlaces : {X : Type 0} → (ℕ → X → Type 0) → List X → Type 0
AtPlaces is xs = (place : ℕ) (d : _) → place < length xs → is place (slice_index_or xs place d)

-- the world that a lock was made with
abbrev pub first_world : {Q : Type 0} → (Q → KernelView) → Shared (SharedWorld Q) LoggedEntry → WorldState
first_world view lock = seen view (first_of lock).world

-- The seat of a worker before its first turn: it has one share, and added no entry.
pub record IsReady {V : Type 0} (lock : Shared V LoggedEntry) (seat : Seat V LoggedEntry) : Type 0 where
  pub outside : IsOutside seat lock
  pub share : shares_of seat ≡ 1
  pub none : own_of seat ≡ []

-- The seat of a worker between its turns: it has one share, and the worker made its own entries.
pub record HasWorked {V : Type 0} (first : WorldState) (processors : ℕ) (lock : Shared V LoggedEntry) (worker : ℕ)
    (seat : Seat V LoggedEntry) : Type 0 where
  pub outside : IsOutside seat lock
  pub share : shares_of seat ≡ 1
  pub made : HasMade first processors worker (own_of seat)

-- A worker left where it had nothing more to do: in a world that came from the first one, and whose history its seat
-- has seen; and also that all is over, where that world had ended.
pub record HasLeft {V : Type 0} (first : WorldState) (processors worker : ℕ) (seat : Seat V LoggedEntry) : Type 0 where
  pub world : WorldState
  pub lawful : IsLawful world.kernel
  pub came : CameFrom first world
  pub seen : seen_of seat ≡ log_of world.kernel.history
  pub done : is_done processors worker world ≡ true
  pub over : is_some (ended_as world) ≡ true → saw_over seat ≡ true

-- A worker that has made its last turn. It left where it had nothing more to do, or its seat has seen that all is over;
-- and no worker of the processor left but where all was over.
pub record HasStopped {V : Type 0} (first : WorldState) (processors : ℕ) (lock : Shared V LoggedEntry) (worker : ℕ)
    (seat : Seat V LoggedEntry) : Type 0 where
  pub worked : HasWorked first processors lock worker seat
  pub stops : HasLeft first processors worker seat ⊎ (saw_over seat ≡ true)

-- A worker that has not begun.
pub record IsNew {V : Type 0} (lock : Shared V LoggedEntry) (duty : Duty V LoggedEntry) : Type 0 where
  pub ready : IsReady lock duty.seat
  pub none : duty.last ≡ None
  pub goes_on : duty.has_stopped ≡ false

-- A worker between two turns, at which it may leave off and go on later, or behind its last one, which it made nowhere
-- but where it stops. It knows the lwp that it moved last.
pub record IsOnDuty {V : Type 0} (first : WorldState) (processors : ℕ) (lock : Shared V LoggedEntry) (worker : ℕ)
    (duty : Duty V LoggedEntry) : Type 0 where
  pub worked : HasWorked first processors lock worker duty.seat
  pub last : duty.last ≡ last_lwp None (entries_of (own_of duty.seat))
  pub stops : duty.has_stopped ≡ true → HasStopped first processors lock worker duty.seat

-- a worker that has made its last turn
abbrev pub IsOffDuty : {V : Type 0} → WorldState → ℕ → Shared V LoggedEntry → ℕ → Duty V LoggedEntry → Type 0
IsOffDuty first processors lock worker duty = HasStopped first processors lock worker duty.seat

-- The entries of a history are those that these workers made in a run from the first world on, each once: so many that
-- share the processor, and one for each controller.
pub record IsMadeBy (first : WorldState) (processors : ℕ) (history : List Entry) : Type 0 where
  pub made : List (List (ℕ × Entry))
  pub workers : length made ≡ processors + length first.controllers
  pub work : AtPlaces (IsWorkOf first history processors) made
  pub all : AreAll history (flat_map (λ own. own) made)
