use Rattle.std.specs.Prelude.{◌≡◌, ◌==◌, ◌&&◌, ℕ, Bool, true, List, [], ◌∷◌, Option, Some, None, IsSome, filter}
use Rattle.std.specs.List.{All, list_any}
use Rattle.pr_model.specs.LwpTurns.{can_move}
use Rattle.pr_model.specs.Order.{is_after, live_lwps}
use Rattle.pr_model.specs.State.{TracedProcess, TracedSystem, live_process, lwp_of}
use Rattle.pr_pids.specs.Members.{has_pid}
use Rattle.pr_ready.specs.Ready.{CoversEach, ReadySets, every}

-- The lwps that are looked at for a turn.

-- whether an lwp can have a turn, named after its process's id
abbrev pub is_movable : TracedSystem → ℕ × ℕ → Bool
is_movable s lwp = can_move s lwp.0 lwp.1

-- The sets have every process with an lwp that can have a turn, that sleeps at a pipe, or that sleeps in sleep.
pub record AreReady (s : TracedSystem) (r : ReadySets) : Type 0 where
  pub covers : CoversEach every (is_movable s) s r

-- the queue: the live lwps of the processes that may have one that can have a turn, in their order
abbrev pub is_member : List ℕ → ℕ × ℕ → Bool
is_member movable lwp = has_pid movable lwp.0

unfoldable pub queue_of : TracedSystem → ReadySets → List (ℕ × ℕ)
queue_of s r = filter (is_member r.movable) (live_lwps s)

-- ---- what a queue is

-- whether each pair comes after the one before it, and the first one after another one, if there is one
abbrev pub rises : Option (ℕ × ℕ) → List (ℕ × ℕ) → Bool
rises after [] = true
rises after (x ∷ xs) = is_after after x && rises (Some x) xs

-- an lwp of a live process
pub record IsLiveLwp (s : TracedSystem) (lwp : ℕ × ℕ) : Type 0 where
  pub process : TracedProcess
  pub live : live_process s lwp.0 ≡ Some process
  pub there : IsSome (lwp_of process lwp.1)

-- whether a pair is another one
abbrev pub is_lwp : ℕ × ℕ → ℕ × ℕ → Bool
is_lwp x y = (y.0 == x.0) && (y.1 == x.1)

-- A queue is sorted, and so without repeats; its members are live lwps; and every lwp that can have a turn is one.
pub record IsQueue (s : TracedSystem) (queue : List (ℕ × ℕ)) : Type 0 where
  pub in_order : rises None queue ≡ true
  pub live : All (IsLiveLwp s) queue
  pub all : (pid id : ℕ) → can_move s pid id ≡ true → list_any (is_lwp (pid, id)) queue ≡ true
