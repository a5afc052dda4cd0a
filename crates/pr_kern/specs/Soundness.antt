pub use Rattle.pr_api.specs.Rooms.{HasRoom}
use Rattle.std.specs.Prelude.{◌≤◌, ℕ, length}
use Rattle.pr_proc.specs.Counts.{AllUsedAtMost}
use Rattle.pr_model.specs.HistoryViews.{HistoryView}
use Rattle.pr_model.specs.Lawful.{IsLawful}
use Rattle.pr_model.specs.State.{TracedState, TracedSystem}
use Rattle.pr_ready.specs.Queues.{AreReady, IsQueue, queue_of}
use Rattle.pr_ready.specs.Ready.{ReadySets}

-- What the kernel keeps of its state and its history, so that all numbers fit their types, each step has its place, and
-- turns and calls find what they need.

-- After n steps the clock is at most n, and no process has used anything more than n times.
pub record IsSound (n : ℕ) (s : TracedSystem) : Type 0 where
  pub clock : s.clock ≤ n
  pub counts : AllUsedAtMost n s

-- The system is as sound as the history is long, the state is lawful, and the history has its room.
pub record IsSoundKernel (s : TracedState) (history : HistoryView) (places : ℕ) : Type 0 where
  pub sound : IsSound (length history.entries) s.system
  pub lawful : IsLawful s
  pub room : HasRoom history places

-- So the kernel is, and its sets have every process that is looked at for a turn. So the lwps that are asked for a turn
-- are a queue: sorted, without repeats, of live lwps, with every one that can have a turn.
pub record IsReadyKernel (s : TracedState) (history : HistoryView) (places : ℕ) (ready : ReadySets) : Type 0 where
  pub kept : IsSoundKernel s history places
  pub looks : AreReady s.system ready
  pub queue : IsQueue s.system (queue_of s.system ready)
