-- How truss(1) closes the files of a process, and what comes then.
use Rattle.std.specs.Prelude.{ℕ, true, Option, Some, None, slice_get, if◌then◌else◌}
use Rattle.pr_truss.specs.Processes.{without_last}
use Rattle.pr_truss.specs.Trusses.{TrussState, traced_at, with_stage, with_traced, without_traced, opening_or}
use Rattle.pr_truss.specs.declared.processes.Traced.{Traced}
use Rattle.pr_truss.specs.declared.stages.AfterClosing.{AfterClosing}
use Rattle.pr_truss.specs.declared.stages.AfterClosing.TheVariants.{OpenNext, GoOn, RunParent}
use Rattle.pr_truss.specs.declared.stages.Stage.TheVariants.{Polling, Running, Closing, Unfollowing, Finished}

-- ---- what comes when nothing is to be done for one process

abbrev pub left_or_finished : TrussState → Option Traced → TrussState
left_or_finished s None = with_stage s Finished
left_or_finished s (Some t) = with_stage s (if t.attached then Unfollowing else Closing 0 GoOn)

-- The first process is left, if truss traces one. One whose opening had not come to its stop is only closed.
unfoldable pub with_next_left : TrussState → TrussState
with_next_left s = left_or_finished s (slice_get s.traced 0)

abbrev pub polls_or_finished : TrussState → Option Traced → TrussState
polls_or_finished s None = with_stage s Finished
polls_or_finished s (Some t) = with_stage s Polling

-- Truss waits for a process, or leaves the next one if it was interrupted. It has finished when it traces none.
unfoldable pub with_going_on : TrussState → TrussState
with_going_on s = if s.leaving then with_next_left s else polls_or_finished s (slice_get s.traced 0)

-- The next process that the options name is opened. When all were, truss goes on.
unfoldable pub with_next_opening : TrussState → TrussState
with_next_opening s = opening_or s (with_going_on s) (slice_get s.options.pids s.begun)

-- An interrupt: from now on truss leaves its processes, in the order of opening.
unfoldable pub with_interrupt : TrussState → TrussState
with_interrupt s = with_next_left (record s { leaving = true })

-- ---- closing

-- The files of a process that has ended, or that truss leaves, are closed.
abbrev pub with_closing : TrussState → ℕ → TrussState
with_closing s place = with_stage s (Closing place GoOn)

-- what comes after the last file of a process was closed
unfoldable pub after_closing : TrussState → AfterClosing → TrussState
after_closing s OpenNext = with_next_opening s
after_closing s GoOn = with_going_on s
after_closing s (RunParent parent) = with_stage s (Running parent)

abbrev pub closed_or_removed : TrussState → ℕ → AfterClosing → Option Traced → TrussState
closed_or_removed s place next None = after_closing (without_traced s place) next
closed_or_removed s place next (Some t) = with_traced s place t

-- A file of a process was closed, whatever the answer. With its last file the process is no longer traced.
unfoldable pub with_closed : TrussState → ℕ → AfterClosing → TrussState
with_closed s place next = closed_or_removed s place next (without_last (traced_at s place))
