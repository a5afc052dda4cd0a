use Rattle.std.specs.Prelude.{◌≡◌, ◌≤◌, ◌==◌, ℕ, Bool, true, false, List, Option, Some, None, find, is_some, option_map, if◌then◌else◌}
use Rattle.std.specs.List.{All}
use Rattle.std.specs.Option.{option_or}
use Rattle.pr_num.specs.Agents.{agent_id}
use Rattle.pr_num.specs.declared.signals.Sig.{Sig}
use Rattle.pr_num.specs.ById.{map_each}
use Rattle.pr_model.specs.State.{TracedLwp, TracedProcess, lwp_of}
use Rattle.pr_model.specs.declared.stops.Stop.{Stop}
use Rattle.pr_model.specs.declared.stops.Stop.TheVariants.{Requested, Signalled, SysEntry, SysExit, Faulted}
use Rattle.pr_model.specs.declared.stops.Shown.{Shown}
use Rattle.pr_model.specs.declared.stops.Shown.TheVariants.{Event, Suspended, JobControl}

-- Stops (proc(4), "PCSTOP" and "PCRUN"). An lwp stands still on an event of interest, or because another lwp suspended
-- it, or by job control.

-- what an lwp shows by the job stop of its process
abbrev pub shown_by_job : Option Sig → Option Shown
shown_by_job None = None
shown_by_job (Some s) = Some (JobControl s)

-- What an lwp shows: its stop on an event of interest first, then that it is suspended, then the job stop of its
-- process, and else nothing: it is not stopped.
unfoldable pub shown : Option Sig → TracedLwp → Option Shown
shown job l = by_event l.control.stop
  where
    by_event : Option Stop → Option Shown
    by_event (Some stop) = Some (Event stop)
    by_event None = if l.suspended then Some Suspended else shown_by_job job

-- whether an lwp stands on an event of interest
abbrev pub has_event_stop : TracedLwp → Bool
has_event_stop l = is_some l.control.stop

-- an lwp directed to stop, unless it stands on an event of interest already
unfoldable pub directed : TracedLwp → TracedLwp
directed l = if has_event_stop l then l else record l { control = record l.control { directed = true } }

-- every lwp of a process directed to stop
unfoldable pub with_all_directed : TracedProcess → TracedProcess
with_all_directed p = record p { lwps = map_each directed p.lwps }

-- ---- the representative lwp

-- The classes in which the representative is looked for, the first one first: lwps that are not stopped, stopped by
-- job control, stopped on an event of interest other than a requested stop, stopped as requested, and suspended.
abbrev pub class_of_stop : Stop → ℕ
class_of_stop Requested = 4
class_of_stop (Signalled s) = 3
class_of_stop (SysEntry c) = 3
class_of_stop (SysExit c) = 3
class_of_stop (Faulted f) = 3

abbrev pub class_of_shown : Option Shown → ℕ
class_of_shown None = 1
class_of_shown (Some (JobControl s)) = 2
class_of_shown (Some (Event stop)) = class_of_stop stop
class_of_shown (Some Suspended) = 5

-- the class of an lwp
unfoldable pub class_of : Option Sig → TracedLwp → ℕ
class_of job l = class_of_shown (shown job l)

-- whether an lwp that stands under its id is in a class
abbrev pub is_in_class : Option Sig → ℕ → ℕ × TracedLwp → Bool
is_in_class job class e = class_of job e.1 == class

-- the first lwp of a class, which of those in it has the least id: ids rise
unfoldable pub first_in_class : Option Sig → ℕ → List (ℕ × TracedLwp) → Option (ℕ × TracedLwp)
first_in_class job class lwps = find (is_in_class job class) lwps

-- the agent, with its id
abbrev pub agent_of : TracedProcess → Option (ℕ × TracedLwp)
agent_of p = option_map (λ l. (agent_id, l)) (lwp_of p agent_id)

-- The representative lwp (proc(4), "pr_lwp"), with its id: the agent while there is one; else, of the first class that
-- has any, the lwp of least id.
unfoldable pub representative : TracedProcess → Option (ℕ × TracedLwp)
representative p =
    option_or
    (option_or
    (option_or
    (option_or
    (option_or (agent_of p) (first_in_class p.job_stop 1 p.lwps))
    (first_in_class p.job_stop 2 p.lwps))
    (first_in_class p.job_stop 3 p.lwps))
    (first_in_class p.job_stop 4 p.lwps))
    (first_in_class p.job_stop 5 p.lwps)

-- What the representative of a process without an agent is: an lwp of it, such that none is of a lesser class, and none
-- of its class has a lesser id.
pub record IsBefore (job : Option Sig) (e : ℕ × TracedLwp) (other : ℕ × TracedLwp) : Type 0 where
  pub class : class_of job e.1 ≤ class_of job other.1
  pub id : class_of job e.1 ≡ class_of job other.1 → e.0 ≤ other.0

pub record IsFirstOfClasses (p : TracedProcess) (e : ℕ × TracedLwp) : Type 0 where
  pub stands : lwp_of p e.0 ≡ Some e.1
  pub first : All (IsBefore p.job_stop e) p.lwps

-- whether an lwp, if there is one, stands on an event of interest
abbrev pub stands_on_event : Option TracedLwp → Bool
stands_on_event None = false
stands_on_event (Some l) = has_event_stop l

abbrev pub found_on_event : Option (ℕ × TracedLwp) → Bool
found_on_event None = false
found_on_event (Some e) = has_event_stop e.1

-- whether a process is stopped on an event of interest: its representative is
unfoldable pub is_stopped : TracedProcess → Bool
is_stopped p = found_on_event (representative p)
