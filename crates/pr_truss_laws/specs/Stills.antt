use Rattle.std.specs.Prelude.{◌≡◌, ◌≢◌, ◌||◌, ℕ, Bool, true, false, None, Some}
use Rattle.pr_num.specs.ById.{map_each}
use Rattle.pr_parts.specs.PendingSignals.{nothing_pending}
use Rattle.pr_model.specs.LwpTurns.{with_counted}
use Rattle.pr_model.specs.Machines.{stopped_as_directed}
use Rattle.pr_model.specs.Running.{shows_run}
use Rattle.pr_model.specs.State.{TracedLwp, TracedProcess, lwp_of, with_lwp}
use Rattle.pr_model.specs.Stops.{has_event_stop}
use Rattle.pr_model.specs.declared.events.Did.TheVariants.{Stopped}
use Rattle.pr_model.specs.declared.stops.Stop.{Stop}
use Rattle.pr_model.specs.declared.stops.Stop.TheVariants.{Requested}

-- Processes that stand still, and those that come to stand still.

-- whether an lwp stands on an event of interest or is suspended
abbrev pub stands_still : TracedLwp → Bool
stands_still l = has_event_stop l || l.suspended

-- a process each lwp of which stands so
pub record IsFrozen (p : TracedProcess) : Type 0 where
  pub each : (id : ℕ) (l : TracedLwp) → lwp_of p id ≡ Some l → stands_still l ≡ true

-- whether an lwp stands so, or will stop before it does anything
abbrev pub will_stop : TracedLwp → Bool
will_stop l = stands_still l || l.control.directed

-- a process each lwp of which does: there an lwp can only stop as it was directed to
pub record IsHalting (p : TracedProcess) : Type 0 where
  pub each : (id : ℕ) (l : TracedLwp) → lwp_of p id ≡ Some l → will_stop l ≡ true

-- an lwp that stopped as it was directed to, and its process after that turn
abbrev pub stopped_lwp : TracedLwp → TracedLwp
stopped_lwp l = record l { control = stopped_as_directed l.control }

abbrev pub with_lwp_stopped : ℕ → TracedProcess → TracedProcess
with_lwp_stopped id p = with_counted Stopped false (with_lwp id stopped_lwp p)

-- ---- a process with which others have to do

-- an lwp as it is with no signal that pends for it alone
abbrev pub unsignalled : TracedLwp → TracedLwp
unsignalled l = record l { pending = nothing_pending }

-- A process that has lent its memory to nobody has it later, and has lent it to nobody. A lender may get back what it
-- lent.
pub record KeepsMemory (p q : TracedProcess) : Type 0 where
  pub own : p.borrower ≡ None → (q.borrower ≡ None) × (q.space ≡ p.space)

-- A process that others left alone but for signals, which came to pend for it or for its lwps, were deleted, or ended
-- its job stop; for its parent, which ended; and for memory that was lent: its borrower gave it back or passed it on,
-- or its lender ended. No lwp came and none went away: they are the same but for what pends.
pub record IsUndisturbed (p q : TracedProcess) : Type 0 where
  pub rest : q ≡ record p {
    parent = q.parent;
    space = q.space;
    lender = q.lender;
    borrower = q.borrower;
    pending = q.pending;
    job_stop = q.job_stop;
    lwps = q.lwps;
  }
  pub memory : KeepsMemory p q
  pub each : (id : ℕ) (k : TracedLwp) → lwp_of q id ≡ Some k
      → (l : TracedLwp) × ((lwp_of p id ≡ Some l) × (k ≡ record l { pending = k.pending }))
  pub same : map_each unsignalled q.lwps ≡ map_each unsignalled p.lwps

-- ---- the turns of its own lwps

-- a process none of whose lwps stands on an event of interest or is directed to stop
pub record HasNoStop (l : TracedLwp) : Type 0 where
  pub no_stop : l.control.stop ≡ None
  pub not_directed : l.control.directed ≡ false

pub record IsQuiet (p : TracedProcess) : Type 0 where
  pub each : (id : ℕ) (l : TracedLwp) → lwp_of p id ≡ Some l → HasNoStop l

-- what a turn of one of its lwps leaves of what is set on a process: all but its watched areas and its usage
pub record HasSameSettings (p q : TracedProcess) : Type 0 where
  pub control : q.control ≡ record p.control { areas = q.control.areas; usage = q.control.usage }

-- an lwp that stands on an event of interest other than a requested stop
abbrev pub is_met : Stop → Bool
is_met Requested = false
is_met _ = true

pub record StandsOnEvent (l : TracedLwp) : Type 0 where
  pub stop : Stop
  pub is : l.control.stop ≡ Some stop
  pub met : is_met stop ≡ true

-- ---- one event

-- One lwp of a process stands on an event other than a requested stop, and each other one shows a requested stop or a
-- suspension.
pub record HasOneEvent (p : TracedProcess) (id : ℕ) : Type 0 where
  pub lwp : TracedLwp
  pub there : lwp_of p id ≡ Some lwp
  pub stands : StandsOnEvent lwp
  pub others : (other : ℕ) (k : TracedLwp) → other ≢ id → lwp_of p other ≡ Some k
      → shows_run p.job_stop (other, k) ≡ true
