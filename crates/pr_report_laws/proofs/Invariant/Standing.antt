use Rattle.std.proofs.Common.{◌≡◌, ◌-◌, ◌%◌, ◌^◌, ℕ, true, false, List, [], ◌∷◌, ◌++◌, None, Some, ◌⊎◌}
use Rattle.pr_line.specs.declared.options.Options.{Options}
use Rattle.pr_model.specs.State.{TracedLwp, TracedProcess, TracedState, has_agent, live_process, lwp_of}
use Rattle.pr_model.specs.Stops.{has_event_stop}
use Rattle.pr_num.specs.Control.{async_mode, has_flags, klc_mode}
use Rattle.pr_num.specs.Sets.{without_number}
use Rattle.pr_num.specs.Signals.{signal_number}
use Rattle.pr_num.specs.declared.signals.Sig.TheVariants.{Kill}
use Rattle.pr_truss.specs.Messages.{traced_entries, traced_exits, traced_faults, traced_signals}
use Rattle.pr_truss.specs.Trusses.{TrussState, traced_at}
use Rattle.pr_truss.specs.declared.stages.ChildStep.{ChildStep}
use Rattle.pr_truss.specs.declared.stages.OpeningStep.{OpeningStep}
use Rattle.pr_truss.specs.declared.stages.OpeningStep.TheVariants as opening
use Rattle.pr_truss.specs.declared.stages.Stage.TheVariants.{Opening, OpeningChild}
use Rattle.pr_truss_laws.specs.Stills.{IsHalting}
use Rattle.pr_report_laws.proofs.Invariant.Positions.{IsAtBirth, IsTracedBy, Waits, met_in}
use Rattle.pr_report_laws.proofs.Invariant.Tallies.{Tally}
pub use Rattle.pr_report_laws.specs.Positions.{Position, goes, has_event, has_read, is_named, old_stops, stop_read}
use Rattle.pr_report_laws.specs.Shown.{LwpEvent}
use Rattle.pr_report_laws.specs.Watching.{is_away, place_of, watches}

-- How a process stands, and how much of it truss was told, wherever truss and the machine have come to: what holds
-- before each entry of a history.

-- ---- what is missing

-- Truss was told all that came, or one event is missing, and this is why.
pub record Accounted (Why : Type 0) (tally : Tally) : Type 0 where
  pub missing : List LwpEvent
  pub is : tally.came ≡ tally.told ++ missing
  pub few : (missing ≡ []) ⊎ ((event : LwpEvent) × ((missing ≡ event ∷ []) × Why))

-- ---- the opening of a process

-- neither PR_ASYNC nor PR_KLC is set
pub record IsSpared (p : TracedProcess) : Type 0 where
  pub directs : has_flags p.control.modes async_mode ≡ false
  pub spares : has_flags p.control.modes klc_mode ≡ false

-- an lwp of a process stands on an event of interest
pub record HasStop (p : TracedProcess) : Type 0 where
  pub id : ℕ
  pub lwp : TracedLwp
  pub there : lwp_of p id ≡ Some lwp
  pub stops : has_event_stop lwp ≡ true

-- A process after the wait for its stop: nothing moves in it; and unless an agent stands there, it is frozen, and some
-- lwp
-- of it stands on an event of interest.
pub record IsAttached (p : TracedProcess) : Type 0 where
  pub spared : IsSpared p
  pub halting : IsHalting p
  pub stops : has_agent p ≡ false → HasStop p
  pub waits : has_agent p ≡ false → Waits p (met_in p)

-- the same once truss knows how many stops are old: the first of them is run with the opening
pub record IsCounted (p : TracedProcess) (old : ℕ) : Type 0 where
  pub attached : IsAttached p
  pub counts : has_agent p ≡ false → old ≡ met_in p - 1

-- the traced sets, one after another
pub record HasSignals (o : Options) (p : TracedProcess) (old : ℕ) : Type 0 where
  pub counted : IsCounted p old
  pub signals : p.control.traced_signals ≡ without_number (traced_signals o) (signal_number Kill)

pub record HasFaults (o : Options) (p : TracedProcess) (old : ℕ) : Type 0 where
  pub before : HasSignals o p old
  pub faults : p.control.traced_faults ≡ traced_faults o % 2 ^ 64

pub record HasEntries (o : Options) (p : TracedProcess) (old : ℕ) : Type 0 where
  pub before : HasFaults o p old
  pub entries : p.control.traced_entries ≡ traced_entries o

pub record HasExits (o : Options) (p : TracedProcess) (old : ℕ) : Type 0 where
  pub before : HasEntries o p old
  pub exits : p.control.traced_exits ≡ traced_exits o

-- what holds of a live process before a step of its opening, where truss counts so many stops as old
unfoldable pub Opened : Options → OpeningStep → TracedProcess → ℕ → Type 0
Opened o opening.SetRelease p old = IsSpared p
Opened o opening.Stop p old = IsSpared p
Opened o (opening.AwaitStop until) p old = IsSpared p × IsHalting p
Opened o opening.ReadLwps p old = IsAttached p
Opened o opening.TraceSignals p old = IsCounted p old
Opened o opening.TraceFaults p old = HasSignals o p old
Opened o opening.TraceEntries p old = HasFaults o p old
Opened o opening.TraceExits p old = HasEntries o p old
Opened o opening.Follow p old = HasExits o p old
Opened o opening.Start p old = HasExits o p old
Opened o opening.OpenStatus p old = Unit {0}
Opened o opening.OpenLstatus p old = Unit {0}
Opened o opening.OpenMemory p old = Unit {0}
Opened o opening.ClearModes p old = Unit {0}

-- what holds of a process that truss opens, by the step that it comes to
pub record Prepares (o : Options) (pid : ℕ) (t : TrussState) (s : TracedState) : Type 0 where
  pub opened : (place : ℕ) (step : OpeningStep) (p : TracedProcess) → t.stage ≡ Opening place step
      → (traced_at t place).pid ≡ pid → live_process s.system pid ≡ Some p → Opened o step p (traced_at t place).old
  pub until : (place until : ℕ) → t.stage ≡ Opening place (opening.AwaitStop until) → until ≡ 0
  pub child : (parent place : ℕ) (step : ChildStep) (p : TracedProcess) → t.stage ≡ OpeningChild parent place step
      → (traced_at t place).pid ≡ pid → live_process s.system pid ≡ Some p → IsAtBirth o p
  pub new : (parent place : ℕ) (step : ChildStep) → t.stage ≡ OpeningChild parent place step
      → (traced_at t place).old ≡ 0

-- ---- all

-- How the process of an id stands with truss. Why is why an event may be missing.
pub data Standing (Why : Type 0) (o : Options) (pid : ℕ) (t : TrussState) (s : TracedState)
    (tally : Tally) : Type 0 where
  -- it is not watched
  apart : watches t pid ≡ false → Accounted Why tally → Standing Why o pid t s tally
  -- it has ended, and truss has not learnt that yet
  over : watches t pid ≡ true → live_process s.system pid ≡ None → Accounted Why tally
      → Standing Why o pid t s tally
  -- it lives
  lives : (place : ℕ) (p : TracedProcess) → place_of t pid ≡ Some place → (traced_at t place).attached ≡ true
      → is_away t.leaving t.stage place ≡ false → live_process s.system pid ≡ Some p → IsTracedBy o p
      → Position o t.stage place (traced_at t place).old p tally → Standing Why o pid t s tally
