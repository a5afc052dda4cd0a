use Rattle.std.specs.Prelude.{◌≡◌, ◌≢◌, ℕ, Bool, true, false, Option, Some, None}
use Rattle.pr_api.specs.Views.{KernelView}
use Rattle.pr_laws.specs.LastCloses.{IsReleased}
use Rattle.pr_model.specs.Handles.{handle_of}
use Rattle.pr_model.specs.Lawful.{IsLawful}
use Rattle.pr_model.specs.State.{TracedProcess, TracedState, live_process}
use Rattle.pr_model.specs.declared.calls.File.TheVariants.{Ctl}
use Rattle.pr_model.specs.declared.calls.Mode.TheVariants.{WriteExcl}
use Rattle.pr_model.specs.declared.handles.Held.{Held}
use Rattle.pr_truss_laws.specs.Handles.{HasNothingOpen}
use Rattle.own_tracer.specs.declared.attaching.Grip.{Grip}

-- What the injector, which is controller 0, has of the machine.

-- the handle by which it holds a process: for writing, and for nobody else
abbrev pub gripped : ℕ → Held
gripped pid = record { controller = 0; pid = pid; lwp = 0; file = Ctl; mode = WriteExcl }

-- nothing open
pub record HoldsNothing (s : TracedState) : Type 0 where
  pub lawful : IsLawful s
  pub nothing : HasNothingOpen 0 s

-- the control file of one process, which is not the system process, and nothing else
pub record Holds (g : Grip) (s : TracedState) : Type 0 where
  pub lawful : IsLawful s
  pub some : g.pid ≢ 0
  pub held : handle_of s.opens 0 g.control ≡ Some (gripped g.pid)
  pub others : (m : ℕ) → g.control ≢ m → handle_of s.opens 0 m ≡ None

-- what it has after an open
abbrev pub HasAttached : Option Grip → TracedState → Type 0
HasAttached None s = HoldsNothing s
HasAttached (Some g) s = Holds g s

-- Nothing open again; and of the process, if it lives, nothing is traced or watched, and no lwp of it stands on an
-- event or is directed to stop.
pub record HasLeft (pid : ℕ) (s : TracedState) : Type 0 where
  pub nothing : HoldsNothing s
  pub free : (p : TracedProcess) → live_process s.system pid ≡ Some p → IsReleased p

-- the same, where it held the process
abbrev pub LeftIf : Bool → ℕ → TracedState → Type 0
LeftIf true pid s = HasLeft pid s
LeftIf false pid s = HoldsNothing s

-- A lawful state, with the handles that were open in the state of this kernel.
pub record Keeps (k : KernelView) (t : TracedState) : Type 0 where
  pub lawful : IsLawful t
  pub opens : (s : TracedState) → k.machine ≡ Some s → t.opens ≡ s.opens
