-- The controllers of a world, as contracts see them: each as its core, which knows the machine by replies alone.
use Rattle.pr_core.specs.Gcores as gcores
use Rattle.pr_probe.specs.Probes.{ProbeState}
use Rattle.pr_scen.specs.Scripts.{ScriptState}
use Rattle.pr_tools.specs.Tools.{ToolState}
use Rattle.pr_truss.specs.Trusses.{TrussState, IsReady as HasRoom}
use Rattle.pr_world.specs.declared.controllers.Controller.{Controller}
use Rattle.pr_world.specs.declared.controllers.Controller.TheVariants as declared

-- FnTruss is a truss that shows calls of functions.
pub data ControllerState : Type 0 where
  Script : ScriptState → ControllerState
  Truss : TrussState → ControllerState
  FnTruss : TrussState → ControllerState
  Tool : ToolState → ControllerState
  Gcore : gcores.GcoreState → ControllerState
  Probe : ProbeState → ControllerState

-- The core of a controller. How much room a controller has kept for its next reply is no part of it.
unfoldable pub state_of : Controller → ControllerState
state_of (declared.Script s) = Script s
state_of (declared.Truss t) = Truss t.state
state_of (declared.FnTruss t) = FnTruss t.state
state_of (declared.Tool t) = Tool t
state_of (declared.Gcore g) = Gcore g.state
state_of (declared.Probe p) = Probe p

-- whether a controller can be fed one reply without memory
unfoldable pub IsReady : Controller → Type 0
IsReady (declared.Script s) = Unit {0}
IsReady (declared.Truss t) = HasRoom t
IsReady (declared.FnTruss t) = HasRoom t
IsReady (declared.Tool t) = Unit {0}
IsReady (declared.Gcore g) = gcores.IsReady g
IsReady (declared.Probe p) = Unit {0}
