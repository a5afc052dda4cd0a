use Rattle.std.specs.Prelude.{◌≡◌, ◌⊎◌, ℕ, List, All, IsTrue, Some, slice_get}
use Rattle.pr_model.specs.Passive.{is_passive_call}
use Rattle.pr_model.specs.declared.events.Act.{Act}
use Rattle.pr_model.specs.declared.events.Act.TheVariants as act
use Rattle.pr_model.specs.declared.events.Actor.{Actor}
use Rattle.pr_model.specs.declared.events.Actor.TheVariants.{Controller}
use Rattle.pr_model.specs.declared.events.Entry.{Entry}
use Rattle.pr_world.specs.ControllerStates.{ControllerState, Script, FnTruss, Probe}

-- Controllers that trace and show: truss without functions, the proc tools and gcore. A script may make any call, a
-- truss that shows calls of functions plants breakpoints, and a probe makes an agent and writes memory.

unfoldable pub IsTracer : ControllerState → Type 0
IsTracer (Script s) = ⊥
IsTracer (FnTruss t) = ⊥
IsTracer (Probe p) = ⊥
IsTracer _ = Unit {0}

-- the controller of a number is a tracer
pub record IsTracerAt (controllers : List ControllerState) (k : ℕ) : Type 0 where
  pub core : ControllerState
  pub at : slice_get controllers k ≡ Some core
  pub traces : IsTracer core

-- An entry is no call, or the call of one that is a tracer at first, or a passive one.
unfoldable pub IsPassiveOrTracers : List ControllerState → Entry → Type 0
IsPassiveOrTracers controllers e = by e.actor e.act
  where
    by : Actor → Act → Type 0
    by (Controller k) (act.Call c r) = IsTracerAt controllers k ⊎ IsTrue (is_passive_call c r)
    by _ _ = Unit {0}

-- in a history all who are no tracers, these controllers and others, made passive calls alone
abbrev pub OthersArePassive : List ControllerState → List Entry → Type 0
OthersArePassive controllers h = All (IsPassiveOrTracers controllers) h
