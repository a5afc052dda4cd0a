use Rattle.std.specs.Prelude.{◌≡◌, ℕ, List, Some, slice_get}
use Rattle.pr_model.specs.Legal.{IsLegal}
use Rattle.pr_model.specs.State.{TracedState}
use Rattle.pr_model.specs.declared.events.Entry.{Entry}
use Rattle.pr_tool_laws.specs.OwnCalls.{AreOwnCalls}
use Rattle.pr_world.specs.ControllerStates.{ControllerState}

-- Histories in which a controller is a tool, gcore or apfiles.

-- The history is legal, these controllers make their own calls in it, and the one of this number is as this says at
-- first: a tool of some kind and process, a gcore or an apfiles.
pub record IsRunOf (n k : ℕ) (core : ControllerState) (controllers : List ControllerState) (s : TracedState)
    (h : List Entry) : Type 0 where
  pub begins : slice_get controllers k ≡ Some core
  pub legal : IsLegal n s h
  pub own_calls : AreOwnCalls controllers h
