-- Controllers, as a world keeps them.
use Rattle.std.specs.Prelude.{◌≡◌, Bool, true}
use Rattle.pr_world.specs.ControllerStates.{ControllerState}

-- A controller, and whether its next call was made. Once made it is kept until the reply comes, and questions about the
-- controller take no memory.
pub record CallerState : Type 0 where
  pub core : ControllerState
  pub made : Bool

unfoldable pub core_in : CallerState → ControllerState
core_in c = c.core

abbrev pub IsMade : CallerState → Type 0
IsMade c = c.made ≡ true
