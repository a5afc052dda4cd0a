-- Runs of trusses that are undisturbed: what is asked of a history in which those who hide are trusses.
use Rattle.std.specs.Prelude.{ℕ, List}
use Rattle.pr_function_hides.specs.FunctionHiders.{AreTrusses}
use Rattle.pr_function_hides.specs.TidyWrites.{AreUndisturbed}
use Rattle.pr_hidden.specs.Hiders.{Hiders}
use Rattle.pr_model.specs.Legal.{IsLegal}
use Rattle.pr_model.specs.State.{TracedState}
use Rattle.pr_model.specs.declared.events.Entry.{Entry}
use Rattle.pr_reached.specs.ByteHistories.{HasBytes}
use Rattle.pr_reached.specs.Reached.{IsReached}
use Rattle.pr_tool_laws.specs.OwnCalls.{AreOwnCalls}
use Rattle.pr_world.specs.ControllerStates.{ControllerState}

-- A legal history of n controllers, in which those who hide are each a truss that shows calls of functions, and are
-- undisturbed. Whether one of them is interrupted is left open.
pub record IsRunOfTrusses (n : ℕ) (who : Hiders) (controllers : List ControllerState) (first : TracedState)
    (h : List Entry) : Type 0 where
  -- the machine reaches the state in which it begins
  pub reached : IsReached first
  -- what controllers write is bytes
  pub bytes : HasBytes h
  -- each entry is a step of the machine
  pub legal : IsLegal n first h
  -- these controllers make their own calls
  pub own_calls : AreOwnCalls controllers h
  -- each one who hides is a truss that shows calls of functions, follows no children and has nothing open at first;
  -- and none asks by an agent
  pub are : AreTrusses who controllers first
  -- programs and others leave the functions of these alone, as AreUntouched says, and no lwp is at a fork, a vfork or
  -- an exec where the wait of an opening is granted
  pub undisturbed : AreUndisturbed who controllers first h
