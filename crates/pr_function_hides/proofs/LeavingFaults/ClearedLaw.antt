use Rattle.std.proofs.Common.{ℕ, List}
use Rattle.pr_function_hides.proofs.LeavingFaults.ClearedCalls as Cleared
use Rattle.pr_function_hides.specs.RunsOfTrusses.{IsRunOfTrusses}
use Rattle.pr_function_hides.specs.TidyFaults.{ClearsOwnFaultsAlone}
use Rattle.pr_hidden.specs.Hiders.{Hiders}
use Rattle.pr_model.specs.State.{TracedState}
use Rattle.pr_model.specs.declared.events.Entry.{Entry}
use Rattle.pr_world.specs.ControllerStates.{ControllerState}

-- Such trusses clear no fault but their own, whether or not they are interrupted.

module _ (n : ℕ) (who : Hiders) (controllers : List ControllerState) (first : TracedState) (h : List Entry)
    (run : IsRunOfTrusses n who controllers first h) where
  pub clears-alone : ClearsOwnFaultsAlone who first h
  clears-alone = record {
    messages = λ front back k handle sent r place hider begins.
        Cleared.clears-own run front back k handle sent r place hider begins;
  }

pub ruleset clears_own = (clears-alone)
