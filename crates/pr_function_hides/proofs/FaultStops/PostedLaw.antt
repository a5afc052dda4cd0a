use Rattle.std.proofs.Common.{ℕ, List}
use Rattle.pr_function_hides.proofs.StepMarks.PassiveHiders.{passive-but}
use Rattle.pr_function_hides.proofs.FaultStops.StoppedWalk.{never-posted}
use Rattle.pr_function_hides.specs.PassiveOthers.{AreOthersPassive}
use Rattle.pr_function_hides.specs.RunsOfTrusses.{IsRunOfTrusses}
use Rattle.pr_function_hides.specs.TidyFaults.{PostsNoOwnFault}
use Rattle.pr_hidden.specs.Hiders.{Hiders}
use Rattle.pr_model.specs.State.{TracedState}
use Rattle.pr_model.specs.declared.events.Entry.{Entry}
use Rattle.pr_probe_laws.specs.StepMarks.{IsUnstepped}
use Rattle.pr_world.specs.ControllerStates.{ControllerState}

-- Such trusses post no fault of their own, also once they were interrupted.

pub posts-none : (n : ℕ) (who : Hiders) (controllers : List ControllerState) (first : TracedState) (h : List Entry)
    → IsRunOfTrusses n who controllers first h → AreOthersPassive who h → IsUnstepped first.system
    → PostsNoOwnFault who first h
posts-none n who controllers first h run others unstepped =
    let passive = passive-but run others in
    record {
      none = λ front back pid id turned p l f address place live there own phase.
          never-posted run passive unstepped front back pid id turned p l f address place live there own phase;
    }

pub ruleset posts = (posts-none)
