use Rattle.pr_function_laws.proofs.Stepping.OtherSteps.{others-step}
use Rattle.pr_function_laws.proofs.steps.a_step_goes_on_until_its_own_turn.Goals as goal

pub returns : goal.returns
returns c =
    λ n s k pid id p l e lawful sole live stepped all no_call fit legal other.
    others-step n s k pid id lawful sole p l live stepped all no_call fit e legal other
