-- The scenario of an input.
use Rattle.std.proofs.Common.{◌≡◌, ℕ, List, Option, Some, None, Ok}
use Rattle.pr_run_laws.specs.ScenarioRanges.{IsScenarioInRange}
use Rattle.pr_run_laws.proofs.ScenariosInRange.ScenarioRangeLemmas.{scenario-range}
use Rattle.pr_scen.specs.Scenarios.{Scenario}
use Rattle.pr_commands.specs.Inputs.{scenario_of_input}

-- It is in range.
pub input-range : (input : Option (List ℕ)) (s : Scenario) → scenario_of_input input ≡ Ok s → IsScenarioInRange s
unfolding scenario_of_input
input-range None s is = let no : ⊥ = cc in absurd no
input-range (Some text) s is = scenario-range text s is
