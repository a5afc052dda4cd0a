-- A kernel takes what a scenario has within its limits, and a world its controllers.
use Rattle.std.proofs.Common.{◌≡◌, ◌≤◌, ◌+◌, true, List, length, map, sym, ◌∙◌, ap, arith}
use Rattle.std.specs.List.{slice_get, sum_by}
use Rattle.std.proofs.lemmas.List.{length-map}
use Rattle.pr_kern.specs.Starts.{stored}
use Rattle.pr_model.specs.FirstState.{size_at_start}
use Rattle.pr_num.specs.Limits.{all_mappings_limit, process_limit}
use Rattle.pr_parts.specs.FileTables.{names_differ}
use Rattle.pr_run_laws.specs.ScenarioRuns.{controller_of}
use Rattle.pr_scen.specs.Scenarios.{IsWithinLimits, Scenario}
use Rattle.pr_scen.specs.declared.plans.Plan.{Plan}
use Rattle.pr_world.specs.ControllerStates.{state_of}
use Rattle.pr_world.specs.declared.controllers.Controller.{Controller}

-- there is room for what it spawns
pub spawns-few : (s : Scenario) → IsWithinLimits s → length s.spawns + 1 ≤ process_limit
spawns-few s limits = omega (arith, limits.spawns)

pub spawns-map : (s : Scenario) → IsWithinLimits s
    → sum_by (λ place. size_at_start (slice_get s.programs place)) s.spawns ≤ all_mappings_limit
spawns-map s limits = omega (arith, limits.mapped)

-- its files have names of their own
pub own-names : (s : Scenario) → IsWithinLimits s → names_differ (stored s.files) ≡ true
own-names s limits = limits.own_names

-- there is a controller for each plan
pub controllers-few : (plans : List Plan) (controllers : List Controller)
    → map state_of controllers ≡ map controller_of plans → length controllers ≡ length plans
controllers-few plans controllers same =
    sym (length-map controllers state_of) ∙ ap length same ∙ length-map plans controller_of

pub ruleset scenarios = (spawns-few, spawns-map, own-names, controllers-few)
