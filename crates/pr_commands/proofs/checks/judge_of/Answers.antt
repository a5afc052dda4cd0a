use Rattle.std.proofs.Common.{◌≤◌, List, ℕ, sym, subst}
use Rattle.std.specs.List.{slice_get, sum_by}
use Rattle.pr_model.specs.FirstState.{size_at_start}
use Rattle.pr_num.specs.Limits.{all_mappings_limit}
use Rattle.pr_scen.specs.Scenarios.{IsWithinLimits}
use Rattle.pr_actors.proofs.ScenarioLemmas.{spawns-map}
use Rattle.pr_commands.proofs.checks.judge_of.Goals as goal

pub new-requires-clause-mapped : goal.new-requires-clause-mapped
new-requires-clause-mapped c =
    let parts = c.scenario.inside in
    let size : ℕ → ℕ = λ place. size_at_start (slice_get parts.programs.items place) in
    subst (λ (spawns : List ℕ). sum_by size spawns ≤ all_mappings_limit) (sym c.as_slice.ensures.value)
    (spawns-map _ (subst IsWithinLimits (sym c.scenario.view_is) c.requires))
