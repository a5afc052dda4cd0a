use Rattle.pr_run_laws.proofs.ScenariosInRange.ScenarioRangeLemmas.{scenario-range}
use Rattle.pr_run_laws.proofs.laws.scenarios_that_were_read_are_in_range.Goals as goal

pub returns : goal.returns
returns c = scenario-range
