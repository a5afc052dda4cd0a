use Rattle.pr_scen.proofs.ScenarioTextLemmas.{each_has}
use Rattle.pr_scen.proofs.laws.each_scenario_has_a_text.Goals as goal

pub returns : goal.returns
returns c = each_has
