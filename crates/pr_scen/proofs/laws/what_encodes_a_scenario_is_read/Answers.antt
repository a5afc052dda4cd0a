use Rattle.pr_scen.proofs.DivisionLemmas.{is_read, what_is_read}
use Rattle.pr_scen.proofs.laws.what_encodes_a_scenario_is_read.Goals as goal

pub returns-clause-read : goal.returns-clause-read
returns-clause-read c = is_read

pub returns-clause-encoded : goal.returns-clause-encoded
returns-clause-encoded c = what_is_read
