use Rattle.pr_scen.proofs.FaultLemmas.{first_fault, is_first}
use Rattle.pr_scen.proofs.laws.a_refusal_names_the_first_line.Goals as goal

pub returns-clause-refused : goal.returns-clause-refused
returns-clause-refused c = first_fault

pub returns-clause-refuses : goal.returns-clause-refuses
returns-clause-refuses c = is_first
