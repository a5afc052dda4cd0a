use Rattle.pr_scen.proofs.BlockFaultLemmas.{least_in_block, is_least_in_block}
use Rattle.pr_scen.proofs.laws.a_refusal_in_a_block_names_its_least_line.Goals as goal

pub returns-clause-refused : goal.returns-clause-refused
returns-clause-refused c = least_in_block

pub returns-clause-refuses : goal.returns-clause-refuses
returns-clause-refuses c = is_least_in_block
