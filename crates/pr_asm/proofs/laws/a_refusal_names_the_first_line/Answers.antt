use Rattle.pr_asm.proofs.FaultLemmas.{first_fault}
use Rattle.pr_asm.proofs.laws.a_refusal_names_the_first_line.Goals as goal

pub returns : goal.returns
returns c = first_fault
