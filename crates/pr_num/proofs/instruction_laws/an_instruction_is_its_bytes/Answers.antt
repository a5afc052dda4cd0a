use Rattle.pr_num.proofs.InstructionLemmas.{spelled-read, read-spelled}
use Rattle.pr_num.proofs.instruction_laws.an_instruction_is_its_bytes.Goals as goal

pub returns-clause-read_back : goal.returns-clause-read_back
returns-clause-read_back c = spelled-read

pub returns-clause-one_spelling : goal.returns-clause-one_spelling
returns-clause-one_spelling c = read-spelled
