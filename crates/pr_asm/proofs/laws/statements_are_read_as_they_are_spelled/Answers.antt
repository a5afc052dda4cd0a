use Rattle.pr_asm.proofs.SpellingLemmas.{read_spelled, program_spelled}
use Rattle.pr_asm.proofs.laws.statements_are_read_as_they_are_spelled.Goals as goal

pub returns-clause-lines : goal.returns-clause-lines
returns-clause-lines c = read_spelled

pub returns-clause-programs : goal.returns-clause-programs
returns-clause-programs c = program_spelled
