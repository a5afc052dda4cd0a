use Rattle.pr_probe.proofs.CodeLemmas.{code-kept}
use Rattle.pr_probe.proofs.StackLemmas.{stack-kept}
use Rattle.pr_probe.proofs.laws.a_probe_writes_back_what_it_saved.Goals as goal

pub returns-clause-code : goal.returns-clause-code
returns-clause-code c pid rs ended none = code-kept pid rs ended none

pub returns-clause-stack : goal.returns-clause-stack
returns-clause-stack c pid rs ended none = stack-kept pid rs ended none
