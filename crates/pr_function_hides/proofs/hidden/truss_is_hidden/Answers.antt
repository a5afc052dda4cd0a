use Rattle.pr_function_hides.proofs.HiddenTruss.{truss-hidden}
use Rattle.pr_function_hides.proofs.hidden.truss_is_hidden.Goals as goal

pub returns-clause-hidden : goal.returns-clause-hidden
returns-clause-hidden c = truss-hidden
