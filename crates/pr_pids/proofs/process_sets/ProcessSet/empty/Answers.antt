use Rattle.pr_pids.proofs.MarkLemmas.{summed-none}
use Rattle.pr_pids.proofs.process_sets.ProcessSet.empty.Goals as goal

pub invariant_of-result : goal.invariant_of-result
invariant_of-result c = summed-none
