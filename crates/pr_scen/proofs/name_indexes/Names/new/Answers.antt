use Rattle.pr_scen.proofs.NameLemmas.{index-empty}
use Rattle.pr_scen.proofs.name_indexes.Names.new.Goals as goal

pub invariant_of-result : goal.invariant_of-result
invariant_of-result c = rw c.new.ensures.items (index-empty c.new-2.result c.new-2.ensures.empty)
