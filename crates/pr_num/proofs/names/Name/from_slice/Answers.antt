use Rattle.std.proofs.Common.{arith}
use Rattle.pr_num.proofs.NameLemmas.{named}
use Rattle.pr_num.proofs.names.Name.from_slice.Goals as goal

pub invariant_of-result : goal.invariant_of-result
invariant_of-result c = rw c.copy_from_slice.ensures.after (named c.args.s.now (omega arith) (omega arith))
