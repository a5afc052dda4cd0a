use Rattle.std.proofs.Common.{arith}
use Rattle.pr_proc.proofs.TotalLemmas.{but-one, other-out}
use Rattle.pr_proc.proofs.processes.all_but.Goals as goal

pub overflow_sub-result : goal.overflow_sub-result
overflow_sub-result c =
    omega (
      arith,
      but-one 0 c.args.id c.args.table.now c.ids_rise.ensures,
      c.whole.ensures.sum,
      c.size_under.ensures.size,
    )

pub returns : goal.returns
returns c =
    other-out c.args.id c.whole.result c.size_under.result c.args.table.now c.ids_rise.ensures c.whole.ensures.small
    c.whole.ensures.sum c.size_under.ensures.size
