use Rattle.std.proofs.Common.{◌+◌, ℕ, ap, ◌∙◌, arith}
use Rattle.pr_proc.proofs.TotalLemmas.{total-limit, whole-sum, whole-small}
use Rattle.pr_proc.proofs.processes.whole.Goals as goal

pub overflow_add-result : goal.overflow_add-result
overflow_add-result c =
    let limit = total-limit c.args.others c.args.out c.args.table.now c.requires c.are_few.ensures in
    omega arith

pub returns-clause-sum : goal.returns-clause-sum
returns-clause-sum c =
    ap (λ (n : ℕ). c.args.others + n) c.size_under.ensures.size
    ∙ whole-sum c.args.others c.args.out c.args.table.now c.ids_rise.ensures c.requires

pub returns-clause-small : goal.returns-clause-small
returns-clause-small c =
    whole-small c.args.others c.args.out c.size_under.result c.args.table.now c.ids_rise.ensures c.requires
    c.size_under.ensures.size c.size_under.ensures.limit
