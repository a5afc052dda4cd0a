use Rattle.std.proofs.Common.{ap, ◌∙◌}
use Rattle.pr_num.specs.ById.{under}
use Rattle.pr_num.proofs.ByIdLaws.{under-without_id}
use Rattle.pr_hist.proofs.names.forget.Goals as goal

pub returns-then-contains-clause-free : goal.returns-then-contains-clause-free
returns-then-contains-clause-free g c =
    ap (under c.args.id) c.remove.ensures.rest
    ∙ under-without_id 0 c.args.id c.args.table.now c.ids_rise.ensures
