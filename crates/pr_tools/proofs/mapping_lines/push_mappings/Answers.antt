use Rattle.std.proofs.Common.{◌+◌, ◌/◌, ◌<◌, ◌^◌, arith}
use Rattle.pr_tools.proofs.TotalLemmas.{total-fits}
use Rattle.pr_tools.proofs.mapping_lines.push_mappings.Goals as goal

pub overflow_add-total : goal.overflow_add-total
overflow_add-total c =
    let fits : c.loop-mapping.total + c.mapping-item.result.size / 1024 < 2 ^ 64 =
    total-fits c.args.mappings.now c.loop-mapping.mapping-index c.loop-mapping.total c.mapping-item.result c.requires
    c.loop-mapping-test.true c.mapping-item.is (omega arith) c.loop-mapping.invariant.2 c.loop-mapping.invariant.1 in
    omega (arith, fits)
