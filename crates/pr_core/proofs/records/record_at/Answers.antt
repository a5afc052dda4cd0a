use Rattle.std.proofs.Common.{arith, length, length-drop}
use Rattle.pr_core.proofs.FaultLemmas.{field-below}
use Rattle.pr_core.proofs.records.record_at.Goals as goal

pub fault_at-requires : goal.fault_at-requires
fault_at-requires g c =
    field-below _ _ c.args.at (length c.args.bytes.now) c.in-Err.fault c.in-Err.ensures.err
    (omega (arith, length-drop c.args.at c.args.bytes.now)) (omega arith)
