use Rattle.std.proofs.Common.{arith}
use Rattle.pr_view.proofs.MemoryLemmas.{read-again, read-whole}
use Rattle.pr_view.proofs.memory.mapped_from.Goals as goal

-- all of them are mapped
pub returns-in_default : goal.returns-in_default
returns-in_default c =
    read-whole c.args.space.now c.args.at c.args.len _ _ _ _ (omega (arith, c.in_ok-bytes.ensures.len))
    (omega arith) c.in_default.ensures.ok

-- one is not, and those before it are read again
pub returns : goal.returns
returns c =
    read-again c.args.space.now c.args.at c.args.len c.bytes_before.result _ _ _ _ _ c.in-Err.fault c.read-2.result
    (omega arith) (omega arith) (omega arith) (omega (arith, c.in_ok-bytes.ensures.len))
    (omega (arith, c.in_ok-before.ensures.len))
    (omega arith) c.in-Err.ensures.answer c.bytes_before.ensures c.read-2.ensures.answer c.read-2.ensures.ok
