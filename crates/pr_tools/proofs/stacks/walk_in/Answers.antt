use Rattle.std.proofs.Common.{sym, ◌∙◌, arith}
use Rattle.pr_tools.proofs.StackLemmas.{walk_in-here}
use Rattle.pr_tools.proofs.stacks.walk_in.Goals as goal

pub returns-then-walk-ne0 : goal.returns-then-walk-ne0
returns-then-walk-ne0 c =
    sym (c.loop-walk.invariant
    ∙ walk_in-here c.args.bytes.now c.loop-walk.at c.walk_from-walk.result
    (omega arith) c.walk_from-walk.ensures c.if-walk-ne0.true)
