use Rattle.std.proofs.Common.{arith}
use Rattle.pr_proc.proofs.MarkLemmas.{before-marked, none-marked}
use Rattle.pr_proc.proofs.marks.next_marked.Goals as goal

-- no block is marked from there on
pub returns-in_err-block-clause-passed : goal.returns-in_err-block-clause-passed
returns-in_err-block-clause-passed c = λ id least before.
    none-marked c.args.marks.now c.args.parent c.args.low id c.if-parent-ge-PROCESS_LIMIT.false least
    (λ b from. c.in_err-block.ensures.none b (let at = c.block_of.ensures.value in omega arith))

-- none before this one
pub returns-clause-passed : goal.returns-clause-passed
returns-clause-passed c = λ id least before.
    before-marked c.args.marks.now c.args.parent c.args.low id c.if-parent-ge-PROCESS_LIMIT.false least
    c.in_ok-block.block
    (λ b from. c.in_ok-block.ensures.least b (let at = c.block_of.ensures.value in omega arith))
    c.in_ok-block.ensures.within before
