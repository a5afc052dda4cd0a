use Rattle.pr_proc.proofs.MarkLemmas.{block-last, block-small}
use Rattle.pr_proc.proofs.marks.block_of.Goals as goal

pub returns-then-id-clause-value : goal.returns-then-id-clause-value
returns-then-id-clause-value c = block-small c.args.id c.if-id.true

pub returns-else-id-clause-value : goal.returns-else-id-clause-value
returns-else-id-clause-value c = block-last c.args.id c.if-id.false
