use Rattle.pr_proc.proofs.MarkLemmas.{marked-large, marked-more, marked-one}
use Rattle.pr_proc.proofs.marks.mark.Goals as goal

pub returns-then-parent-lt-PROCESS_LIMIT-clause-marked :
    goal.returns-then-parent-lt-PROCESS_LIMIT-clause-marked
returns-then-parent-lt-PROCESS_LIMIT-clause-marked c =
    marked-one c.args.children.now c.insert.new.self c.args.parent c.args.id c.block_of.result c.block_of.ensures.value
    c.insert.ensures

pub returns-then-parent-lt-PROCESS_LIMIT-clause-grows :
    goal.returns-then-parent-lt-PROCESS_LIMIT-clause-grows
returns-then-parent-lt-PROCESS_LIMIT-clause-grows c =
    marked-more c.args.children.now c.insert.new.self c.args.parent c.args.id c.block_of.result c.block_of.ensures.value
    c.insert.ensures

-- no process has such an id
pub returns-else-parent-lt-PROCESS_LIMIT-clause-marked :
    goal.returns-else-parent-lt-PROCESS_LIMIT-clause-marked
returns-else-parent-lt-PROCESS_LIMIT-clause-marked c =
    marked-large c.args.children.now c.args.parent c.args.id c.if-parent-lt-PROCESS_LIMIT.false
