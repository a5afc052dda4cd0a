use Rattle.pr_proc.specs.Marks.{any_process, has_ended}
use Rattle.pr_proc.proofs.MarkLemmas.{settled-none}
use Rattle.pr_proc.proofs.marks.settle.Goals as goal

-- there is no such process
pub returns-in_default-clause-children : goal.returns-in_default-clause-children
returns-in_default-clause-children c =
    settled-none any_process c.args.out c.args.table.now c.args.children.now c.requires.children c.in_default.ensures

pub returns-in_default-clause-zombies : goal.returns-in_default-clause-zombies
returns-in_default-clause-zombies c =
    settled-none has_ended c.args.out c.args.table.now c.args.zombies.now c.requires.zombies c.in_default.ensures
