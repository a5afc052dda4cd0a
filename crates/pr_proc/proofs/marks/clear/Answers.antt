use Rattle.pr_proc.specs.Marks.{any_process, has_ended}
use Rattle.pr_proc.proofs.MarkLemmas.{cleared, none-at_all}
use Rattle.pr_proc.proofs.marks.clear.Goals as goal

-- some live, and none has ended
pub returns-in-Living-clause-zombies : goal.returns-in-Living-clause-zombies
returns-in-Living-clause-zombies c =
    cleared has_ended c.args.parent c.block_of-block.result c.args.zombies.now c.remove.new.self c.args.table.now
    c.requires.zombies (c.children_in.ensures.living c.in-Living.is) c.remove.ensures

-- there is none
pub returns-in-Nobody-clause-children : goal.returns-in-Nobody-clause-children
returns-in-Nobody-clause-children c =
    cleared any_process c.args.parent c.block_of-block.result c.args.children.now c.remove-in-Nobody-2.new.self
    c.args.table.now c.requires.children (c.children_in.ensures.nobody c.in-Nobody.is) c.remove-in-Nobody-2.ensures

pub returns-in-Nobody-clause-zombies : goal.returns-in-Nobody-clause-zombies
returns-in-Nobody-clause-zombies c =
    let none =
    none-at_all has_ended c.args.parent c.args.table.now c.block_of-block.result
    (c.children_in.ensures.nobody c.in-Nobody.is) in
    cleared has_ended c.args.parent c.block_of-block.result c.args.zombies.now c.remove-in-Nobody.new.self
    c.args.table.now c.requires.zombies none c.remove-in-Nobody.ensures
