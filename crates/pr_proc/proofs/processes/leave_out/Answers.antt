use Rattle.pr_proc.specs.Marks.{any_process, has_ended}
use Rattle.pr_proc.proofs.MarkLemmas.{marked-but}
use Rattle.pr_proc.proofs.processes.leave_out.Goals as goal

-- it is that one already
pub returns-then-id-out : goal.returns-then-id-out
returns-then-id-out c = rw c.if-id-out.true c.requires

-- it is another one
pub returns : goal.returns
returns c = record {
  total = c.all_but.ensures;
  children = marked-but any_process c.args.id _ c.args.table.now c.settle.ensures.children;
  zombies = marked-but has_ended c.args.id _ c.args.table.now c.settle.ensures.zombies;
}
