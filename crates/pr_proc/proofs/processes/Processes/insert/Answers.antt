use Rattle.pr_proc.specs.Marks.{any_process, has_ended}
use Rattle.pr_proc.proofs.MarkLemmas.{marks-more}
use Rattle.pr_proc.proofs.TotalLemmas.{total-more}
use Rattle.pr_proc.proofs.processes.Processes.insert.Goals as goal

pub insert-requires : goal.insert-requires
insert-requires c = rw c.self.view_is c.requires

pub invariant_of-self-2 : goal.invariant_of-self-2
invariant_of-self-2 c =
    rw c.in_ok-insert.ensures.ok (record {
      total =
          total-more c.args.id c.whole-before.result c.args.process c.self.inside.table c.whole-before.ensures.small
          c.whole-before.ensures.sum (rw c.self.view_is c.requires);
      children = marks-more any_process c.args.id c.args.process _ c.self.inside.table c.settle.ensures.children;
      zombies = marks-more has_ended c.args.id c.args.process _ c.self.inside.table c.settle.ensures.zombies;
    })
