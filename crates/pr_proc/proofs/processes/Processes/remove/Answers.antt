use Rattle.std.proofs.Common.{sym, ap, ◌∙◌}
use Rattle.pr_num.specs.ById.{under, without_id}
use Rattle.pr_proc.specs.Marks.{any_process, has_ended}
use Rattle.pr_proc.proofs.MarkLemmas.{marked-but, marks-fewer}
use Rattle.pr_proc.proofs.TotalLemmas.{total-fewer}
use Rattle.pr_proc.proofs.processes.Processes.remove.Goals as goal

pub remove-process-requires : goal.remove-process-requires
remove-process-requires c = rw c.self.view_is c.requires

pub clear-requires-clause-children : goal.clear-requires-clause-children
clear-requires-clause-children c =
    rw c.remove-process.ensures.rest
    (marks-fewer any_process c.args.id _ c.self.inside.table c.ids_rise.ensures c.settle.ensures.children)

pub clear-requires-clause-zombies : goal.clear-requires-clause-zombies
clear-requires-clause-zombies c =
    rw c.remove-process.ensures.rest
    (marks-fewer has_ended c.args.id _ c.self.inside.table c.ids_rise.ensures c.settle.ensures.zombies)

pub invariant_of-self : goal.invariant_of-self
invariant_of-self c = record {
  total =
      rw c.remove-process.ensures.rest
      (total-fewer c.all_but-self-inside.result c.args.id c.self.inside.table c.all_but-self-inside.ensures);
  children = marked-but any_process c.args.id _ _ c.clear.ensures.children;
  zombies = marked-but has_ended c.args.id _ _ c.clear.ensures.zombies;
}

pub returns-clause-value : goal.returns-clause-value
returns-clause-value c = ap (under c.args.id) (sym c.self.view_is) ∙ c.remove-process.ensures.value

pub returns-clause-rest : goal.returns-clause-rest
returns-clause-rest c = c.remove-process.ensures.rest ∙ ap (without_id c.args.id) c.self.view_is
