use Rattle.std.proofs.Common.{refl, sym, ap, ◌∙◌}
use Rattle.pr_num.specs.ById.{put_under, under}
use Rattle.pr_proc.specs.Marks.{any_process, has_ended}
use Rattle.pr_proc.proofs.MarkLemmas.{marks-changed}
use Rattle.pr_proc.proofs.TotalLemmas.{total-changed}
use Rattle.pr_proc.proofs.processes.Processes.get_mut.Goals as goal

pub get_mut-requires : goal.get_mut-requires
get_mut-requires c = rw c.self.view_is c.requires

pub invariant_of-self-lent : goal.invariant_of-self-lent
invariant_of-self-lent c =
    λ w. record {
      total = total-changed c.leave_out-self-inside.result c.args.id w c.self.inside.table
          c.leave_out-self-inside.ensures.total;
      children = marks-changed any_process c.args.id w _ c.self.inside.table c.leave_out-self-inside.ensures.children;
      zombies = marks-changed has_ended c.args.id w _ c.self.inside.table c.leave_out-self-inside.ensures.zombies;
    }

pub returns : goal.returns
returns c = (
  (refl, λ w. ap (put_under c.args.id w) c.self.view_is),
  record {
    writes_back = tt;
    value = ap (under c.args.id) (sym c.self.view_is) ∙ c.get_mut.ensures.value;
  },
)
