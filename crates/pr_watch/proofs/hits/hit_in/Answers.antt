use Rattle.std.proofs.Common.{sym, ◌∙◌, arith}
use Rattle.pr_watch.proofs.HitLemmas.{hit_in-far}
use Rattle.pr_watch.proofs.hits.hit_in.Goals as goal

pub returns-else-steps-size : goal.returns-else-steps-size
returns-else-steps-size c =
    sym (hit_in-far c.args.kind c.args.at c.args.size c.in-Some.steps c.args.areas.now c.requires (omega arith)
    (sym c.nearest.ensures ∙ c.in-Some.is) (omega arith))
