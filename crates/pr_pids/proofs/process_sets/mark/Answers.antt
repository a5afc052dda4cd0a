use Rattle.std.proofs.Common.{◌∙◌}
use Rattle.pr_pids.proofs.MarkLemmas.{summed-cleared, summed-set}
use Rattle.pr_pids.proofs.process_sets.mark.Goals as goal

pub returns-then-word-eq0 : goal.returns-then-word-eq0
returns-then-word-eq0 c words here others =
    summed-cleared c.args.some c.args.at words c.requires (here ∙ c.if-word-eq0.true) others

pub returns-else-word-eq0 : goal.returns-else-word-eq0
returns-else-word-eq0 c words here others = summed-set c.args.some c.args.at words c.requires others
