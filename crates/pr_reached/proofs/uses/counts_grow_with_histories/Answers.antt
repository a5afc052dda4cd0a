use Rattle.pr_reached.proofs.Usage.UsageHistories.{first-used, history-used}
use Rattle.pr_reached.proofs.uses.counts_grow_with_histories.Goals as goal

pub returns : goal.returns
returns c = record { first = first-used; later = history-used }
