use Rattle.pr_reached.proofs.Usage.UsageHistories.{usage-range}
use Rattle.pr_reached.proofs.uses.what_is_used_is_in_range.Goals as goal

pub returns : goal.returns
returns c = usage-range
