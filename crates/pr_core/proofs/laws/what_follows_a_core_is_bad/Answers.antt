use Rattle.pr_core.proofs.CoreLemmas.{core-followed}
use Rattle.pr_core.proofs.laws.what_follows_a_core_is_bad.Goals as goal

pub returns : goal.returns
returns c core byte more is few = core-followed core byte more is few
