use Rattle.pr_probe.proofs.OrderLemmas.{sequence-kept}
use Rattle.pr_probe.proofs.laws.a_probe_keeps_its_order.Goals as goal

pub returns : goal.returns
returns c pid rs ended none = sequence-kept pid rs ended none
