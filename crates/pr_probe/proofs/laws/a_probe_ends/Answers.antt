use Rattle.pr_probe.proofs.EndLemmas.{probe-ends}
use Rattle.pr_probe.proofs.laws.a_probe_ends.Goals as goal

pub returns : goal.returns
returns c pid rs calm few = probe-ends pid rs calm few
