use Rattle.pr_probe.proofs.CloseLemmas.{handles-kept}
use Rattle.pr_probe.proofs.laws.a_probe_closes_what_it_opened.Goals as goal

pub returns : goal.returns
returns c pid rs ended = handles-kept pid rs ended
