use Rattle.pr_probe.proofs.LineLemmas.{lines-kept}
use Rattle.pr_probe.proofs.laws.a_probe_shows_what_its_agent_was_answered.Goals as goal

pub returns : goal.returns
returns c pid rs = lines-kept pid rs
