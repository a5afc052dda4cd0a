use Rattle.pr_world.proofs.RunLemmas.{run-came}
use Rattle.pr_world.proofs.laws.a_run_is_legal_and_follows_the_protocol.Goals as goal

pub returns : goal.returns
returns c = λ first w n. run-came n first w
