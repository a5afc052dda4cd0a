use Rattle.pr_reached.proofs.Together.ReachedLemmas.{first-reached, later-reached}
use Rattle.pr_reached.proofs.reached.legal_histories_reach_states.Goals as goal

pub returns : goal.returns
returns c = record { first = first-reached; later = later-reached }
