use Rattle.pr_hist.proofs.StandLemmas.{since-stands, stands-since}
use Rattle.pr_hist.proofs.laws.a_lane_stands_still_since_a_stop.Goals as goal

pub returns : goal.returns
returns c = λ a s es not_yet. (since-stands a s es not_yet, stands-since a s es)
