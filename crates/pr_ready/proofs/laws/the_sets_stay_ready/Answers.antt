use Rattle.pr_ready.proofs.AroundLemmas.{call-ready, tick-ready, turn-ready}
use Rattle.pr_ready.proofs.RanLemmas.{ran-ready}
use Rattle.pr_ready.proofs.laws.the_sets_stay_ready.Goals as goal

pub returns : goal.returns
returns c = record { turns = turn-ready; runs = ran-ready; calls = call-ready; ticks = tick-ready }
