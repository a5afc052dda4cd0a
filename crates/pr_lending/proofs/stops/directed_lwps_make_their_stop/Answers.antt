use Rattle.pr_lending.proofs.StopLemmas.{directed-stops}
use Rattle.pr_lending.proofs.stops.directed_lwps_make_their_stop.Goals as goal

pub returns : goal.returns
returns c = directed-stops
