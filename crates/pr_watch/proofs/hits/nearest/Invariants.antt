use Rattle.std.proofs.Common.{◌≡◌, None, drop}
use Rattle.pr_watch.specs.Steps.{nearest_from}
use Rattle.pr_watch.proofs.hits.nearest.Given as goal

abbrev pub invariant-loop-area : goal.invariant-loop-area
invariant-loop-area l =
    nearest_from l.kind l.at l.best (drop l.area-index l.areas) ≡ nearest_from l.kind l.at None l.areas
