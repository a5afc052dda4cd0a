use Rattle.std.proofs.Common.{◌≡◌, drop}
use Rattle.pr_scen.specs.Functions.{labelled_place}
use Rattle.pr_scen.proofs.functions.labelled_place.Given as goal

abbrev pub invariant-loop-label : goal.invariant-loop-label
invariant-loop-label l =
    labelled_place (drop l.label-index l.labels) l.name ≡ labelled_place l.labels l.name
