use Rattle.std.proofs.Common.{◌≡◌, length}
use Rattle.pr_probe.specs.Regions.{map_allows}
use Rattle.pr_probe.proofs.regions.map_allows.Given as goal

abbrev pub invariant-loop-rest : goal.invariant-loop-rest
invariant-loop-rest l = map_allows l.region l.fn.bytes ≡ map_allows l.region l.rest

abbrev pub decreases-loop-rest : goal.decreases-loop-rest
decreases-loop-rest l = length l.rest
