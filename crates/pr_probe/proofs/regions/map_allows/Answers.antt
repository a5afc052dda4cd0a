use Rattle.std.proofs.Common.{sym, ap, ◌∙◌, arith}
use Rattle.pr_probe.specs.Regions.{map_allows}
use Rattle.pr_probe.proofs.RegionLemmas.{map_allows-on}
use Rattle.pr_probe.proofs.regions.map_allows.Goals as goal

pub loop-rest-preserved : goal.loop-rest-preserved
loop-rest-preserved c =
    c.loop-rest.invariant
    ∙ map_allows-on c.args.region.now c.loop-rest.rest.now (omega arith)
    (sym c.allows_in.ensures ∙ c.if-allows_in.false)
    ∙ ap (map_allows c.args.region.now) (sym c.after_mapping-rest.ensures.rest)
