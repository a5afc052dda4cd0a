use Rattle.std.proofs.Common.{◌≡◌, ◌∷◌, ap, sym, length, ◌∙◌, arith, rules}
use Rattle.std.specs.Vec.Iter.{into_iter_items}
use Rattle.phist.proofs.SourceLemmas.{listings_of-next, listings_of-done}
use Rattle.phist.proofs.sources.listings_of.Goals as goal

pub loop-program-preserved : goal.loop-program-preserved
loop-program-preserved c =
    let at = c.loop-program in
    let p = c.in-Some.program in
    let listed = c.in_ok-listing.field-0 in
    let steps : into_iter_items at.program-iterator ≡ p ∷ into_iter_items c.next.new.self = c.in-Some.ensures.steps.0 in
    record {
      told = listings_of-next p _ _ at.rest.now c.behind-rest.result.now at.listings.items c.push.new.self.items _
          listed steps (search rules) (search rules) (search rules) at.invariant.told;
      left =
          let was = at.invariant.left in
          let gone = c.in-Some.ensures.steps.1 in
          let short = ap length steps in
          omega arith;
    }

pub returns : goal.returns
returns c =
    let at = c.loop-program in
    listings_of-done _ at.rest.now at.listings.items _ (sym at.invariant.left ∙ c.in-None.ensures.steps.0)
    at.invariant.told
