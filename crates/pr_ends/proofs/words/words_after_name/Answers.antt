use Rattle.std.proofs.Common.{rules}
use Rattle.std.specs.Vec.Iter.{into_iter_items}
use Rattle.std.proofs.lemmas.Iterator.{items_from_collect}
use Rattle.std.proofs.lemmas.Iterator.Adapters.{YieldsList-from_vec, YieldsList-from_skip}
use Rattle.pr_ends.proofs.words.words_after_name.Goals as goal

pub returns : goal.returns
returns c =
    let all = YieldsList-from_vec (into_iter_items c.args.arguments) (search rules) (search rules) in
    items_from_collect c.collect.result c.collect.ensures.ran
    (YieldsList-from_skip {s = c.skip.result} 1 all c.skip.ensures.count)
