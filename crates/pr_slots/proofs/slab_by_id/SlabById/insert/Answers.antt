use Rattle.std.proofs.Common.{ap, ◌∙◌}
use Rattle.slab.specs.Slab.{entries_from}
use Rattle.pr_slots.proofs.PairLemmas.{free_seen, inserted_seen}
use Rattle.pr_slots.proofs.slab_by_id.SlabById.insert.Goals as goal

pub put-requires-clause-free : goal.put-requires-clause-free
put-requires-clause-free g c =
    free_seen c.widen.new.slots c.args.self.now (c.in_ok-widen.ensures.pairs ∙ c.self.view_is) c.args.id c.requires

pub returns-clause-ok : goal.returns-clause-ok
returns-clause-ok g c =
    let seen = c.in_ok-widen.ensures.pairs ∙ c.self.view_is in
    ap (entries_from 0) c.put.ensures
    ∙ inserted_seen c.widen.new.slots c.args.self.now seen c.args.id c.args.thing c.in_ok-widen.ensures.ok
    (free_seen c.widen.new.slots c.args.self.now seen c.args.id c.requires)
