use Rattle.std.proofs.Common.{◌≡◌, arith}
use Rattle.pr_num.specs.ById.{inserted}
use Rattle.pr_num.proofs.ByIdLemmas.{insert-inserted, rises_from-inserted}
use Rattle.pr_num.proofs.by_id.ById.insert.Goals as goal

pub invariant_of-self-2 : goal.invariant_of-self-2
invariant_of-self-2 g c =
    let es = c.self.inside.items.items in
    let new : c.insert.new.self.items ≡ inserted c.args.id c.args.thing es =
    rw (c.in_ok-insert.ensures.items, c.place_from-place.ensures.place, c.deref.ensures.value)
    (insert-inserted c.args.id c.args.thing es) in
    rw new (rises_from-inserted 0 c.args.id c.args.thing es (omega arith) c.self.invariant
    (rw c.self.view_is c.requires))

pub returns-clause-ok : goal.returns-clause-ok
returns-clause-ok g c =
    let es = c.self.inside.items.items in
    rw (c.in_ok-insert.ensures.items, c.place_from-place.ensures.place, c.deref.ensures.value, ← c.self.view_is)
    (insert-inserted c.args.id c.args.thing es)
