use Rattle.pr_slots.proofs.KeyLemmas.{has_room, filled_keyed, filled_places}
use Rattle.pr_slots.proofs.slots.Slots.put.Goals as goal

pub insert_reserved-key-requires : goal.insert_reserved-key-requires
insert_reserved-key-requires g c =
    let fields = c.self.inside in
    has_room fields.things fields.keys.items c.args.self.now c.self.view_is c.self.invariant c.args.number
    c.requires.inside c.requires.free

pub invariant_of-self : goal.invariant_of-self
invariant_of-self g c =
    let fields = c.self.inside in
    let inserted = c.insert_reserved-key.ensures in
    filled_keyed fields.things fields.keys.items c.args.self.now c.self.view_is c.self.invariant c.args.number
    c.requires.inside c.requires.free c.insert_reserved-key.new.self c.args.thing c.insert_reserved-key.result
    inserted.was_vacant inserted.updates inserted.len inserted.capacity

pub returns : goal.returns
returns g c =
    let fields = c.self.inside in
    let inserted = c.insert_reserved-key.ensures in
    filled_places fields.things fields.keys.items c.args.self.now c.self.view_is c.self.invariant c.args.number
    c.requires.inside c.requires.free c.insert_reserved-key.new.self c.args.thing c.insert_reserved-key.result
    inserted.was_vacant inserted.updates inserted.len inserted.capacity
