use Rattle.pr_slots.proofs.KeyLemmas.{new_places, new_keyed}
use Rattle.pr_slots.proofs.slots.Slots.new.Goals as goal

pub invariant_of-result : goal.invariant_of-result
invariant_of-result g c =
    new_keyed c.in_ok-things.things c.in_ok-keys.keys.items c.args.places c.in_ok-keys.ensures
    c.in_ok-things.ensures.empty c.in_ok-things.ensures.capacity

pub returns : goal.returns
returns g c = new_places c.in_ok-things.things c.in_ok-keys.keys.items c.args.places c.in_ok-keys.ensures
