use Rattle.std.proofs.Common.{◌≡◌, [], ap, rules, arith}
use Rattle.pr_slots.specs.Keys.{places_of}
use Rattle.pr_slots.proofs.KeyLemmas.{new_keyed}
use Rattle.pr_slots.proofs.slots.Slots.with_room.Goals as goal

pub invariant_of-result : goal.invariant_of-result
invariant_of-result g c =
    let none : c.in_ok-keys.keys.items ≡ [] = search (rules, c.in_ok-keys.ensures) in
    new_keyed c.in_ok-things.things c.in_ok-keys.keys.items 0 none c.in_ok-things.ensures.empty (omega arith)

pub returns : goal.returns
returns g c =
    let none : c.in_ok-keys.keys.items ≡ [] = search (rules, c.in_ok-keys.ensures) in
    ap (places_of c.in_ok-things.things) none
