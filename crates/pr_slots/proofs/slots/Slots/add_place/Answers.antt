use Rattle.std.proofs.Common.{◌≡◌, ◌≤◌, ◌+◌, length, arith}
use Rattle.slab.specs.Slab.{slab_len}
use Rattle.pr_slots.proofs.KeyLemmas.{few_things, same_len, widened_keyed}
use Rattle.pr_slots.proofs.slots.Slots.add_place.Goals as goal

pub invariant_of-self-2 : goal.invariant_of-self-2
invariant_of-self-2 g c =
    let old = c.self.inside.things in
    let new = c.reserve.new.self in
    let keys = c.self.inside.keys.items in
    let few : slab_len old ≤ length keys = few_things old keys c.self.invariant in
    let same : slab_len new ≡ slab_len old = same_len old new keys c.self.invariant c.reserve.ensures.rest_kept in
    let reserved = c.in_ok-reserve.ensures.room in
    let room : length keys + 1 ≤ new.capacity = omega arith in
    rw c.in_ok-push.ensures.items (widened_keyed old new keys c.self.invariant c.reserve.ensures.rest_kept room)
