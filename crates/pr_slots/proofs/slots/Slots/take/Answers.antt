use Rattle.std.proofs.Common.{◌≡◌, ◌+◌, Some, None, OnSome, get_or, subst, sym, ap, ◌∙◌}
use Rattle.slab.specs.Slab.{slab_len}
use Rattle.pr_slots.proofs.KeyLemmas.{freed_keyed, freed_places, free_already, seen_at}
use Rattle.pr_slots.proofs.slots.Slots.take.Goals as goal

pub returns-in_err-key-clause-rest : goal.returns-in_err-key-clause-rest
returns-in_err-key-clause-rest g c =
    let fields = c.self.inside in
    let none : get_or fields.keys.items c.args.number None ≡ None =
    sym (ap (λ keys. get_or keys c.args.number None) c.deref.ensures.value) ∙ sym c.key_of.ensures
    ∙ c.in_err-key.was in
    free_already c.args.self.now c.args.number
    (seen_at fields.things fields.keys.items c.args.self.now c.self.view_is c.args.number None none)

pub invariant_of-self : goal.invariant_of-self
invariant_of-self g c =
    let fields = c.self.inside in
    let removed = c.try_remove.ensures in
    let here : get_or fields.keys.items c.args.number None ≡ Some c.in_ok-key.key =
    sym (ap (λ keys. get_or keys c.args.number None) c.deref.ensures.value) ∙ sym c.key_of.ensures
    ∙ c.in_ok-key.was in
    let less =
    subst (λ o. OnSome o (slab_len c.try_remove.new.self + 1 ≡ slab_len fields.things)) removed.value removed.len in
    freed_keyed fields.things c.try_remove.new.self fields.keys.items c.args.self.now c.self.view_is c.self.invariant
    c.in_ok-key.key c.args.number removed.updates less removed.capacity here

pub returns-clause-rest : goal.returns-clause-rest
returns-clause-rest g c =
    let fields = c.self.inside in
    let removed = c.try_remove.ensures in
    let here : get_or fields.keys.items c.args.number None ≡ Some c.in_ok-key.key =
    sym (ap (λ keys. get_or keys c.args.number None) c.deref.ensures.value) ∙ sym c.key_of.ensures
    ∙ c.in_ok-key.was in
    let less =
    subst (λ o. OnSome o (slab_len c.try_remove.new.self + 1 ≡ slab_len fields.things)) removed.value removed.len in
    freed_places fields.things c.try_remove.new.self fields.keys.items c.args.self.now c.self.view_is c.self.invariant
    c.in_ok-key.key c.args.number removed.updates less removed.capacity here
