use Rattle.std.proofs.Common.{◌≡◌, ◌+◌, Some, None, OnSome, is_some, get_or, subst, sym, ap, ◌∙◌}
use Rattle.slab.specs.Slab.{slab_len}
use Rattle.pr_slots.proofs.KeyLemmas.{freed_keyed, freed_places, seen_at}
use Rattle.pr_slots.proofs.slots.Slots.remove.Goals as goal

pub remove-requires : goal.remove-requires
remove-requires g c =
    let fields = c.self.inside in
    let here : get_or fields.keys.items c.args.filled None ≡ Some c.unwrap-key.result =
    sym (ap (λ keys. get_or keys c.args.filled None) c.deref.ensures.value) ∙ sym c.key_of.ensures
    ∙ c.unwrap-key.ensures
    in
    ap is_some
    (sym (seen_at fields.things fields.keys.items c.args.self.now c.self.view_is c.args.filled
    (Some c.unwrap-key.result) here))
    ∙ c.requires

pub invariant_of-self : goal.invariant_of-self
invariant_of-self g c =
    let fields = c.self.inside in
    let removed = c.remove.ensures in
    let here : get_or fields.keys.items c.args.filled None ≡ Some c.unwrap-key.result =
    sym (ap (λ keys. get_or keys c.args.filled None) c.deref.ensures.value) ∙ sym c.key_of.ensures
    ∙ c.unwrap-key.ensures
    in
    let less =
    subst (λ o. OnSome o (slab_len c.remove.new.self + 1 ≡ slab_len fields.things))
    (sym removed.value) removed.len in
    freed_keyed fields.things c.remove.new.self fields.keys.items c.args.self.now c.self.view_is c.self.invariant
    c.unwrap-key.result c.args.filled removed.updates less removed.capacity here

pub returns-clause-value : goal.returns-clause-value
returns-clause-value g c =
    let fields = c.self.inside in
    let here : get_or fields.keys.items c.args.filled None ≡ Some c.unwrap-key.result =
    sym (ap (λ keys. get_or keys c.args.filled None) c.deref.ensures.value) ∙ sym c.key_of.ensures
    ∙ c.unwrap-key.ensures
    in
    seen_at fields.things fields.keys.items c.args.self.now c.self.view_is c.args.filled (Some c.unwrap-key.result) here
    ∙ c.remove.ensures.value

pub returns-clause-rest : goal.returns-clause-rest
returns-clause-rest g c =
    let fields = c.self.inside in
    let removed = c.remove.ensures in
    let here : get_or fields.keys.items c.args.filled None ≡ Some c.unwrap-key.result =
    sym (ap (λ keys. get_or keys c.args.filled None) c.deref.ensures.value) ∙ sym c.key_of.ensures
    ∙ c.unwrap-key.ensures
    in
    let less =
    subst (λ o. OnSome o (slab_len c.remove.new.self + 1 ≡ slab_len fields.things))
    (sym removed.value) removed.len in
    freed_places fields.things c.remove.new.self fields.keys.items c.args.self.now c.self.view_is c.self.invariant
    c.unwrap-key.result c.args.filled removed.updates less removed.capacity here
