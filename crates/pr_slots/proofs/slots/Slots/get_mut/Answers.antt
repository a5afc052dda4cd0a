use Rattle.std.proofs.Common.{◌≡◌, Some, None, get_or, refl, sym, ap, ◌∙◌}
use Rattle.std.specs.Option.{option_copied_mut}
use Rattle.pr_slots.proofs.KeyLemmas.{seen_at, written_places}
use Rattle.pr_slots.proofs.slots.Slots.get_mut.Goals as goal

pub returns : goal.returns
returns g c =
    let fields = c.self.inside in
    let here : get_or fields.keys.items c.args.number None ≡ Some c.unwrap-key.result =
    sym (ap (λ keys. get_or keys c.args.number None) c.deref.ensures.value) ∙ sym c.key_of.ensures
    ∙ c.unwrap-key.ensures in (
      (
        refl,
        λ w.
            written_places fields.things fields.keys.items c.args.self.now c.self.view_is c.self.invariant
            c.unwrap-key.result c.args.number here w,
      ),
      record {
        writes_back = tt;
        value = seen_at fields.things fields.keys.items c.args.self.now c.self.view_is c.args.number
            (Some c.unwrap-key.result) here ∙ sym c.get_mut.follows ∙ ap option_copied_mut c.unwrap.ensures;
      },
    )
