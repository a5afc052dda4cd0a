use Rattle.std.proofs.Common.{◌≡◌, ◌<◌, ℕ, length, get_or, Option, None, Some, is_none, refl, sym, ap, ◌∙◌}
use Rattle.std.specs.List.{position}
use Rattle.std.specs.Option.{IfSome}
use Rattle.pr_slots.proofs.KeyLemmas.{least_seen, free_inside, free_place}
use Rattle.pr_slots.proofs.slots.Slots.least_free.Goals as goal

pub returns-clause-least : goal.returns-clause-least
returns-clause-least g c =
    let fields = c.self.inside in
    c.least_free.ensures ∙ ap (position is_none) c.deref.ensures.value
    ∙ least_seen fields.things fields.keys.items c.args.self.now c.self.view_is c.self.invariant

pub returns-clause-within : goal.returns-clause-within
returns-clause-within g c = found c.least_free.result refl
  where
    found : (o : Option ℕ) → c.least_free.result ≡ o → IfSome o (λ number. number < length c.args.self.now)
    found None is = tt
    found (Some number) is =
        let fields = c.self.inside in
        free_inside fields.things fields.keys.items c.args.self.now c.self.view_is number
        (sym (c.least_free.ensures ∙ ap (position is_none) c.deref.ensures.value) ∙ is)

pub returns-clause-free : goal.returns-clause-free
returns-clause-free g c = found c.least_free.result refl
  where
    found : (o : Option ℕ) → c.least_free.result ≡ o → IfSome o (λ number. get_or c.args.self.now number None ≡ None)
    found None is = tt
    found (Some number) is =
        let fields = c.self.inside in
        free_place fields.things fields.keys.items c.args.self.now c.self.view_is number
        (sym (c.least_free.ensures ∙ ap (position is_none) c.deref.ensures.value) ∙ is)
