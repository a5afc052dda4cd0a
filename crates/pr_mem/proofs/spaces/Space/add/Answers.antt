use Rattle.std.proofs.Common.{◌≡◌, ◌∙◌, ℕ, ap, sym, subst, arith}
use Rattle.std.specs.List.{insert, position_or_len}
use Rattle.pr_num.specs.Spaces.{Space, IsSpace, mapped_size}
use Rattle.pr_num.specs.declared.mappings.Mapping.{Mapping}
use Rattle.pr_parts.specs.ByAddress.{is_behind}
use Rattle.pr_parts.specs.AddressSpaces.{address_of, with_mapping}
use Rattle.pr_parts.proofs.SpaceLemmas.{IsSpace-with_mapping, insert-with_mapping, mapped_size-with_mapping}
use Rattle.pr_mem.proofs.spaces.Space.add.Goals as goal

-- the list holds the space and the new mapping
holds : (space items found now : Space) (place : ℕ) (m : Mapping) → items ≡ space → found ≡ items
    → place ≡ position_or_len (is_behind address_of m.at) found → now ≡ insert items place m
    → now ≡ with_mapping m space
holds space items found now place m view same at step =
    rw (step, view)
    (insert-with_mapping m space place (at ∙ ap (position_or_len (is_behind address_of m.at)) (same ∙ view)))

pub invariant_of-self-2 : goal.invariant_of-self-2
invariant_of-self-2 c =
    let space = c.args.self.now in
    let m = c.args.mapping in
    let now =
    holds space c.self.inside.mappings.items c.deref.result.now c.put.new.mappings.items c.place_for-place.result m
    c.self.view_is c.deref.ensures.value
    (c.place_for-place.ensures.value
    ∙ ap (λ (a : ℕ). position_or_len (is_behind address_of a) c.deref.result.now) c.at.ensures)
    c.in_ok-put.ensures.ok in
    let kept : IsSpace space = subst IsSpace c.self.view_is c.self.invariant.0 in
    let size = mapped_size-with_mapping m space in
    let before = ap mapped_size c.self.view_is in (
      subst IsSpace (sym now)
          (IsSpace-with_mapping m space kept c.requires.some c.requires.end c.requires.free c.requires.room),
      omega (arith, ap mapped_size now, c.self.invariant.1),
    )

pub returns-clause-ok : goal.returns-clause-ok
returns-clause-ok c =
    holds c.args.self.now c.self.inside.mappings.items c.deref.result.now c.put.new.mappings.items
    c.place_for-place.result c.args.mapping c.self.view_is c.deref.ensures.value
    (c.place_for-place.ensures.value
    ∙ ap (λ (a : ℕ). position_or_len (is_behind address_of a) c.deref.result.now) c.at.ensures)
    c.in_ok-put.ensures.ok
