use Rattle.std.proofs.Common.{◌≡◌, ℕ, ◌+◌, ◌<◌, ◌∙◌, List, ap, subst, sym, take, length, arith}
use Rattle.std.specs.List.{insert, position_or_len}
use Rattle.std.proofs.lemmas.List.{length-take}
use Rattle.pr_num.specs.Limits.{area_limit}
use Rattle.pr_num.specs.declared.mappings.Area.{Area}
use Rattle.pr_parts.specs.ByAddress.{is_behind}
use Rattle.pr_parts.specs.WatchedAreas.{AreAreas, area_address, with_area}
use Rattle.pr_parts.proofs.AreaLemmas.{AreAreas-with_area, insert-with_area}
use Rattle.pr_watch.proofs.areas.Areas.set.Goals as goal

-- the slots hold the areas and the new one
holds : (areas slots now : List Area) (len place : ℕ) (at size f flags : ℕ) (found : List Area) → take len slots ≡ areas
    → found ≡ areas → place ≡ position_or_len (is_behind area_address at) found → f ≡ flags
    → take (len + 1) now ≡ insert (take len slots) place (record { at = at; size = size; flags = f })
    → take (len + 1) now ≡ with_area (record { at = at; size = size; flags = flags }) areas
holds areas slots now len place at size f flags found view same at_place e step =
    rw (step, view, e)
    (insert-with_area (record { at = at; size = size; flags = flags }) areas place
    (at_place ∙ ap (position_or_len (is_behind area_address at)) same))

pub invariant_of-self : goal.invariant_of-self
invariant_of-self c =
    let areas = c.args.self.now in
    let a : Area = record { at = c.args.at; size = c.args.size; flags = c.args.flags } in
    let now =
    holds areas c.self.inside.slots c.insert_at.new.slots c.self.inside.len c.place_for-place.result c.args.at
    c.args.size c.in-Some.flags c.args.flags c.as_slice-2.result.now c.self.view_is c.as_slice-2.ensures.value
    c.place_for-place.ensures.value c.in-Some.ensures.same c.insert_at.ensures in
    let room : length areas < area_limit =
    omega (
      arith,
      ap length c.self.view_is,
      length-take c.self.inside.len c.self.inside.slots,
      c.self.invariant.0,
    ) in (
      omega (arith, c.self.invariant.0),
      subst AreAreas (sym now)
          (AreAreas-with_area a areas c.as_slice.ensures.areas c.in-Some.ensures.range.0 c.in-Some.ensures.range.1
          (cc) room),
    )

pub returns-clause-ok : goal.returns-clause-ok
returns-clause-ok c =
    holds c.args.self.now c.self.inside.slots c.insert_at.new.slots c.self.inside.len c.place_for-place.result c.args.at
    c.args.size c.in-Some.flags c.args.flags c.as_slice-2.result.now c.self.view_is c.as_slice-2.ensures.value
    c.place_for-place.ensures.value c.in-Some.ensures.same c.insert_at.ensures
