use Rattle.std.proofs.Common.{◌≡◌, ℕ, ◌-◌, ◌∙◌, List, Some, ap, subst, sym, take, arith}
use Rattle.std.specs.List.{remove, position}
use Rattle.pr_num.specs.declared.mappings.Area.{Area}
use Rattle.pr_parts.specs.WatchedAreas.{AreAreas, begins_at, without_area}
use Rattle.pr_parts.proofs.AreaLemmas.{AreAreas-without_area, remove-without_area, without_area-none}
use Rattle.pr_watch.proofs.areas.Areas.clear.Goals as goal

-- the slots hold the areas but the one that was found
holds : (areas slots now found : List Area) (len place at : ℕ) → take len slots ≡ areas → found ≡ areas
    → position (begins_at at) found ≡ Some place → take (len - 1) now ≡ remove (take len slots) place
    → take (len - 1) now ≡ without_area at areas
holds areas slots now found len place at view same at_place step =
    rw (step, view) (remove-without_area at areas place (ap (position (begins_at at)) (sym same) ∙ at_place))

pub invariant_of-self : goal.invariant_of-self
invariant_of-self c =
    let now =
    holds c.args.self.now c.self.inside.slots c.remove_at.new.slots c.as_slice.result.now c.self.inside.len
    c.in-Some.place c.args.at c.self.view_is c.as_slice.ensures.value
    (sym c.place_of.ensures ∙ c.in-Some.is) c.remove_at.ensures in (
      omega (arith, c.self.invariant.0),
      subst AreAreas (sym now) (AreAreas-without_area c.args.at c.args.self.now c.as_slice.ensures.areas),
    )

pub returns-in-Some : goal.returns-in-Some
returns-in-Some c =
    holds c.args.self.now c.self.inside.slots c.remove_at.new.slots c.as_slice.result.now c.self.inside.len
    c.in-Some.place c.args.at c.self.view_is c.as_slice.ensures.value
    (sym c.place_of.ensures ∙ c.in-Some.is) c.remove_at.ensures

pub returns-in_default : goal.returns-in_default
returns-in_default c =
    sym (without_area-none c.args.at c.args.self.now
    (ap (position (begins_at c.args.at)) (sym c.as_slice.ensures.value) ∙ sym c.place_of.ensures ∙ c.in_default.is))
