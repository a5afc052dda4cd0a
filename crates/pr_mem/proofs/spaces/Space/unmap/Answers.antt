use Rattle.std.proofs.Common.{◌∙◌, ap, sym, subst, refl}
use Rattle.std.specs.List.{All, position}
use Rattle.pr_parts.specs.AddressSpaces.{LeavesHeapPlace, is_range}
use Rattle.pr_parts.proofs.SpaceLemmas.{has-position, remove-without_range}
use Rattle.pr_parts.proofs.HeapPlaceLemmas.{LeavesHeapPlace-without_range}
use Rattle.pr_mem.proofs.spaces.Space.unmap.Goals as goal

pub returns-clause-answer : goal.returns-clause-answer
returns-clause-answer c =
    let at =
    ap (position (is_range c.args.at c.args.size)) (sym (c.deref.ensures.value ∙ c.self.view_is))
    ∙ sym c.place_of.ensures ∙ c.in-Some.is in
    rw (has-position (is_range c.args.at c.args.size) c.args.self.now c.in-Some.place at) refl

pub returns-clause-heap_place : goal.returns-clause-heap_place
returns-clause-heap_place c =
    let at =
    ap (position (is_range c.args.at c.args.size)) (sym (c.deref.ensures.value ∙ c.self.view_is))
    ∙ sym c.place_of.ensures ∙ c.in-Some.is in
    let now = c.remove.ensures ∙ remove-without_range c.args.at c.args.size c.args.self.now c.in-Some.place at in
    λ leaves.
    subst (All LeavesHeapPlace) (sym now)
    (LeavesHeapPlace-without_range c.args.at c.args.size c.args.self.now leaves)
