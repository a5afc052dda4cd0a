use Rattle.std.proofs.Common.{◌∙◌, ap, sym, subst}
use Rattle.std.specs.List.{All}
use Rattle.pr_num.specs.Spaces.{IsSpace, mapped_size}
use Rattle.pr_parts.specs.AddressSpaces.{LeavesHeapPlace}
use Rattle.pr_parts.proofs.SpaceLemmas.{IsSpace-with_bytes, mapped_size-with_bytes}
use Rattle.pr_parts.proofs.HeapPlaceLemmas.{LeavesHeapPlace-with_bytes}
use Rattle.pr_mem.proofs.spaces.Space.write.Goals as goal

pub invariant_of-self : goal.invariant_of-self
invariant_of-self c =
    let now = c.in_err-write_from.ensures.err in
    (subst IsSpace (sym now) c.self.invariant.0, c.self.invariant.1 ∙ sym (ap mapped_size now))

pub invariant_of-self-2 : goal.invariant_of-self-2
invariant_of-self-2 c =
    let items = c.self.inside.mappings.items in
    let now = c.in_ok-write_from.ensures.ok in (
      subst IsSpace (sym now) (IsSpace-with_bytes c.args.at c.args.bytes.now items c.self.invariant.0),
      c.self.invariant.1 ∙ sym (ap mapped_size now ∙ mapped_size-with_bytes c.args.at c.args.bytes.now items),
    )

pub returns-clause-heap_place : goal.returns-clause-heap_place
returns-clause-heap_place c =
    λ leaves.
    subst (All LeavesHeapPlace) (sym c.in_ok-write_from.ensures.ok)
    (LeavesHeapPlace-with_bytes c.args.at c.args.bytes.now c.self.inside.mappings.items
    (subst (All LeavesHeapPlace) (sym c.self.view_is) leaves))
