use Rattle.std.proofs.Common.{◌∙◌, ap, sym, subst}
use Rattle.std.specs.List.{All}
use Rattle.pr_num.specs.declared.mappings.Mapping.{Mapping}
use Rattle.pr_parts.specs.AddressSpaces.{LeavesHeapPlace, with_mapping}
use Rattle.pr_parts.proofs.HeapPlaceLemmas.{LeavesHeapPlace-with_mapping}
use Rattle.pr_mem.proofs.spaces.Space.map_as.Goals as goal

pub returns-clause-heap_place : goal.returns-clause-heap_place
returns-clause-heap_place c =
    let now = c.in_ok-add.ensures.ok ∙ ap (λ (m : Mapping). with_mapping m c.args.self.now) c.in_ok-mapping.ensures in
    λ outside leaves.
    subst (All LeavesHeapPlace) (sym now)
    (LeavesHeapPlace-with_mapping c.args.at c.args.size c.args.prot c.args.kind c.args.self.now outside leaves)
