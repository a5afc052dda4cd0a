use Rattle.std.proofs.Common.{ap, sym, subst, arith}
use Rattle.std.specs.List.{All}
use Rattle.pr_num.specs.Spaces.{IsSpace, mapped_size}
use Rattle.pr_parts.specs.AddressSpaces.{LeavesHeapPlace}
use Rattle.pr_parts.proofs.FirstLemmas.{IsSpace-first, mapped_size-first}
use Rattle.pr_parts.proofs.HeapPlaceLemmas.{LeavesHeapPlace-first}
use Rattle.pr_mem.proofs.spaces.Space.first.Goals as goal

pub invariant_of-result : goal.invariant_of-result
invariant_of-result c =
    let is = c.in_ok-mappings.ensures in
    let size = ap mapped_size is in (
      subst IsSpace (sym is) (IsSpace-first c.args.text.now c.args.bytes.now c.requires.text c.requires.data),
      omega (arith, mapped_size-first c.args.text.now c.args.bytes.now, c.rounded.ensures, c.rounded-2.ensures),
    )

pub returns-clause-heap_place : goal.returns-clause-heap_place
returns-clause-heap_place c =
    subst (All LeavesHeapPlace) (sym c.in_ok-mappings.ensures)
    (LeavesHeapPlace-first c.args.text.now c.args.bytes.now c.requires.text c.requires.data)
