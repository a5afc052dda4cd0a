use Rattle.std.proofs.Common.{subst, sym}
use Rattle.std.specs.List.{All}
use Rattle.pr_parts.specs.AddressSpaces.{LeavesHeapPlace}
use Rattle.pr_parts.proofs.HeapLemmas.{LeavesHeapPlace-with_heap}
use Rattle.pr_mem.proofs.spaces.Space.brk.Goals as goal

pub returns-clause-heap_place : goal.returns-clause-heap_place
returns-clause-heap_place c =
    subst (All LeavesHeapPlace) (sym c.in_ok-set_heap.ensures.ok)
    (LeavesHeapPlace-with_heap c.heap_size-size.result c.args.self.now c.requires.place)
