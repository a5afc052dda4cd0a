use Rattle.std.proofs.Common.{◌≡◌, ◌≤◌, ◌<◌, ◌∙◌, Some, ap, sym, subst, arith}
use Rattle.std.specs.List.{All, position}
use Rattle.std.proofs.lemmas.Bool.{leb-true}
use Rattle.pr_num.proofs.TableLemmas.{change_first-place}
use Rattle.pr_num.specs.KeyedTables.{change_first}
use Rattle.pr_num.specs.Spaces.{IsSpace, mapped_size, mapping_limit}
use Rattle.pr_parts.specs.AddressSpaces.{LeavesHeapPlace, is_break_heap, resized, with_heap}
use Rattle.pr_parts.proofs.HeapLemmas.{IsSpace-resized, mapped_size-resized, size_found, with_heap-resized}
use Rattle.pr_mem.proofs.RoomLemmas.{find-heap, heap_gone, place-heap}
use Rattle.pr_mem.proofs.spaces.Space.resize_heap.Goals as goal

pub returns-then-size-eq0-clause-ok : goal.returns-then-size-eq0-clause-ok
returns-then-size-eq0-clause-ok c =
    rw c.if-size-eq0.true (c.remove.ensures ∙ sym (heap_gone c.args.self.now c.args.place c.requires.found))

pub invariant_of-self-2 : goal.invariant_of-self-2
invariant_of-self-2 c =
    let items = c.self.inside.mappings.items in
    let space = c.args.self.now in
    let m = c.index.result.now in
    let size = c.args.size in
    let at : position is_break_heap items ≡ Some c.args.place =
    ap (position is_break_heap) c.self.view_is ∙ c.requires.found in
    let here = place-heap items c.args.place m at c.index.ensures in
    let found = find-heap items c.args.place m at here in
    let leaves : All LeavesHeapPlace items = subst (All LeavesHeapPlace) (sym c.self.view_is) c.requires.place in
    let some : 0 < size = omega arith in
    let made = with_heap-resized size items m found some in
    let room : mapped_size (change_first is_break_heap (resized size) items) ≤ mapping_limit =
    omega (
      arith,
      leb-true _ _ c.requires.room,
      ap mapped_size made,
      ap (λ s. mapped_size (with_heap size s)) c.self.view_is,
    ) in
    let now =
    c.in_ok-resize_at.ensures.ok m here
    ∙ change_first-place is_break_heap (resized size) items c.args.place m at here in (
      subst IsSpace (sym now) (IsSpace-resized size items c.self.invariant.0 leaves some c.requires.within room),
      omega (
        arith,
        ap mapped_size now,
        size_found items m found,
        mapped_size-resized size items m found,
        c.self.invariant.1,
      ),
    )

pub returns-clause-ok : goal.returns-clause-ok
returns-clause-ok c =
    let items = c.self.inside.mappings.items in
    let m = c.index.result.now in
    let size = c.args.size in
    let at : position is_break_heap items ≡ Some c.args.place =
    ap (position is_break_heap) c.self.view_is ∙ c.requires.found in
    let here = place-heap items c.args.place m at c.index.ensures in
    let found = find-heap items c.args.place m at here in
    let some : 0 < size = omega arith in
    c.in_ok-resize_at.ensures.ok m here ∙ change_first-place is_break_heap (resized size) items c.args.place m at here
    ∙ sym (with_heap-resized size items m found some) ∙ ap (with_heap size) c.self.view_is
