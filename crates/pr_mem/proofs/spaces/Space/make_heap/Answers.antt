use Rattle.std.proofs.Common.{ℕ, ◌∙◌, ap, sym}
use Rattle.std.proofs.lemmas.Bool.{leb-true}
use Rattle.pr_num.specs.Layout.{heap_base}
use Rattle.pr_num.specs.declared.mappings.MappingKind.TheVariants.{Heap}
use Rattle.pr_num.proofs.TableLemmas.{find-none}
use Rattle.pr_parts.specs.AddressSpaces.{is_break_heap, zeros_at}
use Rattle.pr_parts.proofs.HeapLemmas.{with_heap-none}
use Rattle.pr_mem.proofs.RoomLemmas.{heap_made, heap_free, heap_room}
use Rattle.pr_mem.proofs.spaces.Space.make_heap.Goals as goal

pub returns-then-size-eq0-clause-ok : goal.returns-then-size-eq0-clause-ok
returns-then-size-eq0-clause-ok c =
    rw c.if-size-eq0.true
    (sym (with_heap-none c.args.self.now (find-none is_break_heap c.args.self.now c.requires.none)))

pub add-requires-clause-free : goal.add-requires-clause-free
add-requires-clause-free c =
    heap_free c.args.size c.args.self.now c.in_ok-heap.heap c.requires.none c.requires.place c.requires.within
    (c.in_ok-heap.ensures ∙ ap (λ (p : ℕ). zeros_at heap_base c.args.size p Heap) c.prot_of-prot.ensures)

pub add-requires-clause-room : goal.add-requires-clause-room
add-requires-clause-room c =
    heap_room c.args.size c.args.self.now c.in_ok-heap.heap c.requires.none (leb-true _ _ c.requires.room)
    (c.in_ok-heap.ensures ∙ ap (λ (p : ℕ). zeros_at heap_base c.args.size p Heap) c.prot_of-prot.ensures)

pub returns-clause-ok : goal.returns-clause-ok
returns-clause-ok c =
    rw (heap_made c.args.size c.args.self.now c.in_ok-heap.heap c.requires.none c.if-size-eq0.false
    (c.in_ok-heap.ensures ∙ ap (λ (p : ℕ). zeros_at heap_base c.args.size p Heap) c.prot_of-prot.ensures))
    c.add.ensures.ok
