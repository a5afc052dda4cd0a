-- Whether there is room for a heap.
use Rattle.std.proofs.Common.{◌≡◌, ℕ, ◌+◌, ◌≤◌, true, Option, Some, None, [], length, refl, sym, ◌∙◌, ap, arith, get_or}
use Rattle.std.specs.List.{All, find, position, remove, slice_get}
use Rattle.std.proofs.lemmas.List.{length-replicate}
use Rattle.std.proofs.lemmas.Option.{slice_get-get_or, slice_get_read}
use Rattle.pr_num.specs.Layout.{heap_base, break_limit}
use Rattle.pr_num.proofs.TableLemmas.{find-none, find-position, position-within}
use Rattle.pr_num.specs.Spaces.{Space, mapped_size, mapping_limit, read_write}
use Rattle.pr_num.specs.declared.mappings.Mapping.{Mapping}
use Rattle.pr_num.specs.declared.mappings.MappingKind.TheVariants.{Heap}
use Rattle.pr_parts.specs.AddressSpaces.{is_break_heap, is_free, LeavesHeapPlace, with_heap, with_mapping, zeros_at}
use Rattle.pr_parts.proofs.HeapLemmas.{mapped_size-none, mapped_size-some, is_free-heap, with_heap-gone, with_heap-made}
use Rattle.pr_mem.specs.Answers.{bytes_of, heap_bytes}

-- what a heap of another size makes of what is mapped
pub mapped_size-heap : (size : ℕ) (space : Space)
    → mapped_size (with_heap size space) + heap_bytes space ≡ mapped_size space + size
mapped_size-heap size space = go (find is_break_heap space) refl
  where
    go : (found : Option Mapping) → find is_break_heap space ≡ found
        → mapped_size (with_heap size space) + heap_bytes space ≡ mapped_size space + size
    go None e = let bytes = ap bytes_of e in omega (arith, mapped_size-none size space e)
    go (Some m) e = let bytes = ap bytes_of e in omega (arith, mapped_size-some size space m e)

-- the heap that is made, where there is none
pub heap_made : (size : ℕ) (space : Space) (heap : Mapping) → position is_break_heap space ≡ None → (size ≡ 0 → ⊥)
    → heap ≡ zeros_at heap_base size read_write Heap → with_heap size space ≡ with_mapping heap space
heap_made size space heap none some e =
    with_heap-made size space (find-none is_break_heap space none) (omega arith)
    ∙ ap (λ m. with_mapping m space) (sym e)

pub heap_free : (size : ℕ) (space : Space) (heap : Mapping) → position is_break_heap space ≡ None
    → All LeavesHeapPlace space → heap_base + size ≤ break_limit → heap ≡ zeros_at heap_base size read_write Heap
    → is_free heap.at (length heap.bytes) space ≡ true
heap_free size space heap none leaves within e =
    rw (e, length-replicate {A = ℕ} size 0) (is_free-heap size space leaves (find-none is_break_heap space none) within)

pub heap_room : (size : ℕ) (space : Space) (heap : Mapping) → position is_break_heap space ≡ None
    → mapped_size (with_heap size space) ≤ mapping_limit → heap ≡ zeros_at heap_base size read_write Heap
    → mapped_size space + length heap.bytes ≤ mapping_limit
heap_room size space heap none room e =
    let bytes : length heap.bytes ≡ size = ap (λ (m : Mapping). length m.bytes) e ∙ length-replicate {A = ℕ} size 0 in
    omega (arith, mapped_size-none size space (find-none is_break_heap space none))

-- what stands in the place of the heap is the heap
pub place-heap : (items : Space) (place : ℕ) (m : Mapping) → position is_break_heap items ≡ Some place
    → m ≡ get_or items place m → slice_get items place ≡ Some m
place-heap items place m at e = slice_get_read items _ place m refl (position-within is_break_heap items place at) e

pub find-heap : (items : Space) (place : ℕ) (m : Mapping) → position is_break_heap items ≡ Some place
    → slice_get items place ≡ Some m → find is_break_heap items ≡ Some m
find-heap items place m at e = find-position is_break_heap items place at ∙ e

-- the heap is gone
pub heap_gone : (space : Space) (place : ℕ) → position is_break_heap space ≡ Some place
    → with_heap 0 space ≡ remove space place
heap_gone space place at =
    let none : Mapping = record { at = 0; prot = 0; kind = Heap; bytes = [] } in
    let here = slice_get-get_or space place none (position-within is_break_heap space place at) in
    with_heap-gone space place at (get_or space place none) (find-heap space place (get_or space place none) at here)
