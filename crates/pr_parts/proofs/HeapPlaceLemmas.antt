use Rattle.std.proofs.Common.{◌≡◌, ℕ, ◌+◌, ◌-◌, ◌≤◌, true, ◌||◌, leb, List, [], ◌∷◌, ◌++◌, length, replicate, refl, ◌∙◌, ap, arith}
use Rattle.std.specs.List.{All}
use Rattle.std.proofs.lemmas.Bool.{le-leb, or_left, or_right}
use Rattle.std.proofs.lemmas.List.{length-append, length-replicate}
use Rattle.std.proofs.lemmas.List.Elements.{All-append, All-cons, All-map, All-nil, All-weaker}
use Rattle.pr_num.specs.Limits.{data_limit, text_limit}
use Rattle.pr_num.specs.Layout.{break_limit, heap_base, data_base, page_size, stack_base, text_base}
use Rattle.pr_num.specs.Programs.{rounded, whole_pages}
use Rattle.pr_num.specs.Spaces.{Space, read_execute, read_write, unless_empty, first_mappings}
use Rattle.pr_num.specs.declared.mappings.Mapping.{Mapping}
use Rattle.pr_num.specs.declared.mappings.MappingKind.{MappingKind}
use Rattle.pr_num.specs.declared.mappings.MappingKind.TheVariants.{Text, Data, Stack}
use Rattle.pr_parts.specs.AddressSpaces.{LeavesHeapPlace, address_of, is_break_heap, is_outside_heap_place, is_range, with_bytes, with_mapping, with_prot, with_protected, with_written, without_range, zeros_at}
use Rattle.pr_parts.proofs.AccessLemmas.{length-written_bytes}
use Rattle.pr_parts.proofs.ByAddressLemmas.{All-placed}
use Rattle.pr_num.proofs.TableLaws.{All-change_first, All-without_first}
use Rattle.pr_parts.proofs.FirstLemmas.{length-pages}

-- Calls leave the heap its place.

zeros_leave : (at size prot : ℕ) (kind : MappingKind) → is_outside_heap_place at size ≡ true
    → LeavesHeapPlace (zeros_at at size prot kind)
zeros_leave at size prot kind outside =
    let far =
    ap (λ (n : ℕ). leb (at + n) heap_base || leb break_limit at) (length-replicate {A = ℕ} size 0) ∙ outside in
    or_right (is_break_heap (zeros_at at size prot kind))
    (leb (at + length (replicate size 0)) heap_base || leb break_limit at) far

pub LeavesHeapPlace-with_mapping : (at size prot : ℕ) (kind : MappingKind) (space : Space)
    → is_outside_heap_place at size ≡ true → All LeavesHeapPlace space
    → All LeavesHeapPlace (with_mapping (zeros_at at size prot kind) space)
unfolding with_mapping
LeavesHeapPlace-with_mapping at size prot kind space outside leaves =
    All-placed LeavesHeapPlace address_of (zeros_at at size prot kind) space
    (zeros_leave at size prot kind outside) leaves

pub LeavesHeapPlace-without_range : (at size : ℕ) (space : Space) → All LeavesHeapPlace space
    → All LeavesHeapPlace (without_range at size space)
unfolding without_range
LeavesHeapPlace-without_range at size space leaves = All-without_first LeavesHeapPlace (is_range at size) space leaves

pub LeavesHeapPlace-with_protected : (at size prot : ℕ) (space : Space) → All LeavesHeapPlace space
    → All LeavesHeapPlace (with_protected at size prot space)
unfolding with_protected with_prot
LeavesHeapPlace-with_protected at size prot space leaves =
    All-change_first LeavesHeapPlace (is_range at size) (with_prot prot) (λ m found here. here) space leaves

written_leaves : (at : ℕ) (bytes : List ℕ) (m : Mapping) → LeavesHeapPlace m → LeavesHeapPlace (with_written at bytes m)
unfolding with_written
written_leaves at bytes m here = rw (length-written_bytes at bytes m.at m.bytes) here

pub LeavesHeapPlace-with_bytes : (at : ℕ) (bytes : List ℕ) (space : Space) → All LeavesHeapPlace space
    → All LeavesHeapPlace (with_bytes at bytes space)
unfolding with_bytes
LeavesHeapPlace-with_bytes at bytes space leaves =
    All-map LeavesHeapPlace (with_written at bytes) space
    (All-weaker LeavesHeapPlace (λ m. LeavesHeapPlace (with_written at bytes m))
    (written_leaves at bytes) space leaves)

-- ---- the space in which a program begins

low_leaves : (m : Mapping) → m.at + length m.bytes ≤ heap_base → LeavesHeapPlace m
low_leaves m low =
    or_right (is_break_heap m) _
    (or_left (leb (m.at + length m.bytes) heap_base) (leb break_limit m.at) (le-leb _ _ low))

pages_leave : (at prot : ℕ) (kind : MappingKind) (bytes : List ℕ) → length bytes ≤ data_limit
    → at + data_limit ≤ heap_base → All LeavesHeapPlace (unless_empty at prot kind bytes)
pages_leave at prot kind [] few low = All-nil LeavesHeapPlace
pages_leave at prot kind (b ∷ bytes) few low =
    let m : Mapping = record { at = at; prot = prot; kind = kind; bytes = whole_pages (b ∷ bytes) } in
    let size = length-pages (b ∷ bytes) in
    All-cons LeavesHeapPlace m [] (low_leaves m (omega arith)) (All-nil LeavesHeapPlace)

pub LeavesHeapPlace-first : (text bytes : List ℕ) → length text ≤ text_limit → length bytes ≤ data_limit
    → All LeavesHeapPlace (first_mappings text bytes)
unfolding first_mappings
LeavesHeapPlace-first text bytes few_text few_bytes =
    let low =
    All-append LeavesHeapPlace (unless_empty text_base read_execute Text text)
    (unless_empty data_base read_write Data bytes)
    (pages_leave text_base read_execute Text text few_text (omega arith))
    (pages_leave data_base read_write Data bytes few_bytes (omega arith)) in
    let stack =
    All-cons LeavesHeapPlace (zeros_at stack_base page_size read_write Stack)
    [] (zeros_leave stack_base page_size read_write Stack refl) (All-nil LeavesHeapPlace) in
    All-append LeavesHeapPlace
    (unless_empty text_base read_execute Text text ++ unless_empty data_base read_write Data bytes) _ low stack
