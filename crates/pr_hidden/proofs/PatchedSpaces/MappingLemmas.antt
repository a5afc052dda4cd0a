use Rattle.std.proofs.Common.{◌≡◌, ◌+◌, ◌-◌, ◌<◌, ◌≤◌, ℕ, zero, suc, Bool, true, false, eqb, leb, ltb, not, ◌&&◌, ◌||◌, ◌⊎◌, Option, Some, None, List, [], ◌∷◌, ◌++◌, length, take, replicate, min, cond, refl, sym, ◌∙◌, ap, inl, inr, arith}
use Rattle.std.specs.List.{find, list_any}
use Rattle.std.specs.Option.{option_map}
use Rattle.std.proofs.lemmas.Bool.{cases_Bool, and_parts, eqb-true}
use Rattle.std.proofs.lemmas.List.{length-append, length-replicate, length-take}
use Rattle.pr_num.specs.KeyedTables.{change_first, without_first}
use Rattle.pr_num.specs.Layout.{heap_base, page_size}
use Rattle.pr_num.specs.Spaces.{Space, is_heap, mapped_size, read_write}
use Rattle.pr_num.specs.declared.mappings.Mapping.{Mapping}
use Rattle.pr_num.specs.declared.mappings.MappingKind.{MappingKind}
use Rattle.pr_num.specs.declared.mappings.MappingKind.TheVariants.{Heap}
use Rattle.pr_parts.specs.AddressSpaces.{address_of, gap_from, gap_in, has_range, is_break_heap, is_free, is_range, meets, resized, with_bytes, with_heap, with_mapping, with_prot, with_protected, without_range, zeros_at}
use Rattle.pr_parts.specs.ByAddress.{is_behind, with_placed}
use Rattle.pr_parts.proofs.SpaceLemmas.{mapped_size-with_bytes}
use Rattle.pr_model.specs.MemoryCalls.{is_mapped_kind, is_mapped_range}
use Rattle.pr_hidden.specs.Covers.{Patch, patched}
use Rattle.pr_hidden.specs.Sparing.{is_spared}
use Rattle.pr_hidden.proofs.PatchedSpaces.ByteLemmas.{Spares, length-over, over, over_bytes, over_mapping, patched-over, patched_byte, spared-byte}

-- The mappings of a space with patches: they stand where they stood, and mappings come and go alike where they hold no
-- patched byte.

pub mapped-patched : (ps : List Patch) (space : Space) → mapped_size (patched ps space) ≡ mapped_size space
mapped-patched [] space = refl
mapped-patched (p ∷ ps) space = mapped_size-with_bytes p.at p.bytes (patched ps space) ∙ mapped-patched ps space

-- no byte from an address on, so many, is changed
abbrev Leaves : (ℕ → ℕ → ℕ) → ℕ → ℕ → Type 0
Leaves f at n = (a : ℕ) → at ≤ a → a < at + n → (b : ℕ) → f a b ≡ b

module _ (f : ℕ → ℕ → ℕ) where
  -- ---- what is asked of mappings

  any-over : (test : Mapping → Bool) → ((m : Mapping) → test (over_mapping f m) ≡ test m) → (space : Space)
      → list_any test (over f space) ≡ list_any test space
  unfolding over
  any-over test same [] = refl
  any-over test same (m ∷ ms) = rw (same m, any-over test same ms) refl

  meets-over : (at size : ℕ) (m : Mapping) → meets at size (over_mapping f m) ≡ meets at size m
  unfolding over_mapping
  meets-over at size m = ap (λ n. ltb at (m.at + n) && ltb m.at (at + size)) (length-over f m.at m.bytes)

  range-over : (at size : ℕ) (m : Mapping) → is_range at size (over_mapping f m) ≡ is_range at size m
  unfolding over_mapping
  range-over at size m = ap (λ n. eqb m.at at && eqb n size) (length-over f m.at m.bytes)

  mapped_range-over : (at size : ℕ) (m : Mapping)
      → is_mapped_range at size (over_mapping f m) ≡ is_mapped_range at size m
  unfolding over_mapping
  mapped_range-over at size m =
      ap (λ n. (eqb m.at at && eqb n size) && is_mapped_kind m.kind) (length-over f m.at m.bytes)

  heap-over : (m : Mapping) → is_break_heap (over_mapping f m) ≡ is_break_heap m
  unfolding over_mapping
  heap-over m = refl

  at-over : (m : Mapping) → (over_mapping f m).at ≡ m.at
  unfolding over_mapping
  at-over m = refl

  free-over : (at size : ℕ) (space : Space) → is_free at size (over f space) ≡ is_free at size space
  unfolding is_free
  free-over at size space = ap not (any-over (meets at size) (meets-over at size) space)

  gap-over : (size : ℕ) (space : Space) (at places : ℕ)
      → gap_from size (over f space) at places ≡ gap_from size space at places
  unfolding gap_from
  gap-over size space at zero = refl
  gap-over size space at (suc places) =
      rw (free-over at size space, gap-over size space (at + page_size) places) refl

  -- ---- mappings that go, and that change

  without-over : (test : Mapping → Bool) → ((m : Mapping) → test (over_mapping f m) ≡ test m) → (space : Space)
      → without_first test (over f space) ≡ over f (without_first test space)
  unfolding over
  without-over test same [] = refl
  without-over test same (m ∷ ms) =
      elim (cases_Bool (test m)) [
        | inl here ↦ rw (same m ∙ here, here) refl
        | inr other ↦ rw (same m ∙ other, other) (ap (λ x. over_mapping f m ∷ x) (without-over test same ms))
      ]

  change-over : (test : Mapping → Bool) (change : Mapping → Mapping)
      → ((m : Mapping) → test (over_mapping f m) ≡ test m)
      → ((m : Mapping) → test m ≡ true → change (over_mapping f m) ≡ over_mapping f (change m)) → (space : Space)
      → change_first test change (over f space) ≡ over f (change_first test change space)
  unfolding over
  change-over test change same agree [] = refl
  change-over test change same agree (m ∷ ms) =
      elim (cases_Bool (test m)) [
        | inl here ↦ rw (same m ∙ here, here) (ap (λ x. x ∷ over f ms) (agree m here))
        | inr other ↦
            rw (same m ∙ other, other) (ap (λ x. over_mapping f m ∷ x) (change-over test change same agree ms))
      ]

  prot-over : (prot : ℕ) (m : Mapping) → with_prot prot (over_mapping f m) ≡ over_mapping f (with_prot prot m)
  unfolding over_mapping with_prot
  prot-over prot m = refl

  -- ---- a mapping that comes

  bytes-left : (a : ℕ) (bs : List ℕ) → Leaves f a (length bs) → over_bytes f a bs ≡ bs
  unfolding over_bytes
  bytes-left a [] leaves = refl
  bytes-left a (b ∷ bs) leaves =
      rw (
        leaves a (omega arith) (omega arith) b,
        bytes-left (a + 1) bs (λ x low high. leaves x (omega arith) (omega arith)),
      ) refl

  mapping-left : (m : Mapping) → Leaves f m.at (length m.bytes) → over_mapping f m ≡ m
  unfolding over_mapping
  mapping-left m leaves = ap (λ bs. record m { bytes = bs }) (bytes-left m.at m.bytes leaves)

  placed-over : (m : Mapping) → over_mapping f m ≡ m → (space : Space)
      → with_placed address_of m (over f space) ≡ over f (with_placed address_of m space)
  unfolding over
  placed-over m same [] = ap (λ x. x ∷ []) (sym same)
  placed-over m same (n ∷ ns) =
      elim (cases_Bool (ltb m.at n.at)) [
        | inl behind ↦
            rw (ap (ltb m.at) (at-over n) ∙ behind, behind) (ap (λ x. x ∷ over_mapping f n ∷ over f ns) (sym same))
        | inr before ↦
            rw (ap (ltb m.at) (at-over n) ∙ before, before) (ap (λ x. over_mapping f n ∷ x) (placed-over m same ns))
      ]

  -- ---- the heap

  take-over : (n a : ℕ) (bs : List ℕ) → take n (over_bytes f a bs) ≡ over_bytes f a (take n bs)
  unfolding over_bytes
  take-over zero a bs = refl
  take-over (suc n) a [] = refl
  take-over (suc n) a (b ∷ bs) = ap (λ cs. f a b ∷ cs) (take-over n (a + 1) bs)

  found-over : (test : Mapping → Bool) → ((m : Mapping) → test (over_mapping f m) ≡ test m) → (space : Space)
      → find test (over f space) ≡ option_map (over_mapping f) (find test space)
  unfolding over
  found-over test same [] = refl
  found-over test same (m ∷ ms) =
      elim (cases_Bool (test m)) [
        | inl here ↦ rw (same m ∙ here, here) refl
        | inr other ↦ rw (same m ∙ other, other) (found-over test same ms)
      ]

  resized-bytes : (size a : ℕ) (bs : List ℕ) → Leaves f a size
      → take size (over_bytes f a bs) ++ replicate (size - length (over_bytes f a bs)) 0
      ≡ over_bytes f a (take size bs ++ replicate (size - length bs) 0)
  resized-bytes size a bs leaves =
      let kept : length (take size bs) ≤ size = omega (arith, length-take size bs) in
      let all : length (take size bs ++ replicate (size - length bs) 0) ≤ size =
      omega (
        arith,
        length-append (take size bs) (replicate {A = ℕ} (size - length bs) 0),
        length-take size bs,
        length-replicate {A = ℕ} (size - length bs) 0,
      ) in
      rw (
        length-over f a bs,
        take-over size a bs,
        bytes-left a (take size bs) (λ x low high. leaves x low (omega arith)),
      ) (sym
      (bytes-left a (take size bs ++ replicate (size - length bs) 0) (λ x low high. leaves x low (omega arith))))

  resized-over : (size : ℕ) → Leaves f heap_base size → (m : Mapping) → is_break_heap m ≡ true
      → resized size (over_mapping f m) ≡ over_mapping f (resized size m)
  unfolding resized over_mapping
  resized-over size leaves m heap =
      let base : m.at ≡ heap_base = eqb-true m.at heap_base (and_parts (eqb m.at heap_base) (is_heap m.kind) heap).0 in
      ap (λ bs. record m { bytes = bs })
      (resized-bytes size m.at m.bytes (λ x low high. leaves x (omega (arith, base)) (omega (arith, base))))

  grown-over : (size : ℕ) → Leaves f heap_base size → (space : Space)
      → with_heap size (over f space) ≡ over f (with_heap size space)
  unfolding with_heap with_mapping
  grown-over size leaves space = by (find is_break_heap space) refl (cases_Bool (eqb size 0))
    where
      fresh : over_mapping f (zeros_at heap_base size read_write Heap) ≡ zeros_at heap_base size read_write Heap
      fresh =
          mapping-left (zeros_at heap_base size read_write Heap)
          (λ x low high. leaves x low (omega (arith, length-replicate {A = ℕ} size 0)))

      by : (o : Option Mapping) → find is_break_heap space ≡ o → (eqb size 0 ≡ true) ⊎ (eqb size 0 ≡ false)
          → with_heap size (over f space) ≡ over f (with_heap size space)
      by None is (inl nothing) =
          rw (found-over is_break_heap heap-over space ∙ ap (option_map (over_mapping f)) is, is, nothing) refl
      by None is (inr some) =
          rw (found-over is_break_heap heap-over space ∙ ap (option_map (over_mapping f)) is, is, some)
          (placed-over (zeros_at heap_base size read_write Heap) fresh space)
      by (Some heap) is (inl nothing) =
          rw (found-over is_break_heap heap-over space ∙ ap (option_map (over_mapping f)) is, is, nothing)
          (without-over is_break_heap heap-over space)
      by (Some heap) is (inr some) =
          rw (found-over is_break_heap heap-over space ∙ ap (option_map (over_mapping f)) is, is, some)
          (change-over is_break_heap (resized size) heap-over (resized-over size leaves) space)

-- ---- the same with patches

spared-leaves : (ps : List Patch) (at n : ℕ) → Spares ps at n → Leaves (patched_byte ps) at n
spared-leaves ps at n spares a low high b = spared-byte ps a b (spares a low high)

pub gap-patched : (ps : List Patch) (size : ℕ) (space : Space) → gap_in size (patched ps space) ≡ gap_in size space
unfolding gap_in
gap-patched ps size space =
    ap (λ (x : Space). gap_in size x) (patched-over ps space) ∙ gap-over (patched_byte ps) size space _ _

pub has_range-patched : (ps : List Patch) (at size : ℕ) (space : Space)
    → has_range at size (patched ps space) ≡ has_range at size space
has_range-patched ps at size space =
    ap (has_range at size) (patched-over ps space)
    ∙ any-over (patched_byte ps) (is_range at size) (range-over (patched_byte ps) at size) space

pub mapped_range-patched : (ps : List Patch) (at size : ℕ) (space : Space)
    → list_any (is_mapped_range at size) (patched ps space) ≡ list_any (is_mapped_range at size) space
mapped_range-patched ps at size space =
    ap (list_any (is_mapped_range at size)) (patched-over ps space)
    ∙ any-over (patched_byte ps) (is_mapped_range at size) (mapped_range-over (patched_byte ps) at size) space

pub without_range-patched : (ps : List Patch) (at size : ℕ) (space : Space)
    → without_range at size (patched ps space) ≡ patched ps (without_range at size space)
unfolding without_range
without_range-patched ps at size space =
    ap (without_first (is_range at size)) (patched-over ps space)
    ∙ without-over (patched_byte ps) (is_range at size) (range-over (patched_byte ps) at size) space
    ∙ sym (patched-over ps (without_first (is_range at size) space))

pub protected-patched : (ps : List Patch) (at size prot : ℕ) (space : Space)
    → with_protected at size prot (patched ps space) ≡ patched ps (with_protected at size prot space)
unfolding with_protected
protected-patched ps at size prot space =
    ap (change_first (is_range at size) (with_prot prot)) (patched-over ps space)
    ∙ change-over (patched_byte ps) (is_range at size) (with_prot prot) (range-over (patched_byte ps) at size)
    (λ m here. prot-over (patched_byte ps) prot m) space
    ∙ sym (patched-over ps (change_first (is_range at size) (with_prot prot) space))

pub mapping-patched : (ps : List Patch) (m : Mapping) (space : Space) → Spares ps m.at (length m.bytes)
    → with_mapping m (patched ps space) ≡ patched ps (with_mapping m space)
unfolding with_mapping
mapping-patched ps m space spares =
    ap (with_placed address_of m) (patched-over ps space)
    ∙ placed-over (patched_byte ps) m
    (mapping-left (patched_byte ps) m (spared-leaves ps m.at (length m.bytes) spares)) space
    ∙ sym (patched-over ps (with_placed address_of m space))

pub heap-patched : (ps : List Patch) (size : ℕ) (space : Space) → Spares ps heap_base size
    → with_heap size (patched ps space) ≡ patched ps (with_heap size space)
heap-patched ps size space spares =
    ap (with_heap size) (patched-over ps space)
    ∙ grown-over (patched_byte ps) size (spared-leaves ps heap_base size spares) space
    ∙ sym (patched-over ps (with_heap size space))
