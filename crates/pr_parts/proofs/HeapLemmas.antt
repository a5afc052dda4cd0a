-- The heap grows, shrinks, begins and ends within its place.
use Rattle.std.proofs.Common.{◌≡◌, ◌⊎◌, ℕ, zero, suc, ◌+◌, ◌-◌, ◌<◌, ◌≤◌, Bool, true, false, eqb, cond, inl, inr, Option, Some, None, [], ◌∷◌, length, take, get_or, replicate, refl, sym, ◌∙◌, ap, arith, subst}
use Rattle.std.specs.Prelude.{◌||◌, nat_le}
use Rattle.std.specs.List.{All, AllPairs, find, list_any, remove, position}
use Rattle.std.proofs.lemmas.Bool.{and_left, and_parts, and_right, cases_Bool, eqb-true, false≢true, leb-true, le-ltb, not_from_false, or_cases, or_from, or_left}
use Rattle.std.proofs.lemmas.List.{length-append, length-replicate, length-take}
use Rattle.std.proofs.lemmas.List.Elements.{All-cons, All-head, All-tail}
use Rattle.std.proofs.lemmas.List.Kept.{AllPairs-cons}
use Rattle.pr_num.specs.Layout.{break_limit, heap_base}
use Rattle.pr_num.proofs.TableLemmas.{remove-without_first}
use Rattle.pr_num.specs.KeyedTables.{change_first, without_first}
use Rattle.pr_num.specs.Spaces.{Space, IsBefore, IsSpace, mapped_size, mapping_limit, read_write}
use Rattle.pr_num.specs.declared.mappings.Mapping.{Mapping}
use Rattle.pr_num.specs.declared.mappings.MappingKind.TheVariants.{Heap}
use Rattle.pr_parts.specs.AddressSpaces.{LeavesHeapPlace, address_of, is_break_heap, is_free, meets, resized, with_heap, with_mapping, zeros_at}
use Rattle.pr_parts.proofs.ByAddressLemmas.{All-placed, AllPairs-head, AllPairs-tail, sum_by-change_first, sum_by-without_first}
use Rattle.pr_parts.proofs.SpaceLemmas.{EndsWithin, HasBytes, mapped_size-with_mapping, size_of}
use Rattle.pr_num.proofs.TableLaws.{All-change_first, All-without_first}

-- ---- where the heap is

heap-at : (m : Mapping) → is_break_heap m ≡ true → m.at ≡ heap_base
heap-at m e = eqb-true _ _ (and_parts _ _ e).0

-- a mapping that is not the heap ends before its place or begins behind it
outside : (m : Mapping) → LeavesHeapPlace m → is_break_heap m ≡ false
    → (m.at + length m.bytes ≤ heap_base) ⊎ (break_limit ≤ m.at)
outside m leaves off =
    elim (or_cases (is_break_heap m) (nat_le (m.at + length m.bytes) heap_base || nat_le break_limit m.at) leaves) [
      | inl heap ↦ absurd (false≢true (sym off ∙ heap))
      | inr rest ↦ far (or_cases (nat_le (m.at + length m.bytes) heap_base) (nat_le break_limit m.at) rest)
    ]
  where
    far : (nat_le (m.at + length m.bytes) heap_base ≡ true) ⊎ (nat_le break_limit m.at ≡ true)
        → (m.at + length m.bytes ≤ heap_base) ⊎ (break_limit ≤ m.at)
    far (inl low) = inl (leb-true _ _ low)
    far (inr high) = inr (leb-true _ _ high)

-- where there is no heap, nothing stands in its place
pub is_free-heap : (size : ℕ) (space : Space) → All LeavesHeapPlace space → find is_break_heap space ≡ None
    → heap_base + size ≤ break_limit → is_free heap_base size space ≡ true
unfolding is_free
is_free-heap size space leaves none within = not_from_false _ (go space leaves none)
  where
    clear : (m : Mapping) → (m.at + length m.bytes ≤ heap_base) ⊎ (break_limit ≤ m.at) → meets heap_base size m ≡ false
    clear m (inl low) = and_left _ _ (le-ltb _ _ low)
    clear m (inr high) = and_right _ _ (le-ltb m.at (heap_base + size) (omega arith))

    no_heap : (m : Mapping) (rest : Space) → find is_break_heap (m ∷ rest) ≡ None → is_break_heap m ≡ false
    no_heap m rest e =
        elim (is_break_heap m) as (λ b. cond b (Some m) (find is_break_heap rest) ≡ None → b ≡ false)
        [ true ↦ λ p. absurd (cc) | false ↦ λ p. refl ] e

    none_behind : (m : Mapping) (rest : Space) → find is_break_heap (m ∷ rest) ≡ None → find is_break_heap rest ≡ None
    none_behind m rest e =
        elim (is_break_heap m)
        as (λ b. cond b (Some m) (find is_break_heap rest) ≡ None → find is_break_heap rest ≡ None)
        [ true ↦ λ p. absurd (cc) | false ↦ λ p. p ] e

    go : (rest : Space) → All LeavesHeapPlace rest → find is_break_heap rest ≡ None
        → list_any (meets heap_base size) rest ≡ false
    go [] all e = refl
    go (m ∷ rest) all e =
        or_from _ _ (clear m (outside m (All-head LeavesHeapPlace m rest all) (no_heap m rest e)))
        (go rest (All-tail LeavesHeapPlace m rest all) (none_behind m rest e))

-- ---- the heap, resized

pub resized-at : (size : ℕ) (m : Mapping) → (resized size m).at ≡ m.at
unfolding resized
resized-at size m = refl

pub resized-size : (size : ℕ) (m : Mapping) → length (resized size m).bytes ≡ size
unfolding resized
resized-size size m =
    omega (
      arith,
      length-append (take size m.bytes) (replicate (size - length m.bytes) 0),
      length-take size m.bytes,
      length-replicate {A = ℕ} (size - length m.bytes) 0,
    )

-- the heap ends before what stands behind it begins
ends_before : (size : ℕ) (m : Mapping) (space : Space) → is_break_heap m ≡ true → 0 < length m.bytes
    → heap_base + size ≤ break_limit → All HasBytes space → All LeavesHeapPlace space → All (IsBefore m) space
    → All (IsBefore (resized size m)) space
ends_before size m space heap some within bytes leaves behind k d inside =
    let other = get_or space k d in
    far other (bytes k d inside) (leaves k d inside) (behind k d inside)
  where
    not_heap : (n : Mapping) → IsBefore m n → is_break_heap n ≡ false
    not_heap n behind = let at = heap-at m heap in
        elim (cases_Bool (is_break_heap n)) [ inl t ↦ let here = heap-at n t in absurd (omega arith) | inr f ↦ f ]

    step : (n : Mapping) → 0 < length n.bytes → IsBefore m n
        → (n.at + length n.bytes ≤ heap_base) ⊎ (break_limit ≤ n.at) → IsBefore (resized size m) n
    step n has behind (inl low) = let at = heap-at m heap in absurd (omega arith)
    step n has behind (inr high) = let at = heap-at m heap in omega (arith, resized-at size m, resized-size size m)

    far : (n : Mapping) → 0 < length n.bytes → LeavesHeapPlace n → IsBefore m n → IsBefore (resized size m) n
    far n has leaves behind = step n has behind (outside n leaves (not_heap n behind))

pairs-resized : (size : ℕ) (space : Space) → heap_base + size ≤ break_limit → All HasBytes space
    → All LeavesHeapPlace space → AllPairs IsBefore space
    → AllPairs IsBefore (change_first is_break_heap (resized size) space)
pairs-resized size [] within bytes leaves pairs = pairs
pairs-resized size (m ∷ space) within bytes leaves pairs =
    let behind = AllPairs-head IsBefore m space pairs in
    let rest = AllPairs-tail IsBefore m space pairs in
    let more = All-tail HasBytes m space bytes in
    let others = All-tail LeavesHeapPlace m space leaves in
    let later = pairs-resized size space within more others rest in
    elim (is_break_heap m)
    as (λ b. is_break_heap m ≡ b
    → AllPairs IsBefore (cond b (resized size m ∷ space) (m ∷ change_first is_break_heap (resized size) space))) [
      | true ↦ λ t.
          AllPairs-cons IsBefore (resized size m) space
          (ends_before size m space t (All-head HasBytes m space bytes) within more others behind) rest
      | false ↦ λ f.
          AllPairs-cons IsBefore m (change_first is_break_heap (resized size) space)
          (All-change_first (IsBefore m) is_break_heap (resized size)
          (λ n _ h. subst (λ (a : ℕ). m.at + length m.bytes ≤ a) (sym (resized-at size n)) h) space behind) later
    ] refl

pub IsSpace-resized : (size : ℕ) (space : Space) → IsSpace space → All LeavesHeapPlace space → 0 < size
    → heap_base + size ≤ break_limit → mapped_size (change_first is_break_heap (resized size) space) ≤ mapping_limit
    → IsSpace (change_first is_break_heap (resized size) space)
IsSpace-resized size space old leaves some within room = record {
  apart = pairs-resized size space within old.not_empty leaves old.apart;
  not_empty =
      All-change_first HasBytes is_break_heap (resized size)
      (λ m _ h. omega (arith, resized-size size m)) space old.not_empty;
  within =
      All-change_first EndsWithin is_break_heap (resized size)
      (λ m t h. omega (arith, heap-at m t, resized-at size m, resized-size size m)) space old.within;
  limit = room;
}

pub mapped_size-resized : (size : ℕ) (space : Space) (m : Mapping) → find is_break_heap space ≡ Some m
    → mapped_size (change_first is_break_heap (resized size) space) + length m.bytes ≡ mapped_size space + size
mapped_size-resized size space m found =
    omega (arith, sum_by-change_first size_of is_break_heap (resized size) space m found, resized-size size m)

-- ---- what a space with a heap of some size is

pub with_heap-none : (space : Space) → find is_break_heap space ≡ None → with_heap 0 space ≡ space
unfolding with_heap
with_heap-none space none = rw none refl

pub with_heap-made : (size : ℕ) (space : Space) → find is_break_heap space ≡ None → 0 < size
    → with_heap size space ≡ with_mapping (zeros_at heap_base size read_write Heap) space
unfolding with_heap
with_heap-made size space none some = let more : eqb size 0 ≡ false = grind arith in rw (none, more) refl

pub with_heap-gone : (space : Space) (place : ℕ) → position is_break_heap space ≡ Some place → (m : Mapping)
    → find is_break_heap space ≡ Some m → with_heap 0 space ≡ remove space place
unfolding with_heap
with_heap-gone space place at m found = rw found (sym (remove-without_first is_break_heap space place at))

pub with_heap-resized : (size : ℕ) (space : Space) (m : Mapping) → find is_break_heap space ≡ Some m → 0 < size
    → with_heap size space ≡ change_first is_break_heap (resized size) space
unfolding with_heap
with_heap-resized size space m found some = let more : eqb size 0 ≡ false = grind arith in rw (found, more) refl

-- ---- how many bytes are mapped then

pub size_found : (space : Space) (m : Mapping) → find is_break_heap space ≡ Some m → length m.bytes ≤ mapped_size space
size_found space m found = omega (arith, sum_by-without_first size_of is_break_heap space m found)

pub mapped_size-none : (size : ℕ) (space : Space) → find is_break_heap space ≡ None
    → mapped_size (with_heap size space) ≡ mapped_size space + size
mapped_size-none zero space none = let same : mapped_size space + 0 ≡ mapped_size space = omega arith in
    ap mapped_size (with_heap-none space none) ∙ sym same
mapped_size-none (suc size) space none =
    ap mapped_size (with_heap-made (suc size) space none (omega arith))
    ∙ mapped_size-with_mapping (zeros_at heap_base (suc size) read_write Heap) space
    ∙ added (length-replicate {A = ℕ} (suc size) 0)
  where
    added : {a : ℕ} → a ≡ suc size → a + mapped_size space ≡ mapped_size space + suc size
    added e = omega arith

pub mapped_size-some : (size : ℕ) (space : Space) (m : Mapping) → find is_break_heap space ≡ Some m
    → mapped_size (with_heap size space) + length m.bytes ≡ mapped_size space + size
unfolding with_heap
mapped_size-some zero space m found =
    rw found (let gone = sum_by-without_first size_of is_break_heap space m found in omega arith)
mapped_size-some (suc size) space m found =
    let made = ap mapped_size (with_heap-resized (suc size) space m found (omega arith)) in
    omega (arith, made, mapped_size-resized (suc size) space m found)

pub ruleset heaps = (size_found, mapped_size-none, mapped_size-some)

-- ---- the place stays the heap's

heap_leaves : (m : Mapping) → is_break_heap m ≡ true → LeavesHeapPlace m
heap_leaves m e = or_left _ _ e

resized-heap : (size : ℕ) (m : Mapping) → is_break_heap m ≡ true → is_break_heap (resized size m) ≡ true
unfolding resized
resized-heap size m e = e

without_heap : (space : Space) (m : Mapping) → find is_break_heap space ≡ Some m
    → with_heap 0 space ≡ without_first is_break_heap space
unfolding with_heap
without_heap space m e = rw e refl

with_made : (size : ℕ) (space : Space) → All LeavesHeapPlace space
    → All LeavesHeapPlace (with_mapping (zeros_at heap_base size read_write Heap) space)
unfolding with_mapping
with_made size space leaves =
    All-placed LeavesHeapPlace address_of (zeros_at heap_base size read_write Heap) space
    (heap_leaves (zeros_at heap_base size read_write Heap) refl) leaves

pub LeavesHeapPlace-with_heap : (size : ℕ) (space : Space) → All LeavesHeapPlace space
    → All LeavesHeapPlace (with_heap size space)
LeavesHeapPlace-with_heap size space leaves = go size (find is_break_heap space) refl
  where
    go : (size : ℕ) (found : Option Mapping) → find is_break_heap space ≡ found
        → All LeavesHeapPlace (with_heap size space)
    go zero None e = subst (All LeavesHeapPlace) (sym (with_heap-none space e)) leaves
    go (suc n) None e =
        subst (All LeavesHeapPlace) (sym (with_heap-made (suc n) space e (omega arith)))
        (with_made (suc n) space leaves)
    go zero (Some m) e =
        subst (All LeavesHeapPlace) (sym (without_heap space m e))
        (All-without_first LeavesHeapPlace is_break_heap space leaves)
    go (suc n) (Some m) e =
        subst (All LeavesHeapPlace) (sym (with_heap-resized (suc n) space m e (omega arith)))
        (All-change_first LeavesHeapPlace is_break_heap (resized (suc n))
        (λ x t h. heap_leaves (resized (suc n) x) (resized-heap (suc n) x t)) space leaves)
