use Rattle.std.proofs.Common.{◌≡◌, ◌==◌, ◌&&◌, ◌+◌, ◌-◌, ◌*◌, ◌%◌, ◌^◌, ◌<◌, ◌≤◌, ℕ, zero, suc, Bool, true, false, cond, eqb, ltb, leb, length, get_or, take, replicate, Option, Some, None, Result, Ok, Err, List, [], ◌∷◌, ◌++◌, refl, sym, ap, subst, arith}
use Rattle.std.specs.List.{All, find, flat_map}
use Rattle.std.proofs.lemmas.Bool.{and_parts, eqb-false, ltb-true}
use Rattle.std.proofs.lemmas.List.{length-append, length-map, length-replicate, length-take}
use Rattle.std.proofs.lemmas.List.Elements.{All-nil, All-cons, All-head, All-tail, All-append, All-from_recursion, All-map, All-replicate, All-take, All-weaker}
use Rattle.std.proofs.lemmas.List.Sums.{sum_by-cons}
use Rattle.std.proofs.lemmas.Option.{none-some, same_Some}
use Rattle.pr_codec.proofs.WordLemmas.{AreBytes-word_bytes}
use Rattle.pr_num.proofs.ListLemmas.{length-text}
use Rattle.pr_num.proofs.TableLaws.{All-change_first, All-without_first}
use Rattle.pr_num.specs.Control.{has_flags}
use Rattle.pr_num.specs.KeyedTables.{change_first, without_first}
use Rattle.pr_num.specs.Instructions.{fields_of, instruction_bytes, register_number}
use Rattle.pr_num.specs.Layout.{break_limit, data_base, heap_base, page_size, stack_base, text_base, gap_base}
use Rattle.pr_num.specs.Limits.{path_limit}
use Rattle.pr_num.specs.Programs.{Program, rounded, text_of, whole_pages}
use Rattle.pr_num.specs.Spaces.{IsBefore, IsSpace, Space, byte_for, bytes_for, covers, first_mappings, first_space, mapped_size, mapping_limit, one_more, read_execute, read_write, unless_empty}
use Rattle.pr_num.specs.Syscalls.{syscall_number}
use Rattle.pr_num.specs.Words.{IsByte, IsWord, word_bytes}
use Rattle.pr_num.specs.declared.errnos.Errno.{Errno}
use Rattle.pr_num.specs.declared.instructions.Instruction.{Instruction}
use Rattle.pr_num.specs.declared.instructions.Instruction.TheVariants as i
use Rattle.pr_num.specs.declared.instructions.Reg.{Reg}
use Rattle.pr_num.specs.declared.instructions.Reg.TheVariants.{R0}
use Rattle.pr_num.specs.declared.mappings.BadByte.{BadByte}
use Rattle.pr_num.specs.declared.mappings.BadByte.TheVariants.{Hole, NotAllowed}
use Rattle.pr_num.specs.declared.mappings.Mapping.{Mapping}
use Rattle.pr_num.specs.declared.mappings.MappingKind.{MappingKind}
use Rattle.pr_num.specs.declared.mappings.MappingKind.TheVariants.{Text, Data, Heap, Stack, Mapped}
use Rattle.pr_parts.proofs.AccessLemmas.{length-written_bytes}
use Rattle.pr_parts.proofs.ByAddressLemmas.{All-placed, AllPairs-nil, pairs-without_first}
use Rattle.pr_parts.proofs.FirstLemmas.{IsSpace-first, first_space-mappings}
use Rattle.pr_parts.proofs.HeapLemmas.{IsSpace-resized, is_free-heap, mapped_size-none, with_heap-made, with_heap-none, with_heap-resized}
use Rattle.pr_parts.proofs.SpaceLemmas.{EndsWithin, HasBytes, IsSpace-with_bytes, IsSpace-with_mapping, IsSpace-with_protected, mapped_size-with_mapping}
use Rattle.pr_parts.specs.AddressSpaces.{LeavesHeapPlace, address_of, gap_from, gap_in, gap_places, is_break_heap, is_free, is_gap, is_range, resized, text_at, text_behind, text_with, with_break, with_bytes, with_heap, with_mapping, with_prot, with_protected, with_written, without_range, written_byte, written_bytes, zeros_at}
use Rattle.pr_lawful.proofs.ProcessParts.FileLemmas.{choice}
use Rattle.pr_model.specs.Lawful.{IsLawfulProgram}
use Rattle.pr_model.specs.MemoryCalls.{path_at}
use Rattle.pr_reached.proofs.StatesInRange.RegisterRanges.{byte_at, wraps}
use Rattle.pr_reached.specs.InRange.{IsMappingInRange, IsShortName, IsProgramInRange, IsSpaceInRange}

-- The bytes of address spaces stay bytes, and what is read of them are bytes. The mappings stay apart, by rising
-- address, and each keeps a page at least, so there are never more of them than a process can map pages.

-- ---- lists

-- what is found in a list
pub All-find : {X : Type 0} (P : X → Type 0) (p : X → Bool) (xs : List X) (x : X) → All P xs → find p xs ≡ Some x → P x
All-find P p [] x all found = absurd (none-some x found)
All-find P p (y ∷ ys) x all found =
    elim (p y) as (λ b. cond b (Some y) (find p ys) ≡ Some x → P x) [
      | true ↦ λ here. subst P (same_Some y x here) (All-head P y ys all)
      | false ↦ λ there. All-find P p ys x (All-tail P y ys all) there
    ] found

-- a list that loses an element, or gets another in its place, grows no longer
without_first-within : {X : Type 0} (p : X → Bool) (xs : List X) → length (without_first p xs) ≤ length xs
without_first-within p [] = omega arith
without_first-within p (x ∷ xs) =
    let rest = without_first-within p xs in
    choice (λ (ys : List _). length ys ≤ suc (length xs)) (p x) xs (x ∷ without_first p xs) (λ here. omega arith)
    (λ there. omega arith)

change_first-within : {X : Type 0} (p : X → Bool) (f : X → X) (xs : List X) → length (change_first p f xs) ≤ length xs
change_first-within p f [] = omega arith
change_first-within p f (x ∷ xs) =
    let rest = change_first-within p f xs in
    choice (λ (ys : List _). length ys ≤ suc (length xs)) (p x) (f x ∷ xs) (x ∷ change_first p f xs)
    (λ here. omega arith) (λ there. omega arith)

-- ---- how many mappings there are

-- each mapping counts for a page at least
pages-within : (space : Space) → All IsMappingInRange space → length space * page_size ≤ mapped_size space
pages-within [] h = omega arith
pages-within (m ∷ space) h =
    let whole = sum_by-cons (λ (x : Mapping). length x.bytes) m space in
    let own = (All-head IsMappingInRange m space h).page in
    let rest = pages-within space (All-tail IsMappingInRange m space h) in
    omega arith

-- the mappings of an address space, which have at most 1 MiB, are few
pub sized-few : (space : Space) → IsSpace space → All IsMappingInRange space → IsSpaceInRange space
sized-few space is h = record {
  is_space = is;
  mappings = h;
  few = let pages = pages-within space h in let small = is.limit in omega arith;
}

nothing-space : IsSpace []
nothing-space = record {
  apart = AllPairs-nil IsBefore;
  not_empty = All-nil HasBytes;
  within = All-nil EndsWithin;
  limit = omega arith;
}

pub nothing-mapped : IsSpaceInRange []
nothing-mapped = record { is_space = nothing-space; mappings = All-nil IsMappingInRange; few = omega arith }

-- a length that is rounded up to whole pages is 0, or a page at least
pub rounded-page : (n : ℕ) → 0 < n → page_size ≤ rounded n
rounded-page n some = omega arith

pages-page : (n : ℕ) → eqb (rounded n) 0 ≡ false → page_size ≤ rounded n
pages-page n some = let apart = eqb-false (rounded n) 0 some in omega arith

-- ---- reading

-- the address of a byte at which an access fails
abbrev pub IsBadInRange : BadByte → Type 0
IsBadInRange (Hole address) = IsWord address
IsBadInRange (NotAllowed address) = IsWord address

abbrev pub IsByteRead : Result ℕ BadByte → Type 0
IsByteRead (Err bad) = IsBadInRange bad
IsByteRead (Ok byte) = IsByte byte

abbrev pub AreBytesRead : ℕ → Result (List ℕ) BadByte → Type 0
AreBytesRead n (Err bad) = IsBadInRange bad
AreBytesRead n (Ok bytes) = All IsByte bytes × (length bytes ≡ n)

module _ (needed : ℕ) (space : Space) (h : All IsMappingInRange space) where
  byte-read : (address : ℕ) → IsWord address → IsByteRead (byte_for needed space address)
  byte-read address fits = by (find (covers address) space) refl
    where
      by : (o : Option Mapping) → find (covers address) space ≡ o → IsByteRead (byte_for needed space address)
      by None is = rw is fits
      by (Some m) is =
          rw is (choice IsByteRead (has_flags m.prot needed) (Ok (get_or m.bytes (address - m.at) 0))
          (Err (NotAllowed address))
          (λ allowed. byte_at m.bytes (address - m.at) (All-find IsMappingInRange (covers address) space m h is).bytes)
          (λ not. fits))

  pub bytes-read : (n address : ℕ) → IsWord address → AreBytesRead n (bytes_for needed space address n)
  unfolding bytes_for
  bytes-read zero address fits = (All-nil IsByte, refl)
  bytes-read (suc n) address fits =
      both (byte_for needed space address) (bytes_for needed space ((address + 1) % 2 ^ 64) n) (byte-read address fits)
      (bytes-read n ((address + 1) % 2 ^ 64) (wraps (address + 1)))
    where
      both : (b : Result ℕ BadByte) (r : Result (List ℕ) BadByte) → IsByteRead b → AreBytesRead n r
          → AreBytesRead (suc n) (one_more b r)
      both (Err bad) r here rest = here
      both (Ok byte) (Err bad) here rest = rest
      both (Ok byte) (Ok bytes) here rest = (All-cons IsByte byte bytes here rest.0, ap suc rest.1)

-- ---- paths

abbrev IsTextRead : ℕ → Result (Option (List ℕ)) BadByte → Type 0
IsTextRead most (Err bad) = Unit {0}
IsTextRead most (Ok None) = Unit {0}
IsTextRead most (Ok (Some text)) = All IsByte text × (length text < most)

module _ (space : Space) (h : All IsMappingInRange space) where
  text-read : (most address : ℕ) → IsWord address → IsTextRead most (text_at space address most)
  unfolding text_at
  text-read zero address fits = tt
  text-read (suc most) address fits =
      both (byte_for 4 space address) (text_at space ((address + 1) % 2 ^ 64) most) (byte-read 4 space h address fits)
      (text-read most ((address + 1) % 2 ^ 64) (wraps (address + 1)))
    where
      behind : (byte : ℕ) (r : Result (Option (List ℕ)) BadByte) → IsByte byte → IsTextRead most r
          → IsTextRead (suc most) (text_behind byte r)
      behind byte (Err bad) here rest = tt
      behind byte (Ok None) here rest = tt
      behind byte (Ok (Some text)) here rest =
          (All-cons IsByte byte text here rest.0, let short = rest.1 in omega arith)

      both : (b : Result ℕ BadByte) (r : Result (Option (List ℕ)) BadByte) → IsByteRead b → IsTextRead most r
          → IsTextRead (suc most) (text_with b r)
      both (Err bad) r here rest = tt
      both (Ok byte) r here rest =
          choice (IsTextRead (suc most)) (byte == 0) _ _ (λ ends. (All-nil IsByte, omega arith))
          (λ more. behind byte r here rest)

  abbrev IsPathRead : Result (List ℕ) Errno → Type 0
  IsPathRead (Err e) = Unit {0}
  IsPathRead (Ok name) = IsShortName name

  path-read : (at : ℕ) → IsWord at → IsPathRead (path_at space at)
  unfolding path_at
  path-read at fits = by (text_at space at path_limit) refl (text-read path_limit at fits)
    where
      by : (r : Result (Option (List ℕ)) BadByte) → text_at space at path_limit ≡ r → IsTextRead path_limit r
          → IsPathRead (path_at space at)
      by (Err bad) is it = rw is tt
      by (Ok None) is it = rw is tt
      by (Ok (Some [])) is it = rw is tt
      by (Ok (Some (b ∷ bytes))) is it = rw is (record { short = let short = it.1 in omega arith; bytes = it.0 })

  -- a path is a name
  pub path-name : (at : ℕ) (name : List ℕ) → IsWord at → path_at space at ≡ Ok name → IsShortName name
  path-name at name fits is = subst IsPathRead is (path-read at fits)

-- ---- writing

module _ (at : ℕ) (bytes : List ℕ) (all : All IsByte bytes) where
  written-byte : (address old : ℕ) → IsByte old → IsByte (written_byte at bytes address old)
  written-byte address old here =
      choice IsByte (leb at address && ltb address (at + length bytes)) _ _
      (λ within. byte_at bytes (address - at) all) (λ out. here)

  written-bytes : (address : ℕ) (olds : List ℕ) → All IsByte olds → All IsByte (written_bytes at bytes address olds)
  written-bytes address [] h = h
  written-bytes address (old ∷ olds) h =
      All-cons IsByte (written_byte at bytes address old) (written_bytes at bytes (address + 1) olds)
      (written-byte address old (All-head IsByte old olds h))
      (written-bytes (address + 1) olds (All-tail IsByte old olds h))

  written-mapping : (m : Mapping) → IsMappingInRange m → IsMappingInRange (with_written at bytes m)
  unfolding with_written
  written-mapping m h = record {
    at = h.at;
    prot = h.prot;
    bytes = written-bytes m.at m.bytes h.bytes;
    page = let same = length-written_bytes at bytes m.at m.bytes in let page = h.page in omega arith;
  }

  pub with_bytes-range : (space : Space) → IsSpaceInRange space → IsSpaceInRange (with_bytes at bytes space)
  unfolding with_bytes
  with_bytes-range space h = record {
    is_space = IsSpace-with_bytes at bytes space h.is_space;
    mappings =
        All-map IsMappingInRange (with_written at bytes) space
        (All-weaker IsMappingInRange
        (λ m. IsMappingInRange (with_written at bytes m)) written-mapping space h.mappings);
    few = let same = length-map space (with_written at bytes) in let few = h.few in omega arith;
  }

-- ---- mapping, unmapping and protecting

zeros-range : (at size prot : ℕ) (kind : MappingKind) → IsWord at → prot < 8 → page_size ≤ size
    → IsMappingInRange (zeros_at at size prot kind)
zeros-range at size prot kind fits allowed page = record {
  at = fits;
  prot = allowed;
  bytes = All-replicate IsByte size 0 (omega arith);
  page = let same : length (replicate {A = ℕ} size 0) ≡ size = length-replicate size 0 in omega arith;
}

pub zeros_mapped-range : (at size prot : ℕ) (kind : MappingKind) (space : Space) → IsWord at → prot < 8
    → page_size ≤ size → All IsMappingInRange space
    → All IsMappingInRange (with_mapping (zeros_at at size prot kind) space)
unfolding with_mapping
zeros_mapped-range at size prot kind space fits allowed page h =
    All-placed IsMappingInRange address_of (zeros_at at size prot kind) space
    (zeros-range at size prot kind fits allowed page) h

-- a space that loses a mapping, if it has that, maps no more
without_first-size : (p : Mapping → Bool) (space : Space) → mapped_size (without_first p space) ≤ mapped_size space
without_first-size p [] = omega arith
without_first-size p (m ∷ space) =
    let rest = without_first-size p space in
    let whole = sum_by-cons (λ (x : Mapping). length x.bytes) m space in
    let kept = sum_by-cons (λ (x : Mapping). length x.bytes) m (without_first p space) in
    choice (λ (ms : Space). mapped_size ms ≤ mapped_size (m ∷ space)) (p m) space (m ∷ without_first p space)
    (λ here. omega arith) (λ there. omega arith)

without_first-space : (p : Mapping → Bool) (space : Space) → IsSpace space → IsSpace (without_first p space)
without_first-space p space old = record {
  apart = pairs-without_first IsBefore p space old.apart;
  not_empty = All-without_first HasBytes p space old.not_empty;
  within = All-without_first EndsWithin p space old.within;
  limit = let less = without_first-size p space in let limit = old.limit in omega arith;
}

pub without_range-range : (at size : ℕ) (space : Space) → IsSpaceInRange space
    → IsSpaceInRange (without_range at size space)
unfolding without_range
without_range-range at size space h = record {
  is_space = without_first-space (is_range at size) space h.is_space;
  mappings = All-without_first IsMappingInRange (is_range at size) space h.mappings;
  few = let shorter = without_first-within (is_range at size) space in let few = h.few in omega arith;
}

pub with_protected-range : (at size prot : ℕ) (space : Space) → prot < 8 → IsSpaceInRange space
    → IsSpaceInRange (with_protected at size prot space)
unfolding with_protected with_prot
with_protected-range at size prot space allowed h = record {
  is_space = IsSpace-with_protected at size prot space h.is_space;
  mappings =
      All-change_first IsMappingInRange (is_range at size) (with_prot prot)
      (λ m is it. record { at = it.at; prot = allowed; bytes = it.bytes; page = it.page }) space h.mappings;
  few = let same = change_first-within (is_range at size) (with_prot prot) space in let few = h.few in omega arith;
}

-- the address of a gap
gap_from-word : (size : ℕ) (space : Space) (at places found : ℕ) → gap_from size space at places ≡ Some found
    → IsWord found
unfolding gap_from
gap_from-word size space at zero found is = absurd (none-some found is)
gap_from-word size space at (suc places) found is =
    by (is_gap size space at) refl (gap_from size space (at + page_size) places)
    (gap_from-word size space (at + page_size) places found) is
  where
    by : (b : Bool) → is_gap size space at ≡ b → (rest : Option ℕ) → (rest ≡ Some found → IsWord found)
        → cond b (Some at) rest ≡ Some found → IsWord found
    by true free rest later here =
        let low : at + size < stack_base = ltb-true (at + size) stack_base (and_parts _ _ free).0 in
        let same = same_Some at found here in
        omega arith
    by false taken rest later there = later there

pub gap-word : (size : ℕ) (space : Space) (at : ℕ) → gap_in size space ≡ Some at → IsWord at
unfolding gap_in
gap-word size space at is = gap_from-word size space gap_base gap_places at is

-- a gap that is found is one
gap_from-gap : (size : ℕ) (space : Space) (at places found : ℕ) → gap_from size space at places ≡ Some found
    → is_gap size space found ≡ true
unfolding gap_from
gap_from-gap size space at zero found is = absurd (none-some found is)
gap_from-gap size space at (suc places) found is =
    by (is_gap size space at) refl (gap_from size space (at + page_size) places)
    (gap_from-gap size space (at + page_size) places found) is
  where
    by : (b : Bool) → is_gap size space at ≡ b → (rest : Option ℕ)
        → (rest ≡ Some found → is_gap size space found ≡ true) → cond b (Some at) rest ≡ Some found
        → is_gap size space found ≡ true
    by true free rest later here =
        subst (λ (a : ℕ). is_gap size space a ≡ true) (same_Some at found here) free
    by false taken rest later there = later there

-- a mapping in a gap leaves an address space, where that is not too big
pub mapped-space : (at size prot : ℕ) (space : Space) → IsSpace space → 0 < size → gap_in size space ≡ Some at
    → mapped_size (with_mapping (zeros_at at size prot Mapped) space) ≤ mapping_limit
    → IsSpace (with_mapping (zeros_at at size prot Mapped) space)
unfolding gap_in
mapped-space at size prot space old some is small =
    let gap = and_parts _ _ (gap_from-gap size space gap_base gap_places at is) in
    let low : at + size < stack_base = ltb-true (at + size) stack_base gap.0 in
    let long : length (replicate {A = ℕ} size 0) ≡ size = length-replicate size 0 in
    let all = mapped_size-with_mapping (zeros_at at size prot Mapped) space in
    IsSpace-with_mapping (zeros_at at size prot Mapped) space old (omega arith) (omega arith)
    (subst (λ (n : ℕ). is_free at n space ≡ true) (sym long) gap.1) (omega arith)

-- ---- the heap

resized-range : (size : ℕ) (m : Mapping) → page_size ≤ size → IsMappingInRange m → IsMappingInRange (resized size m)
unfolding resized
resized-range size m page h = record {
  at = h.at;
  prot = h.prot;
  page =
      let both = length-append (take size m.bytes) (replicate (size - length m.bytes) 0) in
      let kept = length-take size m.bytes in
      let zeros : length (replicate {A = ℕ} (size - length m.bytes) 0) ≡ size - length m.bytes =
      length-replicate (size - length m.bytes) 0 in
      omega arith;
  bytes =
      All-append IsByte (take size m.bytes) (replicate (size - length m.bytes) 0)
      (All-take IsByte size m.bytes h.bytes) (All-replicate IsByte (size - length m.bytes) 0 (omega arith));
}

heap-range : (size : ℕ) (space : Space) → (eqb size 0 ≡ false → page_size ≤ size) → All IsMappingInRange space
    → All IsMappingInRange (with_heap size space)
unfolding with_heap
heap-range size space page h = by (find is_break_heap space) refl
  where
    by : (o : Option Mapping) → find is_break_heap space ≡ o → All IsMappingInRange (with_heap size space)
    by None is =
        rw is (choice (All IsMappingInRange) (size == 0) _ _ (λ none. h)
        (λ some. zeros_mapped-range heap_base size read_write Heap space (omega arith) (omega arith) (page some) h))
    by (Some heap) is =
        rw is (choice (All IsMappingInRange) (size == 0) _ _
        (λ none. All-without_first IsMappingInRange is_break_heap space h)
        (λ some. All-change_first IsMappingInRange is_break_heap (resized size)
        (λ m found it. resized-range size m (page some) it) space h))

pub break-range : (end : ℕ) (space : Space) → All IsMappingInRange space → All IsMappingInRange (with_break end space)
break-range end space h = heap-range (rounded (end - heap_base)) space (pages-page (end - heap_base)) h

-- a space whose heap is gone
heap-gone : (space : Space) (m : Mapping) → IsSpace space → find is_break_heap space ≡ Some m
    → IsSpace (with_heap 0 space)
unfolding with_heap
heap-gone space m old is = rw is (without_first-space is_break_heap space old)

-- a heap of another size leaves an address space, where that is not too big
heap-space : (size : ℕ) (space : Space) → IsSpace space → All LeavesHeapPlace space → heap_base + size ≤ break_limit
    → mapped_size (with_heap size space) ≤ mapping_limit → IsSpace (with_heap size space)
heap-space size space old leaves within small = by size within small (find is_break_heap space) refl
  where
    by : (n : ℕ) → heap_base + n ≤ break_limit → mapped_size (with_heap n space) ≤ mapping_limit
        → (o : Option Mapping) → find is_break_heap space ≡ o → IsSpace (with_heap n space)
    by zero within small None is = subst IsSpace (sym (with_heap-none space is)) old
    by zero within small (Some m) is = heap-gone space m old is
    by (suc n) within small None is =
        let long : length (replicate {A = ℕ} (suc n) 0) ≡ suc n = length-replicate (suc n) 0 in
        let all = mapped_size-none (suc n) space is in
        subst IsSpace (sym (with_heap-made (suc n) space is (omega arith)))
        (IsSpace-with_mapping (zeros_at heap_base (suc n) read_write Heap) space old (omega arith) (omega arith)
        (subst (λ (k : ℕ). is_free heap_base k space ≡ true) (sym long) (is_free-heap (suc n) space leaves is within))
        (omega arith))
    by (suc n) within small (Some m) is =
        let same = with_heap-resized (suc n) space m is (omega arith) in
        subst IsSpace (sym same)
        (IsSpace-resized (suc n) space old leaves (omega arith) within
        (subst (λ (ms : Space). mapped_size ms ≤ mapping_limit) same small))

pub break-space : (end : ℕ) (space : Space) → IsSpace space → All LeavesHeapPlace space → heap_base ≤ end
    → end ≤ break_limit → mapped_size (with_break end space) ≤ mapping_limit → IsSpace (with_break end space)
break-space end space old leaves above below small =
    heap-space (rounded (end - heap_base)) space old leaves (omega arith) small

-- ---- where a program begins

register-byte : (r : Reg) → IsByte (register_number r)
unfolding register_number
register-byte R0 = omega arith
register-byte _ = omega arith

-- the bytes of an instruction are bytes
fields-bytes : (op a b immediate : ℕ) → IsByte op → IsByte a → IsByte b
    → All IsByte (op ∷ a ∷ b ∷ 0 ∷ 0 ∷ 0 ∷ 0 ∷ 0 ∷ word_bytes immediate)
fields-bytes op a b immediate is_op is_a is_b =
    let zero_byte : IsByte 0 = omega arith in
    All-append IsByte (op ∷ a ∷ b ∷ 0 ∷ 0 ∷ 0 ∷ 0 ∷ 0 ∷ []) (word_bytes immediate)
    (All-from_recursion IsByte (op ∷ a ∷ b ∷ 0 ∷ 0 ∷ 0 ∷ 0 ∷ 0 ∷ [])
    (is_op, (is_a, (is_b, (zero_byte, (zero_byte, (zero_byte, (zero_byte, (zero_byte, tt)))))))))
    (AreBytes-word_bytes immediate)

register-bytes : (op : ℕ) (a b : Reg) (immediate : ℕ) → IsByte op
    → All IsByte (op ∷ register_number a ∷ register_number b ∷ 0 ∷ 0 ∷ 0 ∷ 0 ∷ 0 ∷ word_bytes immediate)
register-bytes op a b immediate is_op =
    fields-bytes op (register_number a) (register_number b) immediate is_op (register-byte a) (register-byte b)

one-bytes : (op : ℕ) (a : Reg) (immediate : ℕ) → IsByte op
    → All IsByte (op ∷ register_number a ∷ 0 ∷ 0 ∷ 0 ∷ 0 ∷ 0 ∷ 0 ∷ word_bytes immediate)
one-bytes op a immediate is_op = fields-bytes op (register_number a) 0 immediate is_op (register-byte a) (omega arith)

plain-bytes : (op : ℕ) (immediate : ℕ) → IsByte op → All IsByte (op ∷ 0 ∷ 0 ∷ 0 ∷ 0 ∷ 0 ∷ 0 ∷ 0 ∷ word_bytes immediate)
plain-bytes op immediate is_op = fields-bytes op 0 0 immediate is_op (omega arith) (omega arith)

pub instruction-bytes : (x : Instruction) → All IsByte (instruction_bytes x)
unfolding fields_of
instruction-bytes i.Bpt = plain-bytes 1 0 (omega arith)
instruction-bytes i.Nop = plain-bytes 2 0 (omega arith)
instruction-bytes (i.Set to imm) = one-bytes 3 to imm (omega arith)
instruction-bytes (i.Mov to from) = register-bytes 4 to from 0 (omega arith)
instruction-bytes (i.Add to from) = register-bytes 5 to from 0 (omega arith)
instruction-bytes (i.Sub to from) = register-bytes 6 to from 0 (omega arith)
instruction-bytes (i.Mul to from) = register-bytes 7 to from 0 (omega arith)
instruction-bytes (i.Div to from) = register-bytes 8 to from 0 (omega arith)
instruction-bytes (i.Ld to base offset) = register-bytes 9 to base offset (omega arith)
instruction-bytes (i.St from base offset) = register-bytes 10 from base offset (omega arith)
instruction-bytes (i.Ldb to base offset) = register-bytes 11 to base offset (omega arith)
instruction-bytes (i.Stb from base offset) = register-bytes 12 from base offset (omega arith)
instruction-bytes (i.Jmp target) = plain-bytes 13 target (omega arith)
instruction-bytes (i.Jz test target) = one-bytes 14 test target (omega arith)
instruction-bytes (i.Jnz test target) = one-bytes 15 test target (omega arith)
instruction-bytes (i.Jlt left right target) = register-bytes 16 left right target (omega arith)
instruction-bytes (i.Call target) = plain-bytes 17 target (omega arith)
instruction-bytes i.Ret = plain-bytes 18 0 (omega arith)
instruction-bytes (i.Sys call) = plain-bytes 19 (syscall_number call) (omega arith)

text-bytes : (code : List Instruction) → All IsByte (flat_map instruction_bytes code)
text-bytes [] = All-nil IsByte
text-bytes (x ∷ code) =
    All-append IsByte (instruction_bytes x) (flat_map instruction_bytes code) (instruction-bytes x) (text-bytes code)

pages-range : (address prot : ℕ) (kind : MappingKind) (bytes : List ℕ) → IsWord address → prot < 8 → All IsByte bytes
    → All IsMappingInRange (unless_empty address prot kind bytes)
pages-range address prot kind [] fits allowed all = All-nil IsMappingInRange
pages-range address prot kind (b ∷ bytes) fits allowed all =
    let page : Mapping = record { at = address; prot = prot; kind = kind; bytes = whole_pages (b ∷ bytes) } in
    All-cons IsMappingInRange page [] (record {
      at = fits;
      prot = allowed;
      bytes =
          All-append IsByte (b ∷ bytes) (replicate (rounded (length (b ∷ bytes)) - length (b ∷ bytes)) 0) all
          (All-replicate IsByte (rounded (length (b ∷ bytes)) - length (b ∷ bytes)) 0 (omega arith));
      page =
          let both = length-append (b ∷ bytes) (replicate (rounded (length (b ∷ bytes)) - length (b ∷ bytes)) 0) in
          let zeros : length (replicate {A = ℕ} (rounded (length (b ∷ bytes)) - length (b ∷ bytes)) 0) ≡ rounded
          (length (b ∷ bytes)) - length (b ∷ bytes) =
          length-replicate (rounded (length (b ∷ bytes)) - length (b ∷ bytes)) 0 in
          let whole = rounded-page (length (b ∷ bytes)) (omega arith) in
          omega arith;
    }) (All-nil IsMappingInRange)

one-at-most : (address prot : ℕ) (kind : MappingKind) (bytes : List ℕ)
    → length (unless_empty address prot kind bytes) ≤ 1
one-at-most address prot kind [] = omega arith
one-at-most address prot kind (b ∷ bytes) = omega arith

first-mappings : (program : Program) → IsProgramInRange program → All IsMappingInRange (first_space program)
unfolding first_space first_mappings
first-mappings program h =
    let stack : Mapping = record { at = stack_base; prot = read_write; kind = Stack; bytes = replicate page_size 0 } in
    let text = unless_empty text_base read_execute Text (text_of program) in
    let data_pages = unless_empty data_base read_write Data program.bytes in
    All-append IsMappingInRange (text ++ data_pages) (stack ∷ [])
    (All-append IsMappingInRange text data_pages
    (pages-range text_base read_execute Text (text_of program) (omega arith) (omega arith) (text-bytes program.code))
    (pages-range data_base read_write Data program.bytes (omega arith) (omega arith) h.bytes))
    (All-cons IsMappingInRange stack [] (record {
      at = omega arith;
      prot = omega arith;
      bytes = All-replicate IsByte page_size 0 (omega arith);
      page =
          let same : length (replicate {A = ℕ} page_size 0) ≡ page_size = length-replicate {A = ℕ} page_size 0 in
          omega arith;
    }) (All-nil IsMappingInRange))

first-few : (program : Program) → length (first_space program) ≤ 3
unfolding first_space first_mappings
first-few program =
    let stack : Mapping = record { at = stack_base; prot = read_write; kind = Stack; bytes = replicate page_size 0 } in
    let text = unless_empty text_base read_execute Text (text_of program) in
    let data_pages = unless_empty data_base read_write Data program.bytes in
    let both = length-append text data_pages in
    let all = length-append (text ++ data_pages) (stack ∷ []) in
    let one = one-at-most text_base read_execute Text (text_of program) in
    let other = one-at-most data_base read_write Data program.bytes in
    omega arith

-- a program within its limits begins in an address space
program-space : (program : Program) → IsLawfulProgram program → IsSpace (first_space program)
program-space program h =
    let text = length-text program.code in
    let code = h.code in
    subst IsSpace (sym (first_space-mappings program))
    (IsSpace-first (text_of program) program.bytes (omega arith) h.bytes)

pub first-range : (program : Program) → IsProgramInRange program → IsSpaceInRange (first_space program)
first-range program h = record {
  is_space = program-space program h.within;
  mappings = first-mappings program h;
  few = let few = first-few program in omega arith;
}
