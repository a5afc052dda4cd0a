use Rattle.std.proofs.Common.{◌≡◌, ◌+◌, ◌-◌, ◌<◌, ◌≤◌, ◌^◌, ◌%◌, ℕ, zero, suc, Bool, true, false, leb, ltb, ◌&&◌, Option, Some, None, Result, Ok, Err, List, [], ◌∷◌, length, cond, refl, sym, ◌∙◌, ap, inl, inr, arith}
use Rattle.std.specs.Int.Bits.{and_zero_r}
use Rattle.std.specs.List.{AllPairs, find, slice_index}
use Rattle.std.proofs.lemmas.Bool.{cases_Bool, ltb-false, ltb-true}
use Rattle.std.proofs.lemmas.Option.{same_Some}
use Rattle.pr_num.specs.Control.{has_flags}
use Rattle.pr_num.specs.Sets.{common_word}
use Rattle.pr_num.specs.Spaces.{IsBefore, IsSpace, Space, byte_for, bytes_for, covers, one_more}
use Rattle.pr_num.specs.declared.mappings.BadByte.{BadByte}
use Rattle.pr_num.specs.declared.mappings.Mapping.{Mapping}
use Rattle.pr_num.proofs.NumberLemmas.{unwrapped}
use Rattle.pr_num.proofs.SearchLemmas.{All-find, find-passes}
use Rattle.pr_parts.specs.AddressSpaces.{with_bytes, written_byte}
use Rattle.pr_parts.proofs.AccessLemmas.{covers-at, covers-end, covers-from}
use Rattle.pr_parts.proofs.ByAddressLemmas.{AllPairs-head, AllPairs-tail}
use Rattle.pr_hidden.proofs.PatchedSpaces.ByteLemmas.{over, over_bytes, over_mapping, written-over}
use Rattle.pr_hidden.proofs.PatchedSpaces.PatchLemmas.{stored-high, stored-low, stores_byte}

-- What is read of a space stands there: written again, it changes nothing.

abbrev Byte : Type 0
Byte = Result ℕ BadByte

same_Ok : (x y : ℕ) → (let r : Byte = Ok x in r) ≡ Ok y → x ≡ y
same_Ok x y e = cc

-- the byte of a mapping that has it is the one that was read
abbrev Reads : Space → ℕ → List ℕ → Type 0
Reads space at bytes =
    (a : ℕ) → at ≤ a → a < at + length bytes → (m : Mapping) → find (covers a) space ≡ Some m
    → slice_index m.bytes (a - m.at) ≡ slice_index bytes (a - at)

-- where a mapping has these bytes, they stand in it
bytes-stand : (at : ℕ) (bytes : List ℕ) (a : ℕ) (bs : List ℕ)
    → ((i : ℕ) → i < length bs → at ≤ a + i → a + i < at + length bytes
    → slice_index bs i ≡ slice_index bytes (a + i - at))
    → over_bytes (written_byte at bytes) a bs ≡ bs
unfolding over_bytes
bytes-stand at bytes a [] same = refl
bytes-stand at bytes a (b ∷ bs) same =
    rw (first (stores_byte at bytes a) refl, bytes-stand at bytes (a + 1) bs rest) refl
  where
    first : (t : Bool) → stores_byte at bytes a ≡ t → written_byte at bytes a b ≡ b
    first true has =
        let at_it : a + 0 ≡ a = omega arith in
        let low = stored-low at bytes a has in
        let high = stored-high at bytes a has in
        rw has (sym (same 0 (omega arith) (omega arith) (omega arith) ∙ ap (λ n. slice_index bytes (n - at)) at_it))
    first false out = rw out refl

    rest : (i : ℕ) → i < length bs → at ≤ a + 1 + i → a + 1 + i < at + length bytes
        → slice_index bs i ≡ slice_index bytes (a + 1 + i - at)
    rest i less low high =
        let next : a + suc i ≡ a + 1 + i = omega arith in
        same (suc i) (omega arith) (omega arith) (omega arith) ∙ ap (λ n. slice_index bytes (n - at)) next

mappings-stand : (at : ℕ) (bytes : List ℕ) (space : Space) → AllPairs IsBefore space → Reads space at bytes
    → over (written_byte at bytes) space ≡ space
unfolding over over_mapping
mappings-stand at bytes [] apart reads = refl
mappings-stand at bytes (m ∷ ms) apart reads =
    rw (
      bytes-stand at bytes m.at m.bytes here,
      mappings-stand at bytes ms (AllPairs-tail IsBefore m ms apart) behind,
    ) refl
  where
    here : (i : ℕ) → i < length m.bytes → at ≤ m.at + i → m.at + i < at + length bytes
        → slice_index m.bytes i ≡ slice_index bytes (m.at + i - at)
    here i less low high =
        let has = covers-from (m.at + i) m (omega arith) (omega arith) in
        let place : m.at + i - m.at ≡ i = omega arith in
        ap (slice_index m.bytes) (sym place) ∙ reads (m.at + i) low high m (rw has refl)

    behind : Reads ms at bytes
    behind a low high x found =
        let before : IsBefore m x = All-find (IsBefore m) (covers a) ms x (AllPairs-head IsBefore m ms apart) found in
        let from = covers-at a x (find-passes (covers a) ms x found) in
        elim (cases_Bool (covers a m)) [
          | inl has ↦ let end = covers-end a m has in absurd (omega arith)
          | inr not_here ↦ reads a low high x (rw not_here found)
        ]

-- no protection is needed
needs-none : (prot : ℕ) → has_flags prot 0 ≡ true
unfolding has_flags common_word
needs-none prot = rw (and_zero_r prot) refl

first-read : (b : Byte) (rest : Result (List ℕ) BadByte) (x : ℕ) (xs : List ℕ) → one_more b rest ≡ Ok (x ∷ xs)
    → (b ≡ Ok x) × (rest ≡ Ok xs)
first-read (Err bad) rest x xs e = cc
first-read (Ok byte) (Err bad) x xs e = cc
first-read (Ok byte) (Ok bytes) x xs e = (cc, cc)

byte-found : (space : Space) (a x : ℕ) (m : Mapping) → byte_for 0 space a ≡ Ok x → find (covers a) space ≡ Some m
    → slice_index m.bytes (a - m.at) ≡ x
byte-found space a x m read found = same_Ok _ x (rw (found, needs-none m.prot) at read)

-- what is read below the last address
run-reads : (space : Space) (at : ℕ) (bytes : List ℕ) → at + length bytes ≤ 2 ^ 64
    → bytes_for 0 space at (length bytes) ≡ Ok bytes → Reads space at bytes
unfolding bytes_for
run-reads space at [] within read a low high m found = absurd (omega arith)
run-reads space at (x ∷ xs) within read a low high m found =
    let parts = first-read (byte_for 0 space at) (bytes_for 0 space ((at + 1) % 2 ^ 64) (length xs)) x xs read in
    elim (cases_Bool (ltb at a)) [
      | inl behind ↦
          let less = ltb-true at a behind in
          let next : (at + 1) % 2 ^ 64 ≡ at + 1 = unwrapped (at + 1) (omega arith) in
          let one : a - at ≡ suc (a - (at + 1)) = omega arith in
          run-reads space (at + 1) xs (omega arith) (rw next at parts.1) a (omega arith) (omega arith) m found
          ∙ ap (slice_index (x ∷ xs)) (sym one)
      | inr here ↦
          let least = ltb-false at a here in
          let same : a ≡ at = omega arith in
          let none : a - at ≡ 0 = omega arith in
          ap (λ n. slice_index m.bytes (n - m.at)) same
          ∙ byte-found space at x m parts.0 (ap (λ n. find (covers n) space) (sym same) ∙ found)
          ∙ ap (slice_index (x ∷ xs)) (sym none)
    ]

pub read-stands : (space : Space) (at : ℕ) (bytes : List ℕ) → IsSpace space → at + length bytes ≤ 2 ^ 64
    → bytes_for 0 space at (length bytes) ≡ Ok bytes → with_bytes at bytes space ≡ space
read-stands space at bytes kept within read =
    written-over at bytes space ∙ mappings-stand at bytes space kept.apart (run-reads space at bytes within read)

pub ruleset stands = (read-stands)
