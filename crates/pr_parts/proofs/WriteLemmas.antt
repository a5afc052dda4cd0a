-- What an access to bytes of memory gets after a write: what was written is read back, and bytes outside stay.
use Rattle.std.proofs.Common.{◌≡◌, ℕ, zero, suc, ◌+◌, ◌-◌, ◌^◌, ◌%◌, ◌<◌, ◌≤◌, true, false, cond, Option, Some, None, Result, Ok, Err, List, [], ◌∷◌, length, take, drop, map, get_or, refl, sym, ◌∙◌, ap, arith, inl, inr}
use Rattle.std.specs.Prelude.{◌&&◌, nat_le, nat_lt}
use Rattle.std.specs.List.{find}
use Rattle.std.proofs.lemmas.Bool.{and_from, cases_Bool, le-leb, lt-ltb}
use Rattle.std.proofs.lemmas.List.{drop_more, take_all}
use Rattle.pr_num.specs.Control.{has_flags}
use Rattle.pr_num.specs.Spaces.{Space, byte_for, bytes_for, covers, one_more}
use Rattle.pr_num.specs.declared.mappings.BadByte.{BadByte}
use Rattle.pr_num.specs.declared.mappings.Mapping.{Mapping}
use Rattle.pr_parts.specs.Accesses.{byte_after_write, checked}
use Rattle.pr_parts.specs.AddressSpaces.{with_bytes, with_written, written_byte, written_bytes}
use Rattle.pr_parts.proofs.AccessLemmas.{byte_for-found, byte_for-hole, byte_for-not_allowed, found-high, found-low, length-written_bytes}

-- ---- writing

-- a byte of what was written over
get_or-written : (at : ℕ) (bytes : List ℕ) (a : ℕ) (xs : List ℕ) (i : ℕ) → i < length xs
    → get_or (written_bytes at bytes a xs) i 0 ≡ written_byte at bytes (a + i) (get_or xs i 0)
get_or-written at bytes a [] i within = absurd (omega arith)
get_or-written at bytes a (x ∷ xs) zero within = let here : a + 0 ≡ a = omega arith in
    ap (λ n. written_byte at bytes n x) (sym here)
get_or-written at bytes a (x ∷ xs) (suc i) within =
    let next : a + 1 + i ≡ a + suc i = omega arith in
    get_or-written at bytes (a + 1) xs i (omega arith) ∙ ap (λ n. written_byte at bytes n (get_or xs i 0)) next

covers-written : (at : ℕ) (bytes : List ℕ) (address : ℕ) (m : Mapping)
    → covers address (with_written at bytes m) ≡ covers address m
unfolding with_written
covers-written at bytes address m =
    ap (λ n. nat_le m.at address && nat_lt address (m.at + n)) (length-written_bytes at bytes m.at m.bytes)

-- a mapping that is found, written over
abbrev written : ℕ → List ℕ → Option Mapping → Option Mapping
written at bytes None = None
written at bytes (Some m) = Some (with_written at bytes m)

find-written : (at : ℕ) (bytes : List ℕ) (address : ℕ) (space : Space) (found : Option Mapping)
    → find (covers address) space ≡ found
    → find (covers address) (map (with_written at bytes) space) ≡ written at bytes found
find-written at bytes address [] found e = ap (written at bytes) e
find-written at bytes address (m ∷ space) found e =
    rw (covers-written at bytes address m)
    (elim (covers address m)
    as (λ b. cond b (Some m) (find (covers address) space) ≡ found
    → cond b (Some (with_written at bytes m)) (find (covers address) (map (with_written at bytes) space))
    ≡ written at bytes found)
    [ true ↦ λ p. ap (written at bytes) p | false ↦ λ p. find-written at bytes address space found p ] e)

written-prot : (at : ℕ) (bytes : List ℕ) (m : Mapping) → (with_written at bytes m).prot ≡ m.prot
unfolding with_written
written-prot at bytes m = refl

written-byte : (at : ℕ) (bytes : List ℕ) (address : ℕ) (m : Mapping) → m.at ≤ address → address < m.at + length m.bytes
    → get_or (with_written at bytes m).bytes (address - (with_written at bytes m).at) 0
    ≡ written_byte at bytes address (get_or m.bytes (address - m.at) 0)
unfolding with_written
written-byte at bytes address m low high =
    let there : m.at + (address - m.at) ≡ address = omega arith in
    get_or-written at bytes m.at m.bytes (address - m.at) (omega arith)
    ∙ ap (λ n. written_byte at bytes n (get_or m.bytes (address - m.at) 0)) there

pub byte_for-with_bytes : (space : Space) (at : ℕ) (bytes : List ℕ) (need address : ℕ)
    → byte_for need (with_bytes at bytes space) address
    ≡ byte_after_write at bytes address (byte_for need space address)
unfolding with_bytes
byte_for-with_bytes space at bytes need address = go (find (covers address) space) refl
  where
    go : (found : Option Mapping) → find (covers address) space ≡ found
        → byte_for need (map (with_written at bytes) space) address
        ≡ byte_after_write at bytes address (byte_for need space address)
    go None e =
        byte_for-hole need (map (with_written at bytes) space) address (find-written at bytes address space None e)
        ∙ ap (byte_after_write at bytes address) (sym (byte_for-hole need space address e))
    go (Some m) e =
        let low = found-low address space m e in
        let high = found-high address space m e in
        let there = find-written at bytes address space (Some m) e in
        let prot = written-prot at bytes m in
        elim (cases_Bool (has_flags m.prot need)) [
          | inl t ↦
              byte_for-found need (map (with_written at bytes) space) (with_written at bytes m) address there
              (ap (λ p. has_flags p need) prot ∙ t) ∙ ap (λ b. Ok b) (written-byte at bytes address m low high)
              ∙ ap (byte_after_write at bytes address) (sym (byte_for-found need space m address e t))
          | inr f ↦
              byte_for-not_allowed need (map (with_written at bytes) space) (with_written at bytes m) address there
              (ap (λ p. has_flags p need) prot ∙ f)
              ∙ ap (byte_after_write at bytes address) (sym (byte_for-not_allowed need space m address e f))
        ]

-- ---- reading back

record Starts (first : Result ℕ BadByte) (rest : Result (List ℕ) BadByte) : Type 0 where
  pub byte : ℕ
  pub here : first ≡ Ok byte
  pub behind : checked rest ≡ Ok tt

starts : (first : Result ℕ BadByte) (rest : Result (List ℕ) BadByte) → checked (one_more first rest) ≡ Ok tt
    → Starts first rest
starts (Err bad) rest e = absurd (cc)
starts (Ok b) (Err bad) e = absurd (cc)
starts (Ok b) (Ok bytes) e = record { byte = b; here = refl; behind = refl }

read_from : (space : Space) (at : ℕ) (bytes : List ℕ) (need n k : ℕ) → k + n ≡ length bytes → at + length bytes < 2 ^ 64
    → checked (bytes_for need space (at + k) n) ≡ Ok tt
    → bytes_for need (with_bytes at bytes space) (at + k) n ≡ Ok (take n (drop k bytes))
unfolding bytes_for
read_from space at bytes need zero k size end can = refl
read_from space at bytes need (suc n) k size end can =
    let parts = starts (byte_for need space (at + k)) (bytes_for need space ((at + k + 1) % 2 ^ 64) n) can in
    let next : (at + k + 1) % 2 ^ 64 ≡ at + (k + 1) = omega arith in
    let rest =
    read_from space at bytes need n (k + 1) (omega arith) end
    (ap (λ a. checked (bytes_for need space a n)) (sym next) ∙ parts.behind) in
    let inside : (nat_le at (at + k) && nat_lt (at + k) (at + length bytes)) ≡ true =
    and_from _ _ (le-leb at (at + k) (omega arith)) (lt-ltb (at + k) (at + length bytes) (omega arith)) in
    let place : at + k - at ≡ k = omega arith in
    let value : written_byte at bytes (at + k) parts.byte ≡ get_or bytes k 0 = rw (inside, place) refl in
    let first : byte_for need (with_bytes at bytes space) (at + k) ≡ Ok (get_or bytes k 0) =
    byte_for-with_bytes space at bytes need (at + k) ∙ ap (byte_after_write at bytes (at + k)) parts.here
    ∙ ap (λ b. Ok b) value in
    rw (first, next, rest, drop_more bytes k 0 (omega arith)) refl

pub bytes_for-with_bytes : (space : Space) (at : ℕ) (bytes : List ℕ) (need : ℕ) → at + length bytes < 2 ^ 64
    → checked (bytes_for need space at (length bytes)) ≡ Ok tt
    → bytes_for need (with_bytes at bytes space) at (length bytes) ≡ Ok bytes
bytes_for-with_bytes space at bytes need end can =
    let start : at ≡ at + 0 = omega arith in
    let all = take_all (length bytes) bytes (omega arith) in
    ap (λ a. bytes_for need (with_bytes at bytes space) a (length bytes)) start
    ∙ read_from space at bytes need (length bytes) 0 (omega arith) end
    (ap (λ a. checked (bytes_for need space a (length bytes))) (sym start) ∙ can) ∙ ap (λ xs. Ok xs) all
