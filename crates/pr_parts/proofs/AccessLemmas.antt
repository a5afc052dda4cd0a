-- What an access to a run of bytes gets, and what writing leaves.
use Rattle.std.proofs.Common.{◌≡◌, ℕ, zero, suc, ◌+◌, ◌-◌, ◌^◌, ◌%◌, ◌<◌, ◌≤◌, true, false, cond, Some, None, Result, Ok, Err, List, [], ◌∷◌, ◌++◌, length, take, drop, get_or, refl, sym, ◌∙◌, ap, arith, inl, inr}
use Rattle.std.specs.Prelude.{◌&&◌, nat_le, nat_lt}
use Rattle.std.specs.List.{AllPairs, find}
use Rattle.std.proofs.lemmas.Bool.{ltb-true, leb-true, and_from, and_parts, le-leb, lt-ltb, cases_Bool}
use Rattle.std.proofs.lemmas.List.{drop_more}
use Rattle.std.proofs.lemmas.Option.{same_Some}
use Rattle.pr_num.specs.Control.{has_flags}
use Rattle.pr_num.specs.Spaces.{Space, IsBefore, IsSpace, covers, byte_for, bytes_for, one_more}
use Rattle.pr_num.specs.declared.mappings.BadByte.{BadByte}
use Rattle.pr_num.specs.declared.mappings.BadByte.TheVariants.{Hole, NotAllowed}
use Rattle.pr_num.specs.declared.mappings.Mapping.{Mapping}
use Rattle.pr_parts.specs.AddressSpaces.{written_bytes}
use Rattle.pr_parts.proofs.ByAddressLemmas.{AllPairs-head, AllPairs-tail}
use Rattle.pr_num.proofs.SearchLemmas.{All-find, find-passes}
use Rattle.pr_num.proofs.NumberLemmas.{unwrapped, wrapped-step}

-- ---- the mapping that has a byte

-- a mapping has the bytes from its first to its end
pub covers-at : (address : ℕ) (m : Mapping) → covers address m ≡ true → m.at ≤ address
covers-at address m e = leb-true _ _ (and_parts _ _ e).0

pub covers-end : (address : ℕ) (m : Mapping) → covers address m ≡ true → address < m.at + length m.bytes
covers-end address m e = ltb-true _ _ (and_parts _ _ e).1

pub covers-from : (address : ℕ) (m : Mapping) → m.at ≤ address → address < m.at + length m.bytes
    → covers address m ≡ true
covers-from address m low high = and_from _ _ (le-leb _ _ low) (lt-ltb _ _ high)

-- a mapping that was found for one of its bytes is found for all of them
pub find-covers : (a b : ℕ) (space : Space) (m : Mapping) → AllPairs IsBefore space → find (covers a) space ≡ Some m
    → covers b m ≡ true → find (covers b) space ≡ Some m
find-covers a b [] m apart found has = absurd (cc)
find-covers a b (n ∷ space) m apart found has =
    elim (covers a n)
    as (λ t. covers a n ≡ t → cond t (Some n) (find (covers a) space) ≡ Some m
    → cond (covers b n) (Some n) (find (covers b) space) ≡ Some m) [
      | true ↦ λ t e. here (same_Some n m e)
      | false ↦ λ f e. behind e (find-covers a b space m (AllPairs-tail IsBefore n space apart) e has)
    ] refl found
  where
    here : n ≡ m → cond (covers b n) (Some n) (find (covers b) space) ≡ Some m
    here e = let same : covers b n ≡ true = ap (covers b) e ∙ has in rw same (ap (λ x. Some x) e)

    far : find (covers a) space ≡ Some m → covers b n ≡ false
    far e =
        let before = All-find (IsBefore n) (covers a) space m (AllPairs-head IsBefore n space apart) e in
        let low = covers-at b m has in
        elim (cases_Bool (covers b n)) [ inl t ↦ let high = covers-end b n t in absurd (omega arith) | inr f ↦ f ]

    behind : find (covers a) space ≡ Some m → find (covers b) space ≡ Some m
        → cond (covers b n) (Some n) (find (covers b) space) ≡ Some m
    behind e rest = rw (far e) rest

-- what is found of an address
pub found-low : (address : ℕ) (space : Space) (m : Mapping) → find (covers address) space ≡ Some m → m.at ≤ address
found-low address space m found = covers-at address m (find-passes (covers address) space m found)

pub found-high : (address : ℕ) (space : Space) (m : Mapping) → find (covers address) space ≡ Some m
    → address < m.at + length m.bytes
found-high address space m found = covers-end address m (find-passes (covers address) space m found)

pub found-limit : (address : ℕ) (space : Space) (m : Mapping) → IsSpace space → find (covers address) space ≡ Some m
    → m.at + length m.bytes < 2 ^ 64
found-limit address space m kept found =
    All-find (λ (n : Mapping). n.at + length n.bytes < 2 ^ 64) (covers address) space m kept.within found

pub ruleset finds = (found-low, found-high, found-limit)

-- ---- a run of bytes

-- the byte at an address, where a mapping has it
pub byte_for-found : (needed : ℕ) (space : Space) (m : Mapping) (a : ℕ) → find (covers a) space ≡ Some m
    → has_flags m.prot needed ≡ true → byte_for needed space a ≡ Ok (get_or m.bytes (a - m.at) 0)
byte_for-found needed space m a found allowed = rw (found, allowed) refl

pub byte_for-hole : (needed : ℕ) (space : Space) (a : ℕ) → find (covers a) space ≡ None
    → byte_for needed space a ≡ Err (Hole a)
byte_for-hole needed space a found = rw found refl

pub byte_for-not_allowed : (needed : ℕ) (space : Space) (m : Mapping) (a : ℕ) → find (covers a) space ≡ Some m
    → has_flags m.prot needed ≡ false → byte_for needed space a ≡ Err (NotAllowed a)
byte_for-not_allowed needed space m a found allowed = rw (found, allowed) refl

-- a run within a mapping is a part of its bytes
pub bytes_for-run : (needed : ℕ) (space : Space) (m : Mapping) (a size : ℕ) → AllPairs IsBefore space
    → (0 < size → find (covers a) space ≡ Some m) → has_flags m.prot needed ≡ true → m.at ≤ a
    → a + size ≤ m.at + length m.bytes → m.at + length m.bytes < 2 ^ 64
    → bytes_for needed space a size ≡ Ok (take size (drop (a - m.at) m.bytes))
unfolding bytes_for
bytes_for-run needed space m a zero apart found allowed low high limit = refl
bytes_for-run needed space m a (suc size) apart found allowed low high limit =
    let this = found (omega arith) in
    let first = byte_for-found needed space m a this allowed in
    let next : (a + 1) % 2 ^ 64 ≡ a + 1 = unwrapped (a + 1) (omega arith) in
    let rest =
    bytes_for-run needed space m (a + 1) size apart
    (λ some. find-covers a (a + 1) space m apart this (covers-from (a + 1) m (omega arith) (omega arith))) allowed
    (omega arith) (omega arith) limit in
    let at : a + 1 - m.at ≡ a - m.at + 1 = omega arith in
    let parts = drop_more m.bytes (a - m.at) 0 (omega arith) in
    rw (first, next, rest, at, parts) refl

-- ---- one run behind another

-- bytes and those behind them, or the first that fails
abbrev pub joined : Result (List ℕ) BadByte → Result (List ℕ) BadByte → Result (List ℕ) BadByte
joined (Err bad) behind = Err bad
joined (Ok bytes) (Err bad) = Err bad
joined (Ok bytes) (Ok more) = Ok (bytes ++ more)

one_more-joined : (b : Result ℕ BadByte) (xs ys : Result (List ℕ) BadByte)
    → one_more b (joined xs ys) ≡ joined (one_more b xs) ys
one_more-joined (Err bad) xs ys = refl
one_more-joined (Ok b) (Err bad) ys = refl
one_more-joined (Ok b) (Ok xs) (Err bad) = refl
one_more-joined (Ok b) (Ok xs) (Ok ys) = refl

nothing-joined : (xs : Result (List ℕ) BadByte) → joined (Ok []) xs ≡ xs
nothing-joined (Err bad) = refl
nothing-joined (Ok xs) = refl

pub bytes_for-append : (needed : ℕ) (space : Space) (a j k : ℕ) → a < 2 ^ 64
    → bytes_for needed space a (j + k)
    ≡ joined (bytes_for needed space a j) (bytes_for needed space ((a + j) % 2 ^ 64) k)
unfolding bytes_for
bytes_for-append needed space a zero k range =
    let none : zero + k ≡ k = omega arith in
    let start : (a + 0) % 2 ^ 64 ≡ a = omega arith in
    rw (none, start) (sym (nothing-joined (bytes_for needed space a k)))
bytes_for-append needed space a (suc j) k range =
    let more : suc j + k ≡ suc (j + k) = omega arith in
    let rest = bytes_for-append needed space ((a + 1) % 2 ^ 64) j k (omega arith) in
    rw (more, rest, wrapped-step a j)
    (one_more-joined (byte_for needed space a) (bytes_for needed space ((a + 1) % 2 ^ 64) j)
    (bytes_for needed space ((a + suc j) % 2 ^ 64) k))

-- a byte that fails, fails the bytes from it on
pub bytes_for-fails : (needed : ℕ) (space : Space) (a n : ℕ) (bad : BadByte) → byte_for needed space a ≡ Err bad → 0 < n
    → bytes_for needed space a n ≡ Err bad
unfolding bytes_for
bytes_for-fails needed space a zero bad fails some = absurd (omega arith)
bytes_for-fails needed space a (suc n) bad fails some = rw fails refl

-- ---- writing

-- bytes that are not written over stay
pub written_bytes-outside : (at : ℕ) (bytes : List ℕ) (a : ℕ) (xs : List ℕ)
    → ((k : ℕ) → k < length xs → at ≤ a + k → a + k < at + length bytes → ⊥) → written_bytes at bytes a xs ≡ xs
written_bytes-outside at bytes a [] out = refl
written_bytes-outside at bytes a (x ∷ xs) out =
    let rest =
    written_bytes-outside at bytes (a + 1) xs (λ k h p q. out (suc k) (omega arith) (omega arith) (omega arith)) in
    let here : (nat_le at a && nat_lt a (at + length bytes)) ≡ false = off (out 0 (omega arith)) in
    rw (here, rest) refl
  where
    off : (at ≤ a + 0 → a + 0 < at + length bytes → ⊥) → (nat_le at a && nat_lt a (at + length bytes)) ≡ false
    off never =
        elim (cases_Bool (nat_le at a && nat_lt a (at + length bytes))) [
          | inl t ↦ let low : at ≤ a = leb-true _ _ (and_parts _ _ t).0 in
              let high : a < at + length bytes = ltb-true _ _ (and_parts _ _ t).1 in
              absurd (never (omega arith) (omega arith))
          | inr f ↦ f
        ]

-- bytes that are all written over are those that were written
pub written_bytes-inside : (at : ℕ) (bytes : List ℕ) (a : ℕ) (xs : List ℕ) → at ≤ a → a + length xs ≤ at + length bytes
    → written_bytes at bytes a xs ≡ take (length xs) (drop (a - at) bytes)
written_bytes-inside at bytes a [] low high = refl
written_bytes-inside at bytes a (x ∷ xs) low high =
    let rest = written_bytes-inside at bytes (a + 1) xs (omega arith) (omega arith) in
    let here : (nat_le at a && nat_lt a (at + length bytes)) ≡ true =
    and_from _ _ (le-leb _ _ low) (lt-ltb _ _ (omega arith)) in
    let next : a + 1 - at ≡ a - at + 1 = omega arith in
    rw (here, rest, next, drop_more bytes (a - at) 0 (omega arith)) refl

pub written_bytes-append : (at : ℕ) (bytes : List ℕ) (a : ℕ) (xs ys : List ℕ)
    → written_bytes at bytes a (xs ++ ys) ≡ written_bytes at bytes a xs ++ written_bytes at bytes (a + length xs) ys
written_bytes-append at bytes a [] ys = let start : a + 0 ≡ a = omega arith in rw start refl
written_bytes-append at bytes a (x ∷ xs) ys =
    let next : a + suc (length xs) ≡ a + 1 + length xs = omega arith in
    rw (next, written_bytes-append at bytes (a + 1) xs ys) refl

pub length-written_bytes : (at : ℕ) (bytes : List ℕ) (a : ℕ) (xs : List ℕ)
    → length (written_bytes at bytes a xs) ≡ length xs
length-written_bytes at bytes a [] = refl
length-written_bytes at bytes a (x ∷ xs) = ap suc (length-written_bytes at bytes (a + 1) xs)
