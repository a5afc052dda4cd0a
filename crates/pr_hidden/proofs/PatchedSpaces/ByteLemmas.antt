use Rattle.std.proofs.Common.{◌≡◌, ◌+◌, ◌-◌, ◌*◌, ◌<◌, ◌≤◌, ◌^◌, ◌%◌, ℕ, zero, suc, Bool, true, false, not, leb, ltb, ◌&&◌, Option, Some, None, List, [], ◌∷◌, ◌++◌, length, map, cond, refl, sym, ◌∙◌, ap, inl, inr, arith}
use Rattle.std.proofs.lemmas.Bool.{cases_Bool, leb-true, ltb-true, ltb-false, and_parts, not-true}
use Rattle.pr_num.specs.Spaces.{Space}
use Rattle.pr_num.specs.declared.mappings.Mapping.{Mapping}
use Rattle.pr_num.proofs.NumberLemmas.{unwrapped}
use Rattle.pr_parts.specs.AddressSpaces.{with_bytes, with_written, written_byte, written_bytes}
use Rattle.pr_hidden.specs.Covers.{Patch, patched}
use Rattle.pr_hidden.specs.Sparing.{AreWithin, are_spared, has_byte, is_apart, is_apart_from, is_spared}

-- Writes to a space, byte by byte: two ways to change its bytes come to the same where they agree on each of them.

-- ---- every byte of a space changed, by its address

unfoldable pub over_bytes : (ℕ → ℕ → ℕ) → ℕ → List ℕ → List ℕ
over_bytes f address [] = []
over_bytes f address (b ∷ bs) = f address b ∷ over_bytes f (address + 1) bs

unfoldable pub over_mapping : (ℕ → ℕ → ℕ) → Mapping → Mapping
over_mapping f m = record m { bytes = over_bytes f m.at m.bytes }

unfoldable pub over : (ℕ → ℕ → ℕ) → Space → Space
over f [] = []
over f (m ∷ ms) = over_mapping f m ∷ over f ms

bytes-same : (f g : ℕ → ℕ → ℕ) → ((a b : ℕ) → f a b ≡ g a b) → (a : ℕ) (bs : List ℕ)
    → over_bytes f a bs ≡ over_bytes g a bs
unfolding over_bytes
bytes-same f g agree a [] = refl
bytes-same f g agree a (b ∷ bs) = rw (agree a b, bytes-same f g agree (a + 1) bs) refl

pub over-same : (f g : ℕ → ℕ → ℕ) → ((a b : ℕ) → f a b ≡ g a b) → (space : Space) → over f space ≡ over g space
unfolding over over_mapping
over-same f g agree [] = refl
over-same f g agree (m ∷ ms) = rw (bytes-same f g agree m.at m.bytes, over-same f g agree ms) refl

bytes-over : (f g : ℕ → ℕ → ℕ) (a : ℕ) (bs : List ℕ)
    → over_bytes f a (over_bytes g a bs) ≡ over_bytes (λ x b. f x (g x b)) a bs
unfolding over_bytes
bytes-over f g a [] = refl
bytes-over f g a (b ∷ bs) = rw (bytes-over f g (a + 1) bs) refl

pub over-over : (f g : ℕ → ℕ → ℕ) (space : Space) → over f (over g space) ≡ over (λ a b. f a (g a b)) space
unfolding over over_mapping
over-over f g [] = refl
over-over f g (m ∷ ms) = rw (bytes-over f g m.at m.bytes, over-over f g ms) refl

bytes-nothing : (a : ℕ) (bs : List ℕ) → over_bytes (λ x b. b) a bs ≡ bs
unfolding over_bytes
bytes-nothing a [] = refl
bytes-nothing a (b ∷ bs) = ap (λ cs. b ∷ cs) (bytes-nothing (a + 1) bs)

over-nothing : (space : Space) → over (λ a b. b) space ≡ space
unfolding over over_mapping
over-nothing [] = refl
over-nothing (m ∷ ms) = rw (bytes-nothing m.at m.bytes, over-nothing ms) refl

pub length-over : (f : ℕ → ℕ → ℕ) (a : ℕ) (bs : List ℕ) → length (over_bytes f a bs) ≡ length bs
unfolding over_bytes
length-over f a [] = refl
length-over f a (b ∷ bs) = ap suc (length-over f (a + 1) bs)

-- ---- writes

bytes-written : (at : ℕ) (xs : List ℕ) (a : ℕ) (bs : List ℕ)
    → written_bytes at xs a bs ≡ over_bytes (written_byte at xs) a bs
unfolding over_bytes
bytes-written at xs a [] = refl
bytes-written at xs a (b ∷ bs) = rw (bytes-written at xs (a + 1) bs) refl

pub written-over : (at : ℕ) (xs : List ℕ) (space : Space) → with_bytes at xs space ≡ over (written_byte at xs) space
unfolding with_bytes with_written over over_mapping
written-over at xs [] = refl
written-over at xs (m ∷ ms) = rw (bytes-written at xs m.at m.bytes, written-over at xs ms) refl

-- the byte that programs have at an address, where another may stand
pub patched_byte : List Patch → ℕ → ℕ → ℕ
patched_byte [] a b = b
patched_byte (p ∷ ps) a b = written_byte p.at p.bytes a (patched_byte ps a b)

pub patched-over : (ps : List Patch) (space : Space) → patched ps space ≡ over (patched_byte ps) space
unfolding patched_byte
patched-over [] space = sym (over-nothing space)
patched-over (p ∷ ps) space =
    ap (with_bytes p.at p.bytes) (patched-over ps space) ∙ written-over p.at p.bytes (over (patched_byte ps) space)
    ∙ over-over (written_byte p.at p.bytes) (patched_byte ps) space

-- ---- one byte

true-false : {Z : Type 0} → true ≡ false → Z
true-false e = absurd (no e)
  where
    no : true ≡ false → ⊥
    no e = cc

-- a patch speaks of its own bytes alone
outside-patch : (p : Patch) (a b : ℕ) → has_byte a p ≡ false → written_byte p.at p.bytes a b ≡ b
outside-patch p a b out = rw out refl

inside-patch : (p : Patch) (a b c : ℕ) → has_byte a p ≡ true
    → written_byte p.at p.bytes a b ≡ written_byte p.at p.bytes a c
inside-patch p a b c has = rw has refl

not_false : (b : Bool) → not b ≡ true → b ≡ false
not_false b e = not-true b e

pub spared-byte : (ps : List Patch) (a b : ℕ) → is_spared ps a ≡ true → patched_byte ps a b ≡ b
unfolding patched_byte
spared-byte [] a b spared = refl
spared-byte (p ∷ ps) a b spared =
    let parts = and_parts (not (has_byte a p)) (is_spared ps a) spared in
    ap (written_byte p.at p.bytes a) (spared-byte ps a b parts.1)
    ∙ outside-patch p a b (not_false (has_byte a p) parts.0)

-- where a patch has the byte, it does not matter which stands there
pub covered-byte : (ps : List Patch) (a b c : ℕ) → is_spared ps a ≡ false → patched_byte ps a b ≡ patched_byte ps a c
unfolding patched_byte
covered-byte [] a b c covered = true-false covered
covered-byte (p ∷ ps) a b c covered =
    elim (cases_Bool (has_byte a p)) [
      | inl has ↦ inside-patch p a (patched_byte ps a b) (patched_byte ps a c) has
      | inr out ↦ ap (written_byte p.at p.bytes a) (covered-byte ps a b c (rw out at covered))
    ]

-- ---- ranges

-- none of the bytes from an address on, so many, is patched; here addresses do not wrap
abbrev pub Spares : List Patch → ℕ → ℕ → Type 0
Spares ps at n = (a : ℕ) → at ≤ a → a < at + n → is_spared ps a ≡ true

-- an access spares its bytes up to the last address
spared-below : (ps : List Patch) (n at i : ℕ) → are_spared ps at n ≡ true → i < n → at + i < 2 ^ 64
    → is_spared ps (at + i) ≡ true
spared-below ps zero at i spared less below = absurd (omega arith)
spared-below ps (suc n) at zero spared less below =
    let same : at + 0 ≡ at = omega arith in
    rw same (and_parts (is_spared ps at) (are_spared ps ((at + 1) % 2 ^ 64) n) spared).0
spared-below ps (suc n) at (suc i) spared less below =
    let rest = (and_parts (is_spared ps at) (are_spared ps ((at + 1) % 2 ^ 64) n) spared).1 in
    let next : (at + 1) % 2 ^ 64 ≡ at + 1 = unwrapped (at + 1) (omega arith) in
    let it : is_spared ps (at + 1 + i) ≡ true =
    spared-below ps n (at + 1) i (rw next at rest) (omega arith) (omega arith) in
    let same : at + 1 + i ≡ at + suc i = omega arith in
    rw same at it

-- and no patch reaches past it
spared-past : (ps : List Patch) (a : ℕ) → AreWithin ps → 2 ^ 64 ≤ a → is_spared ps a ≡ true
spared-past [] a within past = refl
spared-past (p ∷ ps) a within past = by (has_byte a p) refl (spared-past ps a within.1 past)
  where
    beyond : has_byte a p ≡ true → ⊥
    beyond has =
        let low : a < p.at + length p.bytes =
        ltb-true a (p.at + length p.bytes) (and_parts (leb p.at a) (ltb a (p.at + length p.bytes)) has).1 in
        let limit = within.0 in omega arith

    by : (t : Bool) → has_byte a p ≡ t → is_spared ps a ≡ true → (not (has_byte a p) && is_spared ps a) ≡ true
    by true has rest = absurd (beyond has)
    by false out rest = rw (out, rest) refl

pub spares-range : (ps : List Patch) (at n : ℕ) → AreWithin ps → are_spared ps at n ≡ true → Spares ps at n
spares-range ps at n within spared a low high =
    elim (cases_Bool (ltb a (2 ^ 64))) [
      | inl below ↦
          let less = ltb-true a (2 ^ 64) below in
          let same : at + (a - at) ≡ a = omega arith in
          rw same at (spared-below ps n at (a - at) spared (omega arith) (omega arith))
      | inr past ↦ spared-past ps a within (ltb-false a (2 ^ 64) past)
    ]
