use Rattle.std.proofs.Common.{◌≡◌, ◌+◌, ◌-◌, ◌<◌, ◌≤◌, ◌^◌, ◌%◌, ℕ, zero, suc, Bool, true, false, not, leb, ltb, ◌&&◌, List, [], ◌∷◌, ◌++◌, length, cond, refl, sym, ◌∙◌, ap, inl, inr, arith}
use Rattle.std.proofs.lemmas.Bool.{cases_Bool, leb-true, ltb-true, and_parts, le-leb, lt-ltb, and_from}
use Rattle.pr_num.specs.Spaces.{Space}
use Rattle.pr_parts.specs.AddressSpaces.{with_bytes, written_byte}
use Rattle.pr_hidden.specs.Covers.{Patch, patched}
use Rattle.pr_hidden.specs.Sparing.{AreWithin, are_spared, has_byte, is_apart, is_apart_from, is_spared}
use Rattle.pr_hidden.proofs.PatchedSpaces.ByteLemmas.{Spares, covered-byte, over, over-over, over-same, patched-over, patched_byte, spared-byte, written-over}

-- Stores and patches.

-- whether a store has a byte
abbrev pub stores_byte : ℕ → List ℕ → ℕ → Bool
stores_byte at xs a = has_byte a (record { at = at; bytes = xs })

pub stored-low : (at : ℕ) (xs : List ℕ) (a : ℕ) → stores_byte at xs a ≡ true → at ≤ a
stored-low at xs a has = leb-true at a (and_parts (leb at a) (ltb a (at + length xs)) has).0

pub stored-high : (at : ℕ) (xs : List ℕ) (a : ℕ) → stores_byte at xs a ≡ true → a < at + length xs
stored-high at xs a has = ltb-true a (at + length xs) (and_parts (leb at a) (ltb a (at + length xs)) has).1

-- ---- a store that spares the patches is the same to programs

stored-byte : (ps : List Patch) (at : ℕ) (xs : List ℕ) → Spares ps at (length xs) → (a b : ℕ)
    → patched_byte ps a (written_byte at xs a b) ≡ written_byte at xs a (patched_byte ps a b)
stored-byte ps at xs spares a b = by (stores_byte at xs a) refl
  where
    by : (t : Bool) → stores_byte at xs a ≡ t
        → patched_byte ps a (written_byte at xs a b) ≡ written_byte at xs a (patched_byte ps a b)
    by true has =
        let spared = spares a (stored-low at xs a has) (stored-high at xs a has) in
        spared-byte ps a (written_byte at xs a b) spared ∙ ap (written_byte at xs a) (sym (spared-byte ps a b spared))
    by false out = rw out refl

pub patched-store : (ps : List Patch) (at : ℕ) (xs : List ℕ) → Spares ps at (length xs) → (space : Space)
    → patched ps (with_bytes at xs space) ≡ with_bytes at xs (patched ps space)
patched-store ps at xs spares space =
    patched-over ps (with_bytes at xs space) ∙ ap (over (patched_byte ps)) (written-over at xs space)
    ∙ over-over (patched_byte ps) (written_byte at xs) space
    ∙ over-same (λ a b. patched_byte ps a (written_byte at xs a b)) (λ a b. written_byte at xs a (patched_byte ps a b))
    (stored-byte ps at xs spares) space
    ∙ sym (over-over (written_byte at xs) (patched_byte ps) space)
    ∙ sym (written-over at xs (over (patched_byte ps) space))
    ∙ ap (with_bytes at xs) (sym (patched-over ps space))

-- ---- a store into the patches is nothing to programs

-- each of so many bytes from an address on is patched
abbrev pub Covered : List Patch → ℕ → ℕ → Type 0
Covered ps at n = (a : ℕ) → at ≤ a → a < at + n → is_spared ps a ≡ false

hidden-byte : (ps : List Patch) (at : ℕ) (xs : List ℕ) → Covered ps at (length xs) → (a b : ℕ)
    → patched_byte ps a (written_byte at xs a b) ≡ patched_byte ps a b
hidden-byte ps at xs covered a b = by (stores_byte at xs a) refl
  where
    by : (t : Bool) → stores_byte at xs a ≡ t → patched_byte ps a (written_byte at xs a b) ≡ patched_byte ps a b
    by true has =
        covered-byte ps a (written_byte at xs a b) b (covered a (stored-low at xs a has) (stored-high at xs a has))
    by false out = rw out refl

pub hidden-store : (ps : List Patch) (at : ℕ) (xs : List ℕ) → Covered ps at (length xs) → (space : Space)
    → patched ps (with_bytes at xs space) ≡ patched ps space
hidden-store ps at xs covered space =
    patched-over ps (with_bytes at xs space) ∙ ap (over (patched_byte ps)) (written-over at xs space)
    ∙ over-over (patched_byte ps) (written_byte at xs) space
    ∙ over-same (λ a b. patched_byte ps a (written_byte at xs a b))
    (patched_byte ps) (hidden-byte ps at xs covered) space
    ∙ sym (patched-over ps space)

-- ---- patches that are apart

apart-out : (p q : Patch) → is_apart p q ≡ true → (a : ℕ) → has_byte a p ≡ true → has_byte a q ≡ true → ⊥
apart-out p q apart a of_p of_q =
    let p_low = stored-low p.at p.bytes a of_p in
    let p_high = stored-high p.at p.bytes a of_p in
    let q_low = stored-low q.at q.bytes a of_q in
    let q_high = stored-high q.at q.bytes a of_q in
    elim (cases_Bool (leb (p.at + length p.bytes) q.at)) [
      | inl below ↦ let less = leb-true (p.at + length p.bytes) q.at below in omega arith
      | inr not_below ↦
          let above : leb (q.at + length q.bytes) p.at ≡ true = rw not_below at apart in
          let less = leb-true (q.at + length q.bytes) p.at above in omega arith
    ]

pub apart-spares : (p : Patch) (qs : List Patch) → is_apart_from p qs ≡ true → Spares qs p.at (length p.bytes)
apart-spares p [] apart a low high = refl
apart-spares p (q ∷ qs) apart a low high =
    let parts = and_parts (is_apart p q) (is_apart_from p qs) apart in
    let of_p : has_byte a p ≡ true =
    and_from (leb p.at a) (ltb a (p.at + length p.bytes)) (le-leb p.at a low) (lt-ltb a (p.at + length p.bytes) high) in
    by (has_byte a q) refl (λ of_q. apart-out p q parts.0 a of_p of_q) (apart-spares p qs parts.1 a low high)
  where
    by : (t : Bool) → has_byte a q ≡ t → (has_byte a q ≡ true → ⊥) → is_spared qs a ≡ true
        → (not (has_byte a q) && is_spared qs a) ≡ true
    by true has none rest = absurd (none has)
    by false out none rest = rw (out, rest) refl

-- ---- patches that come and go

pub patched-append : (ps qs : List Patch) (space : Space) → patched (ps ++ qs) space ≡ patched ps (patched qs space)
patched-append [] qs space = refl
patched-append (p ∷ ps) qs space = ap (with_bytes p.at p.bytes) (patched-append ps qs space)

-- a store covers its own range
pub same-range : (p : Patch) (ps : List Patch) → Covered (p ∷ ps) p.at (length p.bytes)
same-range p ps a low high =
    let has : has_byte a p ≡ true =
    and_from (leb p.at a) (ltb a (p.at + length p.bytes)) (le-leb p.at a low) (lt-ltb a (p.at + length p.bytes) high) in
    rw has refl

-- Bytes that are written where a patch with what stood there is noted are nothing to programs.
pub planted : (p : Patch) (qs : List Patch) (xs : List ℕ) (space : Space) → is_apart_from p qs ≡ true
    → length xs ≡ length p.bytes → with_bytes p.at p.bytes space ≡ space
    → patched (p ∷ qs) (with_bytes p.at xs space) ≡ patched qs space
planted p qs xs space apart size stood =
    hidden-store (p ∷ qs) p.at xs (λ a low high. same-range p qs a low (omega (arith, size))) space
    ∙ sym (patched-store qs p.at p.bytes (apart-spares p qs apart) space) ∙ ap (patched qs) stood

-- A patch that is written back is no patch any more.
pub lifted : (before after : List Patch) (p : Patch) (space : Space) → is_apart_from p after ≡ true
    → patched (before ++ after) (with_bytes p.at p.bytes space) ≡ patched (before ++ p ∷ after) space
lifted before after p space apart =
    patched-append before after (with_bytes p.at p.bytes space)
    ∙ ap (patched before) (patched-store after p.at p.bytes (apart-spares p after apart) space)
    ∙ sym (patched-append before (p ∷ after) space)

-- nothing is mapped, also with patches
pub patched-none : (ps : List Patch) → patched ps [] ≡ []
unfolding with_bytes
patched-none [] = refl
patched-none (p ∷ ps) = ap (with_bytes p.at p.bytes) (patched-none ps)

pub ruleset hides = (hidden-store)
