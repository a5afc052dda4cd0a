use Rattle.std.proofs.Common.{nat_le, nat_lt, ◌≡◌, ◌⊎◌, ◌&&◌, ◌+◌, ◌%◌, ◌^◌, ◌<◌, ◌≤◌, ◌∷◌, ◌++◌, ℕ, zero, suc, Bool, true, false, List, [], Option, Some, None, Result, Ok, Err, is_ok, length, refl, sym, subst, ap, ◌∙◌, inl, inr, arith}
use Rattle.std.proofs.lemmas.Bool.{and_parts, cases_Bool, false≢true, leb-true, ltb-true}
use Rattle.std.specs.Int.Bits.{and_zero_r}
use Rattle.std.specs.List.{find}
use Rattle.pr_parts.proofs.WriteLemmas.{byte_for-with_bytes}
use Rattle.pr_parts.specs.Accesses.{byte_after_write}
use Rattle.pr_num.specs.Control.{has_flags}
use Rattle.pr_num.specs.Sets.{common_word}
use Rattle.pr_num.specs.Spaces.{Space, byte_for, bytes_for, covers, one_more}
use Rattle.pr_num.specs.declared.mappings.BadByte.{BadByte}
use Rattle.pr_num.specs.declared.mappings.Mapping.{Mapping}
use Rattle.pr_parts.specs.AddressSpaces.{with_bytes, written_byte}

-- What a write leaves of the rest of a memory, and what is read of it.

-- a range has no byte of another
abbrev pub AreApart : ℕ → ℕ → ℕ → ℕ → Type 0
AreApart from n at size = (from + n ≤ at) ⊎ (at + size ≤ from)

-- ---- one byte

outside : (at : ℕ) (bytes : List ℕ) (a old : ℕ) → (a < at) ⊎ (at + length bytes ≤ a)
    → written_byte at bytes a old ≡ old
outside at bytes a old apart =
    elim (cases_Bool (nat_le at a && nat_lt a (at + length bytes))) [
      | inl inside ↦
          let parts = and_parts (nat_le at a) (nat_lt a (at + length bytes)) inside in
          let low = leb-true at a parts.0 in
          let high = ltb-true a (at + length bytes) parts.1 in
          absurd (not-both apart low high)
      | inr out ↦ rw out refl
    ]
  where
    not-both : (a < at) ⊎ (at + length bytes ≤ a) → at ≤ a → a < at + length bytes → ⊥
    not-both (inl below) low high = absurd (omega (arith, below, low))
    not-both (inr above) low high = absurd (omega (arith, above, high))

far-byte : (need : ℕ) (space : Space) (at : ℕ) (bytes : List ℕ) (a : ℕ) → (a < at) ⊎ (at + length bytes ≤ a)
    → byte_for need (with_bytes at bytes space) a ≡ byte_for need space a
far-byte need space at bytes a apart = byte_for-with_bytes space at bytes need a ∙ same (byte_for need space a)
  where
    same : (r : Result ℕ BadByte) → byte_after_write at bytes a r ≡ r
    same (Ok old) = ap (λ (b : ℕ). Ok b) (outside at bytes a old apart)
    same (Err bad) = refl

-- ---- ranges

below-or-above : (from n at size : ℕ) → AreApart from (suc n) at size → (from < at) ⊎ (at + size ≤ from)
below-or-above from n at size (inl low) = inl (omega (arith, low))
below-or-above from n at size (inr high) = inr high

rest-apart : (from n at size : ℕ) → AreApart from (suc n) at size → AreApart (from + 1) n at size
rest-apart from n at size (inl low) = inl (omega (arith, low))
rest-apart from n at size (inr high) = inr (omega (arith, high))

-- a range that was not written over is read as before
pub far-bytes : (need : ℕ) (space : Space) (at : ℕ) (bytes : List ℕ) (from n : ℕ) → from + n < 2 ^ 64
    → AreApart from n at (length bytes)
    → bytes_for need (with_bytes at bytes space) from n ≡ bytes_for need space from n
unfolding bytes_for
far-bytes need space at bytes from zero end apart = refl
far-bytes need space at bytes from (suc n) end apart =
    let next : (from + 1) % 2 ^ 64 ≡ from + 1 = omega (arith, end) in
    let first = far-byte need space at bytes from (below-or-above from n at (length bytes) apart) in
    let rest =
    far-bytes need space at bytes (from + 1) n (omega (arith, end)) (rest-apart from n at (length bytes) apart) in
    rw (first, next, rest) refl

-- an access that could be made can still be made
pub still-allowed : (need : ℕ) (space : Space) (at : ℕ) (bytes : List ℕ) (from n : ℕ)
    → is_ok (bytes_for need (with_bytes at bytes space) from n) ≡ is_ok (bytes_for need space from n)
unfolding bytes_for
still-allowed need space at bytes from zero = refl
still-allowed need space at bytes from (suc n) =
    ap (λ (r : Result ℕ BadByte).
    is_ok (one_more r (bytes_for need (with_bytes at bytes space) ((from + 1) % 2 ^ 64) n)))
    (byte_for-with_bytes space at bytes need from)
    ∙ of (byte_for need space from) (bytes_for need (with_bytes at bytes space) ((from + 1) % 2 ^ 64) n)
    (bytes_for need space ((from + 1) % 2 ^ 64) n) (still-allowed need space at bytes ((from + 1) % 2 ^ 64) n)
  where
    of : (r : Result ℕ BadByte) (xs ys : Result (List ℕ) BadByte) → is_ok xs ≡ is_ok ys
        → is_ok (one_more (byte_after_write at bytes from r) xs) ≡ is_ok (one_more r ys)
    of (Err bad) xs ys same = refl
    of (Ok b) (Err bad) (Err worse) same = refl
    of (Ok b) (Err bad) (Ok ys) same = cc
    of (Ok b) (Ok xs) (Err bad) same = cc
    of (Ok b) (Ok xs) (Ok ys) same = refl

-- ---- what is read whatever the protection

none-needed : (prot : ℕ) → has_flags prot 0 ≡ true
unfolding has_flags common_word
none-needed prot = rw (and_zero_r prot) refl

any-byte : (need : ℕ) (space : Space) (a b : ℕ) → byte_for need space a ≡ Ok b → byte_for 0 space a ≡ Ok b
any-byte need space a b is = of (find (covers a) space) refl
  where
    by : (m : Mapping) → find (covers a) space ≡ Some m → (allowed : Bool) → has_flags m.prot need ≡ allowed
        → byte_for 0 space a ≡ Ok b
    by m found true allowed = rw (found, none-needed m.prot) (rw (found, allowed) at is)
    by m found false allowed = absurd (let no = rw (found, allowed) at is in cc)

    of : (o : Option Mapping) → find (covers a) space ≡ o → byte_for 0 space a ≡ Ok b
    of None found = absurd (let no = rw found at is in cc)
    of (Some m) found = by m found (has_flags m.prot need) refl

pub any-bytes : (need : ℕ) (space : Space) (from n : ℕ) (bytes : List ℕ) → bytes_for need space from n ≡ Ok bytes
    → bytes_for 0 space from n ≡ Ok bytes
unfolding bytes_for
any-bytes need space from zero bytes is = is
any-bytes need space from (suc n) bytes is =
    of (byte_for need space from) refl (bytes_for need space ((from + 1) % 2 ^ 64) n)
    (λ xs rest. any-bytes need space ((from + 1) % 2 ^ 64) n xs rest) is
  where
    of : (r : Result ℕ BadByte) → byte_for need space from ≡ r → (zs : Result (List ℕ) BadByte)
        → ((xs : List ℕ) → zs ≡ Ok xs → bytes_for 0 space ((from + 1) % 2 ^ 64) n ≡ Ok xs) → one_more r zs ≡ Ok bytes
        → one_more (byte_for 0 space from) (bytes_for 0 space ((from + 1) % 2 ^ 64) n) ≡ Ok bytes
    of (Err bad) first zs rest it = absurd (cc)
    of (Ok b) first (Err bad) rest it = absurd (cc)
    of (Ok b) first (Ok xs) rest it = rw (any-byte need space from b first, rest xs refl) it

-- what can be accessed somehow is mapped
pub any-ok : (need : ℕ) (space : Space) (at n : ℕ) → is_ok (bytes_for need space at n) ≡ true
    → is_ok (bytes_for 0 space at n) ≡ true
any-ok need space at n ok = by (bytes_for need space at n) refl
  where
    by : (r : Result (List ℕ) BadByte) → bytes_for need space at n ≡ r → is_ok (bytes_for 0 space at n) ≡ true
    by (Ok bytes) is = ap is_ok (any-bytes need space at n bytes is)
    by (Err bad) is = absurd (false≢true (sym (ap is_ok is) ∙ ok))

-- the front of what is read is read alone
pub first-bytes : (need : ℕ) (space : Space) (from : ℕ) (xs ys : List ℕ)
    → bytes_for need space from (length (xs ++ ys)) ≡ Ok (xs ++ ys) → bytes_for need space from (length xs) ≡ Ok xs
unfolding bytes_for
first-bytes need space from [] ys is = refl
first-bytes need space from (x ∷ xs) ys is =
    of (byte_for need space from) refl (bytes_for need space ((from + 1) % 2 ^ 64) (length (xs ++ ys)))
    (λ rest. first-bytes need space ((from + 1) % 2 ^ 64) xs ys rest) is
  where
    of : (r : Result ℕ BadByte) → byte_for need space from ≡ r → (zs : Result (List ℕ) BadByte)
        → (zs ≡ Ok (xs ++ ys) → bytes_for need space ((from + 1) % 2 ^ 64) (length xs) ≡ Ok xs)
        → one_more r zs ≡ Ok (x ∷ (xs ++ ys))
        → one_more (byte_for need space from) (bytes_for need space ((from + 1) % 2 ^ 64) (length xs)) ≡ Ok (x ∷ xs)
    of (Err bad) first zs rest it = absurd (cc)
    of (Ok b) first (Err bad) rest it = absurd (cc)
    of (Ok b) first (Ok zs) rest it =
        let head : b ≡ x = cc in
        let tail : zs ≡ xs ++ ys = cc in
        rw (first, rest (ap (λ (bs : List ℕ). Ok bs) tail), head) refl

-- and so is what comes after it
pub last-bytes : (need : ℕ) (space : Space) (from : ℕ) (xs ys : List ℕ) → from + length xs < 2 ^ 64
    → bytes_for need space from (length (xs ++ ys)) ≡ Ok (xs ++ ys)
    → bytes_for need space (from + length xs) (length ys) ≡ Ok ys
unfolding bytes_for
last-bytes need space from [] ys end is =
    let same : from ≡ from + 0 = omega arith in
    subst (λ (a : ℕ). bytes_for need space a (length ys) ≡ Ok ys) same is
last-bytes need space from (x ∷ xs) ys end is =
    let next : (from + 1) % 2 ^ 64 ≡ from + 1 = omega (arith, end) in
    let tail =
    of (byte_for need space from) (bytes_for need space ((from + 1) % 2 ^ 64) (length (xs ++ ys))) is in
    let there =
    last-bytes need space (from + 1) xs ys (omega (arith, end))
    (subst (λ (a : ℕ). bytes_for need space a (length (xs ++ ys)) ≡ Ok (xs ++ ys)) next tail) in
    let same : (from + 1) + length xs ≡ from + length (x ∷ xs) = omega arith in
    subst (λ (a : ℕ). bytes_for need space a (length ys) ≡ Ok ys) same there
  where
    of : (r : Result ℕ BadByte) (zs : Result (List ℕ) BadByte) → one_more r zs ≡ Ok (x ∷ (xs ++ ys))
        → zs ≡ Ok (xs ++ ys)
    of (Err bad) zs it = absurd (cc)
    of (Ok b) (Err bad) it = absurd (cc)
    of (Ok b) (Ok zs) it = let tail : zs ≡ xs ++ ys = cc in ap (λ (bs : List ℕ). Ok bs) tail
