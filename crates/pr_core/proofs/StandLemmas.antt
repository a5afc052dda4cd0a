-- Where parts of bytes stand.
use Rattle.std.proofs.Common.{◌≡◌, ◌+◌, ◌<◌, ◌≤◌, ◌^◌, ℕ, List, ◌++◌, length, take, drop, All, refl, sym, ap, subst, ◌∙◌, arith, append_assoc, length-append, length-drop}
use Rattle.std.proofs.lemmas.List.{take_at, drop_at, drop-drop, take-append-drop, drop_all, append-nil}
use Rattle.pr_num.specs.Words.{IsByte, word_bytes, word_of}
use Rattle.pr_codec.proofs.WordLemmas.{length-word_bytes, word_of-word_bytes, word_bytes-word_at}
use Rattle.pr_codec.specs.Words.{word_at}

-- a part stands at a place of bytes
pub record StandsAt (bytes : List ℕ) (at : ℕ) (part : List ℕ) : Type 0 where
  pub within : at + length part ≤ length bytes
  pub parts : drop at bytes ≡ part ++ drop (at + length part) bytes

-- what stands behind a part
behind : (bytes part more : List ℕ) (at : ℕ) → drop at bytes ≡ part ++ more → drop (at + length part) bytes ≡ more
behind bytes part more at is =
    sym (drop-drop (length part) at bytes) ∙ ap (drop (length part)) is ∙ drop_at part more (length part) refl

pub stands_before : (bytes part more : List ℕ) (at : ℕ) → drop at bytes ≡ part ++ more → at ≤ length bytes
    → StandsAt bytes at part
stands_before bytes part more at is inside = record {
  within = omega (arith, length-drop at bytes, ap length is, length-append part more);
  parts = is ∙ ap (λ (rest : List ℕ). part ++ rest) (sym (behind bytes part more at is));
}

-- bytes that begin with a part
pub stands_first : (bytes part more : List ℕ) → bytes ≡ part ++ more → StandsAt bytes 0 part
stands_first bytes part more is = stands_before bytes part more 0 is (omega arith)

-- the bytes from a place on
pub stands_taken : (bytes : List ℕ) (at n : ℕ) → at + n ≤ length bytes → StandsAt bytes at (take n (drop at bytes))
stands_taken bytes at n inside =
    stands_before bytes (take n (drop at bytes)) (drop n (drop at bytes)) at (sym (take-append-drop n (drop at bytes)))
    (omega arith)

-- which bytes stand at a place
pub taken : (bytes part : List ℕ) (at : ℕ) → StandsAt bytes at part → take (length part) (drop at bytes) ≡ part
taken bytes part at stands =
    ap (take (length part)) stands.parts ∙ take_at part (drop (at + length part) bytes) (length part) refl

-- a part that is all of the bytes
pub whole : (bytes part : List ℕ) → StandsAt bytes 0 part → length part ≡ length bytes → bytes ≡ part
whole bytes part stands all =
    stands.parts ∙ ap (λ (rest : List ℕ). part ++ rest) (drop_all (0 + length part) bytes (omega arith))
    ∙ append-nil part

-- of two parts the first stands where both stand, and the second behind it
module _ (bytes p q : List ℕ) (at : ℕ) where
  rest : List ℕ
  rest = drop (at + length (p ++ q)) bytes

  both_parts : StandsAt bytes at (p ++ q) → drop at bytes ≡ p ++ (q ++ rest)
  unfolding rest
  both_parts stands = stands.parts ∙ append_assoc p q rest

  pub first_of : StandsAt bytes at (p ++ q) → StandsAt bytes at p
  first_of stands = stands_before bytes p (q ++ rest) at (both_parts stands) (omega (arith, stands.within))

  pub second_of : StandsAt bytes at (p ++ q) → StandsAt bytes (at + length p) q
  second_of stands =
      stands_before bytes q rest (at + length p) (behind bytes p (q ++ rest) at (both_parts stands))
      (omega (arith, stands.within, length-append p q))

  pub both_of : StandsAt bytes at p → StandsAt bytes (at + length p) q → StandsAt bytes at (p ++ q)
  both_of first second =
      let more : List ℕ = drop (at + length p + length q) bytes in
      stands_before bytes (p ++ q) more at (first.parts ∙ ap (λ (others : List ℕ). p ++ others) second.parts
      ∙ sym (append_assoc p q more)) (omega (arith, first.within))

-- ---- words

-- the word at a place where its bytes stand
pub word-stands : (bytes : List ℕ) (at w : ℕ) → StandsAt bytes at (word_bytes w) → w < 2 ^ 64 → word_at bytes at ≡ w
word-stands bytes at w stands fits =
    ap (λ (n : ℕ). word_of (take n (drop at bytes))) (sym (length-word_bytes w))
    ∙ ap word_of (taken bytes (word_bytes w) at stands) ∙ word_of-word_bytes w fits

pub stands-word : (bytes : List ℕ) (at : ℕ) → All IsByte bytes → at + 8 ≤ length bytes
    → StandsAt bytes at (word_bytes (word_at bytes at))
stands-word bytes at small inside =
    subst (StandsAt bytes at) (sym (word_bytes-word_at bytes at inside small)) (stands_taken bytes at 8 inside)
