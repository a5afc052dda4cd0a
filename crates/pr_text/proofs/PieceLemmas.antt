-- The digits of bytes, written two by two at the front of a piece.
use Rattle.std.proofs.Common.{◌≡◌, ℕ, ◌+◌, ◌*◌, ◌/◌, ◌%◌, ◌<◌, ◌≤◌, false, List, [], ◌∷◌, ◌++◌, length, take, set, get_or, sym, ap, ◌∙◌, arith, append_assoc}
use Rattle.std.proofs.Math.ListN.{length-set}
use Rattle.std.proofs.lemmas.List.{take_more, take_more_set, append-nil}
use Rattle.std.proofs.lemmas.Grind.{flat_map-append}
use Rattle.std.specs.Fmt.{digit_glyph}
use Rattle.pr_text.specs.HexWords.{byte_digits, digits_of_bytes}

-- two more elements, written behind those at the front
two_more : (xs : List ℕ) (i a b : ℕ) → 2 * i + 1 < length xs
    → take (2 * (i + 1)) (set (set xs (2 * i) a) (2 * i + 1) b) ≡ take (2 * i) xs ++ a ∷ b ∷ []
two_more xs i a b fits =
    ap (λ n. take n (set (set xs (2 * i) a) (2 * i + 1) b)) {x = 2 * (i + 1)} {y = 2 * i + 1 + 1} (omega arith)
    ∙ take_more_set (set xs (2 * i) a) (2 * i + 1) b (omega (arith, length-set xs (2 * i) a))
    ∙ ap (λ ys. ys ++ b ∷ []) (take_more_set xs (2 * i) a (omega arith))
    ∙ append_assoc (take (2 * i) xs) (a ∷ []) (b ∷ [])

-- the digits of one byte more
one_more : (bytes : List ℕ) (i : ℕ) → i < length bytes
    → digits_of_bytes (take (i + 1) bytes) ≡ digits_of_bytes (take i bytes) ++ byte_digits (get_or bytes i 0)
one_more bytes i p =
    ap digits_of_bytes (take_more bytes i 0 p)
    ∙ flat_map-append byte_digits (take i bytes) (get_or bytes i 0 ∷ [])
    ∙ ap (λ ys. digits_of_bytes (take i bytes) ++ ys) (append-nil (byte_digits (get_or bytes i 0)))

pub next-digits : (piece bytes : List ℕ) (i a b : ℕ) → 2 * length bytes ≤ length piece → i < length bytes
    → a ≡ digit_glyph false (get_or bytes i 0 / 16) → b ≡ digit_glyph false (get_or bytes i 0 % 16)
    → take (2 * i) piece ≡ digits_of_bytes (take i bytes)
    → take (2 * (i + 1)) (set (set piece (2 * i) a) (2 * i + 1) b) ≡ digits_of_bytes (take (i + 1) bytes)
unfolding byte_digits
next-digits piece bytes i a b fits p high low before =
    two_more piece i a b (omega arith)
    ∙ ap (λ xs. xs ++ a ∷ b ∷ []) before
    ∙ ap (λ d. digits_of_bytes (take i bytes) ++ d ∷ b ∷ []) high
    ∙ ap (λ d. digits_of_bytes (take i bytes) ++ digit_glyph false (get_or bytes i 0 / 16) ∷ d ∷ []) low
    ∙ sym (one_more bytes i p)
