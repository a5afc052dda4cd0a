-- The lines of bytes in hex.
use Rattle.std.proofs.Common.{◌≡◌, ℕ, suc, min, drop, ◌<◌, List, [], ◌∷◌, ◌++◌, length, take, refl, sym, ap, ◌∙◌, arith, append_assoc}
use Rattle.std.proofs.lemmas.List.{take_min, drop_min, length-drop}
use Rattle.pr_text.specs.HexWords.{digits_of_bytes}
use Rattle.pr_tools.specs.Texts.{line_end}
use Rattle.pr_core.specs.CoreText.{hex_lines, line_bytes, lines_of}

-- no bytes have no line
pub no-lines : (bytes : List ℕ) → length bytes ≡ 0 → hex_lines (lines_of bytes) bytes ≡ []
unfolding hex_lines
no-lines bytes none =
    let lines : lines_of bytes ≡ 0 = omega (arith, none) in
    ap (λ (n : ℕ). hex_lines n bytes) lines

-- the first line of bytes, and the others
first-line : (bytes : List ℕ) → 0 < length bytes
    → hex_lines (lines_of bytes) bytes ≡ digits_of_bytes (take line_bytes bytes) ++ line_end
    ++ hex_lines (lines_of (drop line_bytes bytes)) (drop line_bytes bytes)
unfolding hex_lines
first-line bytes some =
    let lines : lines_of bytes ≡ suc (lines_of (drop line_bytes bytes)) = omega (arith, length-drop line_bytes bytes) in
    ap (λ (n : ℕ). hex_lines n bytes) lines

-- the same where there may be less than a line
pub next-line : (bytes : List ℕ) (n : ℕ) → 0 < length bytes → n ≡ min line_bytes (length bytes)
    → hex_lines (lines_of bytes) bytes ≡ digits_of_bytes (take n bytes) ++ line_end
    ++ hex_lines (lines_of (drop n bytes)) (drop n bytes)
next-line bytes n some is =
    first-line bytes some
    ∙ ap (λ xs. digits_of_bytes xs ++ line_end ++ hex_lines (lines_of (drop line_bytes bytes)) (drop line_bytes bytes))
    (sym (ap (λ (k : ℕ). take k bytes) is ∙ take_min line_bytes bytes))
    ∙ ap (λ (xs : List ℕ). digits_of_bytes (take n bytes) ++ line_end ++ hex_lines (lines_of xs) xs)
    (sym (ap (λ (k : ℕ). drop k bytes) is ∙ drop_min line_bytes bytes))

-- a text with the first line of bytes, and the lines of the others
pub line-written : (old longer new digits rest line others : List ℕ) (n : ℕ) → 0 < length rest
    → n ≡ min line_bytes (length rest) → line ≡ take n rest → others ≡ drop n rest → digits ≡ digits_of_bytes line
    → longer ≡ old ++ digits → new ≡ longer ++ line_end
    → new ++ hex_lines (lines_of others) others ≡ old ++ hex_lines (lines_of rest) rest
line-written old longer new digits rest line others n some least front back are text ended =
    let lines : List ℕ = hex_lines (lines_of others) others in
    ap (λ t. t ++ lines) (ended ∙ ap (λ t. t ++ line_end) text)
    ∙ ap (λ t. t ++ lines) (append_assoc old digits line_end)
    ∙ append_assoc old (digits ++ line_end) lines
    ∙ ap (λ xs. old ++ (xs ++ line_end ++ lines)) (are ∙ ap digits_of_bytes front)
    ∙ ap (λ (xs : List ℕ). old ++ (digits_of_bytes (take n rest) ++ line_end ++ hex_lines (lines_of xs) xs)) back
    ∙ ap (λ xs. old ++ xs) (sym (next-line rest n some least))

-- bytes that are not none are some
pub some-bytes : (bytes : List ℕ) → (length bytes ≡ 0 → ⊥) → 0 < length bytes
some-bytes [] not = absurd (not refl)
some-bytes (b ∷ bytes) not = omega arith
