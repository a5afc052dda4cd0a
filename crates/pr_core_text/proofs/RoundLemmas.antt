-- The text of bytes is read back as these bytes.
use Rattle.std.proofs.Common.{◌≡◌, ◌<◌, ◌+◌, ◌-◌, ◌/◌, ◌%◌, ◌^◌, ◌==◌, ◌++◌, ℕ, zero, suc, false, cond, List, [], ◌∷◌, Option, Some, None, Result, Ok, All, decimal, drop, length, take, refl, sym, ap, ◌∙◌, arith, append_assoc}
use Rattle.std.proofs.lemmas.Bool.{eq-eqb, ne_eqb}
use Rattle.std.proofs.lemmas.Bool.Decides.{nat_tests}
use Rattle.std.proofs.lemmas.List.{append-nil, length-drop, length-take, nil_from_length, take-append-drop}
use Rattle.std.proofs.lemmas.List.Elements.{All-append, All-cons, All-drop, All-from_recursion, All-nil, All-take, recursion_from_All}
use Rattle.std.proofs.lemmas.List.Splits.{slice_split_at}
use Rattle.std.specs.Fmt.{digit_glyph}
use Rattle.pr_core.proofs.CoreLemmas.{core-read}
use Rattle.pr_core.specs.CoreBytes.{core_bytes}
use Rattle.pr_core.specs.CoreRanges.{IsCore}
use Rattle.pr_core.specs.CoreReading.{core_read}
use Rattle.pr_core.specs.CoreText as written
use Rattle.pr_core.specs.CoreText.{core_text, hex_lines, line_bytes}
use Rattle.pr_core.specs.Cores.{CoreState, CoreWords, core_words}
use Rattle.pr_num.proofs.ListLemmas.{bytes_eq-self}
use Rattle.pr_num.specs.Words.{IsByte}
use Rattle.pr_text.proofs.HexLemmas.{bytes_of_digits-digits}
use Rattle.pr_text.proofs.NumberLemmas.{decimal-apart, number_of-decimal}
use Rattle.pr_text.specs.HexWords.{byte_digits, digits_of_bytes}
use Rattle.pr_text.specs.Steps.{◌>>=◌}
use Rattle.pr_text.specs.TextLines.{is_newline, lines_of}
use Rattle.pr_core_text.proofs.TextLemmas.{all}
use Rattle.pr_core_text.specs.CoreTexts.{Bytes, bytes_after, bytes_on, core_in, core_of, heading, if_core, if_many, if_written, on_line, or_line, size_in}

-- ---- digits end no line

abbrev Inline : ℕ → Type 0
Inline b = is_newline b ≡ false

glyph-inline : (n : ℕ) → Inline (digit_glyph false n)
glyph-inline n = grind (arith, nat_tests)

digits-inline : (bytes : List ℕ) → All Inline (digits_of_bytes bytes)
unfolding byte_digits
digits-inline [] = All-nil Inline
digits-inline (b ∷ bytes) =
    let rest : List ℕ = digits_of_bytes bytes in
    All-cons Inline (digit_glyph false (b / 16)) (digit_glyph false (b % 16) ∷ rest) (glyph-inline (b / 16))
    (All-cons Inline (digit_glyph false (b % 16)) rest (glyph-inline (b % 16)) (digits-inline bytes))

-- a line before others, and what follows them
split-off : (line others more : List ℕ) → ((line ++ 10 ∷ []) ++ others) ++ more ≡ line ++ 10 ∷ (others ++ more)
split-off line others more =
    append_assoc (line ++ 10 ∷ []) others more ∙ append_assoc line (10 ∷ []) (others ++ more)

first-split : (line others more : List ℕ) → All Inline line
    → lines_of (((line ++ 10 ∷ []) ++ others) ++ more) ≡ line ∷ lines_of (others ++ more)
first-split line others more inline =
    ap lines_of (split-off line others more) ∙ slice_split_at is_newline line 10 (others ++ more) inline refl

-- ---- a line of bytes

line-told : (bytes : List ℕ) → All IsByte bytes
    → bytes_on (on_line (length bytes)) (digits_of_bytes (take line_bytes bytes)) ≡ Some (take line_bytes bytes)
unfolding bytes_on
line-told bytes small =
    let front : List ℕ = take line_bytes bytes in
    let size : length front ≡ on_line (length bytes) = omega (arith, length-take line_bytes bytes) in
    ap (if_many (on_line (length bytes)))
    (bytes_of_digits-digits front (recursion_from_All IsByte front (All-take IsByte line_bytes bytes small)))
    ∙ ap (λ (b : _). cond b (Some front) None) (eq-eqb (length front) (on_line (length bytes)) size)

-- ---- all lines

-- what lines tell behind these bytes
record AreTold (done bytes : List ℕ) (line : ℕ) (lines : List (List ℕ)) : Type 0 where
  behind : ℕ
  told : bytes_after done line (length bytes) lines ≡ Ok (record { bytes = done ++ bytes; behind = behind })

lines-told : (n : ℕ) (bytes done more : List ℕ) (line : ℕ) → written.lines_of bytes ≡ n → All IsByte bytes
    → AreTold done bytes line (lines_of (hex_lines n bytes ++ more))
unfolding hex_lines bytes_after
lines-told zero bytes done more line many small =
    let none : bytes ≡ [] = nil_from_length bytes (omega (arith, many)) in
    record {
      behind = line;
      told =
          ap (λ (bs : List ℕ). bytes_after done line (length bs) (lines_of more)) none
          ∙ all done line (lines_of more)
          ∙ ap (λ (bs : List ℕ). Ok (record { bytes = bs; behind = line }))
          (sym (append-nil done) ∙ ap (λ (bs : List ℕ). done ++ bs) (sym none));
    }
lines-told (suc n) bytes done more line many small =
    let front : List ℕ = take line_bytes bytes in
    let rest : List ℕ = drop line_bytes bytes in
    let digits : List ℕ = digits_of_bytes front in
    let below : List ℕ = hex_lines n rest ++ more in
    let less = length-drop line_bytes bytes in
    let fewer : written.lines_of rest ≡ n = omega (arith, less, many) in
    let left : length bytes - on_line (length bytes) ≡ length rest = omega (arith, less) in
    let some : (length bytes == 0) ≡ false = ne_eqb (length bytes) 0 (λ e. absurd (omega (arith, e, many))) in
    let next = lines-told n rest (done ++ front) more (line + 1) fewer (All-drop IsByte line_bytes bytes small) in
    let apart : lines_of (hex_lines (suc n) bytes ++ more) ≡ digits ∷ lines_of below =
    first-split digits (hex_lines n rest) more (digits-inline front) in
    record {
      behind = next.behind;
      told =
          ap (bytes_after done line (length bytes)) apart
          ∙ ap (λ (b : _). cond b (Ok (record { bytes = done; behind = line }))
          (or_line line (bytes_on (on_line (length bytes)) digits) >>= (λ m.
          bytes_after (done ++ m) (line + 1) (length bytes - on_line (length bytes)) (lines_of below)))) some
          ∙ ap (λ (o : Option (List ℕ)). or_line line o >>= (λ m.
          bytes_after (done ++ m) (line + 1) (length bytes - on_line (length bytes)) (lines_of below)))
          (line-told bytes small)
          ∙ ap (λ (k : ℕ). bytes_after (done ++ front) (line + 1) k (lines_of below)) left ∙ next.told
          ∙ ap (λ (bs : List ℕ). Ok (record { bytes = bs; behind = next.behind }))
          (append_assoc done front rest ∙ ap (λ (bs : List ℕ). done ++ bs) (take-append-drop line_bytes bytes));
    }

-- ---- the heading

heading-inline : (n : ℕ) → n < 2 ^ 64 → All Inline (heading ++ decimal n)
heading-inline n small =
    All-append Inline heading (decimal n)
    (All-from_recursion Inline heading (refl, (refl, (refl, (refl, (refl, tt))))))
    (decimal-apart 10 (omega arith) n small)

heading-told : (n : ℕ) → n < 2 ^ 64 → size_in (heading ++ decimal n) ≡ Some n
unfolding size_in
heading-told n small =
    ap (if_written (decimal n)) (number_of-decimal n small)
    ∙ ap (λ (b : _). cond b (Some n) None) (bytes_eq-self (decimal n))

-- ---- the whole text

-- of any bytes
text-told : (bytes : List ℕ) (line : ℕ) (more : List ℕ) → All IsByte bytes → length bytes < 2 ^ 64
    → (words : CoreWords) → core_read bytes ≡ Ok words → core_of line (core_text bytes ++ more) ≡ Ok bytes
unfolding core_text core_of core_in
text-told bytes line more small few words read =
    let lines : List ℕ = hex_lines (written.lines_of bytes) bytes in
    let first : List ℕ = heading ++ decimal (length bytes) in
    let apart : lines_of (core_text bytes ++ more) ≡ first ∷ lines_of (lines ++ more) =
    first-split first lines more (heading-inline (length bytes) few) in
    let told = lines-told (written.lines_of bytes) bytes [] more (line + 1) refl small in
    ap (core_in line) apart
    ∙ ap (λ (o : Option ℕ). or_line line o >>= (λ size.
    bytes_after [] (line + 1) size (lines_of (lines ++ more)) >>= (λ b. if_core (line + 1) b (core_read b.bytes))))
    (heading-told (length bytes) few)
    ∙ ap (λ (r : Result Bytes ℕ). r >>= (λ b. if_core (line + 1) b (core_read b.bytes))) told.told
    ∙ ap (if_core (line + 1) (record { bytes = bytes; behind = told.behind })) read

pub read-back : (c : CoreState) (line : ℕ) (more : List ℕ) → IsCore c → All IsByte (core_bytes c)
    → length (core_bytes c) < 2 ^ 64 → core_of line (core_text (core_bytes c) ++ more) ≡ Ok (core_bytes c)
read-back c line more core small few =
    text-told (core_bytes c) line more small few (core_words c) (core-read c core few)
