-- Bytes are read back from their hex digits, and from no others.
use Rattle.std.proofs.Common.{◌≡◌, ℕ, ◌+◌, ◌*◌, ◌/◌, ◌%◌, ◌<◌, false, Option, Some, None, List, [], ◌∷◌, ◌++◌, refl, sym, ap, subst, ◌∙◌, arith}
use Rattle.std.proofs.lemmas.Bool.Decides.{nat_tests}
use Rattle.std.specs.Fmt.{digit_glyph}
use Rattle.std.specs.List.{AllByRecursion}
use Rattle.pr_num.specs.Words.{IsByte}
use Rattle.pr_text.specs.HexWords.{byte_digits, digits_of_bytes, digit_value, byte_of, with_byte, bytes_of_digits}

-- ---- digits

digit_value-glyph : (n : ℕ) → n < 16 → digit_value (digit_glyph false n) ≡ Some n
unfolding digit_value
digit_value-glyph n small = grind (arith, nat_tests)

record IsGlyphOf (c n : ℕ) : Type 0 where
  small : n < 16
  is : digit_glyph false n ≡ c

glyph-digit_value : (c n : ℕ) → digit_value c ≡ Some n → IsGlyphOf c n
unfolding digit_value
glyph-digit_value c n e = record { small = grind (arith, nat_tests); is = grind (arith, nat_tests) }

-- ---- bytes

-- what a byte has been read from
record OfDigits (x y : Option ℕ) (b : ℕ) : Type 0 where
  high : ℕ
  low : ℕ
  first : x ≡ Some high
  second : y ≡ Some low
  byte : b ≡ 16 * high + low

byte_of-parts : (x y : Option ℕ) (b : ℕ) → byte_of x y ≡ Some b → OfDigits x y b
byte_of-parts (Some high) (Some low) b e = record { high = high; low = low; first = refl; second = refl; byte = cc }
byte_of-parts (Some high) None b e = cc
byte_of-parts None y b e = cc

record OfBytes (x : Option ℕ) (rest : Option (List ℕ)) (bs : List ℕ) : Type 0 where
  byte : ℕ
  others : List ℕ
  first : x ≡ Some byte
  behind : rest ≡ Some others
  all : bs ≡ byte ∷ others

with_byte-parts : (x : Option ℕ) (rest : Option (List ℕ)) (bs : List ℕ) → with_byte x rest ≡ Some bs → OfBytes x rest bs
with_byte-parts (Some byte) (Some others) bs e =
    record { byte = byte; others = others; first = refl; behind = refl; all = cc }
with_byte-parts (Some byte) None bs e = cc
with_byte-parts None rest bs e = cc

byte_of-digits : (b : ℕ) → IsByte b
    → byte_of (digit_value (digit_glyph false (b / 16))) (digit_value (digit_glyph false (b % 16))) ≡ Some b
byte_of-digits b fits =
    ap (λ x. byte_of x (digit_value (digit_glyph false (b % 16)))) (digit_value-glyph (b / 16) (omega arith))
    ∙ ap (λ y. byte_of (Some (b / 16)) y) (digit_value-glyph (b % 16) (omega arith))
    ∙ ap (λ n. Some n) {x = 16 * (b / 16) + b % 16} {y = b} (omega arith)

pub bytes_of_digits-digits : (bs : List ℕ) → AllByRecursion IsByte bs → bytes_of_digits (digits_of_bytes bs) ≡ Some bs
unfolding bytes_of_digits byte_digits
bytes_of_digits-digits [] h = refl
bytes_of_digits-digits (b ∷ bs) h =
    ap (λ x. with_byte x (bytes_of_digits (digits_of_bytes bs))) (byte_of-digits b h.0)
    ∙ ap (λ rest. with_byte (Some b) rest) (bytes_of_digits-digits bs h.1)

-- two digits are those of the byte that they make
pair-digits : (c d high low b : ℕ) → IsGlyphOf c high → IsGlyphOf d low → b ≡ 16 * high + low
    → byte_digits b ≡ c ∷ d ∷ []
unfolding byte_digits
pair-digits c d high low b first second is =
    let upper : digit_glyph false (b / 16) ≡ c =
    ap (digit_glyph false) {x = b / 16} {y = high} (omega (arith, first.small, second.small)) ∙ first.is in
    let lower : digit_glyph false (b % 16) ≡ d =
    ap (digit_glyph false) {x = b % 16} {y = low} (omega (arith, first.small, second.small)) ∙ second.is in
    ap (λ x. x ∷ digit_glyph false (b % 16) ∷ []) upper ∙ ap (λ y. c ∷ y ∷ []) lower

-- no other digits say them
pub digits-bytes_of_digits : (w bs : List ℕ) → bytes_of_digits w ≡ Some bs → digits_of_bytes bs ≡ w
unfolding bytes_of_digits
digits-bytes_of_digits [] bs e = let none : bs ≡ [] = cc in ap digits_of_bytes none
digits-bytes_of_digits (c ∷ []) bs e = cc
digits-bytes_of_digits (c ∷ d ∷ rest) bs e =
    let read = with_byte-parts (byte_of (digit_value c) (digit_value d)) (bytes_of_digits rest) bs e in
    let pair = byte_of-parts (digit_value c) (digit_value d) read.byte read.first in
    ap digits_of_bytes read.all
    ∙ ap (λ front. front ++ digits_of_bytes read.others)
    (pair-digits c d pair.high pair.low read.byte (glyph-digit_value c pair.high pair.first)
    (glyph-digit_value d pair.low pair.second) pair.byte)
    ∙ ap (λ behind. c ∷ d ∷ behind) (digits-bytes_of_digits rest read.others read.behind)

-- ---- what is read are bytes

glyph_small : (c n : ℕ) → digit_value c ≡ Some n → n < 16
glyph_small c n e = (glyph-digit_value c n e).small

byte_small : (c d b : ℕ) → byte_of (digit_value c) (digit_value d) ≡ Some b → IsByte b
byte_small c d b e =
    let pair = byte_of-parts (digit_value c) (digit_value d) b e in
    let first = glyph_small c pair.high pair.first in
    let second = glyph_small d pair.low pair.second in
    omega (arith, pair.byte)

pub bytes_of_digits-bytes : (w bs : List ℕ) → bytes_of_digits w ≡ Some bs → AllByRecursion IsByte bs
unfolding bytes_of_digits
bytes_of_digits-bytes [] [] e = tt
bytes_of_digits-bytes [] (b ∷ bs) e = cc
bytes_of_digits-bytes (c ∷ []) bs e = cc
bytes_of_digits-bytes (c ∷ d ∷ rest) [] e =
    let read = with_byte-parts (byte_of (digit_value c) (digit_value d)) (bytes_of_digits rest) [] e in
    let all = read.all in cc
bytes_of_digits-bytes (c ∷ d ∷ rest) (b ∷ bs) e =
    let read = with_byte-parts (byte_of (digit_value c) (digit_value d)) (bytes_of_digits rest) (b ∷ bs) e in
    let P : List ℕ → Type 0 = λ xs. AllByRecursion IsByte xs in
    subst P (sym read.all) (byte_small c d read.byte read.first, bytes_of_digits-bytes rest read.others read.behind)
