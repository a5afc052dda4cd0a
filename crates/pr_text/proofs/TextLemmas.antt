-- What holds of numbers and bytes as text.
use Rattle.std.proofs.Common.{◌≡◌, ◌≢◌, ℕ, zero, suc, ◌+◌, ◌-◌, ◌*◌, ◌/◌, ◌%◌, ◌^◌, ◌<◌, ◌≤◌, Bool, true, false, cond, eqb, ltb, List, [], ◌∷◌, ◌++◌, length, take, drop, replicate, refl, sym, ap, ◌∙◌, ◌⊎◌, inl, inr, ⊎_elim, arith}
use Rattle.std.proofs.Math.Nat.{pow-suc}
use Rattle.std.proofs.lemmas.Bool.{cases_Bool, cases_lt, cases_eq, cond-true, cond-false, eq-eqb, lt-ltb, le-ltb}
use Rattle.std.proofs.lemmas.Bool.Decides.{nat_tests}
use Rattle.std.proofs.lemmas.List.{append_assoc, length-append, length-take, length-replicate}
use Rattle.std.proofs.lemmas.List.Elements.{All-nil, All-same, All-cons, All-append, All-head, All-tail, All-take}
use Rattle.std.proofs.lemmas.Fmt.{length-decimal-le, digits_is_IsNumeral}
use Rattle.std.specs.Str.Parse.{digits_value}
use Rattle.std.specs.List.{flat_map, All}
use Rattle.std.specs.Fmt.{decimal, digits, digits_onto, digit_glyph}
use Rattle.pr_text.specs.Numerals.{hex_text, hex8_text}
use Rattle.pr_num.specs.Words.{IsByte}
use Rattle.pr_text.specs.Quotes.{quoted_byte, quoted_text, has_dots, IsPrinted}

-- ---- lengths

-- the digits of a number below 16 ^ (m + 1) are at most m + 1
onto_short : (k m n : ℕ) (acc : List ℕ) → n < 16 ^ suc m → length (digits_onto k 16 false n acc) ≤ suc m + length acc
onto_short zero m n acc fits = omega arith
onto_short (suc k) zero n acc fits =
    let front : List ℕ = digit_glyph false (n % 16) ∷ acc in
    omega (
      arith,
      ap length
          (cond-true (eqb (n / 16) 0) front (digits_onto k 16 false (n / 16) front) (eq-eqb (n / 16) 0 (omega arith))),
    )
onto_short (suc k) (suc m) n acc fits =
    let front : List ℕ = digit_glyph false (n % 16) ∷ acc in
    let rest = onto_short k m (n / 16) front (omega (arith, pow-suc 16 (suc m))) in
    ⊎_elim (λ (last : eqb (n / 16) 0 ≡ true).
    omega (arith, ap length (cond-true (eqb (n / 16) 0) front (digits_onto k 16 false (n / 16) front) last)))
    (λ (more : eqb (n / 16) 0 ≡ false).
    omega (arith, rest, ap length (cond-false (eqb (n / 16) 0) front (digits_onto k 16 false (n / 16) front) more)))
    (cases_Bool (eqb (n / 16) 0))

length-hex : (n : ℕ) → n < 2 ^ 64 → length (digits 16 false n) ≤ 16
unfolding digits
length-hex n fits = onto_short 64 15 n [] (omega arith)

pub length-decimal : (n : ℕ) → n < 2 ^ 64 → length (decimal n) ≤ 20
length-decimal n fits = length-decimal-le 20 n (omega arith) (omega arith) fits

pub length-hex_text : (n : ℕ) → n < 2 ^ 64 → length (hex_text n) ≤ 18
length-hex_text n fits = omega (arith, length-hex n fits)

pub length-hex8_text : (n : ℕ) → n < 2 ^ 64 → length (hex8_text n) ≤ 18
length-hex8_text n fits =
    omega (
      arith,
      length-hex n fits,
      length-append (replicate (8 - length (digits 16 false n)) 48) (digits 16 false n),
      length-replicate {A = ℕ} (8 - length (digits 16 false n)) 48,
    )

-- ---- a byte between quotes

-- a digit below 16 as it is written
glyph_cases : (d : ℕ) → d < 16
    → ((d < 10) × (digit_glyph false d ≡ 48 + d)) ⊎ ((10 ≤ d) × (digit_glyph false d ≡ 87 + d))
glyph_cases d small =
    ⊎_elim (λ (low : d < 10). inl (low, cond-true (ltb d 10) (48 + d) (87 + d) (lt-ltb d 10 low)))
    (λ (high : 10 ≤ d). inr (high, cond-false (ltb d 10) (48 + d) (87 + d) (le-ltb d 10 high))) (cases_lt d 10)

-- how a byte stands between quotes: after a backslash, as it is, or by its digits
data Quoting (b : ℕ) : Type 0 where
  escaped : (b ≡ 34) ⊎ (b ≡ 92) → quoted_byte b ≡ 92 ∷ b ∷ [] → Quoting b
  plain : b ≢ 34 → b ≢ 92 → 32 ≤ b → b ≤ 126 → quoted_byte b ≡ b ∷ [] → Quoting b
  digits_alone : (b < 32) ⊎ (126 < b)
      → quoted_byte b ≡ 92 ∷ 120 ∷ digit_glyph false (b / 16) ∷ digit_glyph false (b % 16) ∷ [] → Quoting b

quoting : (b : ℕ) → Quoting b
unfolding quoted_byte
quoting b =
    ⊎_elim (λ (low : b < 32). digits_alone (inl low) (grind (arith, nat_tests)))
    (λ (from_blank : 32 ≤ b).
    ⊎_elim (λ (high : 126 < b). digits_alone (inr high) (grind (arith, nat_tests)))
    (λ (to_tilde : b ≤ 126).
    ⊎_elim (λ (quote : b ≡ 34). escaped (inl quote) (grind (arith, nat_tests)))
    (λ (no_quote : b ≢ 34).
    ⊎_elim (λ (backslash : b ≡ 92). escaped (inr backslash) (grind (arith, nat_tests)))
    (λ (other : b ≢ 92). plain no_quote other from_blank to_tilde (grind (arith, nat_tests))) (cases_eq b 92))
    (cases_eq b 34)) (cases_lt 126 b)) (cases_lt b 32)

-- two digits that are written alike are the same
same_digit : (c d : ℕ) → c < 16 → d < 16 → digit_glyph false c ≡ digit_glyph false d → c ≡ d
same_digit c d c_small d_small same =
    ⊎_elim (λ p.
    ⊎_elim (λ q. omega (arith, p.1, q.1, same)) (λ q. omega (arith, p.0, p.1, q.0, q.1, same))
    (glyph_cases d d_small))
    (λ p. ⊎_elim (λ q. omega (arith, p.0, p.1, q.0, q.1, same)) (λ q. omega (arith, p.1, q.1, same))
    (glyph_cases d d_small)) (glyph_cases c c_small)

length-quoted_byte : (b : ℕ) → length (quoted_byte b) ≤ 4
length-quoted_byte b =
    elim (quoting b) [
      | escaped which is ↦ omega (arith, ap length is)
      | plain no_quote no_backslash low high is ↦ omega (arith, ap length is)
      | digits_alone which is ↦ omega (arith, ap length is)
    ]

-- bytes in quotes take at most four times their number, and four bytes more
flat_short : (bytes : List ℕ) → length (flat_map quoted_byte bytes) ≤ 4 * length bytes
flat_short [] = omega arith
flat_short (b ∷ bytes) =
    omega (arith, length-append (quoted_byte b) (flat_map quoted_byte bytes), length-quoted_byte b, flat_short bytes)

-- what stands after the closing quote
abbrev dots : Bool → List ℕ
dots t = cond t (46 ∷ 46 ∷ []) []

length-dots : (t : Bool) → length (dots t) ≤ 2
length-dots true = omega arith
length-dots false = omega arith

pub length-quoted_text : (bytes : List ℕ) (more : Bool) → length (quoted_text bytes more) ≤ 260
unfolding quoted_text
length-quoted_text bytes more =
    omega (
      arith,
      length-append (flat_map quoted_byte (take 64 bytes)) (34 ∷ dots (has_dots bytes more)),
      flat_short (take 64 bytes),
      length-take 64 bytes,
      length-dots (has_dots bytes more),
    )

-- ---- what quoted text tells

digit_printed : (d : ℕ) → d < 16 → IsPrinted (digit_glyph false d)
digit_printed d small =
    ⊎_elim (λ p. (omega (arith, p.0, p.1), omega (arith, p.0, p.1)))
    (λ p. (omega (arith, p.0, p.1), omega (arith, p.0, p.1))) (glyph_cases d small)

both : (b c : ℕ) → IsPrinted b → IsPrinted c → All IsPrinted (b ∷ c ∷ [])
both b c p q = All-cons IsPrinted b (c ∷ []) p (All-cons IsPrinted c [] q (All-nil IsPrinted))

byte_printed : (b : ℕ) → b < 256 → All IsPrinted (quoted_byte b)
byte_printed b small = elim (quoting b) [
  | escaped which is ↦
      All-same IsPrinted (quoted_byte b) (92 ∷ b ∷ []) is
      (both 92 b (omega arith, omega arith)
      (⊎_elim (λ (quote : b ≡ 34). (omega arith, omega arith))
      (λ (backslash : b ≡ 92). (omega arith, omega arith)) which))
  | plain no_quote no_backslash low high is ↦
      All-same IsPrinted (quoted_byte b) (b ∷ []) is (All-cons IsPrinted b [] (low, high) (All-nil IsPrinted))
  | digits_alone which is ↦
      All-same IsPrinted (quoted_byte b) (92 ∷ 120 ∷ digit_glyph false (b / 16) ∷ digit_glyph false (b % 16) ∷ []) is
      (All-append IsPrinted (92 ∷ 120 ∷ []) (digit_glyph false (b / 16) ∷ digit_glyph false (b % 16) ∷ [])
      (both 92 120 (omega arith, omega arith) (omega arith, omega arith))
      (both (digit_glyph false (b / 16)) (digit_glyph false (b % 16)) (digit_printed (b / 16) (omega arith))
      (digit_printed (b % 16) (omega arith))))
]

shown_printed : (bytes : List ℕ) → All IsByte bytes → All IsPrinted (flat_map quoted_byte bytes)
shown_printed [] small = All-nil IsPrinted
shown_printed (b ∷ bytes) small =
    All-append IsPrinted (quoted_byte b) (flat_map quoted_byte bytes) (byte_printed b (All-head IsByte b bytes small))
    (shown_printed bytes (All-tail IsByte b bytes small))

dots_printed : (t : Bool) → All IsPrinted (dots t)
dots_printed true = both 46 46 (omega arith, omega arith) (omega arith, omega arith)
dots_printed false = All-nil IsPrinted

-- quoted text is printed by ASCII
pub quoted_text-printed : (bytes : List ℕ) (more : Bool) → All IsByte bytes → All IsPrinted (quoted_text bytes more)
unfolding quoted_text
quoted_text-printed bytes more small =
    let quote : IsPrinted 34 = (omega arith, omega arith) in
    let tail = All-cons IsPrinted 34 (dots (has_dots bytes more)) quote (dots_printed (has_dots bytes more)) in
    let shown = shown_printed (take 64 bytes) (All-take IsByte 64 bytes small) in
    All-cons IsPrinted 34 (flat_map quoted_byte (take 64 bytes) ++ 34 ∷ dots (has_dots bytes more)) quote
    (All-append IsPrinted (flat_map quoted_byte (take 64 bytes)) (34 ∷ dots (has_dots bytes more)) shown tail)

heads : (a b : ℕ) (xs ys : List ℕ) → a ∷ xs ≡ b ∷ ys → (a ≡ b) × (xs ≡ ys)
heads a b xs ys same = ((cc), (cc))

-- the same text, by what its two first bytes stand as
joined : (x y : ℕ) (r s front other : List ℕ) → quoted_byte x ≡ front → quoted_byte y ≡ other
    → quoted_byte x ++ r ≡ quoted_byte y ++ s → front ++ r ≡ other ++ s
joined x y r s front other x_is y_is same = ap (λ bs. bs ++ r) (sym x_is) ∙ same ∙ ap (λ bs. bs ++ s) y_is

is_no_digit_mark : (b : ℕ) → (b ≡ 34) ⊎ (b ≡ 92) → b ≡ 120 → ⊥
is_no_digit_mark b (inl quote) mark = omega arith
is_no_digit_mark b (inr backslash) mark = omega arith

same_digits : (x y : ℕ) (r s : List ℕ) → x < 256 → y < 256
    → digit_glyph false (x / 16) ∷ digit_glyph false (x % 16) ∷ r
    ≡ digit_glyph false (y / 16) ∷ digit_glyph false (y % 16) ∷ s → (x ≡ y) × (r ≡ s)
same_digits x y r s x_small y_small same =
    let high =
    heads (digit_glyph false (x / 16)) (digit_glyph false (y / 16)) (digit_glyph false (x % 16) ∷ r)
    (digit_glyph false (y % 16) ∷ s) same in
    let low = heads (digit_glyph false (x % 16)) (digit_glyph false (y % 16)) r s high.1 in
    let high_is = same_digit (x / 16) (y / 16) (omega arith) (omega arith) high.0 in
    let low_is = same_digit (x % 16) (y % 16) (omega arith) (omega arith) low.0 in
    (omega (arith, high_is, low_is), low.1)

-- two bytes that begin the same text are the same, and so is what follows
same_first : (x y : ℕ) (r s : List ℕ) → x < 256 → y < 256 → quoted_byte x ++ r ≡ quoted_byte y ++ s → (x ≡ y) × (r ≡ s)
same_first x y r s x_small y_small same = by_both (quoting x) (quoting y)
  where
    by_both : Quoting x → Quoting y → (x ≡ y) × (r ≡ s)
    by_both (escaped p x_is) (escaped q y_is) =
        heads x y r s (heads 92 92 (x ∷ r) (y ∷ s) (joined x y r s _ _ x_is y_is same)).1
    by_both (escaped p x_is) (plain q0 q1 q2 q3 y_is) =
        absurd (q1 (sym (heads 92 y (x ∷ r) s (joined x y r s _ _ x_is y_is same)).0))
    by_both (escaped p x_is) (digits_alone q y_is) =
        absurd (is_no_digit_mark x p (heads x 120 r _ (heads 92 92 (x ∷ r) _ (joined x y r s _ _ x_is y_is same)).1).0)
    by_both (plain p0 p1 p2 p3 x_is) (escaped q y_is) =
        absurd (p1 (heads x 92 r (y ∷ s) (joined x y r s _ _ x_is y_is same)).0)
    by_both (plain p0 p1 p2 p3 x_is) (plain q0 q1 q2 q3 y_is) = heads x y r s (joined x y r s _ _ x_is y_is same)
    by_both (plain p0 p1 p2 p3 x_is) (digits_alone q y_is) =
        absurd (p1 (heads x 92 r _ (joined x y r s _ _ x_is y_is same)).0)
    by_both (digits_alone p x_is) (escaped q y_is) =
        absurd (is_no_digit_mark y q
        (sym (heads 120 y _ s (heads 92 92 _ (y ∷ s) (joined x y r s _ _ x_is y_is same)).1).0))
    by_both (digits_alone p x_is) (plain q0 q1 q2 q3 y_is) =
        absurd (q1 (sym (heads 92 y _ s (joined x y r s _ _ x_is y_is same)).0))
    by_both (digits_alone p x_is) (digits_alone q y_is) =
        same_digits x y r s x_small y_small
        (heads 120 120 _ _ (heads 92 92 _ _ (joined x y r s _ _ x_is y_is same)).1).1

no_quote_first : (b : ℕ) (r s : List ℕ) → 34 ∷ r ≡ quoted_byte b ++ s → ⊥
no_quote_first b r s same = elim (quoting b) [
  | escaped which is ↦ omega (arith, (heads 34 92 r (b ∷ s) (same ∙ ap (λ bs. bs ++ s) is)).0)
  | plain no_quote no_backslash low high is ↦ no_quote (sym (heads 34 b r s (same ∙ ap (λ bs. bs ++ s) is)).0)
  | digits_alone which is ↦
      omega (
        arith,
        (heads 34 92 r (120 ∷ digit_glyph false (b / 16) ∷ digit_glyph false (b % 16) ∷ s)
            (same ∙ ap (λ bs. bs ++ s) is)).0,
      )
]

same_shown : (xs ys r s : List ℕ) → All IsByte xs → All IsByte ys
    → flat_map quoted_byte xs ++ 34 ∷ r ≡ flat_map quoted_byte ys ++ 34 ∷ s → (xs ≡ ys) × (r ≡ s)
same_shown [] [] r s p q same = (refl, (heads 34 34 r s same).1)
same_shown [] (y ∷ ys) r s p q same =
    absurd (no_quote_first y r (flat_map quoted_byte ys ++ 34 ∷ s)
    (same ∙ append_assoc (quoted_byte y) (flat_map quoted_byte ys) (34 ∷ s)))
same_shown (x ∷ xs) [] r s p q same =
    absurd (no_quote_first x s (flat_map quoted_byte xs ++ 34 ∷ r)
    (sym same ∙ append_assoc (quoted_byte x) (flat_map quoted_byte xs) (34 ∷ r)))
same_shown (x ∷ xs) (y ∷ ys) r s p q same =
    let first =
    same_first x y (flat_map quoted_byte xs ++ 34 ∷ r) (flat_map quoted_byte ys ++ 34 ∷ s) (All-head IsByte x xs p)
    (All-head IsByte y ys q)
    (sym (append_assoc (quoted_byte x) (flat_map quoted_byte xs) (34 ∷ r)) ∙ same
    ∙ append_assoc (quoted_byte y) (flat_map quoted_byte ys) (34 ∷ s)) in
    let others = same_shown xs ys r s (All-tail IsByte x xs p) (All-tail IsByte y ys q) first.1 in
    (ap (λ b. b ∷ xs) first.0 ∙ ap (λ bs. y ∷ bs) others.0, others.1)

same_dots : (s t : Bool) → dots s ≡ dots t → s ≡ t
same_dots true true same = refl
same_dots true false same = absurd (omega (arith, ap length same))
same_dots false true same = absurd (omega (arith, ap length same))
same_dots false false same = refl

-- the same text shows the same bytes, and says alike whether they go on
pub quoted_text-tells : (xs ys : List ℕ) (m n : Bool) → All IsByte xs → All IsByte ys
    → quoted_text xs m ≡ quoted_text ys n → (take 64 xs ≡ take 64 ys) × (has_dots xs m ≡ has_dots ys n)
unfolding quoted_text
quoted_text-tells xs ys m n p q same =
    let inner = (heads 34 34 _ _ same).1 in
    let parts =
    same_shown (take 64 xs) (take 64 ys) (dots (has_dots xs m)) (dots (has_dots ys n)) (All-take IsByte 64 xs p)
    (All-take IsByte 64 ys q) inner in
    (parts.0, same_dots (has_dots xs m) (has_dots ys n) parts.1)

-- ---- what numbers in hex tell

zeros_worth_nothing : (k : ℕ) (ds : List ℕ) → digits_value 16 (replicate k 48 ++ ds) ≡ digits_value 16 ds
zeros_worth_nothing zero ds = refl
zeros_worth_nothing (suc k) ds = zeros_worth_nothing k ds

hex_value : (n : ℕ) → n < 2 ^ 64 → digits_value 16 (digits 16 false n) ≡ n
hex_value n fits =
    let small : n < 16 ^ 64 = omega arith in
    (digits_is_IsNumeral 16 false (omega arith) (omega arith) n small).1

-- the digits of a number in hex are worth the number
pub hex_text-value : (n : ℕ) → n < 2 ^ 64 → digits_value 16 (drop 2 (hex_text n)) ≡ n
hex_text-value n fits = hex_value n fits

pub hex8_text-value : (n : ℕ) → n < 2 ^ 64 → digits_value 16 (drop 2 (hex8_text n)) ≡ n
hex8_text-value n fits =
    zeros_worth_nothing (8 - length (digits 16 false n)) (digits 16 false n) ∙ hex_value n fits
