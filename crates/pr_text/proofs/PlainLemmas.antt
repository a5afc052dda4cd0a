-- Numbers, names, lwps and bytes in hex are words of a line.
use Rattle.std.proofs.Common.{◌≡◌, ℕ, ◌+◌, ◌-◌, ◌*◌, ◌/◌, ◌%◌, ◌^◌, ◌≤◌, ◌<◌, Bool, true, false, not, ◌&&◌, ◌||◌, eqb, leb, ltb, cond, Option, Some, None, List, [], ◌∷◌, ◌++◌, length, get_or, refl, sym, ◌∙◌, ap, subst, arith}
use Rattle.std.specs.Fmt.{decimal, digit_glyph}
use Rattle.std.specs.List.{All, list_all, slice_split}
use Rattle.std.specs.Option.{option_and_then}
use Rattle.std.proofs.lemmas.Bool.{and_parts, and_from, ne_eqb, le-ltb, leb-true}
use Rattle.std.proofs.lemmas.Fmt.{decimal_nonempty}
use Rattle.std.proofs.lemmas.List.{append_assoc, length-append, get_or_append_left}
use Rattle.std.proofs.lemmas.List.Elements.{All-cons, All-append}
use Rattle.std.proofs.lemmas.List.Folds.{list_all-append}
use Rattle.std.proofs.lemmas.List.Splits.{slice_split_at, slice_split_none}
use Rattle.pr_text.specs.Comments.{begins_comment}
use Rattle.pr_text.specs.HexWords.{byte_digits, digits_of_bytes}
use Rattle.pr_text.specs.LwpWords.{lwp_text}
use Rattle.pr_text.specs.Names.{is_letter, is_digit, is_name_byte, is_name, name_of}
use Rattle.pr_text.specs.NumberWords.{digit_of, with_digit, number_from, number_of}
use Rattle.pr_text.proofs.NumberLemmas.{IsDigit, digit_bounds, decimal-digits, decimal-apart, decimal-first, number_of-led}
use Rattle.pr_text.proofs.SpacedLemmas.{IsToken, all_pass, is_plain, plain_token}

-- ---- bytes that are plain

plain_from : (b : ℕ) → eqb b 32 ≡ false → eqb b 9 ≡ false → eqb b 44 ≡ false → eqb b 34 ≡ false → eqb b 10 ≡ false
    → is_plain b ≡ true
plain_from b blank tab comma quote newline =
    ap (λ v. not (v || (eqb b 9 || eqb b 44)) && (not (eqb b 34) && not (eqb b 10))) blank
    ∙ ap (λ v. not (v || eqb b 44) && (not (eqb b 34) && not (eqb b 10))) tab
    ∙ ap (λ v. not v && (not (eqb b 34) && not (eqb b 10))) comma
    ∙ ap (λ v. not v && not (eqb b 10)) quote
    ∙ ap not newline

-- each byte from the digits on
above_plain : (b : ℕ) → 48 ≤ b → is_plain b ≡ true
above_plain b low =
    plain_from b (ne_eqb b 32 (λ e. absurd (omega arith))) (ne_eqb b 9 (λ e. absurd (omega arith)))
    (ne_eqb b 44 (λ e. absurd (omega arith))) (ne_eqb b 34 (λ e. absurd (omega arith)))
    (ne_eqb b 10 (λ e. absurd (omega arith)))

-- ---- numbers

pub decimal-plain : (n : ℕ) → n < 2 ^ 64 → list_all is_plain (decimal n) ≡ true
decimal-plain n fits =
    all_pass is_digit is_plain (λ b is. above_plain b (digit_bounds b is).0) (decimal n) (decimal-digits n fits)

pub decimal_token : (n : ℕ) → n < 2 ^ 64 → IsToken (decimal n)
decimal_token n fits = plain_token (decimal n) (decimal_nonempty n fits) (decimal-plain n fits)

-- ---- lwps

-- the shape of an lwp's word
lwp_text-slash : (pid lwp : ℕ) → lwp_text pid lwp ≡ decimal pid ++ 47 ∷ decimal lwp
unfolding lwp_text
lwp_text-slash pid lwp = append_assoc (decimal pid) (47 ∷ []) (decimal lwp)

pub split_lwp : (pid lwp : ℕ) → pid < 2 ^ 64 → lwp < 2 ^ 64
    → slice_split (λ b. eqb b 47) (lwp_text pid lwp) ≡ decimal pid ∷ decimal lwp ∷ []
split_lwp pid lwp p l =
    ap (slice_split (λ b. eqb b 47)) (lwp_text-slash pid lwp)
    ∙ slice_split_at (λ b. eqb b 47) (decimal pid) 47 (decimal lwp) (decimal-apart 47 (omega arith) pid p) refl
    ∙ ap (λ ws. decimal pid ∷ ws)
    (slice_split_none (λ b. eqb b 47) (decimal lwp) (decimal-apart 47 (omega arith) lwp l))

pub lwp_text-plain : (pid lwp : ℕ) → pid < 2 ^ 64 → lwp < 2 ^ 64 → list_all is_plain (lwp_text pid lwp) ≡ true
lwp_text-plain pid lwp p l =
    ap (list_all is_plain) (lwp_text-slash pid lwp) ∙ list_all-append is_plain (decimal pid) (47 ∷ decimal lwp)
    ∙ and_from (list_all is_plain (decimal pid)) (list_all is_plain (decimal lwp)) (decimal-plain pid p)
    (decimal-plain lwp l)

pub lwp_text-some : (pid lwp : ℕ) → 0 < length (lwp_text pid lwp)
lwp_text-some pid lwp =
    omega (arith, ap length (lwp_text-slash pid lwp), length-append (decimal pid) (47 ∷ decimal lwp))

pub lwp_token : (pid lwp : ℕ) → pid < 2 ^ 64 → lwp < 2 ^ 64 → IsToken (lwp_text pid lwp)
lwp_token pid lwp p l = plain_token (lwp_text pid lwp) (lwp_text-some pid lwp) (lwp_text-plain pid lwp p l)

-- it begins with a digit, and has no byte below the slash
pub lwp_text-first : (pid lwp : ℕ) → pid < 2 ^ 64 → IsDigit (get_or (lwp_text pid lwp) 0 0)
lwp_text-first pid lwp p =
    let P : List ℕ → Type 0 = λ w. IsDigit (get_or w 0 0) in
    subst P (sym (lwp_text-slash pid lwp)) (decimal-first pid p (47 ∷ decimal lwp))

pub lwp_text-apart : (c : ℕ) → (c < 47) → (pid lwp : ℕ) → pid < 2 ^ 64 → lwp < 2 ^ 64
    → All (λ b. eqb b c ≡ false) (lwp_text pid lwp)
lwp_text-apart c low pid lwp p l =
    let P : ℕ → Type 0 = λ b. eqb b c ≡ false in
    let Q : List ℕ → Type 0 = λ w. All P w in
    subst Q (sym (lwp_text-slash pid lwp))
    (All-append P (decimal pid) (47 ∷ decimal lwp) (decimal-apart c (omega arith) pid p)
    (All-cons P 47 (decimal lwp) (ne_eqb 47 c (λ e. absurd (omega arith))) (decimal-apart c (omega arith) lwp l)))

-- ---- bytes in hex

glyph_low : (d : ℕ) → 48 ≤ digit_glyph false d
glyph_low d = elim (ltb d 10) as (λ t. 48 ≤ cond t (48 + d) (87 + d)) [ true ↦ omega arith | false ↦ omega arith ]

pub digits_of_bytes-plain : (bs : List ℕ) → list_all is_plain (digits_of_bytes bs) ≡ true
unfolding byte_digits
digits_of_bytes-plain [] = refl
digits_of_bytes-plain (b ∷ bs) =
    and_from (is_plain (digit_glyph false (b / 16)))
    (is_plain (digit_glyph false (b % 16)) && list_all is_plain (digits_of_bytes bs))
    (above_plain (digit_glyph false (b / 16)) (glyph_low (b / 16)))
    (and_from (is_plain (digit_glyph false (b % 16))) (list_all is_plain (digits_of_bytes bs))
    (above_plain (digit_glyph false (b % 16)) (glyph_low (b % 16))) (digits_of_bytes-plain bs))

-- the word of some bytes
pub bytes_token : (b : ℕ) (bs : List ℕ) → IsToken (digits_of_bytes (b ∷ bs))
unfolding byte_digits
bytes_token b bs = plain_token (digits_of_bytes (b ∷ bs)) (omega arith) (digits_of_bytes-plain (b ∷ bs))

-- ---- names

apart_from : (c b : ℕ) → is_name_byte c ≡ false → is_name_byte b ≡ true → eqb b c ≡ false
apart_from c b no_name name =
    ne_eqb b c (λ e. let P : ℕ → Type 0 = λ x. is_name_byte x ≡ true in let here = subst P e name in cc)

name_byte_plain : (b : ℕ) → is_name_byte b ≡ true → is_plain b ≡ true
unfolding is_name_byte
name_byte_plain b h =
    plain_from b (apart_from 32 b refl h) (apart_from 9 b refl h) (apart_from 44 b refl h) (apart_from 34 b refl h)
    (apart_from 10 b refl h)

-- what holds of a name
pub record IsNamed (name : List ℕ) : Type 0 where
  pub some : 0 < length name
  pub letter : is_letter (get_or name 0 0) ≡ true
  pub plain : list_all is_plain name ≡ true

pub named : (name : List ℕ) → is_name name ≡ true → IsNamed name
unfolding is_name
named [] h = cc
named (b ∷ bs) h =
    let p = and_parts (is_letter b && leb (length (b ∷ bs)) 31) (list_all is_name_byte (b ∷ bs)) h in
    let q = and_parts (is_letter b) (leb (length (b ∷ bs)) 31) p.0 in
    record { some = omega arith; letter = q.0; plain = all_pass is_name_byte is_plain name_byte_plain (b ∷ bs) p.1 }

pub name_of-name : (name : List ℕ) → is_name name ≡ true → name_of name ≡ Some name
name_of-name name h = ap (λ b. cond b (Some name) None) h

pub name_token : (name : List ℕ) → is_name name ≡ true → IsToken name
name_token name h = let n = named name h in plain_token name n.some n.plain

by_or : (x y : Bool) (P : Type 0) → (x || y) ≡ true → (x ≡ true → P) → (y ≡ true → P) → P
by_or true y P h left right = left refl
by_or false y P h left right = right h

-- a letter is above the digits
letter_above : (b : ℕ) → is_letter b ≡ true → 65 ≤ b
letter_above b h =
    by_or (leb 97 b && leb b 122) (leb 65 b && leb b 90) (65 ≤ b) h
    (λ low. let le = leb-true 97 b (and_parts (leb 97 b) _ low).0 in omega arith)
    (λ up. leb-true 65 b (and_parts (leb 65 b) _ up).0)

pub by_cond : {A : Type 0} (b : Bool) (P : A → Type 0) (x y : A) → (b ≡ true → P x) → (b ≡ false → P y) → P (cond b x y)
by_cond true P x y then other = then refl
by_cond false P x y then other = other refl

-- no name is a number
no_digit : (b : ℕ) → 65 ≤ b → with_digit 10 0 b ≡ None
unfolding with_digit digit_of
no_digit b above =
    let f : ℕ → Option ℕ = λ d. cond (ltb d 10 && ltb (0 * 10 + d) (2 ^ 64)) (Some (0 * 10 + d)) None in
    let P : Option ℕ → Type 0 = λ o. option_and_then f o ≡ None in
    let high : (d : ℕ) → 10 ≤ d → P (Some d) =
    λ d le. ap (λ v. cond (v && ltb (0 * 10 + d) (2 ^ 64)) (Some (0 * 10 + d)) None) (le-ltb d 10 le) in
    by_cond (leb 48 b && leb b 57) P _ _
    (λ digit. let le = leb-true b 57 (and_parts (leb 48 b) _ digit).1 in absurd (omega arith))
    (λ _. by_cond (leb 97 b && leb b 102) P _ _ (λ low. high (b - 97 + 10) (omega arith))
    (λ _. by_cond (leb 65 b && leb b 70) P _ _ (λ up. high (b - 65 + 10) (omega arith)) (λ _. refl)))

pub name-no_number : (name : List ℕ) → is_name name ≡ true → number_of name ≡ None
unfolding number_from
name-no_number [] h = absurd (let n = named [] h in let some = n.some in omega arith)
name-no_number (b ∷ bs) h =
    let n = named (b ∷ bs) h in
    let above = letter_above b n.letter in
    number_of-led (b ∷ bs) n.some (ne_eqb b 48 (λ e. absurd (omega arith)))
    ∙ ap (λ o. option_and_then (λ v. number_from 10 v bs) o) (no_digit b above)

-- what begins with a name begins no comment
pub name-no_comment : (name rest : List ℕ) → is_name name ≡ true → begins_comment (name ++ rest) ≡ false
unfolding begins_comment
name-no_comment name rest h =
    let n = named name h in
    let above = letter_above (get_or name 0 0) n.letter in
    ap (λ b. eqb b 35) (get_or_append_left name rest 0 0 n.some)
    ∙ ne_eqb (get_or name 0 0) 35 (λ e. absurd (omega arith))
