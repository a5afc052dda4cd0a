-- What stands between quotes, a byte at a time.
use Rattle.std.proofs.Common.{◌≡◌, ℕ, ◌+◌, ◌*◌, Bool, true, false, eqb, cond, Option, Some, None, List, [], ◌∷◌, ◌++◌, length, refl, sym, ◌∙◌, ap}
use Rattle.std.specs.Option.{option_map, option_and_then}
use Rattle.std.proofs.Math.Dec.{eqb-suc-zero}
use Rattle.std.proofs.lemmas.List.{append_assoc, append-nil}
use Rattle.pr_text.specs.NumberWords.{digit_of}
use Rattle.pr_text.specs.QuotedWords.{before, in_front, bytes_between, escaped_bytes, hex_bytes, first_byte, escaped_byte, hex_byte}

-- the first byte, and the bytes after it
abbrev pub then_between : Option (ℕ × List ℕ) → Option (List ℕ)
then_between o = option_and_then (λ x. before x.0 (bytes_between x.1)) o

-- a choice followed by a step is a choice of followed steps
choice : {A B : Type 0} (f : Option A → B) (b : Bool) (x y : Option A) → cond b (f x) (f y) ≡ f (cond b x y)
choice f true x y = refl
choice f false x y = refl

hex_first : (text : List ℕ) → hex_bytes text ≡ then_between (hex_byte text)
unfolding hex_bytes hex_byte
hex_first [] = refl
hex_first (h ∷ []) = refl
hex_first (h ∷ l ∷ bs) =
    elim (digit_of h)
    as (λ d.
    option_and_then (λ high. option_and_then (λ low. before (high * 16 + low) (bytes_between bs)) (digit_of l)) d
    ≡ then_between (option_and_then (λ high. option_map (λ low. (high * 16 + low, bs)) (digit_of l)) d)) [
      | None ↦ refl
      | Some high ↦ elim (digit_of l)
          as (λ d. option_and_then (λ low. before (high * 16 + low) (bytes_between bs)) d
          ≡ then_between (option_map (λ low. (high * 16 + low, bs)) d)) [ None ↦ refl | Some low ↦ refl ]
    ]

escaped_first : (text : List ℕ) → escaped_bytes text ≡ then_between (escaped_byte text)
unfolding escaped_bytes escaped_byte
escaped_first [] = refl
escaped_first (b ∷ bs) =
    elim (eqb b 110)
    as (λ v.
    cond v (before 10 (bytes_between bs))
    (cond (eqb b 92) (before 92 (bytes_between bs))
    (cond (eqb b 34) (before 34 (bytes_between bs)) (cond (eqb b 120) (hex_bytes bs) None)))
    ≡ then_between
    (cond v (Some (10, bs))
    (cond (eqb b 92) (Some (92, bs)) (cond (eqb b 34) (Some (34, bs)) (cond (eqb b 120) (hex_byte bs) None))))) [
      | true ↦ refl
      | false ↦ elim (eqb b 92)
          as (λ v.
          cond v (before 92 (bytes_between bs))
          (cond (eqb b 34) (before 34 (bytes_between bs)) (cond (eqb b 120) (hex_bytes bs) None))
          ≡ then_between
          (cond v (Some (92, bs)) (cond (eqb b 34) (Some (34, bs)) (cond (eqb b 120) (hex_byte bs) None)))) [
            | true ↦ refl
            | false ↦ elim (eqb b 34)
                as (λ v. cond v (before 34 (bytes_between bs)) (cond (eqb b 120) (hex_bytes bs) None)
                ≡ then_between (cond v (Some (34, bs)) (cond (eqb b 120) (hex_byte bs) None))) [
                  | true ↦ refl
                  | false ↦ elim (eqb b 120)
                      as (λ v. cond v (hex_bytes bs) None ≡ then_between (cond v (hex_byte bs) None))
                      [ true ↦ hex_first bs | false ↦ refl ]
                ]
          ]
    ]

between_first : (b : ℕ) (bs : List ℕ) → bytes_between (b ∷ bs) ≡ then_between (first_byte (b ∷ bs))
unfolding bytes_between first_byte
between_first b bs =
    elim (eqb b 92)
    as (λ v. cond v (escaped_bytes bs) (cond (eqb b 34) None (before b (bytes_between bs)))
    ≡ then_between (cond v (escaped_byte bs) (cond (eqb b 34) None (Some (b, bs))))) [
      | true ↦ escaped_first bs
      | false ↦ elim (eqb b 34)
          as (λ v. cond v None (before b (bytes_between bs)) ≡ then_between (cond v None (Some (b, bs))))
          [ true ↦ refl | false ↦ refl ]
    ]

in_front-more : (front : List ℕ) (b : ℕ) (others : Option (List ℕ))
    → in_front (front ++ b ∷ []) others ≡ in_front front (before b others)
in_front-more front b None = refl
in_front-more front b (Some bytes) = ap Some (append_assoc front (b ∷ []) bytes)

-- one byte read more
pub between-step : (front text rest whole items : List ℕ) (b : ℕ) → eqb (length text) 0 ≡ false
    → Some (b, rest) ≡ first_byte text → items ≡ front ++ b ∷ []
    → in_front front (bytes_between text) ≡ bytes_between whole
    → in_front items (bytes_between rest) ≡ bytes_between whole
between-step front [] rest whole items b some e pushed kept = cc
between-step front (x ∷ xs) rest whole items b some e pushed kept =
    ap (λ bs. in_front bs (bytes_between rest)) pushed ∙ in_front-more front b (bytes_between rest)
    ∙ ap (in_front front) (ap then_between e ∙ sym (between_first x xs)) ∙ kept

-- a byte that is not spelled
pub between-stop : (front text whole : List ℕ) → eqb (length text) 0 ≡ false → None ≡ first_byte text
    → in_front front (bytes_between text) ≡ bytes_between whole → None ≡ bytes_between whole
between-stop front [] whole some e kept = cc
between-stop front (x ∷ xs) whole some e kept =
    ap (λ o. in_front front (then_between o)) e ∙ ap (in_front front) (sym (between_first x xs)) ∙ kept

-- the end
pub between-end : (front text whole : List ℕ) → true ≡ eqb (length text) 0
    → in_front front (bytes_between text) ≡ bytes_between whole → Some front ≡ bytes_between whole
unfolding bytes_between
between-end front [] whole over kept = ap Some (sym (append-nil front)) ∙ kept
between-end front (x ∷ xs) whole over kept =
    let apart : true ≡ false = over ∙ eqb-suc-zero (length xs) in cc
