-- Texts in quotes are words of a line, and are read as their bytes.
use Rattle.std.proofs.Common.{◌≡◌, ℕ, ◌+◌, ◌-◌, true, false, not, ◌&&◌, eqb, leb, cond, Some, None, List, [], ◌∷◌, ◌++◌, length, take, get_or, refl, sym, ◌∙◌, ap, arith}
use Rattle.std.specs.List.{flat_map, list_all}
use Rattle.std.proofs.lemmas.Bool.{eqb-true, le-leb}
use Rattle.std.proofs.lemmas.List.{append_assoc, length-append, take_at}
use Rattle.std.proofs.lemmas.List.Folds.{list_all-append}
use Rattle.std.proofs.Math.Seq.{get_or-append_seam}
use Rattle.pr_text.specs.NumberWords.{digit_of}
use Rattle.pr_text.specs.QuotedWords.{before, bytes_between, escaped_bytes, hex_bytes, quoted_bytes, escaped, quoted}
use Rattle.pr_text.specs.SpacedWords.{spaced}
use Rattle.pr_text.specs.Words.{words_from, quoted_word, is_quote}
use Rattle.pr_text.proofs.PlainLemmas.{by_cond}
use Rattle.pr_text.proofs.SpacedLemmas.{IsToken, is_inline}

-- what a choice of escapes is
by_escape : (b : ℕ) (P : List ℕ → Type 0) → (eqb b 10 ≡ true → P (92 ∷ 120 ∷ 48 ∷ 97 ∷ []))
    → (eqb b 34 ≡ true → P (92 ∷ 120 ∷ 50 ∷ 50 ∷ [])) → (eqb b 92 ≡ true → P (92 ∷ 120 ∷ 53 ∷ 99 ∷ []))
    → (eqb b 34 ≡ false → eqb b 92 ≡ false → P (b ∷ [])) → P (escaped b)
unfolding escaped
by_escape b P newline quote backslash other =
    by_cond (eqb b 10) P _ _ newline
    (λ no_newline.
    by_cond (eqb b 34) P _ _ quote
    (λ no_quote. by_cond (eqb b 92) P _ _ backslash (λ no_backslash. other no_quote no_backslash)))

-- one byte between quotes
quoted_step : (c : ℕ) (start at b : ℕ) (rest : List ℕ) → is_quote c ≡ false
    → quoted_word start at b (c ∷ rest) ≡ quoted_word start (at + 1) c rest
unfolding words_from
quoted_step c start at b rest h =
    ap (λ v.
    cond (v && not (eqb b 92)) (record { start = start; end = at + 1 } ∷ words_from (at + 1) rest)
    (quoted_word start (at + 1) c rest)) h

-- in quotes up to the one that closes them
quoted_end : (bytes : List ℕ) (ws : List (List ℕ)) (start at b end : ℕ) → eqb b 92 ≡ false
    → end ≡ at + length (flat_map escaped bytes) + 1
    → quoted_word start at b (flat_map escaped bytes ++ 34 ∷ spaced ws)
    ≡ record { start = start; end = end } ∷ words_from end (spaced ws)
unfolding words_from
quoted_end [] ws start at b end h e =
    ap (λ v.
    cond (not v) (record { start = start; end = at + 1 } ∷ words_from (at + 1) (spaced ws))
    (quoted_word start (at + 1) 34 (spaced ws))) h
    ∙ ap (λ n. record { start = start; end = n } ∷ words_from n (spaced ws)) (sym (e ∙ omega arith))
quoted_end (c ∷ bytes) ws start at b end h e =
    let Q : List ℕ → Type 0 =
    λ front. end ≡ at + length (front ++ flat_map escaped bytes) + 1
    → quoted_word start at b (front ++ flat_map escaped bytes ++ 34 ∷ spaced ws)
    ≡ record { start = start; end = end } ∷ words_from end (spaced ws) in
    let special : (x y : ℕ) → is_quote x ≡ false → is_quote y ≡ false → eqb y 92 ≡ false → Q (92 ∷ 120 ∷ x ∷ y ∷ []) =
    λ x y no_x no_y plain far.
    quoted_step 92 start at b (120 ∷ x ∷ y ∷ flat_map escaped bytes ++ 34 ∷ spaced ws) refl
    ∙ quoted_step 120 start (at + 1) 92 (x ∷ y ∷ flat_map escaped bytes ++ 34 ∷ spaced ws) refl
    ∙ quoted_step x start (at + 1 + 1) 120 (y ∷ flat_map escaped bytes ++ 34 ∷ spaced ws) no_x
    ∙ quoted_step y start (at + 1 + 1 + 1) x (flat_map escaped bytes ++ 34 ∷ spaced ws) no_y
    ∙ quoted_end bytes ws start (at + 1 + 1 + 1 + 1) y end plain (far ∙ omega arith) in
    let other : eqb c 34 ≡ false → eqb c 92 ≡ false → Q (c ∷ []) = λ no_quote no_backslash far.
    quoted_step c start at b (flat_map escaped bytes ++ 34 ∷ spaced ws) no_quote
    ∙ quoted_end bytes ws start (at + 1) c end no_backslash (far ∙ omega arith) in
    by_escape c Q (λ is. special 48 97 refl refl refl) (λ is. special 50 50 refl refl refl)
    (λ is. special 53 99 refl refl refl) other e

quoted_one : (bytes : List ℕ) (at : ℕ) (ws : List (List ℕ))
    → words_from at (quoted bytes ++ spaced ws)
    ≡ record { start = at; end = at + length (quoted bytes) } ∷ words_from (at + length (quoted bytes)) (spaced ws)
unfolding words_from
quoted_one bytes at ws =
    ap (λ rest. quoted_word at (at + 1) 34 rest) (append_assoc (flat_map escaped bytes) (34 ∷ []) (spaced ws))
    ∙ quoted_end bytes ws at (at + 1) 34 (at + length (quoted bytes)) refl
    (omega (arith, length-append (flat_map escaped bytes) (34 ∷ [])))

escaped_line : (bytes : List ℕ) → list_all is_inline (flat_map escaped bytes) ≡ true
unfolding escaped
escaped_line [] = refl
escaped_line (c ∷ bytes) =
    let Q : List ℕ → Type 0 = λ front. list_all is_inline (front ++ flat_map escaped bytes) ≡ true in
    by_cond (eqb c 10) Q _ _ (λ is. escaped_line bytes)
    (λ inline.
    by_cond (eqb c 34) Q _ _ (λ is. escaped_line bytes)
    (λ _. by_cond (eqb c 92) Q _ _ (λ is. escaped_line bytes)
    (λ _. ap (λ v. not v && list_all is_inline (flat_map escaped bytes)) inline ∙ escaped_line bytes)))

pub quoted_token : (bytes : List ℕ) → IsToken (quoted bytes)
quoted_token bytes = record {
  one = quoted_one bytes;
  line = list_all-append is_inline (flat_map escaped bytes) (34 ∷ []) ∙ ap (λ v. v && true) (escaped_line bytes);
}

-- the bytes between quotes
between_escaped : (bytes : List ℕ) → bytes_between (flat_map escaped bytes) ≡ Some bytes
unfolding bytes_between escaped_bytes hex_bytes digit_of
between_escaped [] = refl
between_escaped (c ∷ bytes) =
    let Q : List ℕ → Type 0 = λ front. bytes_between (front ++ flat_map escaped bytes) ≡ Some (c ∷ bytes) in
    let it : (x : ℕ) → eqb c x ≡ true → before x (bytes_between (flat_map escaped bytes)) ≡ Some (c ∷ bytes) = λ x is.
    ap (before x) (between_escaped bytes) ∙ ap (λ y. Some (y ∷ bytes)) (sym (eqb-true c x is)) in
    let other : eqb c 34 ≡ false → eqb c 92 ≡ false → Q (c ∷ []) = λ no_quote no_backslash.
    ap (λ v.
    cond v (escaped_bytes (flat_map escaped bytes))
    (cond (eqb c 34) None (before c (bytes_between (flat_map escaped bytes))))) no_backslash
    ∙ ap (λ v. cond v None (before c (bytes_between (flat_map escaped bytes)))) no_quote
    ∙ ap (before c) (between_escaped bytes) in
    by_escape c Q (λ is. it 10 is) (λ is. it 34 is) (λ is. it 92 is) other

-- the byte before the closing quote is no backslash
last_plain : (bytes : List ℕ) (b : ℕ) → eqb b 92 ≡ false
    → eqb (get_or (b ∷ flat_map escaped bytes) (length (flat_map escaped bytes)) 0) 92 ≡ false
last_plain [] b h = h
last_plain (c ∷ bytes) b h =
    let Q : List ℕ → Type 0 =
    λ front. eqb (get_or (b ∷ (front ++ flat_map escaped bytes)) (length (front ++ flat_map escaped bytes)) 0) 92
    ≡ false in
    by_escape c Q (λ is. last_plain bytes 97 refl) (λ is. last_plain bytes 50 refl) (λ is. last_plain bytes 99 refl)
    (λ no_quote no_backslash. last_plain bytes c no_backslash)

pub quoted_bytes-quoted : (bytes : List ℕ) → quoted_bytes (quoted bytes) ≡ Some bytes
unfolding quoted_bytes
quoted_bytes-quoted bytes =
    let body = flat_map escaped bytes in
    let size : length (quoted bytes) ≡ length body + 2 = omega (arith, length-append body (34 ∷ [])) in
    let last_place : length (quoted bytes) - 1 ≡ length (34 ∷ body) = omega arith in
    let next_place : length (quoted bytes) - 2 ≡ length body = omega arith in
    let enough : leb 2 (length (quoted bytes)) ≡ true = le-leb 2 (length (quoted bytes)) (omega arith) in
    let last : get_or (quoted bytes) (length (quoted bytes) - 1) 0 ≡ 34 =
    ap (λ n. get_or (quoted bytes) n 0) last_place ∙ get_or-append_seam (34 ∷ body) 34 [] 0 in
    let inside : take (length (quoted bytes) - 2) (body ++ 34 ∷ []) ≡ body =
    take_at body (34 ∷ []) (length (quoted bytes) - 2) (sym next_place) in
    ap (λ v.
    cond (v && true && eqb (get_or (quoted bytes) (length (quoted bytes) - 1) 0) 34)
    (bytes_between (take (length (quoted bytes) - 2) (body ++ 34 ∷ []))) None) enough
    ∙ ap (λ n. cond (eqb n 34) (bytes_between (take (length (quoted bytes) - 2) (body ++ 34 ∷ []))) None) last
    ∙ ap bytes_between inside ∙ between_escaped bytes
