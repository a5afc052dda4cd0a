-- Words that are written on a line are the words of that line.
use Rattle.std.proofs.Common.{◌≡◌, ℕ, suc, ◌+◌, ◌-◌, ◌<◌, Bool, true, false, not, ◌&&◌, cond, List, [], ◌∷◌, ◌++◌, length, map, take, drop, refl, sym, ◌∙◌, ap, arith}
use Rattle.std.specs.List.{All, AllByRecursion, join_with_byte, list_all}
use Rattle.std.proofs.lemmas.Bool.{and_parts, and_from, not-true}
use Rattle.std.proofs.lemmas.List.{append_assoc, length-append, take_at, drop_at}
use Rattle.std.proofs.lemmas.List.Elements.{All-weaker}
use Rattle.std.proofs.lemmas.List.Folds.{list_all-append}
use Rattle.std.proofs.lemmas.List.Splits.{slice_split_at, slice_split_none}
use Rattle.std.proofs.lemmas.List.Sums.{AllPass-from_list_all}
use Rattle.pr_text.specs.SpacedWords.{behind_blank, spaced}
use Rattle.pr_text.specs.TextLines.{newline, is_newline, lines_of}
use Rattle.pr_text.specs.Words.{words_from, plain_word, quoted_word, text_of, texts_of, parts_words, is_quote}

-- what all bytes pass that pass another test
pub all_pass : (p q : ℕ → Bool) → ((b : ℕ) → p b ≡ true → q b ≡ true) → (bs : List ℕ) → list_all p bs ≡ true
    → list_all q bs ≡ true
all_pass p q on [] h = refl
all_pass p q on (b ∷ bs) h =
    let parts = and_parts (p b) (list_all p bs) h in
    and_from (q b) (list_all q bs) (on b parts.0) (all_pass p q on bs parts.1)

-- ---- lines

-- whether a byte ends no line
abbrev pub is_inline : ℕ → Bool
is_inline b = not (is_newline b)

-- bytes that stand on one line
abbrev pub IsInline : List ℕ → Type 0
IsInline line = list_all is_inline line ≡ true

no_newline : (line : List ℕ) → IsInline line → All (λ b. is_newline b ≡ false) line
no_newline line h =
    All-weaker (λ b. is_inline b ≡ true) (λ b. is_newline b ≡ false) (λ b is. not-true (is_newline b) is) line
    (AllPass-from_list_all is_inline line h)

-- lines that are joined are the lines of that text
pub lines_of-joined : (x : List ℕ) (xs : List (List ℕ)) → AllByRecursion IsInline (x ∷ xs)
    → lines_of (join_with_byte newline (x ∷ xs)) ≡ x ∷ xs
lines_of-joined x [] h = slice_split_none is_newline x (no_newline x h.0)
lines_of-joined x (y ∷ ys) h =
    slice_split_at is_newline x newline (join_with_byte newline (y ∷ ys)) (no_newline x h.0) refl
    ∙ ap (λ ls. x ∷ ls) (lines_of-joined y ys h.1)

-- ---- words

-- A word that is read as one, whatever words follow it, and stands on one line.
pub record IsToken (w : List ℕ) : Type 0 where
  pub one : (at : ℕ) (ws : List (List ℕ))
      → words_from at (w ++ spaced ws)
      ≡ record { start = at; end = at + length w } ∷ words_from (at + length w) (spaced ws)
  pub line : IsInline w

-- the bytes of a word that stands in a line after a prefix
text_at : (line front w rest : List ℕ) (at end : ℕ) → length front ≡ at → end ≡ at + length w
    → line ≡ front ++ (w ++ rest) → text_of line (record { start = at; end = end }) ≡ w
text_at line front w rest at end size last whole =
    ap (λ l. take (end - at) (drop at l)) whole ∙ ap (take (end - at)) (drop_at front (w ++ rest) at size)
    ∙ take_at w rest (end - at) (omega arith)

texts_from : (ws : List (List ℕ)) → AllByRecursion IsToken ws → (line front : List ℕ) (at : ℕ) → length front ≡ at
    → line ≡ front ++ spaced ws → map (text_of line) (words_from at (spaced ws)) ≡ ws
unfolding words_from behind_blank
texts_from [] each line front at size whole = refl
texts_from (w ∷ ws) each line front at size whole =
    let behind : length (front ++ 32 ∷ []) ≡ at + 1 = length-append front (32 ∷ []) ∙ ap (λ n. n + 1) size in
    let spread : line ≡ (front ++ 32 ∷ []) ++ (w ++ spaced ws) =
    whole ∙ sym (append_assoc front (32 ∷ []) (w ++ spaced ws)) in
    let next : length ((front ++ 32 ∷ []) ++ w) ≡ at + 1 + length w =
    length-append (front ++ 32 ∷ []) w ∙ ap (λ n. n + length w) behind in
    ap (map (text_of line)) (each.0.one (at + 1) ws)
    ∙ ap (λ x. x ∷ map (text_of line) (words_from (at + 1 + length w) (spaced ws)))
    (text_at line (front ++ 32 ∷ []) w (spaced ws) (at + 1) (at + 1 + length w) behind refl spread)
    ∙ ap (λ xs. w ∷ xs)
    (texts_from ws each.1 line ((front ++ 32 ∷ []) ++ w) (at + 1 + length w) next
    (spread ∙ sym (append_assoc (front ++ 32 ∷ []) w (spaced ws))))

pub texts_of-spaced : (ws : List (List ℕ)) → AllByRecursion IsToken ws → texts_of (spaced ws) ≡ ws
texts_of-spaced ws each = texts_from ws each (spaced ws) [] 0 refl refl

-- such words stand on one line
pub spaced-inline : (ws : List (List ℕ)) → AllByRecursion IsToken ws → IsInline (spaced ws)
unfolding behind_blank
spaced-inline [] h = refl
spaced-inline (w ∷ ws) h =
    list_all-append is_inline w (spaced ws) ∙ ap (λ v. v && list_all is_inline (spaced ws)) (h.0).line
    ∙ spaced-inline ws h.1

-- ---- plain words: no blank, tab, comma, quote or newline stands in them

abbrev pub is_plain : ℕ → Bool
is_plain b = not (parts_words b) && (not (is_quote b) && is_inline b)

record IsPlain (b : ℕ) : Type 0 where
  parts : parts_words b ≡ false
  quote : is_quote b ≡ false
  inline : is_inline b ≡ true

plain_is : (b : ℕ) → is_plain b ≡ true → IsPlain b
plain_is b h =
    let p = and_parts (not (parts_words b)) (not (is_quote b) && is_inline b) h in
    let q = and_parts (not (is_quote b)) (is_inline b) p.1 in
    record { parts = not-true (parts_words b) p.0; quote = not-true (is_quote b) q.0; inline = q.1 }

plain_end : (w : List ℕ) (ws : List (List ℕ)) → list_all is_plain w ≡ true → (start at end : ℕ) → end ≡ at + length w
    → plain_word start at (w ++ spaced ws) ≡ record { start = start; end = end } ∷ words_from end (spaced ws)
unfolding words_from behind_blank
plain_end [] [] h start at end e = ap (λ n. record { start = start; end = n } ∷ []) (sym (e ∙ omega arith))
plain_end [] (w ∷ ws) h start at end e =
    ap (λ n. record { start = start; end = n } ∷ words_from (n + 1) (w ++ spaced ws)) (sym (e ∙ omega arith))
plain_end (b ∷ w) ws h start at end e =
    let p = and_parts (is_plain b) (list_all is_plain w) h in
    ap (λ v.
    cond v (record { start = start; end = at } ∷ words_from (at + 1) (w ++ spaced ws))
    (plain_word start (at + 1) (w ++ spaced ws))) (plain_is b p.0).parts
    ∙ plain_end w ws p.1 start (at + 1) end (e ∙ omega arith)

plain_one : (w : List ℕ) → 0 < length w → list_all is_plain w ≡ true → (at : ℕ) (ws : List (List ℕ))
    → words_from at (w ++ spaced ws)
    ≡ record { start = at; end = at + length w } ∷ words_from (at + length w) (spaced ws)
unfolding words_from
plain_one [] some h at ws = absurd (omega arith)
plain_one (b ∷ w) some h at ws =
    let p = and_parts (is_plain b) (list_all is_plain w) h in
    let q = plain_is b p.0 in
    ap (λ v.
    cond v (words_from (at + 1) (w ++ spaced ws))
    (cond (is_quote b) (quoted_word at (at + 1) b (w ++ spaced ws)) (plain_word at (at + 1) (w ++ spaced ws))))
    q.parts
    ∙ ap (λ v. cond v (quoted_word at (at + 1) b (w ++ spaced ws)) (plain_word at (at + 1) (w ++ spaced ws))) q.quote
    ∙ plain_end w ws p.1 at (at + 1) (at + suc (length w)) (omega arith)

pub plain_token : (w : List ℕ) → 0 < length w → list_all is_plain w ≡ true → IsToken w
plain_token w some h =
    record { one = plain_one w some h; line = all_pass is_plain is_inline (λ b is. (plain_is b is).inline) w h }
