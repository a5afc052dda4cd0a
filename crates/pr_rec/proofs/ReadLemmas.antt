-- What holds of reading a record by its columns.
use Rattle.std.proofs.Common.{Fits, w8, ◌≡◌, ◌+◌, ◌-◌, ◌*◌, ◌/◌, ◌<◌, ◌≤◌, ℕ, zero, suc, true, false, cond, List, [], ◌∷◌, ◌++◌, length, take, drop, get_or, map, All, Option, Some, refl, sym, ap, ◌∙◌, arith, le-ltb, ltb}
use Rattle.std.proofs.lemmas.List.{append_assoc, append-nil, drop_at, take_at, length-map, take-take, drop-take}
use Rattle.std.proofs.lemmas.List.Elements.{All-head, All-tail, All-from_get_or}
use Rattle.pr_num.specs.Words.{IsByte, IsWord, word_bytes, words_bytes, word_of}
use Rattle.pr_num.specs.Records.{Range, first_out_from}
use Rattle.pr_codec.proofs.WordLemmas.{length-word_bytes, word_of-word_bytes}
use Rattle.pr_rec.specs.Columns.{range_of}
use Rattle.pr_rec.specs.Fields.{front_words}
use Rattle.pr_rec.specs.declared.columns.Column.{Column}
use Rattle.pr_rec.specs.declared.columns.Column.TheVariants.{Any}
use Rattle.pr_rec.specs.Reading.{record_read, unless_out}

-- the words of bytes that words were written to are these words
pub front_words-words_bytes : (words more : List ℕ) → All IsWord words
    → front_words (length words) (words_bytes words ++ more) ≡ words
front_words-words_bytes [] more fit = refl
front_words-words_bytes (w ∷ words) more fit =
    let grouped : word_bytes w ++ words_bytes words ++ more ≡ word_bytes w ++ (words_bytes words ++ more) =
    append_assoc (word_bytes w) (words_bytes words) more in
    let first : take 8 (word_bytes w ++ words_bytes words ++ more) ≡ word_bytes w =
    ap (take 8) grouped ∙ take_at (word_bytes w) (words_bytes words ++ more) 8 (length-word_bytes w) in
    let others : drop 8 (word_bytes w ++ words_bytes words ++ more) ≡ words_bytes words ++ more =
    ap (drop 8) grouped ∙ drop_at (word_bytes w) (words_bytes words ++ more) 8 (length-word_bytes w) in
    let here : word_of (take 8 (word_bytes w ++ words_bytes words ++ more)) ≡ w =
    ap word_of first ∙ word_of-word_bytes w (All-head IsWord w words fit) in
    ap (λ x. x ∷ front_words (length words) (drop 8 (word_bytes w ++ words_bytes words ++ more))) here
    ∙ ap (λ xs. w ∷ xs)
    (ap (front_words (length words)) others ∙ front_words-words_bytes words more (All-tail IsWord w words fit))

-- words with these bytes are the words at their front
pub words-front_words : (words bytes : List ℕ) (n : ℕ) → words_bytes words ≡ bytes → length words ≡ n → All IsWord words
    → words ≡ front_words n bytes
words-front_words words bytes n same size fit =
    sym (front_words-words_bytes words [] fit) ∙ ap (front_words (length words)) (append-nil (words_bytes words) ∙ same)
    ∙ ap (λ (k : ℕ). front_words k bytes) size

-- the first words lie in the first bytes
pub front_words-take : (n k : ℕ) (bytes : List ℕ) → 8 * n ≤ k → front_words n (take k bytes) ≡ front_words n bytes
front_words-take zero k bytes enough = refl
front_words-take (suc n) k bytes enough =
    let first : take 8 (take k bytes) ≡ take 8 bytes = take-take 8 k bytes (omega arith) in
    let parts : k ≡ 8 + (k - 8) = omega arith in
    let others : drop 8 (take k bytes) ≡ take (k - 8) (drop 8 bytes) =
    ap (λ (m : ℕ). drop 8 (take m bytes)) parts ∙ drop-take 8 (k - 8) bytes in
    ap (λ w. word_of w ∷ front_words n (drop 8 (take k bytes))) first
    ∙ ap (λ ws. word_of (take 8 bytes) ∷ ws)
    (ap (front_words n) others ∙ front_words-take n (k - 8) (drop 8 bytes) (omega arith))

-- ---- the first word that is out of its range

-- what stands at a place decides, or else what stands after it
out-at : (columns : List Column) (words : List ℕ) (place at : ℕ) → place < length columns → place < length words
    → first_out_from at (drop place (map range_of columns)) (drop place words)
    ≡ cond (range_of (get_or columns place Any) (get_or words place 0))
    (first_out_from (at + 1) (drop (suc place) (map range_of columns)) (drop (suc place) words)) (Some at)
out-at [] words place at inside there = absurd (omega arith)
out-at (c ∷ columns) [] place at inside there = absurd (omega arith)
out-at (c ∷ columns) (w ∷ words) zero at inside there = refl
out-at (c ∷ columns) (w ∷ words) (suc place) at inside there = out-at columns words place at (omega arith) (omega arith)

pub out-here : (columns : List Column) (words : List ℕ) (place : ℕ) (found : Option ℕ)
    → found ≡ first_out_from place (drop place (map range_of columns)) (drop place words) → place < length columns
    → place < length words → range_of (get_or columns place Any) (get_or words place 0) ≡ false → Some place ≡ found
out-here columns words place found so_far inside there out =
    sym (so_far ∙ out-at columns words place place inside there
    ∙ ap (λ b.
    cond b (first_out_from (place + 1) (drop (suc place) (map range_of columns)) (drop (suc place) words))
    (Some place)) out)

pub out-on : (columns : List Column) (words : List ℕ) (place : ℕ) (found : Option ℕ)
    → found ≡ first_out_from place (drop place (map range_of columns)) (drop place words) → place < length columns
    → place < length words → range_of (get_or columns place Any) (get_or words place 0) ≡ true
    → found ≡ first_out_from (place + 1) (drop (place + 1) (map range_of columns)) (drop (place + 1) words)
out-on columns words place found so_far inside there fits =
    let next : suc place ≡ place + 1 = omega arith in
    so_far ∙ out-at columns words place place inside there
    ∙ ap (λ b.
    cond b (first_out_from (place + 1) (drop (suc place) (map range_of columns)) (drop (suc place) words))
    (Some place)) fits
    ∙ ap (λ (k : ℕ). first_out_from (place + 1) (drop k (map range_of columns)) (drop k words)) next

-- what reading gives where there are enough bytes
pub record_read-whole : (ranges : List Range) (bytes words : List ℕ) (found : Option ℕ)
    → 8 * length ranges ≤ length bytes → words ≡ front_words (length ranges) bytes
    → found ≡ first_out_from 0 ranges words → record_read ranges bytes ≡ unless_out words found
unfolding record_read
record_read-whole ranges bytes words found enough same first =
    let long : ltb (length bytes) (8 * length ranges) ≡ false = le-ltb (length bytes) (8 * length ranges) enough in
    rw long (sym (ap (λ ws. unless_out ws (first_out_from 0 ranges ws)) same) ∙ ap (unless_out words) (sym first))

pub record_read-columns : (columns : List Column) (bytes words : List ℕ) (n : ℕ) (found : Option ℕ) → length columns ≡ n
    → n ≤ length bytes / 8 → words ≡ front_words n (take (8 * n) bytes)
    → found ≡ first_out_from 0 (map range_of columns) words
    → record_read (map range_of columns) bytes ≡ unless_out words found
record_read-columns columns bytes words n found size enough same first =
    let many : length (map range_of columns) ≡ n = length-map columns range_of ∙ size in
    let whole : words ≡ front_words (length (map range_of columns)) bytes =
    same ∙ front_words-take n (8 * n) bytes (omega arith) ∙ ap (λ (k : ℕ). front_words k bytes) (sym many) in
    record_read-whole (map range_of columns) bytes words found (omega arith) whole first

-- a list of which every element fits in 8 bits is one of bytes
pub AreBytes-fits : (bytes : List ℕ) → ((i : ℕ) → Fits w8 (get_or bytes i 0)) → All IsByte bytes
AreBytes-fits bytes fits = All-from_get_or IsByte bytes 0 (λ i inside. let small = fits i in omega arith)

pub AreBytes-each : (bytes : List ℕ) → ((i : ℕ) → get_or bytes i 0 < 256) → All IsByte bytes
AreBytes-each bytes small = All-from_get_or IsByte bytes 0 (λ i inside. small i)

pub words_bytes-append : (xs ys : List ℕ) → words_bytes (xs ++ ys) ≡ words_bytes xs ++ words_bytes ys
words_bytes-append [] ys = refl
words_bytes-append (x ∷ xs) ys =
    ap (λ rest. word_bytes x ++ rest) (words_bytes-append xs ys)
    ∙ sym (append_assoc (word_bytes x) (words_bytes xs) (words_bytes ys))

-- the bytes of the words of two parts
pub two_parts : (first second xs ys : List ℕ) → first ≡ xs → second ≡ ys
    → words_bytes first ++ words_bytes second ≡ words_bytes (xs ++ ys)
two_parts first second xs ys e f =
    ap (λ zs. words_bytes zs ++ words_bytes second) e ∙ ap (λ zs. words_bytes xs ++ words_bytes zs) f
    ∙ sym (words_bytes-append xs ys)
