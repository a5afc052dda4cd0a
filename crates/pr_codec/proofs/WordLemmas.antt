-- What holds of words and their bytes.
use Rattle.std.proofs.Common.{◌≡◌, ℕ, zero, suc, ◌+◌, ◌*◌, ◌^◌, ◌<◌, ◌≤◌, List, [], ◌∷◌, ◌++◌, length, take, drop, get_or, refl, sym, ap, ◌∙◌, arith, ⊎_elim}
use Rattle.std.specs.Int.{w64, to_le_bytes}
use Rattle.std.proofs.lemmas.List.{append-nil, nil_from_length, take-append-drop, drop_all, length-drop, length-take, take_all, length-append, take_at, drop_at, drop-drop, get_or_past}
use Rattle.std.proofs.lemmas.List.Elements.{All-from_recursion, All-take, All-drop, All-append, All-nil, All-head, All-tail, All-get_or}
use Rattle.std.proofs.lemmas.Nat.{le_bytes_8, from_le_bytes-to_le_bytes_8}
use Rattle.std.proofs.lemmas.Bool.{cases_lt}
use Rattle.std.proofs.lemmas.Slice.{put_mid-paste}
use borrow.Rule.Slice.PartMut.{put_mid}
use Rattle.byteorder.specs.Endian.{little_number}
use Rattle.byteorder.specs.Numbers.{little_from-take}
use Rattle.pr_num.specs.Words.{IsByte, IsWord, word_bytes, words_bytes, word_of}
use Rattle.pr_codec.specs.Words.{AreBytes, AreWords, word_at}

pub length-word_bytes : (w : ℕ) → length (word_bytes w) ≡ 8
unfolding word_bytes
length-word_bytes w = refl

-- a word's bytes are bytes
pub AreBytes-word_bytes : (w : ℕ) → AreBytes (word_bytes w)
unfolding word_bytes
AreBytes-word_bytes w =
    All-from_recursion IsByte (to_le_bytes w64 w) (
      omega arith,
      (omega arith, (omega arith, (omega arith, (omega arith, (omega arith, (omega arith, (omega arith, tt))))))),
    )

-- each byte of a list of bytes, and what is read past its end, is below 256
byte_below : (bytes : List ℕ) → AreBytes bytes → (i : ℕ) → get_or bytes i 0 < 256
byte_below bytes small i =
    ⊎_elim (λ inside. All-get_or IsByte bytes i 0 inside small) (λ past. rw (get_or_past bytes i 0 past) (omega arith))
    (cases_lt i (length bytes))

-- eight bytes are the bytes of the word that they spell
pub word_bytes-word_of : (bytes : List ℕ) → length bytes ≡ 8 → AreBytes bytes → word_bytes (word_of bytes) ≡ bytes
unfolding word_bytes word_of
word_bytes-word_of bytes eight small = le_bytes_8 bytes _ eight (byte_below bytes small) refl

-- a word is what its bytes spell
pub word_of-word_bytes : (w : ℕ) → w < 2 ^ 64 → word_of (word_bytes w) ≡ w
unfolding word_bytes word_of
word_of-word_bytes w fits = from_le_bytes-to_le_bytes_8 w fits

-- what bytes give fits in a word
pub word_of-below : (bytes : List ℕ) → AreBytes bytes → word_of bytes < 2 ^ 64
unfolding word_of
word_of-below bytes small =
    omega (
      arith,
      byte_below bytes small 0,
      byte_below bytes small 1,
      byte_below bytes small 2,
      byte_below bytes small 3,
      byte_below bytes small 4,
      byte_below bytes small 5,
      byte_below bytes small 6,
      byte_below bytes small 7,
    )

-- two words with the same bytes are the same
pub same_word : (v w : ℕ) → v < 2 ^ 64 → w < 2 ^ 64 → word_bytes v ≡ word_bytes w → v ≡ w
same_word v w v_fits w_fits same =
    sym (word_of-word_bytes v v_fits) ∙ ap word_of same ∙ word_of-word_bytes w w_fits

-- what is read as a little endian number of eight bytes
pub little_number-word_of : (bytes : List ℕ) → little_number 8 bytes ≡ word_of bytes
unfolding word_of
little_number-word_of bytes = omega arith

pub length-words_bytes : (words : List ℕ) → length (words_bytes words) ≡ 8 * length words
length-words_bytes [] = refl
length-words_bytes (w ∷ words) =
    length-append (word_bytes w) (words_bytes words) ∙ omega (arith, length-word_bytes w, length-words_bytes words)

pub AreBytes-words_bytes : (words : List ℕ) → AreBytes (words_bytes words)
AreBytes-words_bytes [] = All-nil IsByte
AreBytes-words_bytes (w ∷ words) =
    All-append IsByte (word_bytes w) (words_bytes words) (AreBytes-word_bytes w) (AreBytes-words_bytes words)

take-first : (w : ℕ) (rest : List ℕ) → take 8 (word_bytes w ++ rest) ≡ word_bytes w
take-first w rest = take_at (word_bytes w) rest 8 (length-word_bytes w)

drop-first : (w : ℕ) (rest : List ℕ) → drop 8 (word_bytes w ++ rest) ≡ rest
drop-first w rest = drop_at (word_bytes w) rest 8 (length-word_bytes w)

-- the word at each place of the bytes of words
pub word_at-words_bytes : (words : List ℕ) (i : ℕ) → AreWords words → i < length words
    → word_at (words_bytes words) (8 * i) ≡ get_or words i 0
word_at-words_bytes [] i fits inside = absurd (omega arith)
word_at-words_bytes (w ∷ words) zero fits inside =
    ap word_of (take-first w (words_bytes words)) ∙ word_of-word_bytes w (All-head IsWord w words fits)
word_at-words_bytes (w ∷ words) (suc i) fits inside =
    let along : drop (8 * suc i) (word_bytes w ++ words_bytes words) ≡ drop (8 * i) (words_bytes words) =
    ap (λ n. drop n (word_bytes w ++ words_bytes words)) (omega arith)
    ∙ sym (drop-drop (8 * i) 8 (word_bytes w ++ words_bytes words))
    ∙ ap (drop (8 * i)) (drop-first w (words_bytes words)) in
    ap (λ bytes. word_of (take 8 bytes)) along
    ∙ word_at-words_bytes words i (All-tail IsWord w words fits) (omega arith)

-- words with the same bytes are the same words
pub same_words : (xs ys : List ℕ) → AreWords xs → AreWords ys → words_bytes xs ≡ words_bytes ys → xs ≡ ys
same_words [] [] xs_fit ys_fit same = refl
same_words [] (y ∷ ys) xs_fit ys_fit same = absurd (omega (arith, ap length same, length-words_bytes (y ∷ ys)))
same_words (x ∷ xs) [] xs_fit ys_fit same = absurd (omega (arith, ap length same, length-words_bytes (x ∷ xs)))
same_words (x ∷ xs) (y ∷ ys) xs_fit ys_fit same =
    let first : word_bytes x ≡ word_bytes y =
    sym (take-first x (words_bytes xs)) ∙ ap (take 8) same ∙ take-first y (words_bytes ys) in
    let others : words_bytes xs ≡ words_bytes ys =
    sym (drop-first x (words_bytes xs)) ∙ ap (drop 8) same ∙ drop-first y (words_bytes ys) in
    let head = same_word x y (All-head IsWord x xs xs_fit) (All-head IsWord y ys ys_fit) first in
    let tail = same_words xs ys (All-tail IsWord x xs xs_fit) (All-tail IsWord y ys ys_fit) others in
    cc

-- what a word leaves that is written over the eight bytes from a place
pub put_word : (at w n : ℕ) (old part : List ℕ) → n ≡ 8 → part ≡ word_bytes w ++ drop 8 (take n (drop at old))
    → put_mid at n old part ≡ take at old ++ word_bytes w ++ drop (at + 8) old
put_word at w n old part eight written =
    let whole : part ≡ word_bytes w =
    written ∙ ap (λ rest. word_bytes w ++ rest)
    (drop_all 8 (take n (drop at old)) (omega (arith, length-take n (drop at old)))) ∙ append-nil (word_bytes w) in
    let size : 8 ≡ length (word_bytes w) = sym (length-word_bytes w) in
    put_mid-paste at n old part (word_bytes w) 8 whole (sym eight) size
    ∙ ap (λ bytes. take at old ++ bytes ++ drop (at + 8) old) (take_all 8 (word_bytes w) (omega arith))

-- what is read from the eight bytes at a place is the word there
pub read_word : (bytes : List ℕ) (at n : ℕ) → n ≡ 8 → little_number 8 (take n (drop at bytes)) ≡ word_at bytes at
read_word bytes at n eight =
    little_number-word_of (take n (drop at bytes)) ∙ ap (λ k. word_of (take k (drop at bytes))) eight

-- the bytes of the word at a place are those that stand there
pub word_bytes-word_at : (bytes : List ℕ) (at : ℕ) → at + 8 ≤ length bytes → AreBytes bytes
    → word_bytes (word_at bytes at) ≡ take 8 (drop at bytes)
word_bytes-word_at bytes at inside small =
    word_bytes-word_of (take 8 (drop at bytes)) (omega (arith, length-take 8 (drop at bytes), length-drop at bytes))
    (All-take IsByte 8 (drop at bytes) (All-drop IsByte at bytes small))

-- words of which each is the word at its place have these bytes
pub words_bytes-read : (words bytes : List ℕ) → length bytes ≡ 8 * length words → AreBytes bytes
    → ((i : ℕ) → i < length words → get_or words i 0 ≡ word_at bytes (8 * i)) → words_bytes words ≡ bytes
words_bytes-read [] bytes as_many small each = sym (nil_from_length bytes as_many)
words_bytes-read (w ∷ words) bytes as_many small each =
    let first : word_bytes w ≡ take 8 bytes =
    ap word_bytes (each 0 (omega arith)) ∙ word_bytes-word_at bytes 0 (omega arith) small in
    let others : words_bytes words ≡ drop 8 bytes =
    words_bytes-read words (drop 8 bytes) (omega (arith, length-drop 8 bytes)) (All-drop IsByte 8 bytes small)
    (λ i inside. each (suc i) (omega arith)
    ∙ ap (λ rest. word_of (take 8 rest))
    (ap (λ n. drop n bytes) (omega arith) ∙ sym (drop-drop (8 * i) 8 bytes))) in
    ap (λ front. front ++ words_bytes words) first ∙ ap (λ rest. take 8 bytes ++ rest) others ∙ take-append-drop 8 bytes

-- the first eight bytes alone are read
pub little_number-word_at : (bytes : List ℕ) (at : ℕ) → little_number 8 (drop at bytes) ≡ word_at bytes at
little_number-word_at bytes at =
    sym (little_from-take 0 8 8 (drop at bytes) (omega arith)) ∙ little_number-word_of (take 8 (drop at bytes))

-- for `grind`, `search` and `simp`
pub ruleset word_laws = (
  length-word_bytes,
  word_of-word_bytes,
  word_bytes-word_of,
  length-words_bytes,
  word_at-words_bytes,
  AreBytes-word_bytes,
  AreBytes-words_bytes,
)

-- the bytes of two words
pub words_bytes-two : (first second : ℕ) → words_bytes (first ∷ second ∷ []) ≡ word_bytes first ++ word_bytes second
words_bytes-two first second = ap (λ (bytes : List ℕ). word_bytes first ++ bytes) (append-nil (word_bytes second))
