-- What holds of each record: its ranges, and that its words are of one value.
use Rattle.std.proofs.Common.{◌≡◌, ◌↔◌, ◌+◌, ◌*◌, ◌^◌, ◌≤◌, ℕ, zero, suc, Bool, true, false, cond, ltb, List, [], ◌∷◌, ◌++◌, length, take, drop, replicate, get_or, All, Option, None, Some, Result, Ok, Err, IfOk, IfErr, refl, sym, ap, subst, ◌∙◌, arith, ltb-false, length-drop, length-take, ⊎_elim}
use Rattle.std.proofs.lemmas.Bool.{lt-ltb, ltb-true, cases_lt}
use Rattle.std.proofs.lemmas.List.Elements.{All-nil, All-cons, All-take, All-drop, All-get_or}
use Rattle.std.proofs.Math.Seq.{take-add}
use Rattle.pr_num.specs.Words.{IsByte, IsWord, word_bytes, words_bytes, word_of}
use Rattle.pr_num.specs.Records.{Range, below, first_out_from, first_out_of_range, any_word, EncodesRecord}
use Rattle.pr_codec.proofs.MessageLemmas.{each_of, each_of-elements}
use Rattle.pr_codec.proofs.WordLemmas.{word_bytes-word_of, word_of-below, length-words_bytes}
use Rattle.pr_rec.proofs.ReadLemmas.{words-front_words, front_words-take, record_read-whole}
use Rattle.pr_rec.specs.Fields.{front_words}
use Rattle.pr_rec.specs.Reading.{BeginsWith, unless_out, record_read}
use Rattle.pr_rec.specs.InRange.{IsNameField}
use Rattle.pr_rec.specs.declared.faults.RecFault.{RecFault}
use Rattle.pr_rec.specs.declared.faults.RecFault.TheVariants.{Short}
use Rattle.std.proofs.lemmas.List.{take_all, take_at, length-append, get_or_past}

-- ---- words in ranges

-- every word is in its range, and there are as many
abbrev pub AreRanged : List Range → List ℕ → Type 0
AreRanged [] ws = Unit {0}
AreRanged (r ∷ rs) [] = ⊥
AreRanged (r ∷ rs) (w ∷ ws) = (r w ≡ true) × AreRanged rs ws

pub first_out-ranged : (rs : List Range) (ws : List ℕ) (at : ℕ) → AreRanged rs ws → first_out_from at rs ws ≡ None
first_out-ranged [] ws at ranged = refl
first_out-ranged (r ∷ rs) [] at ranged = absurd ranged
first_out-ranged (r ∷ rs) (w ∷ ws) at ranged = rw ranged.0 (first_out-ranged rs ws (at + 1) ranged.1)

found-none : (b : Bool) (rest : Option ℕ) (at : ℕ) → cond b rest (Some at) ≡ None → (b ≡ true) × (rest ≡ None)
found-none true rest at e = (refl, e)
found-none false rest at e = (cc, cc)

-- where none is found out of its range, all are in theirs
pub ranged-first_out : (rs : List Range) (ws : List ℕ) (at : ℕ) → length ws ≡ length rs → first_out_from at rs ws ≡ None
    → AreRanged rs ws
ranged-first_out [] ws at many none = tt
ranged-first_out (r ∷ rs) [] at many none = absurd (omega arith)
ranged-first_out (r ∷ rs) (w ∷ ws) at many none =
    let here = found-none (r w) (first_out_from (at + 1) rs ws) at none in
    (here.0, ranged-first_out rs ws (at + 1) (omega arith) here.1)

same_Ok : (xs ys : List ℕ) → (let r : Result (List ℕ) RecFault = Ok xs in r ≡ Ok ys) → xs ≡ ys
same_Ok xs ys e = cc

ok-err : (xs : List ℕ) (fault : RecFault) → (let r : Result (List ℕ) RecFault = Ok xs in r ≡ Err fault) → ⊥
ok-err xs fault e = cc

-- the elements of a list of so many
pub elements_of : (n : ℕ) (xs : List ℕ) → length xs ≡ n → each_of n (λ k. get_or xs k 0) ≡ xs
elements_of n xs size =
    ap (λ m. each_of m (λ k. get_or xs k 0)) (sym size) ∙ each_of-elements xs (λ k. get_or xs k 0) (λ k inside. refl)

-- the range of a place
abbrev pub range_at : List Range → ℕ → Range
range_at [] i = λ _. true
range_at (r ∷ rs) zero = r
range_at (r ∷ rs) (suc i) = range_at rs i

pub AreRanged-at : (rs : List Range) (ws : List ℕ) (i : ℕ) → AreRanged rs ws → range_at rs i (get_or ws i 0) ≡ true
AreRanged-at [] ws i ranged = refl
AreRanged-at (r ∷ rs) [] i ranged = absurd ranged
AreRanged-at (r ∷ rs) (w ∷ ws) zero ranged = ranged.0
AreRanged-at (r ∷ rs) (w ∷ ws) (suc i) ranged = AreRanged-at rs ws i ranged.1

-- every test of these takes words alone
abbrev pub TakeWords : List Range → Type 0
TakeWords [] = Unit {0}
TakeWords (r ∷ rs) = ((w : ℕ) → r w ≡ true → IsWord w) × TakeWords rs

pub AreWords-ranged : (rs : List Range) (ws : List ℕ) → TakeWords rs → AreRanged rs ws → length ws ≡ length rs
    → All IsWord ws
AreWords-ranged [] [] take ranged size = All-nil IsWord
AreWords-ranged [] (w ∷ ws) take ranged size = absurd (omega arith)
AreWords-ranged (r ∷ rs) [] take ranged size = absurd ranged
AreWords-ranged (r ∷ rs) (w ∷ ws) take ranged size =
    All-cons IsWord w ws (take.0 w ranged.0) (AreWords-ranged rs ws take.1 ranged.1 (omega arith))

-- the words after the first are in the ranges after the first
pub AreRanged-drop : (n : ℕ) (rs : List Range) (ws : List ℕ) → AreRanged rs ws → AreRanged (drop n rs) (drop n ws)
AreRanged-drop zero rs ws ranged = ranged
AreRanged-drop (suc n) [] ws ranged = tt
AreRanged-drop (suc n) (r ∷ rs) [] ranged = absurd ranged
AreRanged-drop (suc n) (r ∷ rs) (w ∷ ws) ranged = AreRanged-drop n rs ws ranged.1

length-front_words : (n : ℕ) (bytes : List ℕ) → length (front_words n bytes) ≡ n
length-front_words zero bytes = refl
length-front_words (suc n) bytes = ap suc (length-front_words n (drop 8 bytes))

-- what was read is in its ranges
pub read-ranged : (rs : List Range) (bytes ws : List ℕ) → record_read rs bytes ≡ Ok ws → AreRanged rs ws
unfolding record_read
read-ranged rs bytes ws read = by (ltb (length bytes) (8 * length rs)) read
  where
    found : (o : Option ℕ) → first_out_of_range rs (front_words (length rs) bytes) ≡ o
        → unless_out (front_words (length rs) bytes) o ≡ Ok ws → AreRanged rs ws
    found None e same =
        let words : front_words (length rs) bytes ≡ ws = cc in
        subst (AreRanged rs) words
        (ranged-first_out rs (front_words (length rs) bytes) 0 (length-front_words (length rs) bytes) e)
    found (Some place) e same = absurd cc

    by : (b : Bool)
        → cond b (Err Short)
        (unless_out (front_words (length rs) bytes) (first_out_of_range rs (front_words (length rs) bytes))) ≡ Ok ws
        → AreRanged rs ws
    by true e = absurd cc
    by false e = found _ refl e

pub read-at : (rs : List Range) (bytes ws : List ℕ) (i : ℕ) → record_read rs bytes ≡ Ok ws
    → range_at rs i (get_or ws i 0) ≡ true
read-at rs bytes ws i read = AreRanged-at rs ws i (read-ranged rs bytes ws read)

-- ---- bytes that begin with a record

-- the bytes of the words at the front are those that stand there
pub words_bytes-front_words : (n : ℕ) (bytes : List ℕ) → All IsByte bytes → 8 * n ≤ length bytes
    → words_bytes (front_words n bytes) ≡ take (8 * n) bytes
words_bytes-front_words zero bytes small enough = refl
words_bytes-front_words (suc n) bytes small enough =
    let first : word_bytes (word_of (take 8 bytes)) ≡ take 8 bytes =
    word_bytes-word_of (take 8 bytes) (omega (arith, length-take 8 bytes)) (All-take IsByte 8 bytes small) in
    let others =
    words_bytes-front_words n (drop 8 bytes) (All-drop IsByte 8 bytes small) (omega (arith, length-drop 8 bytes)) in
    ap (λ front. front ++ words_bytes (front_words n (drop 8 bytes))) first ∙ ap (λ rest. take 8 bytes ++ rest) others
    ∙ sym (take-add 8 (8 * n) bytes) ∙ ap (λ (k : ℕ). take k bytes) (omega arith)

-- words in their ranges are encoded by their bytes
pub ranged-encodes : (ranges : List Range) (words bytes : List ℕ) → length words ≡ length ranges
    → AreRanged ranges words → bytes ≡ words_bytes words → EncodesRecord ranges bytes words
ranged-encodes ranges words bytes size ranged encoded =
    record { count = size; ranged = first_out-ranged ranges words 0 ranged; encoded = encoded }

-- and bytes that begin with theirs begin with the record
pub ranged-begins : (ranges : List Range) (words bytes more : List ℕ) → length words ≡ length ranges
    → AreRanged ranges words → bytes ≡ words_bytes words ++ more → BeginsWith ranges bytes words
ranged-begins ranges words bytes more size ranged encoded =
    let whole : length (words_bytes words) ≡ 8 * length ranges =
    length-words_bytes words ∙ ap (λ (n : ℕ). 8 * n) size in
    let first : take (8 * length ranges) bytes ≡ words_bytes words =
    ap (take (8 * length ranges)) encoded ∙ take_at (words_bytes words) more (8 * length ranges) whole in
    record {
      enough = omega (arith, ap length encoded, length-append (words_bytes words) more);
      encoded = ranged-encodes ranges words (take (8 * length ranges) bytes) size ranged first;
    }

module _ (ranges : List Range) (take_words : TakeWords ranges) (bytes : List ℕ) where
  -- what was read stands there
  record WasRead (ws : List ℕ) : Type 0 where
    enough : 8 * length ranges ≤ length bytes
    words : ws ≡ front_words (length ranges) bytes
    none : first_out_of_range ranges ws ≡ None

  was_read : (ws : List ℕ) → record_read ranges bytes ≡ Ok ws → WasRead ws
  unfolding record_read
  was_read ws read = by (ltb (length bytes) (8 * length ranges)) refl read
    where
      found : 8 * length ranges ≤ length bytes → (o : Option ℕ)
          → first_out_of_range ranges (front_words (length ranges) bytes) ≡ o
          → unless_out (front_words (length ranges) bytes) o ≡ Ok ws → WasRead ws
      found enough None e same =
          let words : ws ≡ front_words (length ranges) bytes = cc in
          record { enough = enough; words = words; none = ap (first_out_of_range ranges) words ∙ e }
      found enough (Some place) e same = absurd cc

      by : (b : Bool) → ltb (length bytes) (8 * length ranges) ≡ b
          → cond b (Err Short)
          (unless_out (front_words (length ranges) bytes)
          (first_out_of_range ranges (front_words (length ranges) bytes))) ≡ Ok ws → WasRead ws
      by true is e = absurd cc
      by false is e = found (ltb-false _ _ is) _ refl e

  pub read-begins : (ws : List ℕ) → All IsByte bytes → record_read ranges bytes ≡ Ok ws → BeginsWith ranges bytes ws
  read-begins ws small read =
      let was = was_read ws read in
      let size : length ws ≡ length ranges = ap length was.words ∙ length-front_words (length ranges) bytes in
      record {
        enough = was.enough;
        encoded = record {
          count = size;
          ranged = was.none;
          encoded =
              sym (words_bytes-front_words (length ranges) bytes small was.enough) ∙ ap words_bytes (sym was.words);
        };
      }

  begins-read : (ws : List ℕ) → BeginsWith ranges bytes ws → record_read ranges bytes ≡ Ok ws
  begins-read ws begins =
      let encoded = begins.encoded in
      let ranged = ranged-first_out ranges ws 0 encoded.count encoded.ranged in
      let front : ws ≡ front_words (length ranges) bytes =
      words-front_words ws (take (8 * length ranges) bytes) (length ranges) (sym encoded.encoded) encoded.count
      (AreWords-ranged ranges ws take_words ranged encoded.count)
      ∙ front_words-take (length ranges) (8 * length ranges) bytes (omega arith) in
      record_read-whole ranges bytes ws None begins.enough front (sym encoded.ranged)

  -- A record is decoded exactly where the bytes begin with it. `IsWhole` says which values there are.
  module _ {T : Type 0} (words_of : T → List ℕ) (IsWhole : T → Type 0)
      (one_value : (x y : T) → IsWhole x → IsWhole y → words_of x ≡ words_of y → x ≡ y) (small : All IsByte bytes) where
    pub decoded : (r : Result T RecFault) → IfOk r (λ x. record_read ranges bytes ≡ Ok (words_of x))
        → IfErr r (λ fault. record_read ranges bytes ≡ Err fault) → IfOk r IsWhole → (x : T)
        → (r ≡ Ok x) ↔ (IsWhole x × BeginsWith ranges bytes (words_of x))
    decoded (Ok y) read bad whole x = (to, from)
      where
        to : (let r : Result T RecFault = Ok y in r ≡ Ok x) → IsWhole x × BeginsWith ranges bytes (words_of x)
        to e =
            let same : y ≡ x = cc in
            (subst IsWhole same whole, read-begins (words_of x) small (read ∙ ap (λ z. Ok (words_of z)) same))

        from : IsWhole x × BeginsWith ranges bytes (words_of x) → (let r : Result T RecFault = Ok y in r ≡ Ok x)
        from h =
            let words : words_of y ≡ words_of x = same_Ok _ _ (sym read ∙ begins-read (words_of x) h.1) in
            ap Ok (one_value y x whole h.0 words)
    decoded (Err fault) read bad whole x =
        (λ e. absurd cc, λ h. absurd (ok-err _ _ (sym (begins-read (words_of x) h.1) ∙ bad)))

-- ---- what the lemmas of each record are made of

-- what holds of every word below a bound, and of any word
pub below-word : (bound : ℕ) → bound ≤ 2 ^ 64 → (w : ℕ) → below bound w ≡ true → IsWord w
below-word bound small w e = omega (arith, ltb-true w bound e)

pub any-word : (w : ℕ) → any_word w ≡ true → IsWord w
any-word w e = ltb-true w (2 ^ 64) e

pub word-any : (w : ℕ) → IsWord w → any_word w ≡ true
word-any w small = lt-ltb w (2 ^ 64) small

-- an element of words, and what stands past their end, is a word
pub element-word : (ws : List ℕ) → All IsWord ws → (i : ℕ) → any_word (get_or ws i 0) ≡ true
element-word ws fit i =
    word-any _
    (⊎_elim (λ inside. All-get_or IsWord ws i 0 inside fit) (λ past. rw (get_or_past ws i 0 past) (omega arith))
    (cases_lt i (length ws)))

-- the first words of bytes are words
pub front_words-ranged : (n : ℕ) (bytes : List ℕ) → All IsByte bytes
    → AreRanged (replicate n any_word) (front_words n bytes)
front_words-ranged zero bytes small = tt
front_words-ranged (suc n) bytes small = (
  word-any _ (word_of-below (take 8 bytes) (All-take IsByte 8 bytes small)),
  front_words-ranged n (drop 8 bytes) (All-drop IsByte 8 bytes small),
)

-- two names with the same words are the same
pub same_name : (a b : List ℕ) → IsNameField a → IsNameField b → front_words 4 a ≡ front_words 4 b → a ≡ b
same_name a b a_whole b_whole e =
    let back : (n : List ℕ) → IsNameField n → words_bytes (front_words 4 n) ≡ n =
    λ n whole. words_bytes-front_words 4 n whole.bytes (omega (arith, whole.whole))
    ∙ take_all 32 n (omega (arith, whole.whole)) in
    sym (back a a_whole) ∙ ap words_bytes e ∙ back b b_whole
