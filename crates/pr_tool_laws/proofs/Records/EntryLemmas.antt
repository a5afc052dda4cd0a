use Rattle.std.proofs.Common.{◌≡◌, ◌*◌, ◌^◌, ◌<◌, ◌≤◌, ℕ, List, [], ◌∷◌, ◌++◌, length, drop, map, All, Some, None, Ok, refl, sym, ap, ◌∙◌, arith, length-append}
use Rattle.std.specs.List.{flat_map}
use Rattle.std.proofs.lemmas.List.{drop_at, take_at}
use Rattle.std.proofs.lemmas.List.Elements.{All-head, All-tail}
use Rattle.pr_codec.proofs.WordLemmas.{length-word_bytes, length-words_bytes, word_of-word_bytes}
use Rattle.pr_codec.specs.Words.{word_at}
use Rattle.pr_num.specs.Records.{Range, entries_words}
use Rattle.pr_num.specs.Words.{IsWord, word_bytes, word_of, words_bytes}
use Rattle.pr_rec.proofs.ReadLemmas.{front_words-words_bytes, record_read-whole, words_bytes-append}
use Rattle.pr_rec.proofs.RecordLemmas.{AreRanged, AreWords-ranged, TakeWords, first_out-ranged}
use Rattle.pr_rec.specs.Fields.{front_words}
use Rattle.pr_rec.specs.Reading.{record_read}
use Rattle.pr_tools.specs.Entries.{entries_from}

-- Records one after the other are read back.

-- what is made of each of the words of values is made of each value
pub lines-alike : {T A : Type 0} (f : T → List ℕ) (g : List ℕ → List A) (line : T → List A) (P : T → Type 0)
    → ((x : T) → P x → g (f x) ≡ line x) → (xs : List T) → All P xs → flat_map g (map f xs) ≡ flat_map line xs
lines-alike f g line P each [] all = refl
lines-alike f g line P each (x ∷ xs) all =
    ap (λ front. front ++ flat_map g (map f xs)) (each x (All-head P x xs all))
    ∙ ap (λ rest. line x ++ rest) (lines-alike f g line P each xs (All-tail P x xs all))

module _ {T : Type 0} (f : T → List ℕ) (ranges : List Range) (size : (x : T) → length (f x) ≡ length ranges)
    (take_words : TakeWords ranges) (P : T → Type 0) (ranged : (x : T) → P x → AreRanged ranges (f x)) where
  -- one record, whatever follows it
  pub record-back : (x : T) (more : List ℕ) → P x → record_read ranges (words_bytes (f x) ++ more) ≡ Ok (f x)
  record-back x more p =
      let fit : All IsWord (f x) = AreWords-ranged ranges (f x) take_words (ranged x p) (size x) in
      let front = front_words-words_bytes (f x) more fit in
      let enough : 8 * length ranges ≤ length (words_bytes (f x) ++ more) =
      omega (arith, length-append (words_bytes (f x)) more, length-words_bytes (f x), size x) in
      record_read-whole ranges (words_bytes (f x) ++ more) (f x) None enough
      (sym (ap (λ (n : ℕ). front_words n (words_bytes (f x) ++ more)) (sym (size x))
      ∙ front)) (sym (first_out-ranged ranges (f x) 0 (ranged x p)))

  pub entries-back : (xs : List T) → All P xs
      → entries_from ranges (length xs) (words_bytes (entries_words (map f xs))) ≡ Some (map f xs)
  unfolding entries_from
  entries-back [] all = refl
  entries-back (x ∷ xs) all =
      let rest = words_bytes (entries_words (map f xs)) in
      let apart : words_bytes (f x ++ entries_words (map f xs)) ≡ words_bytes (f x) ++ rest =
      words_bytes-append (f x) (entries_words (map f xs)) in
      let first : record_read ranges (words_bytes (f x ++ entries_words (map f xs))) ≡ Ok (f x) =
      ap (record_read ranges) apart ∙ record-back x rest (All-head P x xs all) in
      let whole : length (words_bytes (f x)) ≡ 8 * length ranges =
      length-words_bytes (f x) ∙ ap (λ (n : ℕ). 8 * n) (size x) in
      let others : drop (8 * length ranges) (words_bytes (f x ++ entries_words (map f xs))) ≡ rest =
      ap (drop (8 * length ranges)) apart ∙ drop_at (words_bytes (f x)) rest (8 * length ranges) whole in
      rw (first, others, entries-back xs (All-tail P x xs all)) refl

-- ---- the number before the statuses of lwps

pub number-back : (n : ℕ) (words : List ℕ) → n < 2 ^ 64 → word_at (words_bytes (n ∷ words)) 0 ≡ n
number-back n words small =
    ap word_of (take_at (word_bytes n) (words_bytes words) 8 (length-word_bytes n)) ∙ word_of-word_bytes n small

pub behind-number : (n : ℕ) (words : List ℕ) → drop 8 (words_bytes (n ∷ words)) ≡ words_bytes words
behind-number n words = drop_at (word_bytes n) (words_bytes words) 8 (length-word_bytes n)
