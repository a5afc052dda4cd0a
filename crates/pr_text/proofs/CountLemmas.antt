-- A line has no more words than bytes.
use Rattle.std.proofs.Common.{ℕ, ◌+◌, ◌≤◌, Bool, true, false, cond, List, [], ◌∷◌, length, arith}
use Rattle.std.proofs.lemmas.List.{length-map}
use Rattle.pr_text.specs.Words.{parts_words, is_quote, closes_quotes, words_from, plain_word, quoted_word, words_of, text_of, texts_of}
use Rattle.pr_text.specs.declared.spans.Word.{Word}

either : (b : Bool) (xs ys : List Word) (n : ℕ) → length xs ≤ n → length ys ≤ n → length (cond b xs ys) ≤ n
either true xs ys n h k = h
either false xs ys n h k = k

mutual
  unfolding words_from plain_word quoted_word

  few_from : (at : ℕ) (bs : List ℕ) → length (words_from at bs) ≤ length bs
  few_from at [] = omega arith
  few_from at (b ∷ bs) =
      let rest = few_from (at + 1) bs in
      let plain = few_plain at (at + 1) bs in
      let quoted = few_quoted at (at + 1) b bs in
      either (parts_words b) (words_from (at + 1) bs)
      (cond (is_quote b) (quoted_word at (at + 1) b bs) (plain_word at (at + 1) bs)) (length (b ∷ bs)) (omega arith)
      (either (is_quote b) (quoted_word at (at + 1) b bs) (plain_word at (at + 1) bs) (length (b ∷ bs))
      (omega arith) (omega arith))

  few_plain : (start at : ℕ) (bs : List ℕ) → length (plain_word start at bs) ≤ length bs + 1
  few_plain start at [] = omega arith
  few_plain start at (b ∷ bs) =
      let rest = few_from (at + 1) bs in
      let more = few_plain start (at + 1) bs in
      either (parts_words b) (record { start = start; end = at } ∷ words_from (at + 1) bs)
      (plain_word start (at + 1) bs) (length (b ∷ bs) + 1) (omega arith) (omega arith)

  few_quoted : (start at before : ℕ) (bs : List ℕ) → length (quoted_word start at before bs) ≤ length bs + 1
  few_quoted start at before [] = omega arith
  few_quoted start at before (b ∷ bs) =
      let rest = few_from (at + 1) bs in
      let more = few_quoted start (at + 1) b bs in
      either (closes_quotes before b) (record { start = start; end = at + 1 } ∷ words_from (at + 1) bs)
      (quoted_word start (at + 1) b bs) (length (b ∷ bs) + 1) (omega arith) (omega arith)

pub few_texts : (line : List ℕ) → length (texts_of line) ≤ length line
few_texts line = omega (arith, length-map (words_of line) (text_of line), few_from 0 line)
