-- The words of a line, a byte further.
use Rattle.std.proofs.Common.{◌≡◌, ℕ, ◌+◌, ◌<◌, ◌≤◌, true, false, List, [], ◌∷◌, length, drop, get_or, sym, ap, ◌∙◌}
use Rattle.std.proofs.lemmas.List.{at_drop_more, at_drop_all}
use Rattle.std.proofs.lemmas.Bool.{cond-true, cond-false}
use Rattle.pr_text.specs.Words.{parts_words, is_quote, closes_quotes, words_from, plain_word, quoted_word}

-- ---- between words

pub words_from-skips : (line : List ℕ) (at : ℕ) → at < length line → parts_words (get_or line at 0) ≡ true
    → words_from at (drop at line) ≡ words_from (at + 1) (drop (at + 1) line)
unfolding words_from
words_from-skips line at inside parts = at_drop_more (words_from at) line at 0 inside ∙ cond-true _ _ _ parts

pub words_from-quoted : (line : List ℕ) (at : ℕ) → at < length line → parts_words (get_or line at 0) ≡ false
    → is_quote (get_or line at 0) ≡ true
    → words_from at (drop at line) ≡ quoted_word at (at + 1) (get_or line at 0) (drop (at + 1) line)
unfolding words_from
words_from-quoted line at inside parts quote =
    at_drop_more (words_from at) line at 0 inside ∙ cond-false _ _ _ parts ∙ cond-true _ _ _ quote

pub words_from-plain : (line : List ℕ) (at : ℕ) → at < length line → parts_words (get_or line at 0) ≡ false
    → is_quote (get_or line at 0) ≡ false → words_from at (drop at line) ≡ plain_word at (at + 1) (drop (at + 1) line)
unfolding words_from
words_from-plain line at inside parts quote =
    at_drop_more (words_from at) line at 0 inside ∙ cond-false _ _ _ parts ∙ cond-false _ _ _ quote

pub words_from-end : (line : List ℕ) (at : ℕ) → length line ≤ at → words_from at (drop at line) ≡ []
unfolding words_from
words_from-end line at past = at_drop_all (words_from at) line at past

-- ---- in a word without a quote

pub plain_word-goes_on : (line : List ℕ) (start at : ℕ) → at < length line → parts_words (get_or line at 0) ≡ false
    → plain_word start at (drop at line) ≡ plain_word start (at + 1) (drop (at + 1) line)
unfolding plain_word
plain_word-goes_on line start at inside parts =
    at_drop_more (plain_word start at) line at 0 inside ∙ cond-false _ _ _ parts

pub plain_word-ends : (line : List ℕ) (start at : ℕ) → at < length line → parts_words (get_or line at 0) ≡ true
    → plain_word start at (drop at line) ≡ record { start = start; end = at } ∷ words_from at (drop at line)
unfolding plain_word
plain_word-ends line start at inside parts =
    at_drop_more (plain_word start at) line at 0 inside ∙ cond-true _ _ _ parts
    ∙ ap (λ ws. record { start = start; end = at } ∷ ws) (sym (words_from-skips line at inside parts))

pub plain_word-end : (line : List ℕ) (start at : ℕ) → length line ≤ at
    → plain_word start at (drop at line) ≡ record { start = start; end = at } ∷ words_from at (drop at line)
unfolding plain_word
plain_word-end line start at past =
    at_drop_all (plain_word start at) line at past
    ∙ ap (λ ws. record { start = start; end = at } ∷ ws) (sym (words_from-end line at past))

-- ---- in quotes

pub quoted_word-goes_on : (line : List ℕ) (start at before : ℕ) → at < length line
    → closes_quotes before (get_or line at 0) ≡ false
    → quoted_word start at before (drop at line) ≡ quoted_word start (at + 1) (get_or line at 0) (drop (at + 1) line)
unfolding quoted_word
quoted_word-goes_on line start at before inside closes =
    at_drop_more (quoted_word start at before) line at 0 inside ∙ cond-false _ _ _ closes

pub quoted_word-ends : (line : List ℕ) (start at before : ℕ) → at < length line
    → closes_quotes before (get_or line at 0) ≡ true
    → quoted_word start at before (drop at line)
    ≡ record { start = start; end = at + 1 } ∷ words_from (at + 1) (drop (at + 1) line)
unfolding quoted_word
quoted_word-ends line start at before inside closes =
    at_drop_more (quoted_word start at before) line at 0 inside ∙ cond-true _ _ _ closes

pub quoted_word-end : (line : List ℕ) (start at before : ℕ) → length line ≤ at
    → quoted_word start at before (drop at line) ≡ record { start = start; end = at } ∷ words_from at (drop at line)
unfolding quoted_word
quoted_word-end line start at before past =
    at_drop_all (quoted_word start at before) line at past
    ∙ ap (λ ws. record { start = start; end = at } ∷ ws) (sym (words_from-end line at past))

-- for the functions that scan a line
pub ruleset word_steps = (
  words_from-skips,
  words_from-quoted,
  words_from-plain,
  words_from-end,
  plain_word-goes_on,
  plain_word-ends,
  plain_word-end,
  quoted_word-goes_on,
  quoted_word-ends,
  quoted_word-end,
)
