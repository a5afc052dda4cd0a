-- The words of a line divide it, and nothing else does.
use Rattle.std.proofs.Common.{◌≡◌, ℕ, zero, suc, ◌+◌, ◌<◌, ◌≤◌, Bool, true, false, List, [], ◌∷◌, length, drop, slice_index, refl, sym, ap, subst, ◌∙◌, ◌⊎◌, inl, inr, ⊎_elim, arith}
use Rattle.std.proofs.lemmas.Bool.{cases_lt, cases_Bool, eqb-true, false≢true}
use Rattle.std.proofs.lemmas.List.Elements.{All-nil, All-cons, All-weaker}
use Rattle.std.specs.List.{All, Any, AllPairs}
use Rattle.pr_text.specs.declared.spans.Word.{Word}
use Rattle.pr_text.specs.Words.{parts_words, is_quote, closes_quotes, words_from, plain_word, quoted_word, words_of}
use Rattle.pr_text.specs.Division.{OnlyParts, IsPlainWord, IsQuotedWord, DividesFrom, StandsIn, IsIn, IsBefore}
use Rattle.pr_text.proofs.WordSteps.{words_from-skips, words_from-quoted, words_from-plain, words_from-end, plain_word-goes_on, plain_word-ends, plain_word-end, quoted_word-goes_on, quoted_word-ends, quoted_word-end}

-- a word without a quote, read up to a place
pub record IsPlainSoFar (line : List ℕ) (start at : ℕ) : Type 0 where
  some : start < at
  inside : at ≤ length line
  unquoted : is_quote (slice_index line start) ≡ false
  run : (k : ℕ) → start ≤ k → k < at → parts_words (slice_index line k) ≡ false

-- a quoted word, read up to a place and still open; `before` is the byte before the place
pub record IsQuotedSoFar (line : List ℕ) (start at before : ℕ) : Type 0 where
  inside : at ≤ length line
  quoted : is_quote (slice_index line start) ≡ true
  last : ℕ
  after : start ≤ last
  next : last + 1 ≡ at
  byte : before ≡ slice_index line last
  unclosed : (k : ℕ) → start ≤ k → k + 1 < at → closes_quotes (slice_index line k) (slice_index line (k + 1)) ≡ false

-- what the three readers give from any place with at most n bytes left
pub record Divides (line : List ℕ) (n : ℕ) : Type 0 where
  between : (at : ℕ) → length line ≤ at + n → DividesFrom line at (words_from at (drop at line))
  plain : (start at : ℕ) → length line ≤ at + n → IsPlainSoFar line start at
      → DividesFrom line start (plain_word start at (drop at line))
  quoted : (start at before : ℕ) → length line ≤ at + n → IsQuotedSoFar line start at before
      → DividesFrom line start (quoted_word start at before (drop at line))

nothing_left : (line : List ℕ) (at : ℕ) → length line ≤ at → DividesFrom line at (words_from at (drop at line))
nothing_left line at past =
    subst (DividesFrom line at) (sym (words_from-end line at past)) (λ k after inside. absurd (omega arith))

-- one place more before
parts_before : (line : List ℕ) (at to : ℕ) → parts_words (slice_index line at) ≡ true → OnlyParts line (at + 1) to
    → OnlyParts line at to
parts_before line at to parts rest k after inside =
    ⊎_elim (λ (beyond : at < k). rest k (omega arith) inside)
    (λ (within : k ≤ at). subst (λ j. parts_words (slice_index line j) ≡ true) {x = at} {y = k} (omega arith) parts)
    (cases_lt at k)

-- a blank, a tab or a comma before the rest
skipped : (line : List ℕ) (at : ℕ) (ws : List Word) → parts_words (slice_index line at) ≡ true
    → DividesFrom line (at + 1) ws → DividesFrom line at ws
skipped line at [] parts rest = parts_before line at (length line) parts rest
skipped line at (w ∷ ws) parts rest = (omega (arith, rest.0), parts_before line at w.start parts rest.1, rest.2, rest.3)

-- a word, and the rest after it
first : (line : List ℕ) (w : Word) (ws : List Word) → (IsPlainWord line w ⊎ IsQuotedWord line w)
    → DividesFrom line w.end ws → DividesFrom line w.start (w ∷ ws)
first line w ws is rest = (omega arith, (λ k after before. absurd (omega arith)), is, rest)

-- ---- no byte is left

plain_at_end : (line : List ℕ) (start at : ℕ) → length line ≤ at → IsPlainSoFar line start at
    → DividesFrom line start (plain_word start at (drop at line))
plain_at_end line start at past so_far =
    let w : Word = record { start = start; end = at } in
    let is : IsPlainWord line w = record {
      some = so_far.some;
      inside = so_far.inside;
      unquoted = so_far.unquoted;
      run = so_far.run;
      longest = λ short. absurd (omega (arith, short));
    } in
    subst (DividesFrom line start) (sym (plain_word-end line start at past))
    (first line w _ (inl is) (nothing_left line at past))

quoted_at_end : (line : List ℕ) (start at before : ℕ) → length line ≤ at → IsQuotedSoFar line start at before
    → DividesFrom line start (quoted_word start at before (drop at line))
quoted_at_end line start at before past so_far =
    let w : Word = record { start = start; end = at } in
    let is : IsQuotedWord line w = record {
      some = omega (arith, so_far.after, so_far.next);
      inside = so_far.inside;
      quoted = so_far.quoted;
      unclosed = λ k after within. so_far.unclosed k after (omega (arith, within));
      closed = λ short. absurd (omega (arith, short));
    } in
    subst (DividesFrom line start) (sym (quoted_word-end line start at before past))
    (first line w _ (inr is) (nothing_left line at past))

-- ---- a byte more

plain_more : (line : List ℕ) (start at : ℕ) → at < length line → parts_words (slice_index line at) ≡ false
    → IsPlainSoFar line start at → IsPlainSoFar line start (at + 1)
plain_more line start at inside parts so_far = record {
  some = omega (arith, so_far.some);
  inside = omega arith;
  unquoted = so_far.unquoted;
  run = λ k after within.
      ⊎_elim (λ (earlier : k < at). so_far.run k after earlier)
      (λ (last : at ≤ k). subst (λ j. parts_words (slice_index line j) ≡ false) {x = at} {y = k} (omega arith) parts)
      (cases_lt k at);
}

plain_ended : (line : List ℕ) (start at : ℕ) (ws : List Word) → at < length line
    → parts_words (slice_index line at) ≡ true → IsPlainSoFar line start at → DividesFrom line (at + 1) ws
    → DividesFrom line start (record { start = start; end = at } ∷ ws)
plain_ended line start at ws inside parts so_far rest =
    let w : Word = record { start = start; end = at } in
    let is : IsPlainWord line w = record {
      some = so_far.some;
      inside = so_far.inside;
      unquoted = so_far.unquoted;
      run = so_far.run;
      longest = λ short. parts;
    } in
    first line w ws (inl is) (skipped line at ws parts rest)

-- a quote at a place closes as the byte before it says
closes_there : (line : List ℕ) (k at before : ℕ) (t : Bool) → before ≡ slice_index line k → k + 1 ≡ at
    → closes_quotes before (slice_index line at) ≡ t → closes_quotes (slice_index line k) (slice_index line (k + 1)) ≡ t
closes_there line k at before t byte next closes =
    ap (λ b. closes_quotes b (slice_index line (k + 1))) (sym byte)
    ∙ ap (λ j. closes_quotes before (slice_index line j)) next ∙ closes

quoted_more : (line : List ℕ) (start at before : ℕ) → at < length line
    → closes_quotes before (slice_index line at) ≡ false → IsQuotedSoFar line start at before
    → IsQuotedSoFar line start (at + 1) (slice_index line at)
quoted_more line start at before inside closes so_far = record {
  inside = omega arith;
  quoted = so_far.quoted;
  last = at;
  after = omega (arith, so_far.after, so_far.next);
  next = refl;
  byte = refl;
  unclosed =
      λ k after within.
      ⊎_elim (λ (earlier : k + 1 < at). so_far.unclosed k after earlier)
      (λ (later : at ≤ k + 1).
      closes_there line k at before false
      (so_far.byte ∙ ap (slice_index line) {x = so_far.last} {y = k} (omega (arith, so_far.next))) (omega arith) closes)
      (cases_lt (k + 1) at);
}

quoted_ended : (line : List ℕ) (start at before : ℕ) (ws : List Word) → at < length line
    → closes_quotes before (slice_index line at) ≡ true → IsQuotedSoFar line start at before
    → DividesFrom line (at + 1) ws → DividesFrom line start (record { start = start; end = at + 1 } ∷ ws)
quoted_ended line start at before ws inside closes so_far rest =
    let w : Word = record { start = start; end = at + 1 } in
    let is : IsQuotedWord line w = record {
      some = omega (arith, so_far.after, so_far.next);
      inside = omega arith;
      quoted = so_far.quoted;
      unclosed = λ k after within. so_far.unclosed k after (omega (arith, within));
      closed =
          λ short. (
            so_far.last,
            so_far.after,
            omega (arith, so_far.next),
            closes_there line so_far.last at before true so_far.byte so_far.next closes,
          );
    } in
    first line w ws (inr is) rest

-- ---- the three readers, by the bytes that are left

between_more : (line : List ℕ) (n at : ℕ) → at < length line → length line ≤ at + suc n → Divides line n
    → DividesFrom line at (words_from at (drop at line))
between_more line n at inside left rest =
    let in_word : parts_words (slice_index line at) ≡ false → DividesFrom line at (words_from at (drop at line)) =
    λ word. ⊎_elim
    (λ (quote : is_quote (slice_index line at) ≡ true).
    subst (DividesFrom line at) (sym (words_from-quoted line at inside word quote))
    (rest.quoted at (at + 1) (slice_index line at) (omega arith)
    (record {
      inside = omega arith;
      quoted = quote;
      last = at;
      after = omega arith;
      next = refl;
      byte = refl;
      unclosed = λ k after within. absurd (omega (arith, after, within));
    })))
    (λ (plain : is_quote (slice_index line at) ≡ false).
    subst (DividesFrom line at) (sym (words_from-plain line at inside word plain))
    (rest.plain at (at + 1) (omega arith)
    (record {
      some = omega arith;
      inside = omega arith;
      unquoted = plain;
      run =
          λ k after within.
          subst (λ j. parts_words (slice_index line j) ≡ false) {x = at} {y = k} (omega (arith, after, within)) word;
    })))
    (cases_Bool (is_quote (slice_index line at))) in
    ⊎_elim (λ (parts : parts_words (slice_index line at) ≡ true).
    subst (DividesFrom line at) (sym (words_from-skips line at inside parts))
    (skipped line at _ parts (rest.between (at + 1) (omega arith)))) in_word
    (cases_Bool (parts_words (slice_index line at)))

plain_read : (line : List ℕ) (n start at : ℕ) → at < length line → length line ≤ at + suc n → Divides line n
    → IsPlainSoFar line start at → DividesFrom line start (plain_word start at (drop at line))
plain_read line n start at inside left rest so_far =
    ⊎_elim (λ (parts : parts_words (slice_index line at) ≡ true).
    subst (DividesFrom line start)
    (sym (plain_word-ends line start at inside parts
    ∙ ap (λ ws. record { start = start; end = at } ∷ ws) (words_from-skips line at inside parts)))
    (plain_ended line start at _ inside parts so_far (rest.between (at + 1) (omega arith))))
    (λ (word : parts_words (slice_index line at) ≡ false).
    subst (DividesFrom line start) (sym (plain_word-goes_on line start at inside word))
    (rest.plain start (at + 1) (omega arith) (plain_more line start at inside word so_far)))
    (cases_Bool (parts_words (slice_index line at)))

quoted_read : (line : List ℕ) (n start at before : ℕ) → at < length line → length line ≤ at + suc n → Divides line n
    → IsQuotedSoFar line start at before → DividesFrom line start (quoted_word start at before (drop at line))
quoted_read line n start at before inside left rest so_far =
    ⊎_elim (λ (closes : closes_quotes before (slice_index line at) ≡ true).
    subst (DividesFrom line start) (sym (quoted_word-ends line start at before inside closes))
    (quoted_ended line start at before _ inside closes so_far (rest.between (at + 1) (omega arith))))
    (λ (stays : closes_quotes before (slice_index line at) ≡ false).
    subst (DividesFrom line start) (sym (quoted_word-goes_on line start at before inside stays))
    (rest.quoted start (at + 1) (slice_index line at) (omega arith)
    (quoted_more line start at before inside stays so_far)))
    (cases_Bool (closes_quotes before (slice_index line at)))

divides : (line : List ℕ) (n : ℕ) → Divides line n
divides line zero = record {
  between = λ at left. nothing_left line at (omega (arith, left));
  plain = λ start at left. plain_at_end line start at (omega (arith, left));
  quoted = λ start at before left. quoted_at_end line start at before (omega (arith, left));
}
divides line (suc n) =
    let rest = divides line n in
    record {
      between =
          λ at left.
          ⊎_elim (λ (inside : at < length line). between_more line n at inside left rest) (nothing_left line at)
          (cases_lt at (length line));
      plain = λ start at left so_far.
          ⊎_elim (λ (inside : at < length line). plain_read line n start at inside left rest so_far)
          (λ past. plain_at_end line start at past so_far) (cases_lt at (length line));
      quoted =
          λ start at before left so_far.
          ⊎_elim (λ (inside : at < length line). quoted_read line n start at before inside left rest so_far)
          (λ past. quoted_at_end line start at before past so_far) (cases_lt at (length line));
    }

-- the words of a line divide it
pub words_of-divides : (line : List ℕ) → DividesFrom line 0 (words_of line)
words_of-divides line = (divides line (length line)).between 0 (omega arith)

-- ---- what follows for a line that is divided

-- a place whose byte parts no words is not among those where only such bytes stand
none_before : (line : List ℕ) (from to k : ℕ) → OnlyParts line from to → from ≤ k
    → parts_words (slice_index line k) ≡ false → to ≤ k
none_before line from to k parts after word =
    ⊎_elim (λ (before : k < to). absurd (false≢true (sym word ∙ parts k after before))) (λ (past : to ≤ k). past)
    (cases_lt k to)

-- a quote parts no words
quote_in_word : (b : ℕ) → is_quote b ≡ true → parts_words b ≡ false
quote_in_word b quote = subst (λ x. parts_words x ≡ false) {x = 34} {y = b} (sym (eqb-true b 34 quote)) refl

starts_in_word : (line : List ℕ) (w : Word) → (IsPlainWord line w ⊎ IsQuotedWord line w)
    → parts_words (slice_index line w.start) ≡ false
starts_in_word line w (inl plain) = plain.run w.start (omega arith) plain.some
starts_in_word line w (inr quoted) = quote_in_word (slice_index line w.start) quoted.quoted

stands : (line : List ℕ) (w : Word) → (IsPlainWord line w ⊎ IsQuotedWord line w) → StandsIn line w
stands line w (inl plain) = (plain.some, plain.inside)
stands line w (inr quoted) = (quoted.some, quoted.inside)

-- of two words that start at one place neither ends after the other
ends_within : (line : List ℕ) (x y : Word) → (IsPlainWord line x ⊎ IsQuotedWord line x)
    → (IsPlainWord line y ⊎ IsQuotedWord line y) → x.start ≡ y.start → y.end ≤ x.end
ends_within line x y (inl p) (inl q) same =
    ⊎_elim (λ (short : x.end < y.end).
    absurd (false≢true (sym (q.run x.end (omega (arith, p.some)) short) ∙ p.longest (omega (arith, q.inside)))))
    (λ (within : y.end ≤ x.end). within) (cases_lt x.end y.end)
ends_within line x y (inl p) (inr q) same =
    absurd (false≢true (sym p.unquoted ∙ ap (λ k. is_quote (slice_index line k)) same ∙ q.quoted))
ends_within line x y (inr p) (inl q) same =
    absurd (false≢true (sym q.unquoted ∙ ap (λ k. is_quote (slice_index line k)) (sym same) ∙ p.quoted))
ends_within line x y (inr p) (inr q) same =
    ⊎_elim (λ (short : x.end < y.end). let ended = p.closed (omega (arith, q.inside)) in
    absurd (false≢true (sym (q.unclosed ended.0 (omega (arith, ended.1)) (omega (arith, ended.2))) ∙ ended.3)))
    (λ (within : y.end ≤ x.end). within) (cases_lt x.end y.end)

same_place : (x y : Word) → x.start ≡ y.start → x.end ≡ y.end → x ≡ y
same_place x y start end =
    ap (λ s. record { start = s; end = x.end }) start ∙ ap (λ e. record { start = y.start; end = e }) end

-- two divisions of a line are the same
one_division : (line : List ℕ) (at : ℕ) (xs ys : List Word) → DividesFrom line at xs → DividesFrom line at ys → xs ≡ ys
one_division line at [] [] p q = refl
one_division line at [] (y ∷ ys) p q =
    absurd (omega
    (arith, none_before line at (length line) y.start p q.0 (starts_in_word line y q.2), stands line y q.2))
one_division line at (x ∷ xs) [] p q =
    absurd (omega
    (arith, none_before line at (length line) x.start q p.0 (starts_in_word line x p.2), stands line x p.2))
one_division line at (x ∷ xs) (y ∷ ys) p q =
    let start : x.start ≡ y.start =
    omega (
      arith,
      none_before line at x.start y.start p.1 q.0 (starts_in_word line y q.2),
      none_before line at y.start x.start q.1 p.0 (starts_in_word line x p.2),
    ) in
    let end : x.end ≡ y.end =
    omega (arith, ends_within line x y p.2 q.2 start, ends_within line y x q.2 p.2 (sym start)) in
    let head = same_place x y start end in
    let tail = one_division line x.end xs ys p.3 (subst (λ k. DividesFrom line k ys) (sym end) q.3) in
    cc

-- nothing but its words divides a line
pub words_of-only : (line : List ℕ) (ws : List Word) → DividesFrom line 0 ws → ws ≡ words_of line
words_of-only line ws divided = one_division line 0 ws (words_of line) divided (words_of-divides line)

all_stand : (line : List ℕ) (at : ℕ) (ws : List Word) → DividesFrom line at ws → All (StandsIn line) ws
all_stand line at [] divided = All-nil (StandsIn line)
all_stand line at (w ∷ ws) divided =
    All-cons (StandsIn line) w ws (stands line w divided.2) (all_stand line w.end ws divided.3)

-- each word has a byte, and ends within its line
pub words_of-inside : (line : List ℕ) → All (StandsIn line) (words_of line)
words_of-inside line = all_stand line 0 (words_of line) (words_of-divides line)

from_there : (line : List ℕ) (at : ℕ) (ws : List Word) → DividesFrom line at ws → All (λ w. at ≤ w.start) ws
from_there line at [] divided = All-nil (λ w. at ≤ w.start)
from_there line at (w ∷ ws) divided =
    let some = stands line w divided.2 in
    All-cons (λ v. at ≤ v.start) w ws divided.0
    (All-weaker (λ v. w.end ≤ v.start) (λ v. at ≤ v.start) (λ v after. omega (arith, after, some.0, divided.0)) ws
    (from_there line w.end ws divided.3))

all_apart : (line : List ℕ) (at : ℕ) (ws : List Word) → DividesFrom line at ws → AllPairs IsBefore ws
all_apart line at [] divided i j d before inside = absurd (omega (arith, inside))
all_apart line at (w ∷ ws) divided zero zero d before inside = absurd (omega (arith, before))
all_apart line at (w ∷ ws) divided zero (suc j) d before inside =
    from_there line w.end ws divided.3 j d (omega (arith, inside))
all_apart line at (w ∷ ws) divided (suc i) zero d before inside = absurd (omega (arith, before))
all_apart line at (w ∷ ws) divided (suc i) (suc j) d before inside =
    all_apart line w.end ws divided.3 i j d (omega (arith, before)) (omega (arith, inside))

-- the words are in order and apart
pub words_of-apart : (line : List ℕ) → AllPairs IsBefore (words_of line)
words_of-apart line = all_apart line 0 (words_of line) (words_of-divides line)

some_word : (line : List ℕ) (at k : ℕ) (ws : List Word) → DividesFrom line at ws → at ≤ k → k < length line
    → parts_words (slice_index line k) ≡ false → Any (IsIn k) ws
some_word line at k [] divided after inside word =
    absurd (omega (arith, none_before line at (length line) k divided after word, inside))
some_word line at k (w ∷ ws) divided after inside word =
    let start = none_before line at w.start k divided.1 after word in
    ⊎_elim (λ (within : k < w.end). (zero, w, omega arith, refl, (start, within)))
    (λ (past : w.end ≤ k). let found = some_word line w.end k ws divided.3 past inside word in
    (suc found.0, found.1, omega (arith, found.2), found.3, found.4)) (cases_lt k w.end)

-- each byte that parts no words is in a word
pub words_of-covers : (line : List ℕ) (k : ℕ) → k < length line → parts_words (slice_index line k) ≡ false
    → Any (IsIn k) (words_of line)
words_of-covers line k inside word =
    some_word line 0 k (words_of line) (words_of-divides line) (omega arith) inside word

-- for readers of words
pub ruleset word_laws = (words_of-inside, words_of-apart)
