-- The texts that begin with a history are its own text with anything behind it, and its own text without the last
-- newline.
use Rattle.std.proofs.Common.{◌≡◌, ℕ, ◌+◌, Bool, true, false, cond, List, [], ◌∷◌, ◌++◌, length, codes, refl, sym, ap, ◌∙◌, append_assoc, inl, inr}
use Rattle.std.specs.Fmt.{decimal}
use Rattle.std.specs.List.{All, list_all, slice_split, onto_first, join_with_byte}
use Rattle.std.proofs.lemmas.Bool.{and_parts, and_from}
use Rattle.std.proofs.lemmas.List.{append-nil, append_cancel_right}
use Rattle.std.proofs.lemmas.List.Splits.{slice_split_at, join_with_byte-slice_split}
use Rattle.pr_model.specs.declared.events.Entry.{Entry}
use Rattle.pr_plain.specs.EntryForms.{has_form}
use Rattle.pr_text.specs.TextLines.{lines_of, newline, is_newline}
use Rattle.pr_plain.specs.Histories.{history_text, heading_line, history_lines, BeginsWith, IsTextOf}
use Rattle.pr_plain.specs.HistoryText.{entry_line, entry_text, entries_text, heading_text}
use Rattle.pr_plain.specs.Lines.{has_words, entry_lines}
use Rattle.pr_plain.proofs.EntryLaws.{words_formed, heading_words}
use Rattle.pr_plain.proofs.LineLemmas.{joined-newline, entry_line-newline}

all_words : (es : List Entry) → list_all has_form es ≡ true → list_all has_words es ≡ true
all_words [] h = refl
all_words (e ∷ es) h =
    let parts = and_parts (has_form e) (list_all has_form es) h in
    and_from (has_words e) (list_all has_words es) (words_formed e parts.0) (all_words es parts.1)

heading_newline : (n : ℕ) → All (λ b. is_newline b ≡ false) (heading_line n)
unfolding heading_line
heading_newline n = joined-newline (codes "history") (decimal n ∷ []) (heading_words n)

heading_ends : (n : ℕ) → heading_text n ≡ heading_line n ++ newline ∷ []
unfolding heading_text heading_line
heading_ends n = refl

-- the lines of entries with anything behind them
entries_split : (n : ℕ) (es : List Entry) (rest : List ℕ) → list_all has_words es ≡ true
    → slice_split is_newline (entries_text n es ++ rest) ≡ entry_lines n es ++ slice_split is_newline rest
unfolding entries_text entry_lines entry_text
entries_split n [] rest h = refl
entries_split n (e ∷ es) rest h =
    let parts = and_parts (has_words e) (list_all has_words es) h in
    ap (slice_split is_newline)
    (append_assoc (entry_line n e ++ newline ∷ []) (entries_text (n + 1) es) rest
    ∙ append_assoc (entry_line n e) (newline ∷ []) (entries_text (n + 1) es ++ rest))
    ∙ slice_split_at is_newline (entry_line n e) newline (entries_text (n + 1) es ++ rest)
    (entry_line-newline n e parts.0) refl
    ∙ ap (λ ls. entry_line n e ∷ ls) (entries_split (n + 1) es rest parts.1)

history_split : (es : List Entry) (rest : List ℕ) → list_all has_form es ≡ true
    → lines_of (history_text es ++ rest) ≡ history_lines es ++ lines_of rest
unfolding history_text
history_split es rest h =
    ap lines_of
    (append_assoc (heading_text (length es)) (entries_text 0 es) rest
    ∙ ap (λ x. x ++ (entries_text 0 es ++ rest)) (heading_ends (length es))
    ∙ append_assoc (heading_line (length es)) (newline ∷ []) (entries_text 0 es ++ rest))
    ∙ slice_split_at is_newline (heading_line (length es)) newline (entries_text 0 es ++ rest)
    (heading_newline (length es)) refl
    ∙ ap (λ ls. heading_line (length es) ∷ ls) (entries_split 0 es rest (all_words es h))

-- a text with a history in front begins with it
pub begins_whole : (es : List Entry) (rest : List ℕ) → list_all has_form es ≡ true
    → BeginsWith (history_text es ++ rest) es
begins_whole es rest h = record { below = lines_of rest; lines = history_split es rest h; formed = h }

-- a newline at the end is one more line, which is empty
onto_first-append : (x : ℕ) (ls ms : List (List ℕ)) → (l : List ℕ) × (others : List (List ℕ)) × (ls ≡ l ∷ others)
    → onto_first x (ls ++ ms) ≡ onto_first x ls ++ ms
onto_first-append x [] ms some = let no : [] ≡ some.0 ∷ some.1 = some.2 in cc
onto_first-append x (l ∷ ls) ms some = refl

split_some : (text : List ℕ) → (l : List ℕ) × (others : List (List ℕ)) × (slice_split is_newline text ≡ l ∷ others)
split_some [] = ([], [], refl)
split_some (b ∷ bs) = by (is_newline b) (slice_split is_newline bs)
  where
    by : (t : Bool) (ls : List (List ℕ))
        → (l : List ℕ) × (others : List (List ℕ)) × (cond t ([] ∷ ls) (onto_first b ls) ≡ l ∷ others)
    by true ls = ([], ls, refl)
    by false [] = (b ∷ [], [], refl)
    by false (l ∷ ls) = (b ∷ l, ls, refl)

ended_split : (text : List ℕ) → slice_split is_newline (text ++ newline ∷ []) ≡ slice_split is_newline text ++ [] ∷ []
ended_split [] = refl
ended_split (b ∷ bs) = by (ended_split bs) (is_newline b)
  where
    by : slice_split is_newline (bs ++ newline ∷ []) ≡ slice_split is_newline bs ++ [] ∷ [] → (t : Bool)
        → cond t ([] ∷ slice_split is_newline (bs ++ newline ∷ []))
        (onto_first b (slice_split is_newline (bs ++ newline ∷ [])))
        ≡ cond t ([] ∷ slice_split is_newline bs) (onto_first b (slice_split is_newline bs)) ++ [] ∷ []
    by rest true = ap (λ ls. [] ∷ ls) rest
    by rest false = ap (onto_first b) rest ∙ onto_first-append b (slice_split is_newline bs) ([] ∷ []) (split_some bs)

-- and so does one that lacks the last newline alone
pub begins_unended : (es : List Entry) (text : List ℕ) → list_all has_form es ≡ true
    → text ++ newline ∷ [] ≡ history_text es → BeginsWith text es
begins_unended es text h same = record {
  below = [];
  lines = append_cancel_right (lines_of text) (history_lines es) ([] ∷ [])
      (sym (ended_split text) ∙ ap lines_of (same ∙ sym (append-nil (history_text es))) ∙ history_split es [] h)
      ∙ sym (append-nil (history_lines es));
  formed = h;
}

-- ---- no other text begins with it

-- lines with a newline behind each, of a history
entries_joined : (n : ℕ) (es : List Entry) (l : List ℕ)
    → join_with_byte newline (l ∷ entry_lines n es) ++ newline ∷ [] ≡ (l ++ newline ∷ []) ++ entries_text n es
unfolding entries_text entry_lines entry_text
entries_joined n [] l = sym (append-nil (l ++ newline ∷ []))
entries_joined n (e ∷ es) l =
    append_assoc l (newline ∷ join_with_byte newline (entry_line n e ∷ entry_lines (n + 1) es)) (newline ∷ [])
    ∙ ap (λ x. l ++ newline ∷ x) (entries_joined (n + 1) es (entry_line n e))
    ∙ sym (append_assoc l (newline ∷ []) ((entry_line n e ++ newline ∷ []) ++ entries_text (n + 1) es))

join-append : (l b : List ℕ) (ls bs : List (List ℕ))
    → join_with_byte newline (l ∷ ls ++ b ∷ bs)
    ≡ join_with_byte newline (l ∷ ls) ++ newline ∷ join_with_byte newline (b ∷ bs)
join-append l b [] bs = refl
join-append l b (k ∷ ks) bs =
    ap (λ x. l ++ newline ∷ x) (join-append k b ks bs)
    ∙ sym (append_assoc l (newline ∷ join_with_byte newline (k ∷ ks)) (newline ∷ join_with_byte newline (b ∷ bs)))

history_joined : (es : List Entry) → join_with_byte newline (history_lines es) ++ newline ∷ [] ≡ history_text es
unfolding history_text
history_joined es =
    entries_joined 0 es (heading_line (length es)) ∙ ap (λ x. x ++ entries_text 0 es) (sym (heading_ends (length es)))

pub begins_only : (text : List ℕ) (es : List Entry) → BeginsWith text es → IsTextOf text es
begins_only text es b = by b.below b.lines
  where
    by : (below : List (List ℕ)) → lines_of text ≡ history_lines es ++ below → IsTextOf text es
    by [] lines =
        inr (ap (λ x. x ++ newline ∷ [])
        (sym (join_with_byte-slice_split newline text)
        ∙ ap (join_with_byte newline) (lines ∙ append-nil (history_lines es))) ∙ history_joined es)
    by (k ∷ ks) lines =
        let rest = join_with_byte newline (k ∷ ks) in
        inl (
          rest,
          sym (join_with_byte-slice_split newline text) ∙ ap (join_with_byte newline) lines
              ∙ join-append (heading_line (length es)) k (entry_lines 0 es) ks
              ∙ sym (append_assoc (join_with_byte newline (history_lines es)) (newline ∷ []) rest)
              ∙ ap (λ x. x ++ rest) (history_joined es),
        )

pub ruleset texts_of_histories = (begins_whole, begins_unended, begins_only)
