-- Texts are told apart by lines, and lines by words.
use Rattle.std.specs.Prelude.{not, ◌&&◌}
use Rattle.std.proofs.Common.{◌≡◌, ℕ, ◌+◌, Bool, true, false, List, [], ◌∷◌, ◌++◌, length, refl, sym, ap, ◌∙◌, arith, append_assoc}
use Rattle.std.proofs.lemmas.Bool.{and_parts}
use Rattle.std.proofs.lemmas.List.{append-nil}
use Rattle.std.proofs.lemmas.List.Elements.{All-nil, All-cons, All-append, All-weaker}
use Rattle.std.proofs.lemmas.List.Splits.{slice_split_none, slice_split_at}
use Rattle.std.proofs.lemmas.List.Sums.{AllPass-from_list_all}
use Rattle.std.specs.List.{All, list_all, slice_split}
use Rattle.pr_model.specs.declared.events.Entry.{Entry}
use Rattle.pr_text.specs.TextLines.{newline, is_newline}
use Rattle.pr_text.specs.Bytes.{blank}
use Rattle.pr_text.specs.SpacedWords.{behind_blank, spaced, joined}
use Rattle.pr_plain.specs.HistoryText.{actor_text, act_words, entry_words, entry_line, entry_text, entries_text}
use Rattle.pr_plain.specs.Lines.{is_blank, is_word_byte, is_word, has_words, entry_lines}
use Rattle.pr_plain.proofs.WordLemmas.{entry_words-words}

-- ---- bytes of words

neither : (s t : Bool) → (not s && not t) ≡ true → (s ≡ false) × (t ≡ false)
neither true t h = cc
neither false true h = cc
neither false false h = (refl, refl)

all_bytes : (w : List ℕ) → is_word w ≡ true → list_all is_word_byte w ≡ true
all_bytes [] h = refl
all_bytes (b ∷ bs) h = h

no_blank : (w : List ℕ) → is_word w ≡ true → All (λ b. is_blank b ≡ false) w
no_blank w h =
    All-weaker (λ b. is_word_byte b ≡ true) (λ b. is_blank b ≡ false)
    (λ b is. (neither (is_blank b) (is_newline b) is).0) w (AllPass-from_list_all is_word_byte w (all_bytes w h))

no_newline : (w : List ℕ) → is_word w ≡ true → All (λ b. is_newline b ≡ false) w
no_newline w h =
    All-weaker (λ b. is_word_byte b ≡ true) (λ b. is_newline b ≡ false)
    (λ b is. (neither (is_blank b) (is_newline b) is).1) w (AllPass-from_list_all is_word_byte w (all_bytes w h))

-- ---- words of a line

pub joined-words : (w : List ℕ) (ws : List (List ℕ)) → list_all is_word (w ∷ ws) ≡ true
    → slice_split is_blank (joined (w ∷ ws)) ≡ w ∷ ws
unfolding joined behind_blank
joined-words w [] h =
    ap (slice_split is_blank) (append-nil w) ∙ slice_split_none is_blank w (no_blank w (and_parts (is_word w) true h).0)
joined-words w (v ∷ vs) h =
    slice_split_at is_blank w blank (v ++ spaced vs)
    (no_blank w (and_parts (is_word w) (list_all is_word (v ∷ vs)) h).0) refl
    ∙ ap (λ ps. w ∷ ps) (joined-words v vs (and_parts (is_word w) (list_all is_word (v ∷ vs)) h).1)

pub entry_line-words : (n : ℕ) (e : Entry) → has_words e ≡ true
    → slice_split is_blank (entry_line n e) ≡ entry_words n e
unfolding entry_line entry_words
entry_line-words n e h = joined-words _ (actor_text e.actor ∷ act_words e.act) (entry_words-words n e h)

-- ---- lines of a text

spaced-newline : (ws : List (List ℕ)) → list_all is_word ws ≡ true → All (λ b. is_newline b ≡ false) (spaced ws)
unfolding behind_blank
spaced-newline [] h = All-nil (λ b. is_newline b ≡ false)
spaced-newline (w ∷ ws) h =
    All-append (λ b. is_newline b ≡ false) (behind_blank w) (spaced ws)
    (All-cons (λ b. is_newline b ≡ false) blank w refl
    (no_newline w (and_parts (is_word w) (list_all is_word ws) h).0))
    (spaced-newline ws (and_parts (is_word w) (list_all is_word ws) h).1)

pub joined-newline : (w : List ℕ) (ws : List (List ℕ)) → list_all is_word (w ∷ ws) ≡ true
    → All (λ b. is_newline b ≡ false) (joined (w ∷ ws))
unfolding joined
joined-newline w ws h =
    All-append (λ b. is_newline b ≡ false) w (spaced ws)
    (no_newline w (and_parts (is_word w) (list_all is_word ws) h).0)
    (spaced-newline ws (and_parts (is_word w) (list_all is_word ws) h).1)

pub entry_line-newline : (n : ℕ) (e : Entry) → has_words e ≡ true → All (λ b. is_newline b ≡ false) (entry_line n e)
unfolding entry_line entry_words
entry_line-newline n e h = joined-newline _ (actor_text e.actor ∷ act_words e.act) (entry_words-words n e h)

pub entries_text-lines : (n : ℕ) (es : List Entry) → list_all has_words es ≡ true
    → slice_split is_newline (entries_text n es) ≡ entry_lines n es ++ [] ∷ []
unfolding entries_text entry_lines entry_text
entries_text-lines n [] h = refl
entries_text-lines n (e ∷ es) h =
    ap (slice_split is_newline) (append_assoc (entry_line n e) (newline ∷ []) (entries_text (n + 1) es))
    ∙ slice_split_at is_newline (entry_line n e) newline (entries_text (n + 1) es)
    (entry_line-newline n e (and_parts (has_words e) (list_all has_words es) h).0) refl
    ∙ ap (λ ls. entry_line n e ∷ ls)
    (entries_text-lines (n + 1) es (and_parts (has_words e) (list_all has_words es) h).1)

-- ---- entries one by one

pub entries_text-none : (n : ℕ) → entries_text n [] ≡ []
unfolding entries_text
entries_text-none n = refl

pub entries_text-end : (n : ℕ) (es : List Entry) (e : Entry)
    → entries_text n (es ++ e ∷ []) ≡ entries_text n es ++ entry_text (n + length es) e
unfolding entries_text
entries_text-end n [] e =
    append-nil (entry_text n e) ∙ ap (λ k. entry_text k e) {x = n} {y = n + 0} (omega arith)
entries_text-end n (x ∷ es) e =
    ap (λ text. entry_text n x ++ text)
    (entries_text-end (n + 1) es e
    ∙ ap (λ k. entries_text (n + 1) es ++ entry_text k e) {x = n + 1 + length es} {y = n + length (x ∷ es)}
    (omega arith))
    ∙ sym (append_assoc (entry_text n x) (entries_text (n + 1) es) (entry_text (n + length (x ∷ es)) e))

-- the line and its newline
pub entry_text-line : (n : ℕ) (e : Entry) → entry_text n e ≡ entry_line n e ++ newline ∷ []
unfolding entry_text
entry_text-line n e = refl

pub ruleset lines_of_entries = (entry_line-words, entry_line-newline, entry_text-line, entries_text-lines)

-- for those that write one entry after another
pub ruleset growing_text = (entries_text-none, entries_text-end)
