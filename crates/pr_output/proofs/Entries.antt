-- The lines of entries, cut at one of them.
use Rattle.std.proofs.Common.{rules, ◌≡◌, ℕ, ◌+◌, List, [], ◌∷◌, ◌++◌, Some, None, Option, Bor, ◌<◌, ◌≤◌, length, get_or, take, drop, sym, ap, ◌∙◌, arith, append_assoc, length-append, eq-or-lt_of_le, ⊎_elim}
use Rattle.std.proofs.lemmas.List.{take-append-drop, length-take-le}
use Rattle.std.proofs.lemmas.Option.{slice_get_within, slice_get-get_or}
use Rattle.std.specs.List.{slice_get}
use Rattle.std.specs.Option.{IsSome, option_copied}
use Rattle.pr_model.specs.declared.events.Entry.{Entry}
use Rattle.pr_num.proofs.ListLemmas.{take-next}
use Rattle.pr_plain.specs.HistoryText.{entry_text, entries_text}
use Rattle.pr_plain.proofs.LineLemmas.{entries_text-end}

-- the lines of two parts of a history, one behind the other
pub entries_text-append : (n : ℕ) (xs ys : List Entry)
    → entries_text n (xs ++ ys) ≡ entries_text n xs ++ entries_text (n + length xs) ys
unfolding entries_text
entries_text-append n [] ys = ap (λ k. entries_text k ys) {x = n} {y = n + 0} (omega arith)
entries_text-append n (x ∷ xs) ys =
    ap (λ text. entry_text n x ++ text)
    (entries_text-append (n + 1) xs ys
    ∙ ap (λ k. entries_text (n + 1) xs ++ entries_text k ys) {x = n + 1 + length xs} {y = n + length (x ∷ xs)}
    (omega arith))
    ∙ sym (append_assoc (entry_text n x) (entries_text (n + 1) xs) (entries_text (n + length (x ∷ xs)) ys))

-- as many entries stand before a place as it counts
length-before : (i : ℕ) (h : List Entry) (e : Entry) → slice_get h i ≡ Some e → 0 + length (take i h) ≡ i
length-before i h e is = omega (arith, length-take-le i h (omega (arith, slice_get_within h i e is)))

-- the lines before a place, and those from there on
pub entries_text-parts : (i : ℕ) (h : List Entry)
    → entries_text 0 h ≡ entries_text 0 (take i h) ++ entries_text (0 + length (take i h)) (drop i h)
entries_text-parts i h = ap (entries_text 0) (sym (take-append-drop i h)) ∙ entries_text-append 0 (take i h) (drop i h)

-- the same, where a block of lines stands between
pub entries_text-block : (from to : ℕ) (h : List Entry) (block : List ℕ)
    → entries_text 0 (take to h) ≡ entries_text 0 (take from h) ++ block
    → entries_text 0 h ≡ entries_text 0 (take from h) ++ (block ++ entries_text (0 + length (take to h)) (drop to h))
entries_text-block from to h block is =
    entries_text-parts to h ∙ ap (λ text. text ++ entries_text (0 + length (take to h)) (drop to h)) is
    ∙ append_assoc (entries_text 0 (take from h)) block (entries_text (0 + length (take to h)) (drop to h))

-- the lines up to and with the entry at a place
pub entries_text-next : (i : ℕ) (h : List Entry) (e : Entry) → slice_get h i ≡ Some e
    → entries_text 0 (take (i + 1) h) ≡ entries_text 0 (take i h) ++ entry_text i e
unfolding entries_text
entries_text-next i h e is =
    ap (entries_text 0) (take-next i h e is) ∙ entries_text-end 0 (take i h) e
    ∙ ap (λ k. entries_text 0 (take i h) ++ entry_text k e) (length-before i h e is)

-- a line more in a block
pub block-more : (at from : ℕ) (h : List Entry) (e : Entry) (block new : List ℕ) → slice_get h at ≡ Some e
    → entries_text 0 (take at h) ≡ entries_text 0 (take from h) ++ block → new ≡ block ++ entry_text at e
    → entries_text 0 (take (at + 1) h) ≡ entries_text 0 (take from h) ++ new
block-more at from h e block new here is grown =
    entries_text-next at h e here ∙ ap (λ text. text ++ entry_text at e) is
    ∙ append_assoc (entries_text 0 (take from h)) block (entry_text at e)
    ∙ ap (λ text. entries_text 0 (take from h) ++ text) (sym grown)

-- where these lines are too short for a block, and those of fewer entries are, so are all up to here
pub least-more : (at from size : ℕ) (h : List Entry) (block : List ℕ)
    → entries_text 0 (take at h) ≡ entries_text 0 (take from h) ++ block → length block < size
    → ((n : ℕ) → from ≤ n → n < at → length (entries_text 0 (take n h)) < length (entries_text 0 (take from h)) + size)
    → (n : ℕ) → from ≤ n → n < at + 1
    → length (entries_text 0 (take n h)) < length (entries_text 0 (take from h)) + size
least-more at from size h block is short before n begins ends =
    let until : n ≤ at = omega arith in
    ⊎_elim (λ e. rw e (omega (arith, ap length is, length-append (entries_text 0 (take from h)) block)))
    (λ earlier. before n begins earlier) (eq-or-lt_of_le until)

-- within a history there is an entry at each place
pub found : (at : Option (Bor Entry)) (h : List Entry) (i : ℕ) → option_copied at ≡ slice_get h i → i < length h
    → IsSome at
found None [] i is p = let no : ⊥ = omega (arith, p) in elim no [ ]
found None (e ∷ es) i is p = let have : None ≡ Some (get_or (e ∷ es) i e) = is ∙ slice_get-get_or (e ∷ es) i e p in cc
found (Some e) h i is p = search rules

-- and this is it
pub found-value : (at : Option (Bor Entry)) (h : List Entry) (i : ℕ) (e : Bor Entry) → at ≡ Some e
    → option_copied at ≡ slice_get h i → slice_get h i ≡ Some e.now
found-value at h i e is gives = sym gives ∙ ap option_copied is
