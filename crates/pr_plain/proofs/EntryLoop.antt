-- Entries that are read one after another.
use Rattle.std.proofs.Common.{◌≡◌, ◌==◌, ℕ, Bool, ◌+◌, ◌-◌, ◌<◌, ◌≤◌, true, false, cond, Option, Some, None, Result, Ok, Err, List, [], ◌∷◌, ◌++◌, length, refl, sym, ap, ◌∙◌, arith}
use Rattle.std.proofs.lemmas.Bool.{eq-eqb, eqb-true, ne_eqb}
use Rattle.std.proofs.lemmas.List.{append_assoc, append-nil}
use Rattle.std.proofs.lemmas.Option.{same_Some}
use Rattle.pr_model.specs.declared.events.Entry.{Entry}
use Rattle.std.specs.List.{slice_split, onto_first}
use Rattle.std.proofs.lemmas.List.Splits.{length-slice_split}
use Rattle.std.proofs.lemmas.List.Sums.{count_by-le-length}
use Rattle.pr_plain.specs.EntryReading.{entry_in, heading_in, heading_of, or_line, then_reads, next_entry, next_heading, entries_in, history_in, history_of}
use Rattle.pr_plain.specs.EntryLines.{EntriesAhead, below_heading, entries_left, next_of}
use Rattle.pr_text.specs.TextLines.{is_newline}
use Rattle.pr_plain.specs.WordReading.{word_at, behind_word}

abbrev Read : Type 0
Read = Result (List Entry) ℕ

-- what is read behind entries that were read before
abbrev pub with_entries : List Entry → Result (List Entry) ℕ → Result (List Entry) ℕ
with_entries front (Ok es) = Ok (front ++ es)
with_entries front (Err line) = Err line

-- what was read of an entry and of those below it
below : ℕ → ℕ → ℕ → Result (Entry × List (List ℕ)) ℕ → Read
below line count n read =
    then_reads read (λ x. then_reads (entries_in (line + 1) count (n + 1) x.1) (λ es. Ok (x.0 ∷ es)))

-- entries as one entry and those below it
entries_by_one : (line count n : ℕ) (ls : List (List ℕ)) → n < count
    → entries_in line count n ls ≡ below line count n (next_entry line n ls)
unfolding entries_in next_entry word_at below
entries_by_one line count n [] fewer = ap (λ t. cond t (Ok []) (Err line)) (ne_eqb n count (λ e. omega arith))
entries_by_one line count n (l ∷ ls) fewer =
    ap (λ t.
    cond t (Ok [])
    (then_reads (or_line line (entry_in n l))
    (λ e. then_reads (entries_in (line + 1) count (n + 1) ls) (λ es. Ok (e ∷ es)))))
    (ne_eqb n count (λ e. omega arith))
    ∙ regrouped (or_line line (entry_in n l))
  where
    regrouped : (read : Result Entry ℕ)
        → then_reads read (λ e. then_reads (entries_in (line + 1) count (n + 1) ls) (λ es. Ok (e ∷ es)))
        ≡ then_reads (then_reads {Y = Entry × List (List ℕ)} read (λ e. Ok (e, ls)))
        (λ x. then_reads (entries_in (line + 1) count (n + 1) x.1) (λ es. Ok (x.0 ∷ es)))
    regrouped (Ok e) = refl
    regrouped (Err k) = refl

regroup : (front : List Entry) (e : Entry) (read : Read)
    → with_entries front (then_reads read (λ es. Ok (e ∷ es))) ≡ with_entries (front ++ e ∷ []) read
regroup front e (Ok es) = ap (λ (x : List Entry). Ok x) (sym (append_assoc front (e ∷ []) es))
regroup front e (Err k) = refl

pub entries_in-more : (front : List Entry) (line next count n : ℕ) (ls rest : List (List ℕ)) (e : Entry) → n < count
    → next ≡ line + 1 → next_entry line n ls ≡ Ok (e, rest)
    → with_entries front (entries_in line count n ls)
    ≡ with_entries (front ++ e ∷ []) (entries_in next count (n + 1) rest)
unfolding below
entries_in-more front line next count n ls rest e fewer at found =
    ap (with_entries front) (entries_by_one line count n ls fewer ∙ ap (below line count n) found)
    ∙ regroup front e (entries_in (line + 1) count (n + 1) rest)
    ∙ ap (λ k. with_entries (front ++ e ∷ []) (entries_in k count (n + 1) rest)) (sym at)

pub entries_in-bad : (front : List Entry) (line count n : ℕ) (ls : List (List ℕ)) (k : ℕ) → n < count
    → next_entry line n ls ≡ Err k → with_entries front (entries_in line count n ls) ≡ Err k
unfolding below
entries_in-bad front line count n ls k fewer wrong =
    ap (with_entries front) (entries_by_one line count n ls fewer ∙ ap (below line count n) wrong)

entries_done : (line count : ℕ) (ls : List (List ℕ)) → entries_in line count count ls ≡ Ok []
unfolding entries_in
entries_done line count [] = ap (λ t. cond t (Ok []) (Err line)) (eq-eqb count count refl)
entries_done line count (l ∷ ls) =
    ap (λ t.
    cond t (Ok [])
    (then_reads (or_line line (entry_in count l))
    (λ e. then_reads (entries_in (line + 1) count (count + 1) ls) (λ es. Ok (e ∷ es))))) (eq-eqb count count refl)

pub entries_in-end : (front : List Entry) (line count n : ℕ) (ls : List (List ℕ)) → n ≡ count
    → with_entries front (entries_in line count n ls) ≡ Ok front
entries_in-end front line count n ls all =
    ap (λ k. with_entries front (entries_in line count k ls)) all
    ∙ ap (with_entries front) (entries_done line count ls)
    ∙ ap (λ (es : List Entry). Ok es) (append-nil front)

-- ---- the heading

-- a line that is a heading has bytes
heading_has_bytes : (l : List ℕ) (count : ℕ) → heading_in l ≡ Some count → (b : ℕ) × (bs : List ℕ) × (l ≡ b ∷ bs)
unfolding heading_of behind_word word_at
heading_has_bytes [] count found = cc
heading_has_bytes (b ∷ bs) count found = (b, bs, refl)

count_of_pieces : (text l : List ℕ) (ls : List (List ℕ)) (b : ℕ) → slice_split is_newline text ≡ (b ∷ l) ∷ ls
    → length ls + 1 ≤ length text
count_of_pieces [] l ls b e = cc
count_of_pieces (x ∷ xs) l ls b e =
    elim (is_newline x)
    as (λ t. cond t ([] ∷ slice_split is_newline xs) (onto_first x (slice_split is_newline xs)) ≡ (b ∷ l) ∷ ls
    → length ls + 1 ≤ length (x ∷ xs)) [
      | true ↦ λ same. cc
      | false ↦ λ same.
          (omega (
            arith,
            ap length same,
            length-onto_first x (slice_split is_newline xs),
            length-slice_split is_newline xs,
            count_by-le-length is_newline xs,
          ))
    ] e
  where
    length-onto_first : (x : ℕ) (parts : List (List ℕ)) → length (onto_first x parts) ≤ 1 + (length parts - 1)
    length-onto_first x [] = omega arith
    length-onto_first x (part ∷ parts) = omega arith

first_parts : (ls : List (List ℕ)) (l : List ℕ) (rest : List (List ℕ)) → word_at ls ≡ Some (l, rest) → ls ≡ l ∷ rest
unfolding word_at
first_parts [] l rest found = cc
first_parts (x ∷ xs) l rest found = ap (λ (p : List ℕ × List (List ℕ)). p.0 ∷ p.1) (same_Some _ _ found)

-- below a heading there are fewer lines than bytes in the text
pub heading-fewer : (text l : List ℕ) (rest : List (List ℕ)) (count : ℕ)
    → word_at (slice_split is_newline text) ≡ Some (l, rest) → heading_in l ≡ Some count → length rest + 1 ≤ length text
heading-fewer text l rest count first found =
    let bytes = heading_has_bytes l count found in
    count_of_pieces text bytes.1 rest bytes.0
    (first_parts (slice_split is_newline text) l rest first ∙ ap (λ k. k ∷ rest) bytes.2)

-- ---- entries that are read one after another

next_parts : (l rest : EntriesAhead) (e : Entry) (read : Result (Entry × List (List ℕ)) ℕ)
    → then_reads {Y = Entry × EntriesAhead} read (λ x. Ok (x.0, record l { read = l.read + 1; lines = x.1 }))
    ≡ Ok (e, rest)
    → (read ≡ Ok (e, rest.lines)) × (rest ≡ record l { read = l.read + 1; lines = rest.lines })
next_parts l rest e (Ok x) same =
    let entry : x.0 ≡ e = ap (λ (r : Result (Entry × EntriesAhead) ℕ). entry_of x.0 r) same in
    let left : (let y : EntriesAhead = record l { read = l.read + 1; lines = x.1 } in y) ≡ rest =
    ap (λ (r : Result (Entry × EntriesAhead) ℕ). left_of rest r) same in
    let lines : x.1 ≡ rest.lines = ap (λ (y : EntriesAhead). y.lines) left in (
      ap (λ (d : Entry). let y : Result (Entry × List (List ℕ)) ℕ = Ok (d, x.1) in y) entry
          ∙ ap (λ (ls : List (List ℕ)). let y : Result (Entry × List (List ℕ)) ℕ = Ok (e, ls) in y) lines,
      sym left
          ∙ ap (λ (ls : List (List ℕ)). let y : EntriesAhead = record l { read = l.read + 1; lines = ls } in y) lines,
    )
  where
    entry_of : Entry → Result (Entry × EntriesAhead) ℕ → Entry
    entry_of d (Ok y) = y.0
    entry_of d (Err k) = d

    left_of : EntriesAhead → Result (Entry × EntriesAhead) ℕ → EntriesAhead
    left_of d (Ok y) = y.1
    left_of d (Err k) = d
next_parts l rest e (Err k) same = cc

next_fails : (l : EntriesAhead) (k : ℕ) (read : Result (Entry × List (List ℕ)) ℕ)
    → then_reads {Y = Entry × EntriesAhead} read (λ x. Ok (x.0, record l { read = l.read + 1; lines = x.1 })) ≡ Err k
    → read ≡ Err k
next_fails l k (Ok x) same = cc
next_fails l k (Err j) same =
    ap (λ (r : Result (Entry × EntriesAhead) ℕ). let y : Result (Entry × List (List ℕ)) ℕ = Err (line_of j r) in y) same
  where
    line_of : ℕ → Result (Entry × EntriesAhead) ℕ → ℕ
    line_of d (Ok y) = d
    line_of d (Err i) = i

-- what stays while an entry is read
pub next_of-on : (l rest : EntriesAhead) (e : Entry) → next_of l ≡ Ok (e, rest)
    → (rest.count ≡ l.count) × (rest.read ≡ l.read + 1)
unfolding next_of
next_of-on l rest e found =
    let is = (next_parts l rest e (next_entry (l.first + l.read) l.read l.lines) found).1 in
    (ap (λ (x : EntriesAhead). x.count) is, ap (λ (x : EntriesAhead). x.read) is)

pub lines-more : (front : List Entry) (l rest : EntriesAhead) (e : Entry) → l.read < l.count → next_of l ≡ Ok (e, rest)
    → with_entries front (entries_left l) ≡ with_entries (front ++ e ∷ []) (entries_left rest)
unfolding next_of
lines-more front l rest e fewer found =
    let parts = next_parts l rest e (next_entry (l.first + l.read) l.read l.lines) found in
    entries_in-more front (l.first + l.read) (l.first + (l.read + 1)) l.count l.read l.lines rest.lines e fewer
    (omega arith) parts.0
    ∙ ap (λ (x : EntriesAhead). with_entries (front ++ e ∷ []) (entries_left x)) (sym parts.1)

pub lines-bad : (front : List Entry) (l : EntriesAhead) (k : ℕ) → l.read < l.count → next_of l ≡ Err k
    → with_entries front (entries_left l) ≡ Err k
unfolding next_of
lines-bad front l k fewer wrong =
    entries_in-bad front (l.first + l.read) l.count l.read l.lines k fewer
    (next_fails l k (next_entry (l.first + l.read) l.read l.lines) wrong)

pub lines-end : (front : List Entry) (l : EntriesAhead) → l.read ≡ l.count
    → with_entries front (entries_left l) ≡ Ok front
lines-end front l all = entries_in-end front (l.first + l.read) l.count l.read l.lines all

-- what is read without entries before it
pub with_none : (read : Result (List Entry) ℕ) → with_entries [] read ≡ read
with_none (Ok es) = refl
with_none (Err k) = refl

abbrev entries_of : List Entry → Read → List Entry
entries_of d (Ok es) = es
entries_of d (Err k) = d

all_read : (count n : ℕ) (line : ℕ) (es : List Entry) → (n == count) ≡ true → cond true (Ok []) (Err line) ≡ Ok es
    → n + length es ≡ count
all_read count n line es all same =
    let none : [] ≡ es = ap (λ (r : Read). entries_of es r) same in
    omega (arith, eqb-true n count all, ap length none)

one_more : (count n : ℕ) (e : Entry) (read : Read) (es : List Entry)
    → ((others : List Entry) → read ≡ Ok others → n + 1 + length others ≡ count)
    → then_reads {Y = List Entry} read (λ others. Ok (e ∷ others)) ≡ Ok es → n + length es ≡ count
one_more count n e (Ok others) es so_far same =
    let all : e ∷ others ≡ es = ap (λ (r : Read). entries_of es r) same in
    omega (arith, so_far others refl, ap length all)
one_more count n e (Err k) es so_far same = cc

first_more : (line count n : ℕ) (b : Bool) → (n == count) ≡ b → (read : Result Entry ℕ) (rest : Read) (es : List Entry)
    → ((others : List Entry) → rest ≡ Ok others → n + 1 + length others ≡ count)
    → cond b (Ok [])
    (then_reads {Y = List Entry} read (λ e. then_reads {Y = List Entry} rest (λ others. Ok (e ∷ others)))) ≡ Ok es
    → n + length es ≡ count
first_more line count n true all read rest es so_far same = all_read count n line es all same
first_more line count n false all (Ok e) rest es so_far same = one_more count n e rest es so_far same
first_more line count n false all (Err k) rest es so_far same = cc

none_more : (line count n : ℕ) (b : Bool) → (n == count) ≡ b → (es : List Entry) → cond b (Ok []) (Err line) ≡ Ok es
    → n + length es ≡ count
none_more line count n true all es same = all_read count n line es all same
none_more line count n false all es same = cc

-- as many entries are read as there are to be
pub count_read : (line count n : ℕ) (ls : List (List ℕ)) (es : List Entry) → entries_in line count n ls ≡ Ok es
    → n + length es ≡ count
unfolding entries_in
count_read line count n [] es found = none_more line count n (n == count) refl es found
count_read line count n (l ∷ ls) es found =
    first_more line count n (n == count) refl (or_line line (entry_in n l)) (entries_in (line + 1) count (n + 1) ls) es
    (count_read (line + 1) count (n + 1) ls) found

-- ---- entries of a text

begun : (line : ℕ) (l : EntriesAhead) (heading : Result (ℕ × List (List ℕ)) ℕ)
    → then_reads {Y = EntriesAhead} heading (λ h. Ok (record { first = line + 1; count = h.0; read = 0; lines = h.1 }))
    ≡ Ok l
    → (l.read ≡ 0) × (then_reads heading (λ h. entries_in (line + 1) h.0 0 h.1) ≡ entries_left l)
begun line l (Ok h) same =
    let is : (let x : EntriesAhead = record { first = line + 1; count = h.0; read = 0; lines = h.1 } in x) ≡ l =
    ap (λ (r : Result EntriesAhead ℕ). ahead_of l r) same in
    let at : line + 1 ≡ line + 1 + 0 = omega arith in
    (sym (ap (λ (x : EntriesAhead). x.read) is), ap (λ (k : ℕ). entries_in k h.0 0 h.1) at ∙ ap entries_left is)
  where
    ahead_of : EntriesAhead → Result EntriesAhead ℕ → EntriesAhead
    ahead_of d (Ok x) = x
    ahead_of d (Err k) = d
begun line l (Err k) same = cc

not_begun : (line k : ℕ) (heading : Result (ℕ × List (List ℕ)) ℕ)
    → then_reads {Y = EntriesAhead} heading (λ h. Ok (record { first = line + 1; count = h.0; read = 0; lines = h.1 }))
    ≡ Err k
    → then_reads {Y = List Entry} heading (λ h. entries_in (line + 1) h.0 0 h.1) ≡ Err k
not_begun line k (Ok h) same = cc
not_begun line k (Err j) same = ap (λ (r : Result EntriesAhead ℕ). let y : Read = Err (line_of j r) in y) same
  where
    line_of : ℕ → Result EntriesAhead ℕ → ℕ
    line_of d (Ok x) = d
    line_of d (Err i) = i

pub begins-read : (line : ℕ) (text : List ℕ) (l : EntriesAhead) → Ok l ≡ below_heading line text → l.read ≡ 0
unfolding below_heading
begins-read line text l is = (begun line l (next_heading line (slice_split is_newline text)) (sym is)).0

pub begins-left : (line : ℕ) (text : List ℕ) (l : EntriesAhead) → Ok l ≡ below_heading line text
    → history_of line text ≡ entries_left l
unfolding below_heading history_in
begins-left line text l is = (begun line l (next_heading line (slice_split is_newline text)) (sym is)).1

pub begins-not : (line : ℕ) (text : List ℕ) (k : ℕ) → Err k ≡ below_heading line text → history_of line text ≡ Err k
unfolding below_heading history_in
begins-not line text k is = not_begun line k (next_heading line (slice_split is_newline text)) (sym is)

-- the next line, and fewer below it
pub line-fewer : (ls : List (List ℕ)) (l : List ℕ) (rest : List (List ℕ)) → word_at ls ≡ Some (l, rest)
    → length ls ≡ 1 + length rest
line-fewer ls l rest found = omega (arith, ap length (first_parts ls l rest found))

pub ruleset entries_read = (lines-more, lines-bad, lines-end, next_of-on, with_none)
