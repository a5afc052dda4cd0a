-- A history is read from the texts that begin with it, and from no others; and what is refused names the first line
-- that is wrong.
use Rattle.std.proofs.Common.{◌≡◌, ℕ, ◌+◌, ◌^◌, ◌<◌, ◌≤◌, Bool, true, false, cond, eqb, Option, Some, None, Result, Ok, Err, List, [], ◌∷◌, ◌++◌, length, refl, sym, ap, subst, suc, ◌∙◌, arith, inl, inr}
use Rattle.std.specs.List.{list_all}
use Rattle.std.proofs.lemmas.Bool.{and_parts, and_from, eqb-true, eqb-false, eq-eqb, ne_eqb, lt-ltb, ltb-true}
use Rattle.std.proofs.lemmas.List.{length-append}
use Rattle.pr_text.proofs.LineLemmas.{few_lines}
use Rattle.std.proofs.lemmas.Option.{none-some}
use Rattle.pr_model.specs.declared.events.Entry.{Entry}
use Rattle.std.specs.Result.{IfOk, IfErr}
use Rattle.pr_plain.specs.declared.refusals.HistRefusal.{HistRefusal}
use Rattle.pr_plain.specs.declared.refusals.HistRefusal.TheVariants.{Line, NoMemory}
use Rattle.pr_plain.specs.Readings.{Answers}
use Rattle.pr_plain.specs.EntryForms.{is_number, has_form}
use Rattle.pr_plain.specs.EntryReading.{entry_in, heading_in, or_line, then_reads, next_heading, entries_in, history_in, history_of}
use Rattle.pr_text.specs.TextLines.{lines_of}
use Rattle.pr_plain.specs.Histories.{heading_line, history_lines, BeginsWith, NoEntry, IsFirstWrong, Refuses}
use Rattle.pr_plain.specs.HistoryText.{entry_line}
use Rattle.pr_plain.specs.Lines.{entry_lines}
use Rattle.pr_plain.specs.WordReading.{word_at}
use Rattle.pr_plain.proofs.EntryLaws.{heading_in-is, heading_in-line, entry_in-is, entry_in-line}

abbrev Lines : Type 0
Lines = List (List ℕ)

small : (n count : ℕ) → n < count → is_number count ≡ true → is_number n ≡ true
small n count fewer number = lt-ltb n (2 ^ 64) (let fits = ltb-true count (2 ^ 64) number in omega arith)

less : (m k : ℕ) → m ≤ k → (m ≡ k → ⊥) → m < k
less m k within other = omega (arith, other)

-- ---- entries

-- lines that begin with entries, of which there are as many as are wanted
record AllRead (count n : ℕ) (ls : Lines) (es : List Entry) : Type 0 where
  below : Lines
  is : ls ≡ entry_lines n es ++ below
  formed : list_all has_form es ≡ true
  all : n + length es ≡ count

-- lines that begin with fewer entries, and not with the next
record ShortRead (line count n : ℕ) (ls : Lines) (k : ℕ) : Type 0 where
  entries : List Entry
  below : Lines
  is : ls ≡ entry_lines n entries ++ below
  formed : list_all has_form entries ≡ true
  fewer : n + length entries < count
  wrong : NoEntry (n + length entries) below
  at : k ≡ line + length entries

-- what reading entries says of the lines
abbrev Tells : (line count n : ℕ) → Lines → Result (List Entry) ℕ → Type 0
Tells line count n ls (Ok es) = AllRead count n ls es
Tells line count n ls (Err k) = ShortRead line count n ls k

nothing_read : (count n : ℕ) (ls : Lines) → n ≡ count → AllRead count n ls []
unfolding entry_lines
nothing_read count n ls all = record { below = ls; is = refl; formed = refl; all = omega arith }

short_here : (line count n : ℕ) (ls : Lines) → n < count → NoEntry n ls → ShortRead line count n ls line
unfolding entry_lines
short_here line count n ls fewer wrong = record {
  entries = [];
  below = ls;
  is = refl;
  formed = refl;
  fewer = omega arith;
  wrong = subst (λ m. NoEntry m ls) {x = n} {y = n + 0} (omega arith) wrong;
  at = omega arith;
}

one_more : (line count n : ℕ) (l : List ℕ) (ls : Lines) (e : Entry) (read : Result (List Entry) ℕ) → l ≡ entry_line n e
    → has_form e ≡ true → Tells (line + 1) count (n + 1) ls read
    → Tells line count n (l ∷ ls) (then_reads read (λ es. Ok (e ∷ es)))
unfolding entry_lines
one_more line count n l ls e (Ok es) is form t = record {
  below = t.below;
  is = ap (λ x. x ∷ ls) is ∙ ap (λ xs. entry_line n e ∷ xs) t.is;
  formed = and_from (has_form e) (list_all has_form es) form t.formed;
  all = omega (arith, t.all);
}
one_more line count n l ls e (Err k) is form t = record {
  entries = e ∷ t.entries;
  below = t.below;
  is = ap (λ x. x ∷ ls) is ∙ ap (λ xs. entry_line n e ∷ xs) t.is;
  formed = and_from (has_form e) (list_all has_form t.entries) form t.formed;
  fewer = omega (arith, t.fewer);
  wrong = subst (λ m. NoEntry m t.below) {x = n + 1 + length t.entries} {y = n + length (e ∷ t.entries)}
      (omega arith) t.wrong;
  at = omega (arith, t.at);
}

-- what is read of lines stands in them
entries_tell : (line count n : ℕ) (ls : Lines) → is_number count ≡ true → n ≤ count
    → Tells line count n ls (entries_in line count n ls)
unfolding entries_in
entries_tell line count n [] number within = by (eqb n count) refl
  where
    by : (t : Bool) → eqb n count ≡ t → Tells line count n [] (cond t (Ok []) (Err line))
    by true is = nothing_read count n [] (eqb-true n count is)
    by false is = short_here line count n [] (less n count within (eqb-false n count is)) tt
entries_tell line count n (l ∷ ls) number within =
    by (λ fewer. entries_tell (line + 1) count (n + 1) ls number (omega arith)) (eqb n count) refl
  where
    next : n < count → Tells (line + 1) count (n + 1) ls (entries_in (line + 1) count (n + 1) ls) → (o : Option Entry)
        → entry_in n l ≡ o
        → Tells line count n (l ∷ ls)
        (then_reads (or_line line o) (λ e. then_reads (entries_in (line + 1) count (n + 1) ls) (λ es. Ok (e ∷ es))))
    next fewer rest (Some e) is = let t = entry_in-is n l e is in
        one_more line count n l ls e (entries_in (line + 1) count (n + 1) ls) t.line_is t.formed rest
    next fewer rest None is =
        short_here line count n (l ∷ ls) fewer
        (λ e form same.
        none-some e (sym is ∙ ap (entry_in n) same ∙ entry_in-line n e (small n count fewer number) form))

    by : (n < count → Tells (line + 1) count (n + 1) ls (entries_in (line + 1) count (n + 1) ls)) → (t : Bool)
        → eqb n count ≡ t
        → Tells line count n (l ∷ ls)
        (cond t (Ok [])
        (then_reads (or_line line (entry_in n l))
        (λ e. then_reads (entries_in (line + 1) count (n + 1) ls) (λ es. Ok (e ∷ es)))))
    by rest true is = nothing_read count n (l ∷ ls) (eqb-true n count is)
    by rest false is =
        let fewer : n < count = less n count within (eqb-false n count is) in
        next fewer (rest fewer) (entry_in n l) refl

-- entries are read from their lines
entries_again : (line count n : ℕ) (es : List Entry) (below : Lines) → is_number count ≡ true → n + length es ≡ count
    → list_all has_form es ≡ true → entries_in line count n (entry_lines n es ++ below) ≡ Ok es
unfolding entries_in entry_lines
entries_again line count n [] [] number all form = ap (λ t. cond t (Ok []) (Err line)) (eq-eqb n count (omega arith))
entries_again line count n [] (l ∷ ls) number all form =
    ap (λ t.
    cond t (Ok [])
    (then_reads (or_line line (entry_in n l))
    (λ e. then_reads (entries_in (line + 1) count (n + 1) ls) (λ es. Ok (e ∷ es))))) (eq-eqb n count (omega arith))
entries_again line count n (e ∷ es) below number all form =
    let parts = and_parts (has_form e) (list_all has_form es) form in
    let ls = entry_lines (n + 1) es ++ below in
    ap (λ t.
    cond t (Ok [])
    (then_reads (or_line line (entry_in n (entry_line n e)))
    (λ e. then_reads (entries_in (line + 1) count (n + 1) ls) (λ es. Ok (e ∷ es)))))
    (ne_eqb n count (λ same. omega arith))
    ∙ ap (λ o.
    then_reads (or_line line o) (λ e. then_reads (entries_in (line + 1) count (n + 1) ls) (λ es. Ok (e ∷ es))))
    (entry_in-line n e (small n count (omega arith) number) parts.0)
    ∙ ap (λ r. then_reads r (λ es. Ok (e ∷ es)))
    (entries_again (line + 1) count (n + 1) es below number (omega arith) parts.1)

-- ---- histories

-- what reading a history says of the lines
abbrev HistoryTells : ℕ → Lines → Result (List Entry) ℕ → Type 0
HistoryTells first ls (Ok es) = (below : Lines) × (ls ≡ history_lines es ++ below) × (list_all has_form es ≡ true)
HistoryTells first ls (Err k) = IsFirstWrong first ls k

below_heading : (first count : ℕ) (l : List ℕ) (ls : Lines) (read : Result (List Entry) ℕ) → l ≡ heading_line count
    → Tells (first + 1) count 0 ls read → HistoryTells first (l ∷ ls) read
below_heading first count l ls (Ok es) is t = (
  t.below,
  ap (λ x. x ∷ ls) is ∙ ap (λ n. heading_line n ∷ ls) {x = count} {y = length es} (omega (arith, t.all))
      ∙ ap (λ xs. heading_line (length es) ∷ xs) t.is,
  t.formed,
)
below_heading first count l ls (Err k) is t =
    inr (record {
      count = count;
      entries = t.entries;
      below = t.below;
      is = ap (λ x. x ∷ ls) is ∙ ap (λ xs. heading_line count ∷ xs) t.is;
      formed = t.formed;
      fewer = omega (arith, t.fewer);
      wrong = subst (λ m. NoEntry m t.below) {x = 0 + length t.entries} {y = length t.entries} (omega arith) t.wrong;
      at = t.at;
    })

history_tells : (first : ℕ) (ls : Lines) → HistoryTells first ls (history_in first ls)
unfolding history_in next_heading word_at
history_tells first [] = inl (tt, refl)
history_tells first (l ∷ ls) = by (heading_in l) refl
  where
    by : (o : Option ℕ) → heading_in l ≡ o
        → HistoryTells first (l ∷ ls)
        (then_reads (then_reads {Y = ℕ × Lines} (or_line first o) (λ count. Ok (count, ls)))
        (λ heading. entries_in (first + 1) heading.0 0 heading.1))
    by (Some count) is =
        let t = heading_in-is l count is in
        below_heading first count l ls (entries_in (first + 1) count 0 ls) t.line_is
        (entries_tell (first + 1) count 0 ls t.formed (omega arith))
    by None is = inl ((λ n number same. none-some n (sym is ∙ ap heading_in same ∙ heading_in-line n number)), refl)

history_again : (first : ℕ) (es : List Entry) (below : Lines) → is_number (length es) ≡ true
    → list_all has_form es ≡ true → history_in first (history_lines es ++ below) ≡ Ok es
unfolding history_in next_heading word_at
history_again first es below number form =
    ap (λ o.
    then_reads (then_reads {Y = ℕ × Lines} (or_line first o) (λ count. Ok (count, entry_lines 0 es ++ below)))
    (λ heading. entries_in (first + 1) heading.0 0 heading.1)) (heading_in-line (length es) number)
    ∙ entries_again (first + 1) (length es) 0 es below number (omega arith) form

-- ---- what is answered

pub read_begins : {X : Type 0} (view : X → List Entry) (first : ℕ) (text : List ℕ) (r : Result X HistRefusal)
    → Answers view r (history_of first text) → IfOk r (λ h. BeginsWith text (view h))
read_begins view first text (Ok h) e = begins (history_tells first (lines_of text)) e
  where
    begins : HistoryTells first (lines_of text) (history_of first text) → history_of first text ≡ Ok (view h)
        → BeginsWith text (view h)
    begins t same = let u : HistoryTells first (lines_of text) (Ok (view h)) =
        subst (HistoryTells first (lines_of text)) same t in record { below = u.0; lines = u.1; formed = u.2 }
read_begins view first text (Err e) h = tt

pub refusal_names : {X : Type 0} (view : X → List Entry) (first : ℕ) (text : List ℕ) (r : Result X HistRefusal)
    → Answers view r (history_of first text) → IfErr r (Refuses first text)
refusal_names view first text (Ok h) e = tt
refusal_names view first text (Err NoMemory) e = tt
refusal_names view first text (Err (Line k)) e =
    subst (HistoryTells first (lines_of text)) e (history_tells first (lines_of text))

length-entry_lines : (n : ℕ) (es : List Entry) → length (entry_lines n es) ≡ length es
unfolding entry_lines
length-entry_lines n [] = refl
length-entry_lines n (e ∷ es) = ap (λ k. suc k) (length-entry_lines (n + 1) es)

few_entries : (text : List ℕ) (es : List Entry) → BeginsWith text es → length es ≤ length text
few_entries text es b =
    omega (arith, ap length b.lines, length-append (history_lines es) b.below, length-entry_lines 0 es, few_lines text)

pub read_few : {X : Type 0} (view : X → List Entry) (text : List ℕ) (r : Result X HistRefusal)
    → IfOk r (λ h. BeginsWith text (view h)) → IfOk r (λ h. length (view h) ≤ length text)
read_few view text (Ok h) begins = few_entries text (view h) begins
read_few view text (Err e) begins = tt

pub read_only : {X : Type 0} (view : X → List Entry) (first : ℕ) (text : List ℕ) (r : Result X HistRefusal)
    → length text < 2 ^ 32 → Answers view r (history_of first text) → (es : List Entry) → BeginsWith text es
    → Answers view r (Ok es)
read_only view first text r fits answer es b =
    subst (Answers view r)
    (ap (history_in first) b.lines
    ∙ history_again first es b.below
    (lt-ltb (length es) (2 ^ 64) (let few = few_entries text es b in omega arith)) b.formed) answer
