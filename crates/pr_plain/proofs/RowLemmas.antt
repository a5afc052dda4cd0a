-- Words that are read one after another: what was read stands at the front of the words, and what stands at the front
-- of words is read.
use Rattle.std.proofs.Common.{◌≡◌, Bool, true, false, cond, Option, Some, None, List, [], ◌∷◌, ◌++◌, ℕ, refl, sym, ap, ◌∙◌, ◌&&◌}
use Rattle.std.proofs.lemmas.Bool.{and_parts, and_from}
use Rattle.std.specs.Str.{bytes_eq}
use Rattle.std.proofs.lemmas.Slice.Eq.{bytes_eq-Decides}
use Rattle.pr_plain.specs.Readings.{◌>>=◌}
use Rattle.pr_plain.specs.WordReading.{Words, word_at, behind_word}
use Rattle.pr_plain.proofs.FrontLemmas.{word_at-is}
use Rattle.pr_num.proofs.ListLemmas.{bytes_eq-self}

-- ---- steps of reading

-- the value of a step that found something
pub record Found {A B : Type 0} (o : Option A) (f : A → Option B) (y : B) : Type 0 where
  pub value : A
  pub is : o ≡ Some value
  pub then_is : f value ≡ Some y

pub found_by : {A B : Type 0} (o : Option A) (f : A → Option B) (y : B) → (o >>= f) ≡ Some y → Found o f y
found_by (Some x) f y e = record { value = x; is = refl; then_is = e }
found_by None f y e = cc

-- a value and the words behind it, which a step gave as both
pub record Pair {A : Type 0} (a x : A) (ws rest : Words) : Type 0 where
  pub value : a ≡ x
  pub words : ws ≡ rest

pub pair_of : {A : Type 0} (a x : A) (ws rest : Words) → ◌≡◌ {A = Option (A × Words)} (Some (a, ws)) (Some (x, rest))
    → Pair a x ws rest
pair_of {A} a x ws rest e = record {
  value = ap (λ (o : Option (A × Words)). value_of a o) e;
  words = ap (λ (o : Option (A × Words)). words_of ws o) e;
}
  where
    value_of : A → Option (A × Words) → A
    value_of d None = d
    value_of d (Some p) = p.0

    words_of : Words → Option (A × Words) → Words
    words_of d None = d
    words_of d (Some p) = p.1

-- ---- one word

-- A reader of words undoes a writer: it reads each word that is written of what has the form, and no other word.
pub record Undoes {A : Type 0} (read : List ℕ → Option A) (write : A → List ℕ) (form : A → Bool) : Type 0 where
  pub back : (x : A) → form x ≡ true → read (write x) ≡ Some x
  pub only : (w : List ℕ) (x : A) → read w ≡ Some x → w ≡ write x
  pub formed : (w : List ℕ) (x : A) → read w ≡ Some x → form x ≡ true

-- the words are those of a value, and others behind them
pub record Taken {A : Type 0} (write : A → Words) (form : A → Bool) (ws : Words) (x : A) (rest : Words) : Type 0 where
  pub words : ws ≡ write x ++ rest
  pub formed : form x ≡ true

-- a step takes the words of a value off the front, and only them
pub record Takes {A : Type 0} (step : Words → Option (A × Words)) (write : A → Words) (form : A → Bool) : Type 0 where
  pub taken : (ws : Words) (x : A) (rest : Words) → step ws ≡ Some (x, rest) → Taken write form ws x rest
  pub again : (x : A) (rest : Words) → form x ≡ true → step (write x ++ rest) ≡ Some (x, rest)

-- the same, where something is known of the words behind those of the value
pub record TakesBefore {A : Type 0} (P : Words → Type 0) (step : Words → Option (A × Words)) (write : A → Words)
    (form : A → Bool) : Type 0 where
  pub taken : (ws : Words) (x : A) (rest : Words) → step ws ≡ Some (x, rest) → Taken write form ws x rest
  pub again : (x : A) (rest : Words) → form x ≡ true → P rest → step (write x ++ rest) ≡ Some (x, rest)

-- the step that takes one word
abbrev pub word_by : {A : Type 0} → (List ℕ → Option A) → Words → Option (A × Words)
word_by read ws = word_at ws >>= λ w. (read w.0 >>= λ x. Some (x, w.1))

word_again : {A : Type 0} (read : List ℕ → Option A) (w : List ℕ) (rest : Words) (x : A) → read w ≡ Some x
    → word_by read (w ∷ rest) ≡ Some (x, rest)
unfolding word_at
word_again read w rest x found = ap (λ o. o >>= λ y. Some (y, rest)) found

-- a step that takes a word by a reader that undoes a writer
pub one_word : {A : Type 0} (read : List ℕ → Option A) (write : A → List ℕ) (form : A → Bool) → Undoes read write form
    → Takes (word_by read) (λ x. write x ∷ []) form
one_word {A} read write form u =
    record { taken = taken; again = λ x rest h. word_again read (write x) rest x (u.back x h) }
  where
    taken : (ws : Words) (x : A) (rest : Words) → word_by read ws ≡ Some (x, rest)
        → Taken (λ x. write x ∷ []) form ws x rest
    taken ws x rest e =
        let first = found_by (word_at ws) (λ w. (read w.0 >>= λ x. Some (x, w.1))) (x, rest) e in
        let then = found_by (read first.value.0) (λ y. Some (y, first.value.1)) (x, rest) first.then_is in
        let same = pair_of then.value x first.value.1 rest then.then_is in
        let found : read first.value.0 ≡ Some x = then.is ∙ ap (λ y. Some y) same.value in
        record {
          words = word_at-is ws first.value.0 first.value.1 first.is
              ∙ ap (λ w. w ∷ first.value.1) (u.only first.value.0 x found) ∙ ap (λ r. write x ∷ r) same.words;
          formed = u.formed first.value.0 x found;
        }

-- ---- a word that is given

pub behind_word-is : (k : List ℕ) (ws rest : Words) → behind_word k ws ≡ Some rest → ws ≡ k ∷ rest
unfolding behind_word word_at
behind_word-is k [] rest e = cc
behind_word-is k (w ∷ ws) rest e = by (bytes_eq w k) refl e
  where
    by : (t : Bool) → bytes_eq w k ≡ t → cond t (Some ws) None ≡ Some rest → w ∷ ws ≡ k ∷ rest
    by true is same = let others : ws ≡ rest = cc in
        ap (λ v. v ∷ ws) ((bytes_eq-Decides w k).0 is) ∙ ap (λ vs. k ∷ vs) others
    by false is same = cc

pub behind_word-again : (k : List ℕ) (rest : Words) → behind_word k (k ∷ rest) ≡ Some rest
unfolding behind_word word_at
behind_word-again k rest = ap (λ t. cond t (Some rest) None) (bytes_eq-self k)

-- a choice by a word: the word, or the choices behind it
pub by_word : {A : Type 0} (w k : List ℕ) (x y : Option A) (v : A) (P : Type 0) → cond (bytes_eq w k) x y ≡ Some v
    → (w ≡ k → x ≡ Some v → P) → (y ≡ Some v → P) → P
by_word {A} w k x y v P e here other = by (bytes_eq w k) refl e
  where
    by : (t : Bool) → bytes_eq w k ≡ t → cond t x y ≡ Some v → P
    by true is found = here ((bytes_eq-Decides w k).0 is) found
    by false is found = other found

-- what was taken, of an equal value
pub taken_as : {A : Type 0} (write : A → Words) (form : A → Bool) (ws : Words) (x d : A) (rest : Words) → x ≡ d
    → Taken write form ws x rest → Taken write form ws d rest
taken_as write form ws x d rest e t =
    record { words = t.words ∙ ap (λ y. write y ++ rest) e; formed = ap form (sym e) ∙ t.formed }

-- ---- rows: what is read one after another, and what is made of it

-- A row reads words that are given and values that steps take, one after another. Its last step may need to know the
-- words behind it. No words have the row that is none.
pub data Row (D : Type 0) (P : Words → Type 0) : Type 1 where
  none : Row D P
  done : D → Row D P
  said : List ℕ → Row D P → Row D P
  read : {A : Type 0} {step : Words → Option (A × Words)} {write : A → Words} {form : A → Bool} → Takes step write form
      → (A → Row D P) → Row D P
  ends : {A : Type 0} {step : Words → Option (A × Words)} {write : A → Words} {form : A → Bool}
      → TakesBefore P step write form → (A → D) → Row D P

abbrev pub last : {A D : Type 0} {P : Words → Type 0} {step : Words → Option (A × Words)} {write : A → Words}
    {form : A → Bool} → Takes step write form → (A → D) → Row D P
last t make = ends (record { taken = t.taken; again = λ x rest h before. t.again x rest h }) make

abbrev pub run : {D : Type 0} {P : Words → Type 0} → Row D P → Words → Option (D × Words)
run none ws = None
run (done d) ws = Some (d, ws)
run (said k row) ws = behind_word k ws >>= run row
run (read {step = step} t next) ws = step ws >>= λ a. run (next a.0) a.1
run (ends {step = step} t make) ws = step ws >>= λ a. Some (make a.0, a.1)

-- the values that a row reads, what it makes of them, how they are written, and whether they have the forms
abbrev pub Values : {D : Type 0} {P : Words → Type 0} → Row D P → Type 0
Values none = ⊥
Values (done d) = Unit {0}
Values (said k row) = Values row
Values (read {A = A} t next) = (a : A) × Values (next a)
Values (ends {A = A} t make) = A

abbrev pub made : {D : Type 0} {P : Words → Type 0} (row : Row D P) → Values row → D
made none v = absurd v
made (done d) v = d
made (said k row) v = made row v
made (read t next) v = made (next v.0) v.1
made (ends t make) v = make v

abbrev pub written : {D : Type 0} {P : Words → Type 0} (row : Row D P) → Values row → Words → Words
written none v rest = absurd v
written (done d) v rest = rest
written (said k row) v rest = k ∷ written row v rest
written (read {write = write} t next) v rest = write v.0 ++ written (next v.0) v.1 rest
written (ends {write = write} t make) v rest = write v ++ rest

abbrev pub formed : {D : Type 0} {P : Words → Type 0} (row : Row D P) → Values row → Bool
formed none v = absurd v
formed (done d) v = true
formed (said k row) v = formed row v
formed (read {form = form} t next) v = form v.0 && formed (next v.0) v.1
formed (ends {form = form} t make) v = form v

-- what is written of a row's values is read back
pub row_again : {D : Type 0} {P : Words → Type 0} (row : Row D P) (v : Values row) (rest : Words)
    → formed row v ≡ true → P rest → run row (written row v rest) ≡ Some (made row v, rest)
row_again none v rest h before = absurd v
row_again (done d) v rest h before = refl
row_again (said k row) v rest h before =
    ap (λ o. o >>= run row) (behind_word-again k (written row v rest)) ∙ row_again row v rest h before
row_again (read {form = form} t next) v rest h before =
    let parts = and_parts (form v.0) (formed (next v.0) v.1) h in
    ap (λ o. o >>= λ a. run (next a.0) a.1) (t.again v.0 (written (next v.0) v.1 rest) parts.0)
    ∙ row_again (next v.0) v.1 rest parts.1 before
row_again (ends t make) v rest h before = ap (λ o. o >>= λ a. Some (make a.0, a.1)) (t.again v rest h before)

-- the words are those of a row's values, and others behind them
record Rowed {D : Type 0} {P : Words → Type 0} (row : Row D P) (ws : Words) (d : D) (rest : Words) : Type 0 where
  values : Values row
  words : ws ≡ written row values rest
  formed : formed row values ≡ true
  is : made row values ≡ d

row_taken : {D : Type 0} {P : Words → Type 0} (row : Row D P) (ws : Words) (d : D) (rest : Words)
    → run row ws ≡ Some (d, rest) → Rowed row ws d rest
row_taken none ws d rest e = cc
row_taken (done x) ws d rest e =
    let same = pair_of x d ws rest e in
    record { values = tt; words = same.words; formed = refl; is = same.value }
row_taken (said k row) ws d rest e =
    let p = found_by (behind_word k ws) (run row) (d, rest) e in
    let r = row_taken row p.value d rest p.then_is in
    record {
      values = r.values;
      words = behind_word-is k ws p.value p.is ∙ ap (λ vs. k ∷ vs) r.words;
      formed = r.formed;
      is = r.is;
    }
row_taken (read {step = step} {write = write} {form = form} t next) ws d rest e =
    let p = found_by (step ws) (λ a. run (next a.0) a.1) (d, rest) e in
    let a = t.taken ws p.value.0 p.value.1 p.is in
    let r = row_taken (next p.value.0) p.value.1 d rest p.then_is in
    record {
      values = (p.value.0, r.values);
      words = a.words ∙ ap (λ vs. write p.value.0 ++ vs) r.words;
      formed = and_from (form p.value.0) (formed (next p.value.0) r.values) a.formed r.formed;
      is = r.is;
    }
row_taken {D} (ends {step = step} {write = write} t make) ws d rest e =
    let p = found_by {B = D × Words} (step ws) (λ a. Some (make a.0, a.1)) (d, rest) e in
    let a = t.taken ws p.value.0 p.value.1 p.is in
    let same = pair_of (make p.value.0) d p.value.1 rest p.then_is in
    record {
      values = p.value.0;
      words = a.words ∙ ap (λ vs. write p.value.0 ++ vs) same.words;
      formed = a.formed;
      is = same.value;
    }

-- ---- tables: a row behind each first word

-- a row behind its first word, which a writer and a form know
pub record RowOf {D : Type 0} (P : Words → Type 0) (write : D → Words) (form : D → Bool) : Type 1 where
  pub word : List ℕ
  pub row : Row D P
  pub words : (v : Values row) (rest : Words) → write (made row v) ++ rest ≡ word ∷ written row v rest
  pub forms : (v : Values row) → form (made row v) ≡ formed row v

module _ {D : Type 0} {P : Words → Type 0} {write : D → Words} {form : D → Bool} where
  abbrev pub row_of : (word : List ℕ) (row : Row D P)
      → ((v : Values row) (rest : Words) → write (made row v) ++ rest ≡ word ∷ written row v rest)
      → ((v : Values row) → form (made row v) ≡ formed row v) → RowOf P write form
  row_of word row words forms = record { word = word; row = row; words = words; forms = forms }

  -- the row behind a first word, and what a table reads there
  abbrev pub row_behind : List (RowOf P write form) → List ℕ → Row D P
  row_behind [] w = none
  row_behind (r ∷ rs) w = cond (bytes_eq w r.word) r.row (row_behind rs w)

  abbrev pub choice : List (RowOf P write form) → List ℕ → Words → Option (D × Words)
  choice [] w ws = None
  choice (r ∷ rs) w ws = cond (bytes_eq w r.word) (run r.row ws) (choice rs w ws)

  -- what is written of the values of a row is read back
  pub table_again : (rows : List (RowOf P write form)) (w : List ℕ) (v : Values (row_behind rows w)) (rest : Words)
      → formed (row_behind rows w) v ≡ true → P rest
      → run (row_behind rows w) (written (row_behind rows w) v rest) ≡ Some (made (row_behind rows w) v, rest)
  table_again rows w = row_again (row_behind rows w)

  -- words that are read by a row, and its first word in front of them
  pub headed : (r : RowOf P write form) (w : List ℕ) (ws : Words) (d : D) (rest : Words) → w ≡ r.word
      → run r.row ws ≡ Some (d, rest) → Taken write form (w ∷ ws) d rest
  headed r w ws d rest is found =
      let t = row_taken r.row ws d rest found in
      taken_as write form (w ∷ ws) (made r.row t.values) d rest t.is
      (record {
        words = ap (λ v. v ∷ ws) is ∙ ap (λ vs. r.word ∷ vs) t.words ∙ sym (r.words t.values rest);
        formed = r.forms t.values ∙ t.formed;
      })

  choice_taken : (rows : List (RowOf P write form)) (w : List ℕ) (ws : Words) (d : D) (rest : Words)
      → choice rows w ws ≡ Some (d, rest) → Taken write form (w ∷ ws) d rest
  choice_taken [] w ws d rest e = cc
  choice_taken (r ∷ rs) w ws d rest e =
      by_word w r.word (run r.row ws) (choice rs w ws) (d, rest) (Taken write form (w ∷ ws) d rest) e
      (headed r w ws d rest) (choice_taken rs w ws d rest)

  -- what is read by a table is of the words that are written, and of no others
  pub table_taken : (rows : List (RowOf P write form)) (ws : Words) (d : D) (rest : Words)
      → (word_at ws >>= λ w. choice rows w.0 w.1) ≡ Some (d, rest) → Taken write form ws d rest
  table_taken rows ws d rest e =
      let p = found_by (word_at ws) (λ w. choice rows w.0 w.1) (d, rest) e in
      let t = choice_taken rows p.value.0 p.value.1 d rest p.then_is in
      record { words = word_at-is ws p.value.0 p.value.1 p.is ∙ t.words; formed = t.formed }
