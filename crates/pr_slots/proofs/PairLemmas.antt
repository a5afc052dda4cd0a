-- What holds of the things under ids by the places that have them.
use Rattle.std.proofs.Common.{◌≡◌, ◌+◌, ◌<◌, ◌≤◌, ◌^◌, ℕ, zero, suc, true, List, [], ◌∷◌, ◌++◌, length, get_or, set, Option, None, Some, IsNone, refl, sym, ap, ◌∙◌, arith}
use Rattle.std.proofs.lemmas.Bool.{lt-ltb, le-ltb, le-leb, ne_eqb, eq-eqb}
use Rattle.std.proofs.lemmas.Option.{same_Some, none-some}
use Rattle.slab.specs.Slab.{entries_from}
use Rattle.pr_num.specs.ById.{rises_from, IsRising, under, put_under, inserted, without_id, first_from}
use Rattle.pr_num.proofs.ByIdLemmas.{rises_from-head, under-below}

-- ---- rising ids

pub rises_from-entries : {X : Type 0} (low k : ℕ) (ps : List (Option X)) → low ≤ k
    → rises_from low (entries_from k ps) ≡ true
rises_from-entries low k [] least = refl
rises_from-entries low k (None ∷ ps) least = rises_from-entries low (k + 1) ps (omega arith)
rises_from-entries low k (Some x ∷ ps) least =
    rw (le-leb low k least) (rises_from-entries (k + 1) (k + 1) ps (omega arith))

pub IsRising-entries : {X : Type 0} (ps : List (Option X)) → IsRising (entries_from 0 ps)
IsRising-entries ps = rises_from-entries 0 0 ps (omega arith)

pub ruleset rising = (IsRising-entries)

-- there are no more pairs than places
length-entries : {X : Type 0} (k : ℕ) (ps : List (Option X)) → length (entries_from k ps) ≤ length ps
length-entries k [] = omega arith
length-entries k (None ∷ ps) =
    let rest = length-entries (k + 1) ps in
    omega arith
length-entries k (Some x ∷ ps) =
    let rest = length-entries (k + 1) ps in
    omega arith

pub few-entries : {X : Type 0} (ps : List (Option X)) → length ps ≤ 2 ^ 32 → length (entries_from 0 ps) ≤ 2 ^ 32
few-entries ps few =
    let all = length-entries 0 ps in
    omega arith

pub ruleset few = (few-entries)

-- ---- the thing under an id

not_below : {X : Type 0} (n k : ℕ) (ps : List (Option X)) → n < k → under n (entries_from k ps) ≡ None
not_below n k ps less = under-below k n (entries_from k ps) (rises_from-entries k k ps (omega arith)) less

-- the place at i is that of the id k + i
under-entries_from : {X : Type 0} (k i n : ℕ) (ps : List (Option X)) → n ≡ k + i
    → under n (entries_from k ps) ≡ get_or ps i None
under-entries_from k zero n [] at = refl
under-entries_from k (suc i) n [] at = refl
under-entries_from k zero n (None ∷ ps) at = not_below n (k + 1) ps (omega arith)
under-entries_from k zero n (Some x ∷ ps) at = rw (eq-eqb k n (omega arith)) refl
under-entries_from k (suc i) n (None ∷ ps) at = under-entries_from (k + 1) i n ps (omega arith)
under-entries_from k (suc i) n (Some x ∷ ps) at =
    rw (ne_eqb k n (λ same. absurd (omega arith))) (under-entries_from (k + 1) i n ps (omega arith))

pub under-entries : {X : Type 0} (id : ℕ) (ps : List (Option X)) → under id (entries_from 0 ps) ≡ get_or ps id None
under-entries id ps = under-entries_from 0 id id ps (omega arith)

-- ---- the first id from one on

-- the same from any number on that is not above the first
first_from-low : {X : Type 0} (low m n : ℕ) (es : List (ℕ × X)) → rises_from low es ≡ true → m ≤ low → n ≤ low
    → first_from m es ≡ first_from n es
first_from-low low m n [] rises one other = refl
first_from-low low m n (e ∷ es) rises one other =
    let least = rises_from-head low e es rises in
    rw (le-ltb e.0 m (omega arith), le-ltb e.0 n (omega arith)) refl

here_from : {X : Type 0} (k i n : ℕ) (x : X) (ps : List (Option X)) → n ≡ k + i → get_or ps i None ≡ Some x
    → first_from n (entries_from k ps) ≡ Some (n, x)
here_from k zero n x [] at here = absurd (none-some x here)
here_from k (suc i) n x [] at here = absurd (none-some x here)
here_from k zero n x (None ∷ ps) at here = absurd (none-some x here)
here_from k zero n x (Some y ∷ ps) at here =
    let same : k ≡ n = omega arith in
    rw (le-ltb k n (omega arith), same, same_Some y x here) refl
here_from k (suc i) n x (None ∷ ps) at here = here_from (k + 1) i n x ps (omega arith) here
here_from k (suc i) n x (Some y ∷ ps) at here =
    rw (lt-ltb k n (omega arith)) (here_from (k + 1) i n x ps (omega arith) here)

passed_from : {X : Type 0} (k i n : ℕ) (ps : List (Option X)) → n ≡ k + i → get_or ps i None ≡ None
    → first_from n (entries_from k ps) ≡ first_from (n + 1) (entries_from k ps)
passed_from k zero n [] at free = refl
passed_from k (suc i) n [] at free = refl
passed_from k zero n (None ∷ ps) at free =
    first_from-low (k + 1) n (n + 1) (entries_from (k + 1) ps) (rises_from-entries (k + 1) (k + 1) ps (omega arith))
    (omega arith) (omega arith)
passed_from k zero n (Some y ∷ ps) at free = absurd (none-some y (sym free))
passed_from k (suc i) n (None ∷ ps) at free = passed_from (k + 1) i n ps (omega arith) free
passed_from k (suc i) n (Some y ∷ ps) at free =
    rw (lt-ltb k n (omega arith), lt-ltb k (n + 1) (omega arith)) (passed_from (k + 1) i n ps (omega arith) free)

past_from : {X : Type 0} (k n : ℕ) (ps : List (Option X)) → k + length ps ≤ n → first_from n (entries_from k ps) ≡ None
past_from k n [] past = refl
past_from k n (None ∷ ps) past = past_from (k + 1) n ps (omega arith)
past_from k n (Some y ∷ ps) past = rw (lt-ltb k n (omega arith)) (past_from (k + 1) n ps (omega arith))

module _ {X : Type 0} (n : ℕ) (ps : List (Option X)) where
  -- a place that is taken is the first from itself on, and a free one is passed
  pub first-here : (x : X) → get_or ps n None ≡ Some x → first_from n (entries_from 0 ps) ≡ Some (n, x)
  first-here x here = here_from 0 n n x ps (omega arith) here

  pub first-passed : get_or ps n None ≡ None → first_from n (entries_from 0 ps) ≡ first_from (n + 1) (entries_from 0 ps)
  first-passed free = passed_from 0 n n ps (omega arith) free

  -- none is behind the last place
  pub first-past : length ps ≤ n → first_from n (entries_from 0 ps) ≡ None
  first-past past = past_from 0 n ps (omega arith)

-- ---- a thing is changed

put_under-from : {X : Type 0} (k i n : ℕ) (x w : X) (ps : List (Option X)) → n ≡ k + i → get_or ps i None ≡ Some x
    → entries_from k (set ps i (Some w)) ≡ put_under n w (entries_from k ps)
put_under-from k zero n x w [] at here = refl
put_under-from k (suc i) n x w [] at here = refl
put_under-from k zero n x w (None ∷ ps) at here = absurd (none-some x here)
put_under-from k zero n x w (Some y ∷ ps) at here = rw (eq-eqb k n (omega arith)) refl
put_under-from k (suc i) n x w (None ∷ ps) at here = put_under-from (k + 1) i n x w ps (omega arith) here
put_under-from k (suc i) n x w (Some y ∷ ps) at here =
    rw (ne_eqb k n (λ same. absurd (omega arith)))
    (ap (λ es. (k, y) ∷ es) (put_under-from (k + 1) i n x w ps (omega arith) here))

pub entries-put_under : {X : Type 0} (id : ℕ) (x w : X) (ps : List (Option X)) → get_or ps id None ≡ Some x
    → entries_from 0 (set ps id (Some w)) ≡ put_under id w (entries_from 0 ps)
entries-put_under id x w ps here = put_under-from 0 id id x w ps (omega arith) here

-- ---- one goes

without_id-from : {X : Type 0} (k i n : ℕ) (x : X) (ps : List (Option X)) → n ≡ k + i → get_or ps i None ≡ Some x
    → entries_from k (set ps i None) ≡ without_id n (entries_from k ps)
without_id-from k zero n x [] at here = refl
without_id-from k (suc i) n x [] at here = refl
without_id-from k zero n x (None ∷ ps) at here = absurd (none-some x here)
without_id-from k zero n x (Some y ∷ ps) at here = rw (eq-eqb k n (omega arith)) refl
without_id-from k (suc i) n x (None ∷ ps) at here = without_id-from (k + 1) i n x ps (omega arith) here
without_id-from k (suc i) n x (Some y ∷ ps) at here =
    rw (ne_eqb k n (λ same. absurd (omega arith)))
    (ap (λ es. (k, y) ∷ es) (without_id-from (k + 1) i n x ps (omega arith) here))

pub entries-without_id : {X : Type 0} (id : ℕ) (x : X) (ps : List (Option X)) → get_or ps id None ≡ Some x
    → entries_from 0 (set ps id None) ≡ without_id id (entries_from 0 ps)
entries-without_id id x ps here = without_id-from 0 id id x ps (omega arith) here

-- ---- one comes

-- before all that stand
inserted-first : {X : Type 0} (n low : ℕ) (x : X) (es : List (ℕ × X)) → rises_from low es ≡ true → n < low
    → inserted n x es ≡ (n, x) ∷ es
inserted-first n low x [] rises below = refl
inserted-first n low x (e ∷ es) rises below =
    let least = rises_from-head low e es rises in
    rw (le-ltb e.0 n (omega arith)) refl

inserted-from : {X : Type 0} (k i n : ℕ) (x : X) (ps : List (Option X)) → n ≡ k + i → i < length ps
    → get_or ps i None ≡ None → entries_from k (set ps i (Some x)) ≡ inserted n x (entries_from k ps)
inserted-from k i n x [] at inside free = absurd (omega arith)
inserted-from k zero n x (None ∷ ps) at inside free =
    let same : k ≡ n = omega arith in
    sym (inserted-first n (k + 1) x (entries_from (k + 1) ps) (rises_from-entries (k + 1) (k + 1) ps (omega arith))
    (omega arith) ∙ ap (λ (m : ℕ). (m, x) ∷ entries_from (k + 1) ps) (sym same))
inserted-from k zero n x (Some y ∷ ps) at inside free = absurd (none-some y (sym free))
inserted-from k (suc i) n x (None ∷ ps) at inside free = inserted-from (k + 1) i n x ps (omega arith) (omega arith) free
inserted-from k (suc i) n x (Some y ∷ ps) at inside free =
    rw (lt-ltb k n (omega arith))
    (ap (λ es. (k, y) ∷ es) (inserted-from (k + 1) i n x ps (omega arith) (omega arith) free))

pub entries-inserted : {X : Type 0} (id : ℕ) (x : X) (ps : List (Option X)) → id < length ps → get_or ps id None ≡ None
    → entries_from 0 (set ps id (Some x)) ≡ inserted id x (entries_from 0 ps)
entries-inserted id x ps inside free = inserted-from 0 id id x ps (omega arith) inside free

-- a free place more behind the last changes nothing
entries-wider_from : {X : Type 0} (k : ℕ) (ps : List (Option X)) → entries_from k (ps ++ None ∷ []) ≡ entries_from k ps
entries-wider_from k [] = refl
entries-wider_from k (None ∷ ps) = entries-wider_from (k + 1) ps
entries-wider_from k (Some x ∷ ps) = ap (λ es. (k, x) ∷ es) (entries-wider_from (k + 1) ps)

pub entries-wider : {X : Type 0} (ps : List (Option X)) → entries_from 0 (ps ++ None ∷ []) ≡ entries_from 0 ps
entries-wider ps = entries-wider_from 0 ps

-- ---- the same of a table as it is seen

is_None : {X : Type 0} (o : Option X) → IsNone o → o ≡ None
is_None None none = refl
is_None (Some x) none = cc

module _ {X : Type 0} (ps : List (Option X)) (es : List (ℕ × X)) (seen : entries_from 0 ps ≡ es) (n : ℕ) where
  pub under_seen : under n es ≡ get_or ps n None
  under_seen = ap (under n) (sym seen) ∙ under-entries n ps

  pub free_seen : IsNone (under n es) → get_or ps n None ≡ None
  free_seen none = sym under_seen ∙ is_None (under n es) none

  pub past_seen : length ps ≤ n → first_from n es ≡ None
  past_seen past = ap (first_from n) (sym seen) ∙ first-past n ps past

  pub passed_seen : get_or ps n None ≡ None → first_from n es ≡ first_from (n + 1) es
  passed_seen free = ap (first_from n) (sym seen) ∙ first-passed n ps free ∙ ap (first_from (n + 1)) seen

  pub inserted_seen : (x : X) → n < length ps → get_or ps n None ≡ None
      → entries_from 0 (set ps n (Some x)) ≡ inserted n x es
  inserted_seen x inside free = entries-inserted n x ps inside free ∙ ap (inserted n x) seen

  module _ (x : X) (here : get_or ps n None ≡ Some x) where
    pub first_seen : first_from n es ≡ Some (n, x)
    first_seen = ap (first_from n) (sym seen) ∙ first-here n ps x here

    pub changed_seen : (w : X) → entries_from 0 (set ps n (Some w)) ≡ put_under n w es
    changed_seen w = entries-put_under n x w ps here ∙ ap (put_under n w) seen

    pub removed_seen : entries_from 0 (set ps n None) ≡ without_id n es
    removed_seen = entries-without_id n x ps here ∙ ap (without_id n) seen
