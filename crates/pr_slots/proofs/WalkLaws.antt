use Rattle.std.proofs.Common.{◌≡◌, ◌+◌, ◌<◌, ◌≤◌, ℕ, true, false, ltb, leb, ◌&&◌, cond, Some, None, List, [], ◌∷◌, refl, sym, ap, ◌∙◌, arith, inl, inr}
use Rattle.std.proofs.lemmas.Bool.{cases_Bool, lt-ltb, le-ltb, ltb-true, ltb-false, ne_eqb, eq-eqb}
use Rattle.std.proofs.lemmas.Option.{same_Some, none-some}
use Rattle.pr_num.specs.ById.{rises_from, under, put_under, change_under, map_each, first_from}
use Rattle.pr_num.proofs.ByIdLemmas.{rises_from-head, rises_from-tail, first_from-reaches}
use Rattle.pr_num.proofs.ByIdLaws.{put_under-found, put_under-same}
use Rattle.pr_slots.specs.Walks.{rest_from, map_below}

-- Walks over things under rising ids, from one id that stands to the next.

-- nothing is passed where all ids are behind
rest-low : {X : Type 0} (low n : ℕ) (es : List (ℕ × X)) → rises_from low es ≡ true → n ≤ low → rest_from n es ≡ es
rest-low low n [] rises least = refl
rest-low low n (e ∷ es) rises least =
    let first = rises_from-head low e es rises in
    rw (le-ltb e.0 n (omega arith)) refl

-- at the start all are left
pub rest-all : {X : Type 0} (es : List (ℕ × X)) → rest_from 0 es ≡ es
rest-all [] = refl
rest-all (e ∷ es) = rw (le-ltb e.0 0 (omega arith)) refl

-- the first id from a number on is the next one of the walk
pub rest-next : {X : Type 0} (low n : ℕ) (es : List (ℕ × X)) (e : ℕ × X) → rises_from low es ≡ true
    → first_from n es ≡ Some e → rest_from n es ≡ e ∷ rest_from (e.0 + 1) es
rest-next low n [] e rises found = absurd (none-some e found)
rest-next {X} low n (d ∷ es) e rises found =
    let tail = rises_from-tail low d es rises in
    elim (cases_Bool (ltb d.0 n)) [
      | inl below ↦
          let there = rw below at found in
          let least : n ≤ e.0 = first_from-reaches n es e there in
          let less : d.0 < n = ltb-true d.0 n below in
          rw (below, lt-ltb d.0 (e.0 + 1) (omega arith)) (rest-next (d.0 + 1) n es e tail there)
      | inr above ↦
          let same : d ≡ e = same_Some d e (rw above at found) in
          let stays : rest_from n (d ∷ es) ≡ d ∷ es = rw above refl in
          let passes : rest_from (d.0 + 1) (d ∷ es) ≡ rest_from (d.0 + 1) es =
          rw (lt-ltb d.0 (d.0 + 1) (omega arith)) refl in
          stays ∙ ap (λ ds. d ∷ ds) (sym (passes ∙ rest-low (d.0 + 1) (d.0 + 1) es tail (omega arith)))
          ∙ ap (λ (x : ℕ × X). x ∷ rest_from (x.0 + 1) (d ∷ es)) same
    ]

-- none is left where there is no id from a number on
pub rest-end : {X : Type 0} (n : ℕ) (es : List (ℕ × X)) → first_from n es ≡ None → rest_from n es ≡ []
rest-end n [] none = refl
rest-end n (d ∷ es) none =
    elim (cases_Bool (ltb d.0 n)) [
      | inl below ↦ rw below (rest-end n es (rw below at none))
      | inr above ↦ absurd (none-some d (sym none ∙ rw above refl))
    ]

-- the next one stands under its id
pub under-next : {X : Type 0} (low n : ℕ) (es : List (ℕ × X)) (e : ℕ × X) → rises_from low es ≡ true
    → first_from n es ≡ Some e → under e.0 es ≡ Some e.1
under-next low n [] e rises found = absurd (none-some e found)
under-next {X} low n (d ∷ es) e rises found =
    elim (cases_Bool (ltb d.0 n)) [
      | inl below ↦
          let there = rw below at found in
          let least : n ≤ e.0 = first_from-reaches n es e there in
          let less : d.0 < n = ltb-true d.0 n below in
          rw (ne_eqb d.0 e.0 (λ same. absurd (omega arith)))
          (under-next (d.0 + 1) n es e (rises_from-tail low d es rises) there)
      | inr above ↦
          let same : d ≡ e = same_Some d e (rw above at found) in
          let here : under d.0 (d ∷ es) ≡ Some d.1 = rw (eq-eqb d.0 d.0 refl) refl in
          ap (λ (x : ℕ × X). under x.0 (d ∷ es)) (sym same) ∙ here ∙ ap (λ (x : ℕ × X). Some x.1) same
    ]

-- ---- a walk that changes what it passes

pub rises_from-map_below : {X : Type 0} (low n : ℕ) (f : X → X) (es : List (ℕ × X))
    → rises_from low (map_below n f es) ≡ rises_from low es
rises_from-map_below low n f [] = refl
rises_from-map_below low n f (e ∷ es) =
    elim (ltb e.0 n)
    as (λ b. rises_from low (cond b (e.0, f e.1) e ∷ map_below n f es) ≡ (leb low e.0 && rises_from (e.0 + 1) es)) [
      | true ↦ ap (λ b. leb low e.0 && b) (rises_from-map_below (e.0 + 1) n f es)
      | false ↦ ap (λ b. leb low e.0 && b) (rises_from-map_below (e.0 + 1) n f es)
    ]

map_below-low : {X : Type 0} (low n : ℕ) (f : X → X) (es : List (ℕ × X)) → rises_from low es ≡ true → n ≤ low
    → map_below n f es ≡ es
map_below-low low n f [] rises least = refl
map_below-low low n f (e ∷ es) rises least =
    let first = rises_from-head low e es rises in
    rw (le-ltb e.0 n (omega arith))
    (ap (λ ds. e ∷ ds) (map_below-low (e.0 + 1) n f es (rises_from-tail low e es rises) (omega arith)))

-- at the start nothing is changed
pub map_below-none : {X : Type 0} (f : X → X) (es : List (ℕ × X)) → map_below 0 f es ≡ es
map_below-none f [] = refl
map_below-none f (e ∷ es) = rw (le-ltb e.0 0 (omega arith)) (ap (λ ds. e ∷ ds) (map_below-none f es))

-- the next one is changed
pub map_below-next : {X : Type 0} (low n : ℕ) (f : X → X) (es : List (ℕ × X)) (e : ℕ × X) → rises_from low es ≡ true
    → first_from n (map_below n f es) ≡ Some e → change_under e.0 f (map_below n f es) ≡ map_below (e.0 + 1) f es
map_below-next low n f [] e rises found = absurd (none-some e found)
map_below-next {X} low n f (d ∷ es) e rises found =
    let tail = rises_from-tail low d es rises in
    elim (cases_Bool (ltb d.0 n)) [
      | inl below ↦
          let there : first_from n (map_below n f es) ≡ Some e = rw (below, below) at found in
          let least : n ≤ e.0 = first_from-reaches n (map_below n f es) e there in
          let less : d.0 < n = ltb-true d.0 n below in
          rw (below, lt-ltb d.0 (e.0 + 1) (omega arith), ne_eqb d.0 e.0 (λ same. absurd (omega arith)))
          (ap (λ ds. (d.0, f d.1) ∷ ds) (map_below-next (d.0 + 1) n f es e tail there))
      | inr above ↦
          let same : d ≡ e = same_Some d e (rw (above, above) at found) in
          let least : n ≤ d.0 = ltb-false d.0 n above in
          let before : map_below n f (d ∷ es) ≡ d ∷ es =
          rw above (ap (λ ds. d ∷ ds) (map_below-low (d.0 + 1) n f es tail (omega arith))) in
          let changes : change_under d.0 f (d ∷ es) ≡ (d.0, f d.1) ∷ es = rw (eq-eqb d.0 d.0 refl) refl in
          let after : map_below (d.0 + 1) f (d ∷ es) ≡ (d.0, f d.1) ∷ es =
          rw (lt-ltb d.0 (d.0 + 1) (omega arith))
          (ap (λ ds. (d.0, f d.1) ∷ ds) (map_below-low (d.0 + 1) (d.0 + 1) f es tail (omega arith))) in
          ap (λ (x : ℕ × X). change_under x.0 f (map_below n f (d ∷ es))) (sym same) ∙ ap (change_under d.0 f) before
          ∙ changes ∙ sym after ∙ ap (λ (x : ℕ × X). map_below (x.0 + 1) f (d ∷ es)) same
    ]

-- at the end all are
pub map_below-all : {X : Type 0} (n : ℕ) (f : X → X) (es : List (ℕ × X)) → first_from n (map_below n f es) ≡ None
    → map_below n f es ≡ map_each f es
map_below-all n f [] none = refl
map_below-all n f (d ∷ es) none =
    elim (cases_Bool (ltb d.0 n)) [
      | inl below ↦ rw below (ap (λ ds. (d.0, f d.1) ∷ ds) (map_below-all n f es (rw (below, below) at none)))
      | inr above ↦ absurd (none-some d (sym none ∙ rw (above, above) refl))
    ]

-- a change that would leave a thing as it is need not be made
pub change_under-idle : {X : Type 0} (id : ℕ) (f : X → X) (x : X) (es : List (ℕ × X)) → under id es ≡ Some x → f x ≡ x
    → change_under id f es ≡ es
change_under-idle id f x es found idle =
    sym (put_under-found id f x es found) ∙ ap (λ y. put_under id y es) idle ∙ put_under-same id x es found

pub ruleset walk_laws = (rest-all)
