use Rattle.std.proofs.Common.{◌≡◌, ◌≢◌, ℕ, zero, suc, ◌+◌, ◌<◌, ◌≤◌, true, false, eqb, ltb, cond, Option, Some, None, List, [], ◌∷◌, ◌++◌, length, take, drop, refl, sym, ◌∙◌, ap, add-one, arith, inl, inr}
use Rattle.std.specs.List.{All}
use Rattle.std.specs.Option.{option_map}
use Rattle.std.proofs.lemmas.List.Elements.{All-nil, All-cons, All-head, All-tail}
use Rattle.std.proofs.lemmas.Bool.{eqb-true, ltb-true, ne_eqb, eq-eqb, cases_Bool}
use Rattle.std.proofs.lemmas.Option.{same_Some, slice_get_past}
use Rattle.pr_num.specs.ById.{rises_from, under, change_under, put_under, put_at, map_each, inserted, without_id, thing_at, place_from, first_from, place_after, next_after}
use Rattle.pr_num.proofs.ByIdLemmas.{rises_from-head, rises_from-tail, rises_from-change_under, rises_from-map_each, rises_from-without_id, rises_from-inserted, rises_from-put_under, rises_from-put_at, under-below, slice_get-place_after, slice_get-place_from}

-- Laws of things under ids: what a step of the program is in the words of the lists, and what is found afterwards.

-- ---- a thing that was lent

pub put_under-found : {X : Type 0} (id : ℕ) (f : X → X) (x : X) (es : List (ℕ × X)) → under id es ≡ Some x
    → put_under id (f x) es ≡ change_under id f es
put_under-found id f x [] found = refl
put_under-found id f x (e ∷ es) found =
    elim (eqb e.0 id)
    as (λ b. cond b (Some e.1) (under id es) ≡ Some x
    → cond b ((e.0, f x) ∷ es) (e ∷ put_under id (f x) es) ≡ cond b ((e.0, f e.1) ∷ es) (e ∷ change_under id f es)) [
      | true ↦ λ h. ap (λ y. (e.0, f y) ∷ es) (sym (same_Some e.1 x h))
      | false ↦ λ h. ap (λ ds. e ∷ ds) (put_under-found id f x es h)
    ] found

-- what was found and is put back changes nothing
pub put_under-same : {X : Type 0} (id : ℕ) (x : X) (es : List (ℕ × X)) → under id es ≡ Some x → put_under id x es ≡ es
put_under-same id x [] found = refl
put_under-same id x (e ∷ es) found =
    elim (eqb e.0 id)
    as (λ b. cond b (Some e.1) (under id es) ≡ Some x → cond b ((e.0, x) ∷ es) (e ∷ put_under id x es) ≡ e ∷ es) [
      | true ↦ λ h. ap (λ y. (e.0, y) ∷ es) (sym (same_Some e.1 x h))
      | false ↦ λ h. ap (λ ds. e ∷ ds) (put_under-same id x es h)
    ] found

pub put_at-same : {X : Type 0} (i : ℕ) (x : X) (es : List (ℕ × X)) → thing_at i es ≡ Some x → put_at i x es ≡ es
put_at-same i x [] found = refl
put_at-same zero x (e ∷ es) found = ap (λ y. (e.0, y) ∷ es) (sym (same_Some e.1 x found))
put_at-same (suc i) x (e ∷ es) found = ap (λ ds. e ∷ ds) (put_at-same i x es found)

pub change_under-none : {X : Type 0} (id : ℕ) (f : X → X) (es : List (ℕ × X)) → under id es ≡ None
    → change_under id f es ≡ es
change_under-none id f [] none = refl
change_under-none id f (e ∷ es) none =
    elim (eqb e.0 id)
    as (λ b. cond b (Some e.1) (under id es) ≡ None
    → cond b ((e.0, f e.1) ∷ es) (e ∷ change_under id f es) ≡ e ∷ es)
    [ true ↦ λ h. cc | false ↦ λ h. ap (λ ds. e ∷ ds) (change_under-none id f es h) ] none

pub without_id-none : {X : Type 0} (id : ℕ) (es : List (ℕ × X)) → under id es ≡ None → without_id id es ≡ es
without_id-none id [] none = refl
without_id-none id (e ∷ es) none =
    elim (eqb e.0 id) as (λ b. cond b (Some e.1) (under id es) ≡ None → cond b es (e ∷ without_id id es) ≡ e ∷ es)
    [ true ↦ λ h. cc | false ↦ λ h. ap (λ ds. e ∷ ds) (without_id-none id es h) ] none

-- two steps that agree on the thing that stands change the table alike
pub change_under-alike : {X : Type 0} (id : ℕ) (f g : X → X) (x : X) (es : List (ℕ × X)) → under id es ≡ Some x
    → f x ≡ g x → change_under id f es ≡ change_under id g es
change_under-alike id f g x es found alike =
    sym (put_under-found id f x es found) ∙ ap (λ y. put_under id y es) alike ∙ put_under-found id g x es found

-- ---- one more thing is changed, as at a step of a loop over all of them

pub map_each-append : {X Y : Type 0} (f : X → Y) (ds es : List (ℕ × X))
    → map_each f (ds ++ es) ≡ map_each f ds ++ map_each f es
map_each-append f [] es = refl
map_each-append f (d ∷ ds) es = ap (λ cs. (d.0, f d.1) ∷ cs) (map_each-append f ds es)

pub length-map_each : {X Y : Type 0} (f : X → Y) (es : List (ℕ × X)) → length (map_each f es) ≡ length es
length-map_each f [] = refl
length-map_each f (e ∷ es) = ap suc (length-map_each f es)

pub length-put_at : {X : Type 0} (i : ℕ) (w : X) (es : List (ℕ × X)) → length (put_at i w es) ≡ length es
length-put_at i w [] = refl
length-put_at zero w (e ∷ es) = refl
length-put_at (suc i) w (e ∷ es) = ap suc (length-put_at i w es)

pub length-put_under : {X : Type 0} (id : ℕ) (w : X) (es : List (ℕ × X)) → length (put_under id w es) ≡ length es
length-put_under id w [] = refl
length-put_under id w (e ∷ es) =
    elim (eqb e.0 id) as (λ b. length (cond b ((e.0, w) ∷ es) (e ∷ put_under id w es)) ≡ suc (length es))
    [ true ↦ refl | false ↦ ap suc (length-put_under id w es) ]

one_more : {X : Type 0} (f : X → X) (x : X) (es : List (ℕ × X)) (i : ℕ)
    → thing_at i (map_each f (take i es) ++ drop i es) ≡ Some x
    → put_at i (f x) (map_each f (take i es) ++ drop i es) ≡ map_each f (take (suc i) es) ++ drop (suc i) es
one_more f x [] zero here = refl
one_more f x [] (suc i) here = refl
one_more f x (e ∷ es) zero here = ap (λ y. (e.0, f y) ∷ es) (sym (same_Some e.1 x here))
one_more f x (e ∷ es) (suc i) here = ap (λ ds. (e.0, f e.1) ∷ ds) (one_more f x es i here)

pub map_each_step : {X : Type 0} (f : X → X) (es ds : List (ℕ × X)) (i : ℕ) (x : X)
    → ds ≡ map_each f (take i es) ++ drop i es → thing_at i ds ≡ Some x
    → put_at i (f x) ds ≡ map_each f (take (i + 1) es) ++ drop (i + 1) es
map_each_step f es ds i x so_far here =
    ap (put_at i (f x)) so_far ∙ one_more f x es i (ap (thing_at i) (sym so_far) ∙ here) ∙ rw (add-one i) refl

-- no id is left from one on, or above one, where the search for it ended behind the last
pub first_from-past : {X : Type 0} (low : ℕ) (es : List (ℕ × X)) → length es ≤ place_from low es
    → first_from low es ≡ None
first_from-past low es past = sym (slice_get-place_from low es) ∙ slice_get_past es _ past

pub next_after-past : {X : Type 0} (id : Option ℕ) (es : List (ℕ × X)) → length es ≤ place_after id es
    → next_after id es ≡ None
next_after-past id es past = sym (slice_get-place_after id es) ∙ slice_get_past es _ past

pub ruleset by_id_laws = (
  put_under-found,
  put_under-same,
  put_at-same,
  change_under-none,
  without_id-none,
  slice_get-place_after,
  slice_get-place_from,
  first_from-past,
  next_after-past,
  map_each_step,
  length-put_at,
  length-put_under,
)

-- ---- what stands under an id afterwards

pub under-change_under : {X : Type 0} (id : ℕ) (f : X → X) (es : List (ℕ × X))
    → under id (change_under id f es) ≡ option_map f (under id es)
under-change_under id f [] = refl
under-change_under id f (e ∷ es) =
    elim (cases_Bool (eqb e.0 id))
    [ inl here ↦ rw (here, here) refl | inr other ↦ rw (other, other) (under-change_under id f es) ]

pub under-change_under_other : {X : Type 0} (id other : ℕ) (f : X → X) → id ≢ other → (es : List (ℕ × X))
    → under other (change_under id f es) ≡ under other es
under-change_under_other id other f apart [] = refl
under-change_under_other id other f apart (e ∷ es) =
    elim (cases_Bool (eqb e.0 id)) [
      | inl here ↦ let same = eqb-true e.0 id here in
          rw (here, ne_eqb e.0 other (λ is. apart (sym same ∙ is))) refl
      | inr elsewhere ↦
          rw elsewhere (ap (cond (eqb e.0 other) (Some e.1)) (under-change_under_other id other f apart es))
    ]

pub under-map_each : {X Y : Type 0} (id : ℕ) (f : X → Y) (es : List (ℕ × X))
    → under id (map_each f es) ≡ option_map f (under id es)
under-map_each id f [] = refl
under-map_each id f (e ∷ es) =
    elim (eqb e.0 id)
    as (λ b. cond b (Some (f e.1)) (under id (map_each f es)) ≡ option_map f (cond b (Some e.1) (under id es)))
    [ true ↦ refl | false ↦ under-map_each id f es ]

pub under-inserted : {X : Type 0} (id : ℕ) (x : X) (es : List (ℕ × X)) → under id (inserted id x es) ≡ Some x
under-inserted id x [] = rw (eq-eqb id id refl) refl
under-inserted id x (e ∷ es) =
    elim (cases_Bool (ltb e.0 id)) [
      | inl below ↦ let less = ltb-true e.0 id below in
          rw (below, ne_eqb e.0 id (λ same. absurd (omega arith))) (under-inserted id x es)
      | inr above ↦ rw (above, eq-eqb id id refl) refl
    ]

pub under-inserted_other : {X : Type 0} (id other : ℕ) (x : X) → id ≢ other → (es : List (ℕ × X))
    → under other (inserted id x es) ≡ under other es
under-inserted_other id other x apart [] = rw (ne_eqb id other apart) refl
under-inserted_other id other x apart (e ∷ es) =
    elim (cases_Bool (ltb e.0 id)) [
      | inl below ↦ rw below (ap (cond (eqb e.0 other) (Some e.1)) (under-inserted_other id other x apart es))
      | inr above ↦ rw (above, ne_eqb id other apart) refl
    ]

pub under-without_id : {X : Type 0} (low id : ℕ) (es : List (ℕ × X)) → rises_from low es ≡ true
    → under id (without_id id es) ≡ None
under-without_id low id [] rises = refl
under-without_id low id (e ∷ es) rises =
    let tail = rises_from-tail low e es rises in
    elim (cases_Bool (eqb e.0 id)) [
      | inl here ↦ let same = eqb-true e.0 id here in
          rw here (under-below (e.0 + 1) id es tail (omega arith))
      | inr other ↦ rw (other, other) (under-without_id (e.0 + 1) id es tail)
    ]

pub under-without_id_other : {X : Type 0} (id other : ℕ) → id ≢ other → (es : List (ℕ × X))
    → under other (without_id id es) ≡ under other es
under-without_id_other id other apart [] = refl
under-without_id_other id other apart (e ∷ es) =
    elim (cases_Bool (eqb e.0 id)) [
      | inl here ↦ let same = eqb-true e.0 id here in
          rw (here, ne_eqb e.0 other (λ is. apart (sym same ∙ is))) refl
      | inr elsewhere ↦
          rw elsewhere (ap (cond (eqb e.0 other) (Some e.1)) (under-without_id_other id other apart es))
    ]

-- an id above all that stand is free
pub under-beyond : {X : Type 0} (id : ℕ) (es : List (ℕ × X)) → All (λ e. e.0 < id) es → under id es ≡ None
under-beyond id [] below = refl
under-beyond id (e ∷ es) below =
    let first : e.0 < id = All-head (λ d. d.0 < id) e es below in
    rw (ne_eqb e.0 id (λ same. absurd (omega arith))) (under-beyond id es (All-tail (λ d. d.0 < id) e es below))

-- ---- changes after one another, and seen through a function of the things

pub change_under-change_under : {X : Type 0} (id : ℕ) (f g : X → X) (es : List (ℕ × X))
    → change_under id g (change_under id f es) ≡ change_under id (λ x. g (f x)) es
change_under-change_under id f g [] = refl
change_under-change_under id f g (e ∷ es) =
    elim (cases_Bool (eqb e.0 id)) [
      | inl here ↦ rw (here, here) refl
      | inr other ↦ rw (other, other) (ap (λ ds. e ∷ ds) (change_under-change_under id f g es))
    ]

pub change_under_comm : {X : Type 0} (id other : ℕ) (f g : X → X) → id ≢ other → (es : List (ℕ × X))
    → change_under id f (change_under other g es) ≡ change_under other g (change_under id f es)
change_under_comm id other f g apart [] = refl
change_under_comm id other f g apart (e ∷ es) =
    elim (cases_Bool (eqb e.0 id)) [
      | inl here ↦ let same = eqb-true e.0 id here in
          rw (ne_eqb e.0 other (λ is. apart (sym same ∙ is)), here, ne_eqb e.0 other (λ is. apart (sym same ∙ is))) refl
      | inr elsewhere ↦ elim (cases_Bool (eqb e.0 other)) [
        | inl there ↦ rw (there, elsewhere, there) refl
        | inr nowhere ↦
            rw (nowhere, elsewhere, nowhere) (ap (λ ds. e ∷ ds) (change_under_comm id other f g apart es))
      ]
    ]

pub map_each-change_under : {X Y : Type 0} (g : X → Y) (id : ℕ) (f : X → X) (h : Y → Y) (es : List (ℕ × X))
    → ((x : X) → under id es ≡ Some x → g (f x) ≡ h (g x))
    → map_each g (change_under id f es) ≡ change_under id h (map_each g es)
map_each-change_under g id f h [] steps = refl
map_each-change_under g id f h (e ∷ es) steps =
    elim (cases_Bool (eqb e.0 id)) [
      | inl here ↦
          rw here (ap (λ y. (e.0, y) ∷ map_each g es) (steps e.1 (ap (λ b. cond b (Some e.1) (under id es)) here)))
      | inr other ↦ rw other (ap (λ ds. (e.0, g e.1) ∷ ds) (map_each-change_under g id f h es (rw other at steps)))
    ]

pub map_each-inserted : {X Y : Type 0} (g : X → Y) (id : ℕ) (x : X) (es : List (ℕ × X))
    → map_each g (inserted id x es) ≡ inserted id (g x) (map_each g es)
map_each-inserted g id x [] = refl
map_each-inserted g id x (e ∷ es) =
    elim (ltb e.0 id)
    as (λ b. map_each g (cond b (e ∷ inserted id x es) ((id, x) ∷ e ∷ es))
    ≡ cond b ((e.0, g e.1) ∷ inserted id (g x) (map_each g es)) ((id, g x) ∷ (e.0, g e.1) ∷ map_each g es))
    [ true ↦ ap (λ ds. (e.0, g e.1) ∷ ds) (map_each-inserted g id x es) | false ↦ refl ]

pub map_each-without_id : {X Y : Type 0} (g : X → Y) (id : ℕ) (es : List (ℕ × X))
    → map_each g (without_id id es) ≡ without_id id (map_each g es)
map_each-without_id g id [] = refl
map_each-without_id g id (e ∷ es) =
    elim (eqb e.0 id)
    as (λ b. map_each g (cond b es (e ∷ without_id id es))
    ≡ cond b (map_each g es) ((e.0, g e.1) ∷ without_id id (map_each g es)))
    [ true ↦ refl | false ↦ ap (λ ds. (e.0, g e.1) ∷ ds) (map_each-without_id g id es) ]

pub map_each-map_each : {X Y Z : Type 0} (f : X → Y) (g : Y → Z) (es : List (ℕ × X))
    → map_each g (map_each f es) ≡ map_each (λ x. g (f x)) es
map_each-map_each f g [] = refl
map_each-map_each f g (e ∷ es) = ap (λ ds. (e.0, g (f e.1)) ∷ ds) (map_each-map_each f g es)

-- ---- lengths

pub length-change_under : {X : Type 0} (id : ℕ) (f : X → X) (es : List (ℕ × X))
    → length (change_under id f es) ≡ length es
length-change_under id f [] = refl
length-change_under id f (e ∷ es) =
    elim (eqb e.0 id) as (λ b. length (cond b ((e.0, f e.1) ∷ es) (e ∷ change_under id f es)) ≡ suc (length es))
    [ true ↦ refl | false ↦ ap suc (length-change_under id f es) ]

pub length-inserted : {X : Type 0} (id : ℕ) (x : X) (es : List (ℕ × X)) → length (inserted id x es) ≡ length es + 1
length-inserted id x [] = refl
length-inserted id x (e ∷ es) =
    let next = length-inserted id x es in
    elim (ltb e.0 id) as (λ b. length (cond b (e ∷ inserted id x es) ((id, x) ∷ e ∷ es)) ≡ suc (length es) + 1)
    [ true ↦ omega arith | false ↦ omega arith ]

-- ---- what holds of each pair

pub All-under : {X : Type 0} (P : ℕ × X → Type 0) (id : ℕ) (x : X) (es : List (ℕ × X)) → All P es → under id es ≡ Some x
    → P (id, x)
All-under P id x [] all found = cc
All-under P id x (e ∷ es) all found =
    elim (cases_Bool (eqb e.0 id)) [
      | inl here ↦ let same = eqb-true e.0 id here in let thing : e.1 ≡ x = same_Some e.1 x (rw here at found) in
          rw (← same, ← thing) (All-head P e es all)
      | inr other ↦ All-under P id x es (All-tail P e es all) (rw other at found)
    ]

pub All-change_under : {X : Type 0} (P : ℕ × X → Type 0) (id : ℕ) (f : X → X) (es : List (ℕ × X))
    → ((x : X) → under id es ≡ Some x → P (id, x) → P (id, f x)) → All P es → All P (change_under id f es)
All-change_under P id f [] keeps all = all
All-change_under P id f (e ∷ es) keeps all =
    elim (cases_Bool (eqb e.0 id)) [
      | inl here ↦ let same = eqb-true e.0 id here in
          rw here (All-cons P _ _
          (rw same (keeps e.1 (ap (λ b. cond b (Some e.1) (under id es)) here) (rw (← same) (All-head P e es all))))
          (All-tail P e es all))
      | inr other ↦
          rw other
          (All-cons P _ _ (All-head P e es all) (All-change_under P id f es (rw other at keeps) (All-tail P e es all)))
    ]

pub All-map_each : {X Y : Type 0} (P : ℕ × X → Type 0) (Q : ℕ × Y → Type 0) (f : X → Y)
    → ((e : ℕ × X) → P e → Q (e.0, f e.1)) → (es : List (ℕ × X)) → All P es → All Q (map_each f es)
All-map_each P Q f keeps [] all = All-nil Q
All-map_each P Q f keeps (e ∷ es) all =
    All-cons Q _ _ (keeps e (All-head P e es all)) (All-map_each P Q f keeps es (All-tail P e es all))

pub All-inserted : {X : Type 0} (P : ℕ × X → Type 0) (id : ℕ) (x : X) (es : List (ℕ × X)) → P (id, x) → All P es
    → All P (inserted id x es)
All-inserted P id x [] new all = All-cons P (id, x) [] new all
All-inserted P id x (e ∷ es) new all =
    elim (ltb e.0 id) as (λ b. All P (cond b (e ∷ inserted id x es) ((id, x) ∷ e ∷ es))) [
      | true ↦ All-cons P _ _ (All-head P e es all) (All-inserted P id x es new (All-tail P e es all))
      | false ↦ All-cons P (id, x) (e ∷ es) new all
    ]

pub All-without_id : {X : Type 0} (P : ℕ × X → Type 0) (id : ℕ) (es : List (ℕ × X)) → All P es
    → All P (without_id id es)
All-without_id P id [] all = all
All-without_id P id (e ∷ es) all =
    elim (eqb e.0 id) as (λ b. All P (cond b es (e ∷ without_id id es))) [
      | true ↦ All-tail P e es all
      | false ↦ All-cons P _ _ (All-head P e es all) (All-without_id P id es (All-tail P e es all))
    ]

-- what a table of things under ids keeps, and what then stands
pub ruleset rising_laws = (
  rises_from-change_under,
  rises_from-map_each,
  rises_from-without_id,
  rises_from-inserted,
  rises_from-put_under,
  rises_from-put_at,
)

pub ruleset under_laws = (
  under-change_under,
  under-change_under_other,
  under-map_each,
  under-inserted,
  under-inserted_other,
  under-without_id,
  under-without_id_other,
  under-beyond,
)
