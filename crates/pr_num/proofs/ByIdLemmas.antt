use Rattle.std.proofs.Common.{◌≡◌, ◌≢◌, ℕ, zero, suc, ◌+◌, ◌<◌, ◌≤◌, true, false, eqb, ltb, leb, ◌&&◌, cond, Option, Some, None, IsNone, List, [], ◌∷◌, length, set, refl, sym, ◌∙◌, ap, arith, inl, inr}
use Rattle.std.specs.List.{slice_get, insert, remove}
use Rattle.std.proofs.lemmas.Bool.{ltb-true, ltb-false, eqb-false, leb-true, lt-ltb, le-ltb, le-leb, eq-eqb, ne_eqb, and_parts, cases_Bool}
use Rattle.std.proofs.lemmas.Option.{same_Some, slice_get_past, none-some}
use Rattle.pr_num.specs.ById.{rises_from, IsRising, under, change_under, put_under, put_at, map_each, inserted, without_id, place_from, place_after, thing_at, id_at, first_from, next_after}

-- ---- rising ids

pub rises_from-head : {X : Type 0} (low : ℕ) (e : ℕ × X) (es : List (ℕ × X)) → rises_from low (e ∷ es) ≡ true
    → low ≤ e.0
rises_from-head low e es rises = leb-true low e.0 (and_parts (leb low e.0) (rises_from (e.0 + 1) es) rises).0

pub rises_from-tail : {X : Type 0} (low : ℕ) (e : ℕ × X) (es : List (ℕ × X)) → rises_from low (e ∷ es) ≡ true
    → rises_from (e.0 + 1) es ≡ true
rises_from-tail low e es rises = (and_parts (leb low e.0) (rises_from (e.0 + 1) es) rises).1

-- no id is below the first
pub rises_from-at : {X : Type 0} (low : ℕ) (es : List (ℕ × X)) (i : ℕ) (e : ℕ × X) → rises_from low es ≡ true
    → slice_get es i ≡ Some e → low ≤ e.0
rises_from-at low [] i e rises here = cc
rises_from-at low (d ∷ es) zero e rises here =
    let same : d ≡ e = same_Some d e here in
    let id : d.0 ≡ e.0 = ap (λ (x : ℕ × _). x.0) same in
    let first = rises_from-head low d es rises in
    omega arith
rises_from-at low (d ∷ es) (suc i) e rises here =
    let first = rises_from-head low d es rises in
    let next = rises_from-at (d.0 + 1) es i e (rises_from-tail low d es rises) here in
    omega arith

-- ---- the place of the first id that is not below one

pub place_from-within : {X : Type 0} (low : ℕ) (es : List (ℕ × X)) → place_from low es ≤ length es
place_from-within low [] = omega arith
place_from-within low (e ∷ es) =
    let rest = place_from-within low es in
    elim (ltb e.0 low) as (λ b. cond b (suc (place_from low es)) 0 ≤ suc (length es))
    [ true ↦ omega arith | false ↦ omega arith ]

pub place_from-above : {X : Type 0} (k low : ℕ) (es : List (ℕ × X)) (i : ℕ) (e : ℕ × X) → rises_from k es ≡ true
    → slice_get es i ≡ Some e → e.0 < low → i < place_from low es
place_from-above k low [] i e rises here below = cc
place_from-above k low (d ∷ es) zero e rises here below =
    let id : d.0 ≡ e.0 = ap (λ (x : ℕ × _). x.0) (same_Some d e here) in
    rw (lt-ltb d.0 low (omega arith)) (omega arith)
place_from-above k low (d ∷ es) (suc i) e rises here below =
    let next = rises_from-at (d.0 + 1) es i e (rises_from-tail k d es rises) here in
    let others = place_from-above (d.0 + 1) low es i e (rises_from-tail k d es rises) here below in
    rw (lt-ltb d.0 low (omega arith)) (omega arith)

pub place_from-at_most : {X : Type 0} (low : ℕ) (es : List (ℕ × X)) (i : ℕ) (e : ℕ × X) → slice_get es i ≡ Some e
    → low ≤ e.0 → place_from low es ≤ i
place_from-at_most low [] i e here above = cc
place_from-at_most low (d ∷ es) zero e here above =
    let id : d.0 ≡ e.0 = ap (λ (x : ℕ × _). x.0) (same_Some d e here) in
    rw (le-ltb d.0 low (omega arith)) (omega arith)
place_from-at_most low (d ∷ es) (suc i) e here above =
    let next = place_from-at_most low es i e here above in
    elim (ltb d.0 low) as (λ b. cond b (suc (place_from low es)) 0 ≤ suc i) [ true ↦ omega arith | false ↦ omega arith ]

pub slice_get-place_from : {X : Type 0} (low : ℕ) (es : List (ℕ × X))
    → slice_get es (place_from low es) ≡ first_from low es
slice_get-place_from low [] = refl
slice_get-place_from low (e ∷ es) =
    elim (ltb e.0 low)
    as (λ b. slice_get (e ∷ es) (cond b (suc (place_from low es)) 0) ≡ cond b (first_from low es) (Some e))
    [ true ↦ slice_get-place_from low es | false ↦ refl ]

pub slice_get-place_after : {X : Type 0} (id : Option ℕ) (es : List (ℕ × X))
    → slice_get es (place_after id es) ≡ next_after id es
slice_get-place_after None [] = refl
slice_get-place_after None (e ∷ es) = refl
slice_get-place_after (Some id) es = slice_get-place_from (id + 1) es

-- the first id from one on is not below it, and every other such id is above the first
pub first_from-reaches : {X : Type 0} (low : ℕ) (es : List (ℕ × X)) (e : ℕ × X) → first_from low es ≡ Some e → low ≤ e.0
first_from-reaches low [] e found = cc
first_from-reaches low (d ∷ es) e found =
    elim (cases_Bool (ltb d.0 low)) [
      | inl below ↦ first_from-reaches low es e (rw below at found)
      | inr above ↦ let same : d ≡ e =
          same_Some d e (rw above at found) in let id : d.0 ≡ e.0 = ap (λ (x : ℕ × _). x.0) same in
          let least = ltb-false d.0 low above in omega arith
    ]

-- ---- what stands under an id

pub under-below : {X : Type 0} (low id : ℕ) (es : List (ℕ × X)) → rises_from low es ≡ true → id < low
    → under id es ≡ None
under-below low id [] rises below = refl
under-below low id (e ∷ es) rises below =
    let first = rises_from-head low e es rises in
    rw (ne_eqb e.0 id (λ same. absurd (omega arith)))
    (under-below (e.0 + 1) id es (rises_from-tail low e es rises) (omega arith))

pub under-at : {X : Type 0} (low : ℕ) (es : List (ℕ × X)) (i : ℕ) (e : ℕ × X) → rises_from low es ≡ true
    → slice_get es i ≡ Some e → under e.0 es ≡ Some e.1
under-at low [] i e rises here = cc
under-at low (d ∷ es) zero e rises here = rw (same_Some d e here, eq-eqb e.0 e.0 refl) refl
under-at low (d ∷ es) (suc i) e rises here =
    let tail = rises_from-tail low d es rises in
    let next = rises_from-at (d.0 + 1) es i e tail here in
    rw (ne_eqb d.0 e.0 (λ same. absurd (omega arith))) (under-at (d.0 + 1) es i e tail here)

-- an id does not stand where the first that is not below it is another, or none is there
pub under-first_from : {X : Type 0} (low id : ℕ) (es : List (ℕ × X)) → rises_from low es ≡ true
    → ((e : ℕ × X) → first_from id es ≡ Some e → e.0 ≢ id) → under id es ≡ None
under-first_from low id [] rises other = refl
under-first_from low id (e ∷ es) rises other =
    elim (cases_Bool (ltb e.0 id)) [
      | inl below ↦ let less = ltb-true e.0 id below in
          rw (ne_eqb e.0 id (λ same. absurd (omega arith)))
          (under-first_from (e.0 + 1) id es (rises_from-tail low e es rises) (rw below at other))
      | inr above ↦ let least = ltb-false e.0 id above in
          let differs = other e (ap (λ b. cond b (first_from id es) (Some e)) above) in
          rw (ne_eqb e.0 id differs) (under-below (e.0 + 1) id es (rises_from-tail low e es rises) (omega arith))
    ]

-- ---- what the program does, and the word that says it

pub thing_at-slice_get : {X : Type 0} (es : List (ℕ × X)) (i : ℕ) (e : ℕ × X) → slice_get es i ≡ Some e
    → thing_at i es ≡ Some e.1
thing_at-slice_get [] i e here = cc
thing_at-slice_get (d ∷ es) zero e here = ap (λ (x : ℕ × _). Some x.1) (same_Some d e here)
thing_at-slice_get (d ∷ es) (suc i) e here = thing_at-slice_get es i e here

pub id_at-slice_get : {X : Type 0} (es : List (ℕ × X)) (i : ℕ) (e : ℕ × X) → slice_get es i ≡ Some e
    → id_at i es ≡ Some e.0
id_at-slice_get [] i e here = cc
id_at-slice_get (d ∷ es) zero e here = ap (λ (x : ℕ × _). Some x.0) (same_Some d e here)
id_at-slice_get (d ∷ es) (suc i) e here = id_at-slice_get es i e here

pub set-put_at : {X : Type 0} (es : List (ℕ × X)) (i : ℕ) (e : ℕ × X) (w : X) → slice_get es i ≡ Some e
    → set es i (e.0, w) ≡ put_at i w es
set-put_at [] i e w here = cc
set-put_at (d ∷ es) zero e w here = ap (λ (x : ℕ × _). (x.0, w) ∷ es) (sym (same_Some d e here))
set-put_at (d ∷ es) (suc i) e w here = ap (λ ds. d ∷ ds) (set-put_at es i e w here)

pub remove-without_id : {X : Type 0} (low : ℕ) (es : List (ℕ × X)) (i : ℕ) (e : ℕ × X) → rises_from low es ≡ true
    → slice_get es i ≡ Some e → remove es i ≡ without_id e.0 es
remove-without_id low [] i e rises here = cc
remove-without_id low (d ∷ es) zero e rises here = rw (same_Some d e here, eq-eqb e.0 e.0 refl) refl
remove-without_id low (d ∷ es) (suc i) e rises here =
    let tail = rises_from-tail low d es rises in
    let next = rises_from-at (d.0 + 1) es i e tail here in
    rw (ne_eqb d.0 e.0 (λ same. absurd (omega arith)))
    (ap (λ ds. d ∷ ds) (remove-without_id (d.0 + 1) es i e tail here))

pub insert-inserted : {X : Type 0} (id : ℕ) (x : X) (es : List (ℕ × X))
    → insert es (place_from id es) (id, x) ≡ inserted id x es
insert-inserted id x [] = refl
insert-inserted id x (e ∷ es) =
    elim (ltb e.0 id)
    as (λ b. insert (e ∷ es) (cond b (suc (place_from id es)) 0) (id, x)
    ≡ cond b (e ∷ inserted id x es) ((id, x) ∷ e ∷ es))
    [ true ↦ ap (λ ds. e ∷ ds) (insert-inserted id x es) | false ↦ refl ]

-- the same at the place of an id that the program found
same_id : {X : Type 0} (es : List (ℕ × X)) (i id : ℕ) (e : ℕ × X) → id_at i es ≡ Some id → slice_get es i ≡ Some e
    → e.0 ≡ id
same_id es i id e at here = same_Some e.0 id (sym (id_at-slice_get es i e here) ∙ at)

pub under-id_at : {X : Type 0} (es : List (ℕ × X)) (i id : ℕ) (e : ℕ × X) → IsRising es → id_at i es ≡ Some id
    → slice_get es i ≡ Some e → under id es ≡ Some e.1
under-id_at es i id e rises at here =
    ap (λ n. under n es) (sym (same_id es i id e at here)) ∙ under-at 0 es i e rises here

pub remove-id_at : {X : Type 0} (es : List (ℕ × X)) (i id : ℕ) (e : ℕ × X) → IsRising es → id_at i es ≡ Some id
    → slice_get es i ≡ Some e → remove es i ≡ without_id id es
remove-id_at es i id e rises at here =
    remove-without_id 0 es i e rises here ∙ ap (λ n. without_id n es) (same_id es i id e at here)

id_at-above : {X : Type 0} (low : ℕ) (es : List (ℕ × X)) (i id : ℕ) → rises_from low es ≡ true → id_at i es ≡ Some id
    → low ≤ id
id_at-above low [] i id rises at = cc
id_at-above low (d ∷ es) zero id rises at =
    let first = rises_from-head low d es rises in
    let same = same_Some d.0 id at in
    omega arith
id_at-above low (d ∷ es) (suc i) id rises at =
    let first = rises_from-head low d es rises in
    let next = id_at-above (d.0 + 1) es i id (rises_from-tail low d es rises) at in
    omega arith

-- the id at a place is no earlier one
not_earlier : {X : Type 0} (low : ℕ) (d : ℕ × X) (es : List (ℕ × X)) (i id : ℕ) → rises_from low (d ∷ es) ≡ true
    → id_at i es ≡ Some id → eqb d.0 id ≡ false
not_earlier low d es i id rises at =
    let next = id_at-above (d.0 + 1) es i id (rises_from-tail low d es rises) at in
    ne_eqb d.0 id (λ same. absurd (omega arith))

pub put_at-id_at : {X : Type 0} (low : ℕ) (es : List (ℕ × X)) (i id : ℕ) (w : X) → rises_from low es ≡ true
    → id_at i es ≡ Some id → put_at i w es ≡ put_under id w es
put_at-id_at low [] i id w rises at = refl
put_at-id_at low (d ∷ es) zero id w rises at = rw (eq-eqb d.0 id (same_Some d.0 id at)) refl
put_at-id_at low (d ∷ es) (suc i) id w rises at =
    rw (not_earlier low d es i id rises at)
    (ap (λ ds. d ∷ ds) (put_at-id_at (d.0 + 1) es i id w (rises_from-tail low d es rises) at))

pub under-thing_at : {X : Type 0} (low : ℕ) (es : List (ℕ × X)) (i id : ℕ) → rises_from low es ≡ true
    → id_at i es ≡ Some id → under id es ≡ thing_at i es
under-thing_at low [] i id rises at = refl
under-thing_at low (d ∷ es) zero id rises at = rw (eq-eqb d.0 id (same_Some d.0 id at)) refl
under-thing_at low (d ∷ es) (suc i) id rises at =
    rw (not_earlier low d es i id rises at) (under-thing_at (d.0 + 1) es i id (rises_from-tail low d es rises) at)

-- none stands where the search for the place of an id ended at another id, or at the end
pub under-past : {X : Type 0} (id : ℕ) (es : List (ℕ × X)) → IsRising es → length es ≤ place_from id es
    → under id es ≡ None
under-past id es rises past =
    under-first_from 0 id es rises
    (λ e found. absurd (none-some e (sym (slice_get_past es _ past) ∙ slice_get-place_from id es ∙ found)))

pub under-passed : {X : Type 0} (id : ℕ) (es : List (ℕ × X)) (d : ℕ × X) → IsRising es
    → slice_get es (place_from id es) ≡ Some d → d.0 ≢ id → under id es ≡ None
under-passed id es d rises here other =
    under-first_from 0 id es rises
    (λ e found. let same : d ≡ e = same_Some d e (sym here ∙ slice_get-place_from id es ∙ found) in
    λ is. other (ap (λ (x : ℕ × _). x.0) same ∙ is))

-- ---- ids go on rising

rises_from-lower : {X : Type 0} (low least : ℕ) (es : List (ℕ × X)) → least ≤ low → rises_from low es ≡ true
    → rises_from least es ≡ true
rises_from-lower low least [] below rises = refl
rises_from-lower low least (e ∷ es) below rises =
    let first = rises_from-head low e es rises in
    rw (le-leb least e.0 (omega arith)) (rises_from-tail low e es rises)

pub rises_from-put_at : {X : Type 0} (low i : ℕ) (w : X) (es : List (ℕ × X))
    → rises_from low (put_at i w es) ≡ rises_from low es
rises_from-put_at low i w [] = refl
rises_from-put_at low zero w (e ∷ es) = refl
rises_from-put_at low (suc i) w (e ∷ es) = ap (λ b. leb low e.0 && b) (rises_from-put_at (e.0 + 1) i w es)

pub rises_from-put_under : {X : Type 0} (low id : ℕ) (w : X) (es : List (ℕ × X))
    → rises_from low (put_under id w es) ≡ rises_from low es
rises_from-put_under low id w [] = refl
rises_from-put_under low id w (e ∷ es) =
    elim (eqb e.0 id)
    as (λ b. rises_from low (cond b ((e.0, w) ∷ es) (e ∷ put_under id w es))
    ≡ (leb low e.0 && rises_from (e.0 + 1) es))
    [ true ↦ refl | false ↦ ap (λ b. leb low e.0 && b) (rises_from-put_under (e.0 + 1) id w es) ]

pub rises_from-change_under : {X : Type 0} (low id : ℕ) (f : X → X) (es : List (ℕ × X))
    → rises_from low (change_under id f es) ≡ rises_from low es
rises_from-change_under low id f [] = refl
rises_from-change_under low id f (e ∷ es) =
    elim (eqb e.0 id)
    as (λ b. rises_from low (cond b ((e.0, f e.1) ∷ es) (e ∷ change_under id f es))
    ≡ (leb low e.0 && rises_from (e.0 + 1) es))
    [ true ↦ refl | false ↦ ap (λ b. leb low e.0 && b) (rises_from-change_under (e.0 + 1) id f es) ]

pub rises_from-map_each : {X Y : Type 0} (low : ℕ) (f : X → Y) (es : List (ℕ × X))
    → rises_from low (map_each f es) ≡ rises_from low es
rises_from-map_each low f [] = refl
rises_from-map_each low f (e ∷ es) = ap (λ b. leb low e.0 && b) (rises_from-map_each (e.0 + 1) f es)

pub rises_from-without_id : {X : Type 0} (low id : ℕ) (es : List (ℕ × X)) → rises_from low es ≡ true
    → rises_from low (without_id id es) ≡ true
rises_from-without_id low id [] rises = refl
rises_from-without_id low id (e ∷ es) rises =
    let first = rises_from-head low e es rises in
    let tail = rises_from-tail low e es rises in
    elim (eqb e.0 id) as (λ b. rises_from low (cond b es (e ∷ without_id id es)) ≡ true) [
      | true ↦ rises_from-lower (e.0 + 1) low es (omega arith) tail
      | false ↦ rw (le-leb low e.0 first) (rises_from-without_id (e.0 + 1) id es tail)
    ]

pub rises_from-inserted : {X : Type 0} (low id : ℕ) (x : X) (es : List (ℕ × X)) → low ≤ id → rises_from low es ≡ true
    → IsNone (under id es) → rises_from low (inserted id x es) ≡ true
rises_from-inserted low id x [] reaches rises absent = rw (le-leb low id reaches) refl
rises_from-inserted low id x (e ∷ es) reaches rises absent =
    let first = rises_from-head low e es rises in
    let tail = rises_from-tail low e es rises in
    elim (cases_Bool (eqb e.0 id)) [
      | inl same ↦ let found : true ≡ false = rw same at absent in
          cc
      | inr other ↦ let differs = eqb-false e.0 id other in
          elim (cases_Bool (ltb e.0 id)) [
            | inl below ↦ let less = ltb-true e.0 id below in
                rw (below, le-leb low e.0 first)
                (rises_from-inserted (e.0 + 1) id x es (omega arith) tail (rw other at absent))
            | inr above ↦ let least = ltb-false e.0 id above in
                rw (above, le-leb low id reaches, le-leb (id + 1) e.0 (omega arith)) tail
          ]
    ]

pub ruleset place_laws = (place_from-within)
