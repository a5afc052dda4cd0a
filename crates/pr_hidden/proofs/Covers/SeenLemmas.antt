use Rattle.std.proofs.Common.{◌≡◌, ◌≢◌, ◌+◌, ℕ, Bool, true, false, eqb, ltb, is_none, is_some, Option, Some, None, List, [], ◌∷◌, length, cond, refl, sym, ◌∙◌, ap, inl, inr, suc}
use Rattle.std.proofs.lemmas.Bool.{cases_Bool, eqb-true}
use Rattle.std.specs.Option.{option_map}
use Rattle.pr_num.specs.ById.{under, change_under, map_each, inserted, without_id}
use Rattle.pr_hidden.specs.Covers.{seen_under}

-- Things under ids of which some are kept, each seen by its id.

true-false : {Z : Type 0} → true ≡ false → Z
true-false e = absurd (no e)
  where
    no : true ≡ false → ⊥
    no e = cc

module _ {X Y : Type 0} (keeps : ℕ → Bool) (view : ℕ → X → Y) where
  -- what is not kept is not there
  absent : (id : ℕ) (g : Y → Y) → keeps id ≡ false → (ds : List (ℕ × X))
      → change_under id g (seen_under keeps view ds) ≡ seen_under keeps view ds
  absent id g none [] = refl
  absent id g none (d ∷ ds) =
      elim (cases_Bool (keeps d.0)) [
        | inl kept ↦ rw kept
            (elim (cases_Bool (eqb d.0 id)) [
              | inl here ↦ true-false (sym kept ∙ ap keeps (eqb-true d.0 id here) ∙ none)
              | inr other ↦ rw other (ap (λ cs. (d.0, view d.0 d.1) ∷ cs) (absent id g none ds))
            ])
        | inr hidden ↦ rw hidden (absent id g none ds)
      ]

  -- a thing is changed, for both views alike, whether it is kept or not
  pub seen-change : (id : ℕ) (f : X → X) (g : Y → Y) → ((x : X) → view id (f x) ≡ g (view id x)) → (es : List (ℕ × X))
      → seen_under keeps view (change_under id f es) ≡ change_under id g (seen_under keeps view es)
  seen-change id f g agree [] = refl
  seen-change id f g agree (e ∷ es) =
      elim (cases_Bool (eqb e.0 id)) [
        | inl here ↦ let same = eqb-true e.0 id here in
            elim (cases_Bool (keeps e.0)) [
              | inl kept ↦ rw (here, kept, here)
                  (ap (λ y. (e.0, y) ∷ seen_under keeps view es)
                  (ap (λ n. view n (f e.1)) same ∙ agree e.1 ∙ ap (λ n. g (view n e.1)) (sym same)))
              | inr hidden ↦ rw (here, hidden) (sym (absent id g (ap keeps (sym same) ∙ hidden) es))
            ]
        | inr other ↦
            elim (cases_Bool (keeps e.0)) [
              | inl kept ↦ rw (other, kept, other) (ap (λ ds. (e.0, view e.0 e.1) ∷ ds) (seen-change id f g agree es))
              | inr hidden ↦ rw (other, hidden) (seen-change id f g agree es)
            ]
      ]

  -- every thing is changed, for both views alike
  pub seen-each : (f : X → X) (g : Y → Y) → ((id : ℕ) (x : X) → view id (f x) ≡ g (view id x)) → (es : List (ℕ × X))
      → seen_under keeps view (map_each f es) ≡ map_each g (seen_under keeps view es)
  seen-each f g agree [] = refl
  seen-each f g agree (e ∷ es) =
      elim (cases_Bool (keeps e.0)) [
        | inl kept ↦ rw (kept, agree e.0 e.1) (ap (λ ds. (e.0, g (view e.0 e.1)) ∷ ds) (seen-each f g agree es))
        | inr hidden ↦ rw hidden (seen-each f g agree es)
      ]

  -- a change of what is not kept is not seen
  pub seen-hidden : (id : ℕ) (f : X → X) → keeps id ≡ false → (es : List (ℕ × X))
      → seen_under keeps view (change_under id f es) ≡ seen_under keeps view es
  seen-hidden id f none [] = refl
  seen-hidden id f none (e ∷ es) =
      elim (cases_Bool (eqb e.0 id)) [
        | inl here ↦ let gone : keeps e.0 ≡ false = ap keeps (eqb-true e.0 id here) ∙ none in rw (here, gone) refl
        | inr other ↦
            elim (cases_Bool (keeps e.0)) [
              | inl kept ↦ rw (other, kept) (ap (λ ds. (e.0, view e.0 e.1) ∷ ds) (seen-hidden id f none es))
              | inr hidden ↦ rw (other, hidden) (seen-hidden id f none es)
            ]
      ]

  -- what is kept is found as it is seen
  pub under-kept : (id : ℕ) → keeps id ≡ true → (es : List (ℕ × X))
      → under id (seen_under keeps view es) ≡ option_map (view id) (under id es)
  under-kept id kept [] = refl
  under-kept id kept (e ∷ es) =
      elim (cases_Bool (eqb e.0 id)) [
        | inl here ↦ let same = eqb-true e.0 id here in
            let stays : keeps e.0 ≡ true = ap keeps same ∙ kept in
            rw (here, stays, here) (ap (λ n. Some (view n e.1)) same)
        | inr other ↦
            elim (cases_Bool (keeps e.0)) [
              | inl stays ↦ rw (other, stays, other) (under-kept id kept es)
              | inr hidden ↦ rw (other, hidden) (under-kept id kept es)
            ]
      ]

  -- ---- where all are kept

  pub Keeping : Type 0
  Keeping = (id : ℕ) → keeps id ≡ true

  pub all-kept : ((id : ℕ) → keeps id ≡ true) → Keeping
  unfolding Keeping
  all-kept all = all

  pub seen-without : Keeping → (id : ℕ) (es : List (ℕ × X))
      → seen_under keeps view (without_id id es) ≡ without_id id (seen_under keeps view es)
  unfolding Keeping
  seen-without all id [] = refl
  seen-without all id (e ∷ es) =
      elim (cases_Bool (eqb e.0 id)) [
        | inl here ↦ rw (here, all e.0, here) refl
        | inr other ↦ rw (other, all e.0, other) (ap (λ ds. (e.0, view e.0 e.1) ∷ ds) (seen-without all id es))
      ]

  pub seen-inserted : Keeping → (id : ℕ) (x : X) (es : List (ℕ × X))
      → seen_under keeps view (inserted id x es) ≡ inserted id (view id x) (seen_under keeps view es)
  unfolding Keeping
  seen-inserted all id x [] = rw (all id) refl
  seen-inserted all id x (e ∷ es) =
      elim (cases_Bool (ltb e.0 id)) [
        | inl below ↦ rw (below, all e.0, below) (ap (λ ds. (e.0, view e.0 e.1) ∷ ds) (seen-inserted all id x es))
        | inr above ↦ rw (above, all id, all e.0, above) refl
      ]

  pub seen-length : Keeping → (es : List (ℕ × X)) → length (seen_under keeps view es) ≡ length es
  unfolding Keeping
  seen-length all [] = refl
  seen-length all (e ∷ es) = rw (all e.0) (ap suc (seen-length all es))

-- ---- which are kept, said in two ways

pub seen-alike : {X Y : Type 0} (one other : ℕ → Bool) (view : ℕ → X → Y) → ((id : ℕ) → one id ≡ other id)
    → (es : List (ℕ × X)) → seen_under one view es ≡ seen_under other view es
seen-alike one other view same [] = refl
seen-alike one other view same (e ∷ es) = rw (same e.0, seen-alike one other view same es) refl
