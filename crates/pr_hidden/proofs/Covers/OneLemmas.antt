use Rattle.std.proofs.Common.{◌≡◌, ◌≢◌, ◌+◌, ◌<◌, ◌≤◌, ℕ, Bool, true, false, eqb, ltb, not, Option, Some, None, List, [], ◌∷◌, cond, refl, sym, ◌∙◌, ap, inl, inr, arith}
use Rattle.std.proofs.lemmas.Bool.{cases_Bool, eqb-true, eq-eqb, ne_eqb}
use Rattle.std.proofs.lemmas.Option.{same_Some}
use Rattle.pr_num.specs.ById.{change_under, inserted, map_each, rises_from, under, without_id}
use Rattle.pr_num.proofs.BoolLemmas.{not_both}
use Rattle.pr_num.proofs.ByIdLemmas.{rises_from-head, rises_from-tail}
use Rattle.pr_hidden.specs.Covers.{seen_under}

-- Two views of things under rising ids that agree on all but one of them.

apart : (a b : ℕ) → eqb a b ≡ false → a ≢ b
apart a b other is = not_both (eqb a b) (eq-eqb a b is) other

module _ {X Y Z : Type 0} (keeps : ℕ → Bool) (view new : ℕ → X → Y) (last : Y → Z) (id : ℕ)
    (agree : (n : ℕ) → n ≢ id → (x : X) → last (new n x) ≡ last (view n x)) where
  -- behind that one
  behind : (low : ℕ) (es : List (ℕ × X)) → id < low → rises_from low es ≡ true
      → map_each last (seen_under keeps new es) ≡ map_each last (seen_under keeps view es)
  behind low [] less rises = refl
  behind low (e ∷ es) less rises =
      let first = rises_from-head low e es rises in
      let rest = behind (e.0 + 1) es (omega arith) (rises_from-tail low e es rises) in
      elim (cases_Bool (keeps e.0)) [
        | inl kept ↦ rw (kept, agree e.0 (λ is. absurd (omega (arith, is, first))) e.1, rest) refl
        | inr hidden ↦ rw (hidden, rest) refl
      ]

  -- what is changed, and seen otherwise, is seen as another change of what was seen
  pub one-followed : (f : X → X) (g : Y → Y) (x : X) → keeps id ≡ true → last (new id (f x)) ≡ last (g (view id x))
      → (low : ℕ) (es : List (ℕ × X)) → rises_from low es ≡ true → under id es ≡ Some x
      → map_each last (seen_under keeps new (change_under id f es))
      ≡ map_each last (change_under id g (seen_under keeps view es))
  one-followed f g x kept same low [] rises found = absurd (none found)
    where
      none : (let o : Option X = None in o) ≡ Some x → ⊥
      none e = cc
  one-followed f g x kept same low (e ∷ es) rises found =
      let tail = rises_from-tail low e es rises in
      elim (cases_Bool (eqb e.0 id)) [
        | inl here ↦
            let is : e.0 ≡ id = eqb-true e.0 id here in
            let it : e.1 ≡ x = same_Some e.1 x (ap (λ b. cond b (Some e.1) (under id es)) (sym here) ∙ found) in
            let stays : keeps e.0 ≡ true = ap keeps is ∙ kept in
            let one : last (new e.0 (f e.1)) ≡ last (g (view e.0 e.1)) =
            ap (λ n. last (new n (f e.1))) is ∙ ap (λ y. last (new id (f y))) it ∙ same
            ∙ ap (λ y. last (g (view id y))) (sym it) ∙ ap (λ n. last (g (view n e.1))) (sym is) in
            rw (here, stays, here) (ap (λ z. (e.0, z) ∷ map_each last (seen_under keeps new es)) one
            ∙ ap (λ zs. (e.0, last (g (view e.0 e.1))) ∷ zs) (behind (e.0 + 1) es (omega (arith, is)) tail))
        | inr other ↦
            let it : under id es ≡ Some x = ap (λ b. cond b (Some e.1) (under id es)) (sym other) ∙ found in
            let rest = one-followed f g x kept same (e.0 + 1) es tail it in
            elim (cases_Bool (keeps e.0)) [
              | inl stays ↦ rw (other, stays, other)
                  (ap (λ z. (e.0, z) ∷ map_each last (seen_under keeps new (change_under id f es)))
                  (agree e.0 (apart e.0 id other) e.1)
                  ∙ ap (λ zs. (e.0, last (view e.0 e.1)) ∷ zs) rest)
              | inr hidden ↦ rw (other, hidden) rest
            ]
      ]

-- ---- a thing that is hidden comes and goes

module _ {X Y : Type 0} (view : ℕ → X → Y) (id : ℕ) where
  abbrev but : ℕ → Bool
  but n = not (eqb n id)

  abbrev all : ℕ → Bool
  all n = true

  pub absent : (es : List (ℕ × X)) → under id es ≡ None → seen_under but view es ≡ seen_under all view es
  absent [] none = refl
  absent (e ∷ es) none =
      elim (cases_Bool (eqb e.0 id)) [
        | inl here ↦ absurd (some e.1 (ap (λ b. cond b (Some e.1) (under id es)) (sym here) ∙ none))
        | inr other ↦
            let rest : under id es ≡ None = ap (λ b. cond b (Some e.1) (under id es)) (sym other) ∙ none in
            rw other (ap (λ ds. (e.0, view e.0 e.1) ∷ ds) (absent es rest))
      ]
    where
      some : (x : X) → (let o : Option X = Some x in o) ≡ None → ⊥
      some x e = cc

  pub come-hidden : (x : X) (es : List (ℕ × X)) → under id es ≡ None
      → seen_under but view (inserted id x es) ≡ seen_under all view es
  come-hidden x [] none = rw (eq-eqb id id refl) refl
  come-hidden x (e ∷ es) none =
      elim (cases_Bool (eqb e.0 id)) [
        | inl here ↦ absurd (some e.1 (ap (λ b. cond b (Some e.1) (under id es)) (sym here) ∙ none))
        | inr other ↦
            let rest : under id es ≡ None = ap (λ b. cond b (Some e.1) (under id es)) (sym other) ∙ none in
            elim (cases_Bool (ltb e.0 id)) [
              | inl below ↦ rw (below, other) (ap (λ ds. (e.0, view e.0 e.1) ∷ ds) (come-hidden x es rest))
              | inr above ↦ rw (above, eq-eqb id id refl, other)
                  (ap (λ ds. (e.0, view e.0 e.1) ∷ ds) (absent es rest))
            ]
      ]
    where
      some : (y : X) → (let o : Option X = Some y in o) ≡ None → ⊥
      some y e = cc

  above-absent : (low : ℕ) (es : List (ℕ × X)) → id < low → rises_from low es ≡ true → under id es ≡ None
  above-absent low [] less rises = refl
  above-absent low (e ∷ es) less rises =
      let first = rises_from-head low e es rises in
      rw (ne_eqb e.0 id (λ is. absurd (omega (arith, is, first))))
      (above-absent (e.0 + 1) es (omega arith) (rises_from-tail low e es rises))

  pub go-hidden : (low : ℕ) (es : List (ℕ × X)) → rises_from low es ≡ true
      → seen_under all view (without_id id es) ≡ seen_under but view es
  go-hidden low [] rises = refl
  go-hidden low (e ∷ es) rises =
      let tail = rises_from-tail low e es rises in
      elim (cases_Bool (eqb e.0 id)) [
        | inl here ↦
            let is = eqb-true e.0 id here in
            rw here (sym (absent es (above-absent (e.0 + 1) es (omega (arith, is)) tail)))
        | inr other ↦ rw other (ap (λ ds. (e.0, view e.0 e.1) ∷ ds) (go-hidden (e.0 + 1) es tail))
      ]
