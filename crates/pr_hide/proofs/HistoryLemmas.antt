-- The steps of a history that are not hidden, entry by entry.
use Rattle.std.proofs.Common.{◌≡◌, ◌+◌, ℕ, zero, suc, Some, List, [], ◌∷◌, ◌++◌, take, refl, sym, subst, ◌∙◌, ap}
use Rattle.std.proofs.lemmas.List.{append_assoc, append-nil}
use Rattle.std.proofs.lemmas.Option.{same_Some}
use Rattle.std.specs.List.{slice_get}
use Rattle.pr_num.proofs.ListLemmas.{take-next}
use Rattle.pr_model.specs.Legal.{IsLegal, IsLegalEntry, after, state_after}
use Rattle.pr_model.specs.State.{TracedState}
use Rattle.pr_model.specs.UntracedSteps.{Memory, nothing_yet, remembered, remembered_all}
use Rattle.pr_model.specs.declared.events.Entry.{Entry}
use Rattle.pr_model.specs.declared.steps.Step.{Step}
use Rattle.pr_model.proofs.HistoryLemmas.{state_after-push}
use Rattle.pr_hidden.specs.Covers.{Covers}
use Rattle.pr_hidden.specs.Hiders.{Hiders, covers_after, covers_at, covers_from, no_covers}
use Rattle.pr_hidden.specs.HiddenSteps.{hidden_steps, hidden_steps_from, hidden_steps_of}
use Rattle.pr_hide.specs.Bare.{bare}
use Rattle.pr_hide.specs.Walks.{HasHidden}
use Rattle.pr_hide.proofs.BareLemmas.{after-bare, steps-bare}

remembered-push : (m : Memory) (h : List Entry) (e : Entry)
    → remembered_all m (h ++ e ∷ []) ≡ remembered (remembered_all m h) e
remembered-push m [] e = refl
remembered-push m (x ∷ h) e = remembered-push (remembered m x) h e

covers-push : (who : Hiders) (covers : Covers) (s : TracedState) (h : List Entry) (e : Entry)
    → covers_from who covers s (h ++ e ∷ []) ≡ covers_after who (covers_from who covers s h) (state_after s h) e
covers-push who covers s [] e = refl
covers-push who covers s (x ∷ h) e = covers-push who (covers_after who covers s x) (after s x) h e

steps-push : (who : Hiders) (covers : Covers) (s : TracedState) (m : Memory) (h : List Entry) (e : Entry)
    → hidden_steps_from who covers s m (h ++ e ∷ [])
    ≡ hidden_steps_from who covers s m h
    ++ hidden_steps_of who (covers_from who covers s h) (state_after s h) (remembered_all m h) e
steps-push who covers s m [] e = append-nil (hidden_steps_of who covers s m e)
steps-push who covers s m (x ∷ h) e =
    ap (λ (steps : List Step). hidden_steps_of who covers s m x ++ steps)
    (steps-push who (covers_after who covers s x) (after s x) (remembered m x) h e)
    ∙ sym (append_assoc (hidden_steps_of who covers s m x)
    (hidden_steps_from who (covers_after who covers s x) (after s x) (remembered m x) h)
    (hidden_steps_of who (covers_from who (covers_after who covers s x) (after s x) h) (state_after (after s x) h)
    (remembered_all (remembered m x) h) e))

-- of the walk over a history that is one entry longer
module _ (who : Hiders) (s : TracedState) where
  pub walk-begins : HasHidden who s [] [] nothing_yet no_covers s
  unfolding hidden_steps
  walk-begins = record { steps_are = refl; remembers = refl; hides = refl; state_is = refl }

  pub walk-goes : (h : List Entry) (e : Entry) (steps : List Step) (m : Memory) (covers : Covers) (now : TracedState)
      → HasHidden who s h steps m covers now
      → HasHidden who s (h ++ e ∷ []) (steps ++ hidden_steps_of who covers now m e) (remembered m e)
      (bare (covers_after who covers now e)) (after now e)
  unfolding hidden_steps
  walk-goes h e steps m covers now so_far =
      let at = covers_at who s h in
      let there = state_after s h in
      let so = remembered_all nothing_yet h in
      let seen : hidden_steps_of who covers now m e ≡ hidden_steps_of who at there so e =
      ap (λ (c : Covers). hidden_steps_of who c now m e) so_far.hides
      ∙ steps-bare who at now m e.actor e.act
      ∙ ap (λ (t : TracedState). hidden_steps_of who at t m e) so_far.state_is
      ∙ ap (λ (x : Memory). hidden_steps_of who at there x e) so_far.remembers in
      record {
        steps_are =
            ap (λ (xs : List Step). xs ++ hidden_steps_of who covers now m e) so_far.steps_are
            ∙ ap (λ (xs : List Step). hidden_steps_from who no_covers s nothing_yet h ++ xs) seen
            ∙ sym (steps-push who no_covers s nothing_yet h e);
        remembers = ap (λ (x : Memory). remembered x e) so_far.remembers ∙ sym (remembered-push nothing_yet h e);
        hides =
            ap (λ (c : Covers). bare (covers_after who c now e)) so_far.hides
            ∙ after-bare who at now e.actor e.act
            ∙ ap (λ (t : TracedState). bare (covers_after who at t e)) so_far.state_is
            ∙ ap bare (sym (covers-push who no_covers s h e));
        state_is = ap (λ (t : TracedState). after t e) so_far.state_is ∙ sym (state_after-push s h e);
      }

  -- the same of what was found and made at a place of a longer history
  pub walk-on : (full : List Entry) (i : ℕ) (e : Entry) → slice_get full i ≡ Some e
      → (steps steps' : List Step) (m m' : Memory) (covers covers' : Covers) (now seen found now' : TracedState)
      → HasHidden who s (take i full) steps m covers now
      → seen ≡ now → steps' ≡ steps ++ hidden_steps_of who covers seen m e
      → found ≡ now → covers' ≡ bare (covers_after who covers found e)
      → m' ≡ remembered m e → now' ≡ after now e
      → HasHidden who s (take (i + 1) full) steps' m' covers' now'
  walk-on full i e there steps steps' m m' covers covers' now seen found now' so_far seen_is steps_are found_is
      covers_are m_is now_is =
      let on = walk-goes (take i full) e steps m covers now so_far in
      let long = take-next i full e there in
      record {
        steps_are =
            steps_are
            ∙ ap (λ (t : TracedState). steps ++ hidden_steps_of who covers t m e) seen_is
            ∙ on.steps_are
            ∙ ap (hidden_steps who s) (sym long);
        remembers = m_is ∙ on.remembers ∙ ap (remembered_all nothing_yet) (sym long);
        hides =
            covers_are
            ∙ ap (λ (t : TracedState). bare (covers_after who covers t e)) found_is
            ∙ on.hides
            ∙ ap (λ (x : List Entry). bare (covers_at who s x)) (sym long);
        state_is = now_is ∙ on.state_is ∙ ap (state_after s) (sym long);
      }

-- each entry of a legal history is a legal one
pub legal-at : (n : ℕ) (s : TracedState) (h : List Entry) (i : ℕ) (e : Entry) → IsLegal n s h → slice_get h i ≡ Some e
    → IsLegalEntry n (state_after s (take i h)) e
legal-at n s [] i e legal there = absurd cc
legal-at n s (x ∷ h) zero e legal there = subst (λ (y : Entry). IsLegalEntry n s y) (same_Some x e there) legal.0
legal-at n s (x ∷ h) (suc i) e legal there = legal-at n (after s x) h i e legal.1 there
