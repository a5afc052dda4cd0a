-- A history is judged entry by entry.
use Rattle.std.proofs.Common.{◌≡◌, ◌<◌, ◌≤◌, ◌+◌, ℕ, Bool, true, false, Option, Some, None, IfSome, List, [], ◌∷◌, ◌++◌, length, take, refl, sym, ◌∙◌, ap, subst, arith, length-append, length-take-le}
use Rattle.std.proofs.lemmas.List.{append_assoc, append-nil}
use Rattle.std.proofs.lemmas.Option.{same_Some, slice_get_within}
use Rattle.std.specs.List.{slice_get}
use Rattle.pr_num.proofs.ListLemmas.{take-next}
use Rattle.pr_api.specs.Views.{KernelView}
use Rattle.pr_model.specs.Legal.{IsLegal, IsLegalEntry, after, state_after}
use Rattle.pr_model.specs.State.{TracedState}
use Rattle.pr_model.specs.declared.events.Entry.{Entry}
use Rattle.pr_model.proofs.HistoryLemmas.{IsLegal-push, state_after-push}
use Rattle.pr_judge.proofs.PlayLemmas.{told-more}
use Rattle.pr_world.proofs.ToldLemmas.{told-at}
use Rattle.pr_judge.specs.Judgements.{HasPlayed, IsIllegalEntry, IsPlayed, Judges, Plays}

module _ (n : ℕ) (first : KernelView) where
  pub played-none : HasPlayed n [] first first
  played-none = record {
    history = sym (append-nil first.history);
    places = refl;
    machine = of first.machine;
  }
    where
      of : (o : Option TracedState) → IfSome o (λ s. IsLegal n s [] × (o ≡ Some (state_after s [])))
      of None = tt
      of (Some s) = (tt, refl)

  pub played-more : (now next : KernelView) (h : List Entry) (e : Entry) → HasPlayed n h first now
      → IsPlayed n e now next → HasPlayed n (h ++ e ∷ []) first next
  played-more now next h e so_far step = record {
    history =
        step.history ∙ ap (λ (xs : List Entry). xs ++ e ∷ []) so_far.history ∙ append_assoc first.history h (e ∷ []);
    places = step.places ∙ so_far.places;
    machine =
        told-more first.machine (λ s. IsLegal n s h × (now.machine ≡ Some (state_after s h))) _ so_far.machine
        (λ s is so.
        let made =
        told-at now.machine (λ s. IsLegalEntry n s e × (next.machine ≡ Some (after s e)))
        (state_after s h) so.1 step.machine in
        (IsLegal-push n s h e so.0 made.0, made.1 ∙ ap Some (sym (state_after-push s h e))));
  }

  pub played-next : (now next : KernelView) (h : List Entry) (i : ℕ) (e : Entry) (b : Bool) → slice_get h i ≡ Some e
      → HasPlayed n (take i h) first now → b ≡ true → Plays n e now next b → HasPlayed n (take (i + 1) h) first next
  played-next now next h i e true at so_far plays step =
      subst (λ (xs : List Entry). HasPlayed n xs first next) (sym (take-next i h e at))
      (played-more now next (take i h) e so_far step)
  played-next now next h i e false at so_far plays step = cc

  -- there is a place for the next one
  pub has-place : (now : KernelView) (h : List Entry) (i : ℕ) → i < length h
      → length first.history + length h ≤ first.places → HasPlayed n (take i h) first now
      → length now.history < now.places
  has-place now h i within room so_far =
      let count = ap length so_far.history ∙ length-append first.history (take i h) in
      let places = so_far.places in
      let taken : length (take i h) ≡ i = length-take-le i h (omega (arith, within)) in
      omega (arith, count, places, taken, within, room)

  pub judged-wrong : (now next : KernelView) (h : List Entry) (i : ℕ) (e : Entry) (b : Bool) → slice_get h i ≡ Some e
      → HasPlayed n (take i h) first now → b ≡ false → Plays n e now next b
      → IfSome first.machine (λ s. Judges n s h (Some i))
  judged-wrong now next h i e true at so_far wrong step = cc
  judged-wrong now next h i e false at so_far wrong step =
      told-more first.machine
      (λ s. IsLegal n s (take i h) × (now.machine ≡ Some (state_after s (take i h)))) _ so_far.machine
      (λ s is so. record {
        within = slice_get_within h i e at;
        before = so.0;
        illegal = λ x found.
            subst (λ (y : Entry). IsIllegalEntry n (state_after s (take i h)) y) (same_Some e x (sym at ∙ found))
            (told-at now.machine (λ s. IsIllegalEntry n s e) (state_after s (take i h)) so.1 step);
      })

  pub judged-legal : (now : KernelView) (h : List Entry) → HasPlayed n h first now
      → IfSome first.machine (λ s. Judges n s h None)
  judged-legal now h so_far =
      told-more first.machine (λ s. IsLegal n s h × (now.machine ≡ Some (state_after s h))) _ so_far.machine
      (λ s is so. so.0)
