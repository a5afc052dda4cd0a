use Rattle.std.proofs.Common.{◌≡◌, ◌≤◌, ◌+◌, ℕ, zero, suc, Bool, true, false, Some, None, List, [], ◌∷◌, cond, drop, length, refl, sym, ◌∙◌, ap, arith, add-one}
use Rattle.std.specs.List.{slice_get}
use Rattle.pr_model.specs.declared.events.Actor.{Actor}
use Rattle.pr_world.specs.Worlds.{Pick, WorldState, can_act, first_scheduled}
use Rattle.pr_num.proofs.ListLemmas.{drop-at}

-- A search through the schedule, actor by actor.

passes-here : (w : WorldState) (xs : List Actor) (k : ℕ) (a : Actor) → slice_get xs k ≡ Some a → can_act w a ≡ true
    → first_scheduled w (drop k xs) ≡ Some (record { actor = a; schedule = drop (suc k) xs; last = w.last })
unfolding first_scheduled
passes-here w xs k a at acts =
    ap (first_scheduled w) (drop-at xs k a at ∙ ap (λ n. a ∷ drop n xs) (add-one k))
    ∙ ap (λ (b : Bool).
    cond b (Some (let p : Pick = record { actor = a; schedule = drop (suc k) xs; last = w.last } in p))
    (first_scheduled w (drop (suc k) xs))) acts

passes-by : (w : WorldState) (xs : List Actor) (k : ℕ) (a : Actor) → slice_get xs k ≡ Some a → can_act w a ≡ false
    → first_scheduled w (drop k xs) ≡ first_scheduled w (drop (suc k) xs)
unfolding first_scheduled
passes-by w xs k a at rests =
    ap (first_scheduled w) (drop-at xs k a at ∙ ap (λ n. a ∷ drop n xs) (add-one k))
    ∙ ap (λ (b : Bool).
    cond b (Some (let p : Pick = record { actor = a; schedule = drop (suc k) xs; last = w.last } in p))
    (first_scheduled w (drop (suc k) xs))) rests

pub passed_over : (w : WorldState) (xs : List Actor) (k : ℕ) (a : Actor) → slice_get xs k ≡ Some a → can_act w a ≡ false
    → first_scheduled w (drop (k + 1) xs) ≡ first_scheduled w (drop k xs)
passed_over w xs k a at rests = rw (add-one k) (sym (passes-by w xs k a at rests))

pub found_at : (w : WorldState) (xs : List Actor) (k : ℕ) (a : Actor) → slice_get xs k ≡ Some a → can_act w a ≡ true
    → first_scheduled w (drop k xs) ≡ Some (record { actor = a; schedule = drop (k + 1) xs; last = w.last })
found_at w xs k a at acts = rw (add-one k) (passes-here w xs k a at acts)

pub at_end : (w : WorldState) (xs : List Actor) (k : ℕ) → length xs ≤ k → first_scheduled w (drop k xs) ≡ None
unfolding first_scheduled
at_end w [] zero h = refl
at_end w [] (suc k) h = refl
at_end w (x ∷ xs) zero h = absurd (omega arith)
at_end w (x ∷ xs) (suc k) h = at_end w xs k (omega arith)

pub ruleset schedules = (passed_over, found_at, at_end)
