use Rattle.std.proofs.Common.{◌≡◌, ℕ, ◌+◌, ◌<◌, ◌≤◌, Bool, true, false, ltb, cond, Option, Some, None, List, [], ◌∷◌, length, drop, refl, sym, ap, ◌∙◌, arith, inl, inr}
use Rattle.std.specs.List.{find, slice_get}
use Rattle.std.specs.Option.{option_or}
use Rattle.std.specs.Prelude.{is_none}
use Rattle.std.proofs.lemmas.Bool.{cases_Bool, le-ltb, ltb-true, ne_eqb}
use Rattle.std.proofs.lemmas.List.{drop_all}
use Rattle.std.proofs.lemmas.List.Folds.{find-append}
use Rattle.pr_num.proofs.BoolLemmas.{and_true}
use Rattle.pr_num.proofs.ListLemmas.{drop-at}
use Rattle.pr_slots.proofs.WalkLaws.{rest-all}
use Rattle.pr_slots.specs.Walks.{rest_from}
use Rattle.pr_model.specs.Order.{is_after, live_lwps, lwps_among, lwps_in, next_lwp, pairs_of}
use Rattle.pr_model.specs.State.{TracedLwp, TracedProcess, TracedSystem}
use Rattle.pr_proc.specs.Orders.{asked_after, first_id, next_asked}

-- What a walk over lists by id finds, whatever it looks for.

module _ (q : ℕ × ℕ → Bool) (pid : ℕ) (lwps : List (ℕ × TracedLwp)) (i : ℕ) (id : ℕ) (l : TracedLwp) where
  pub first-here : slice_get lwps i ≡ Some (id, l) → q (pid, id) ≡ true
      → find q (pairs_of pid (drop i lwps)) ≡ Some (pid, id)
  first-here at here = ap (λ es. find q (pairs_of pid es)) (drop-at lwps i (id, l) at) ∙ rw here refl

  pub first-on : slice_get lwps i ≡ Some (id, l) → q (pid, id) ≡ false
      → find q (pairs_of pid (drop (i + 1) lwps)) ≡ find q (pairs_of pid (drop i lwps))
  first-on at passed = sym (ap (λ es. find q (pairs_of pid es)) (drop-at lwps i (id, l) at) ∙ rw passed refl)

pub first-end : (q : ℕ × ℕ → Bool) (pid : ℕ) (lwps : List (ℕ × TracedLwp)) (i : ℕ) → length lwps ≤ i
    → find q (pairs_of pid (drop i lwps)) ≡ None
first-end q pid lwps i past = ap (λ es. find q (pairs_of pid es)) (drop_all i lwps past)

module _ (q : ℕ × ℕ → Bool) (es ds : List (ℕ × TracedProcess)) (pid : ℕ) (p : TracedProcess) where
  among : es ≡ (pid, p) ∷ ds → find q (lwps_among es) ≡ option_or (find q (lwps_in (pid, p))) (find q (lwps_among ds))
  among at = ap (λ cs. find q (lwps_among cs)) at ∙ find-append q (lwps_in (pid, p)) (lwps_among ds)

  pub next-here : (x : ℕ × ℕ) → es ≡ (pid, p) ∷ ds → find q (lwps_in (pid, p)) ≡ Some x
      → find q (lwps_among es) ≡ Some x
  next-here x at here = among at ∙ ap (λ o. option_or o (find q (lwps_among ds))) here

  pub next-on : es ≡ (pid, p) ∷ ds → find q (lwps_in (pid, p)) ≡ None → find q (lwps_among ds) ≡ find q (lwps_among es)
  next-on at none = sym (among at ∙ ap (λ o. option_or o (find q (lwps_among ds))) none)

pub next-end : (q : ℕ × ℕ → Bool) (es : List (ℕ × TracedProcess)) → es ≡ [] → find q (lwps_among es) ≡ None
next-end q es empty = ap (λ cs. find q (lwps_among cs)) empty

pub ruleset order_laws = (first-here, first-on, first-end, next-end)

-- ---- where the walk begins: no lwp of a process of a lower id comes after an lwp

module _ (q : ℕ × ℕ → Bool) (pid lwp : ℕ) where
  none-of : (low : ℕ) → low < pid → (lwps : List (ℕ × TracedLwp))
      → find (asked_after q (Some (pid, lwp))) (pairs_of low lwps) ≡ None
  unfolding asked_after is_after
  none-of low below [] = refl
  none-of low below (e ∷ es) =
      rw (le-ltb pid low (omega arith), ne_eqb pid low (λ same. absurd (omega arith))) (none-of low below es)

  none-in : (e : ℕ × TracedProcess) → e.0 < pid → find (asked_after q (Some (pid, lwp))) (lwps_in e) ≡ None
  unfolding lwps_in
  none-in e below =
      elim (is_none e.1.ended)
      as (λ b. find (asked_after q (Some (pid, lwp))) (cond b (pairs_of e.0 e.1.lwps) []) ≡ None)
      [ true ↦ none-of e.0 below e.1.lwps | false ↦ refl ]

  passed-below : (low : ℕ) → low ≤ pid → (es : List (ℕ × TracedProcess))
      → find (asked_after q (Some (pid, lwp))) (lwps_among (rest_from low es))
      ≡ find (asked_after q (Some (pid, lwp))) (lwps_among es)
  passed-below low under [] = refl
  passed-below low under (e ∷ es) =
      elim (cases_Bool (ltb e.0 low)) [
        | inl below ↦ let less = ltb-true e.0 low below in
            rw below
            (passed-below low under es
            ∙ sym (find-append (asked_after q (Some (pid, lwp))) (lwps_in e) (lwps_among es)
            ∙ ap (λ o. option_or o (find (asked_after q (Some (pid, lwp))) (lwps_among es))) (none-in e (omega arith))))
        | inr here ↦ rw here refl
      ]

-- so the walk for the lwps after another one begins at that one's process
pub passed-first : (q : ℕ × ℕ → Bool) (after : Option (ℕ × ℕ)) (es : List (ℕ × TracedProcess))
    → find (asked_after q after) (lwps_among (rest_from (first_id after) es))
    ≡ find (asked_after q after) (lwps_among es)
passed-first q None es = ap (λ cs. find (asked_after q None) (lwps_among cs)) (rest-all es)
passed-first q (Some x) es = passed-below q x.0 x.1 x.0 (omega arith) es

-- ---- any lwp

same-find : {X : Type 0} (p q : X → Bool) → ((x : X) → p x ≡ q x) → (xs : List X) → find p xs ≡ find q xs
same-find p q same [] = refl
same-find p q same (x ∷ xs) = rw same (ap (cond (q x) (Some x)) (same-find p q same xs))

pub next-any : (s : TracedSystem) (after : Option (ℕ × ℕ)) → next_asked (λ _. true) s after ≡ next_lwp s after
unfolding next_asked next_lwp asked_after
next-any s after = same-find _ _ (λ x. and_true (is_after after x)) (live_lwps s)

pub ruleset any_laws = (next-any)
