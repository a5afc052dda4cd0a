use Rattle.std.proofs.Common.{◌≡◌, ◌≢◌, ◌||◌, ◌&&◌, ℕ, ◌+◌, ◌<◌, ◌≤◌, Bool, true, false, is_none, eqb, ltb, cond, Option, Some, None, List, [], ◌∷◌, ◌++◌, refl, sym, subst, ◌∙◌, ap, arith, inl, inr}
use Rattle.std.specs.List.{find, list_any}
use Rattle.std.specs.Option.{option_or}
use Rattle.std.proofs.lemmas.Bool.{cases_Bool, cases_eq, cases_lt, eq-eqb, eqb-true, le-ltb, lt-ltb, ne_eqb, or_parts}
use Rattle.pr_num.proofs.BoolLemmas.{and_false}
use Rattle.std.proofs.lemmas.List.Folds.{find-append}
use Rattle.std.proofs.lemmas.Option.{none-some, same_Some}
use Rattle.pr_num.proofs.ByIdLemmas.{rises_from-head, rises_from-tail}
use Rattle.pr_num.specs.ById.{IsRising, rises_from, under}
use Rattle.pr_model.specs.Order.{is_after, lwps_among, lwps_in, pairs_of}
use Rattle.pr_model.specs.State.{TracedLwp, TracedProcess}
use Rattle.pr_proc.specs.Orders.{asked_after}
use Rattle.pr_ready.specs.Ready.{is_asked, some_answer}
use Rattle.pr_ready.specs.Walks.{first_pid}

-- Walks over processes that look at those of a set alone.

-- those that stand under an id from one on
abbrev pub behind : ℕ → List (ℕ × TracedProcess) → List (ℕ × TracedProcess)
behind from [] = []
behind from (e ∷ es) = cond (ltb e.0 from) (behind from es) (e ∷ es)

behind-all : (low from : ℕ) → from ≤ low → (es : List (ℕ × TracedProcess)) → rises_from low es ≡ true
    → behind from es ≡ es
behind-all low from below [] rises = refl
behind-all low from below (e ∷ es) rises =
    let first = rises_from-head low e es rises in
    rw (le-ltb e.0 from (omega arith)) refl

pub under-above : (low pid : ℕ) → pid < low → (es : List (ℕ × TracedProcess)) → rises_from low es ≡ true
    → under pid es ≡ None
under-above low pid below [] rises = refl
under-above low pid below (e ∷ es) rises =
    let first = rises_from-head low e es rises in
    rw (ne_eqb e.0 pid (λ same. absurd (omega arith)))
    (under-above (e.0 + 1) pid (omega arith) es (rises_from-tail low e es rises))

-- a process of whose lwps none passes has none that does
none-in : (q : ℕ × ℕ → Bool) (e : ℕ × TracedProcess) → find q (pairs_of e.0 e.1.lwps) ≡ None
    → find q (lwps_in e) ≡ None
unfolding lwps_in
none-in q e none =
    elim (is_none e.1.ended) as (λ b. find q (cond b (pairs_of e.0 e.1.lwps) []) ≡ None) [
      | true ↦ none
      | false ↦ refl
    ]

-- a live one has those lwps
pub live-in : (q : ℕ × ℕ → Bool) (pid : ℕ) (p : TracedProcess) → p.ended ≡ None
    → find q (lwps_in (pid, p)) ≡ find q (pairs_of pid p.lwps)
unfolding lwps_in
live-in q pid p live = rw live refl

none-before : (answer : ℕ × ℕ → Bool) (x : ℕ × ℕ) (pid : ℕ) → pid < x.0 → (es : List (ℕ × TracedLwp))
    → find (asked_after answer (Some x)) (pairs_of pid es) ≡ None
unfolding asked_after is_after
none-before answer x pid less [] = refl
none-before answer x pid less (e ∷ es) =
    rw (le-ltb x.0 pid (omega arith), ne_eqb x.0 pid (λ same. absurd (omega arith)))
    (none-before answer x pid less es)

none-answered : (answer : ℕ × ℕ → Bool) (after : Option (ℕ × ℕ)) (pid : ℕ) (es : List (ℕ × TracedLwp))
    → list_any (is_asked answer pid) es ≡ false → find (asked_after answer after) (pairs_of pid es) ≡ None
unfolding asked_after
none-answered answer after pid [] none = refl
none-answered answer after pid (e ∷ es) none =
    let parts = or_parts (answer (pid, e.0)) (list_any (is_asked answer pid) es) none in
    rw (parts.0, and_false (is_after after (pid, e.0))) (none-answered answer after pid es parts.1)

-- ---- what is found

module _ (q : ℕ × ℕ → Bool) where
  -- among the lwps of all of these
  abbrev pub Found : List (ℕ × TracedProcess) → Option (ℕ × ℕ)
  Found es = find q (lwps_among es)

  -- in a process, if there is one
  abbrev pub found_in : ℕ → Option TracedProcess → Option (ℕ × ℕ)
  found_in pid None = None
  found_in pid (Some p) = find q (lwps_in (pid, p))

  found-cons : (e : ℕ × TracedProcess) (es : List (ℕ × TracedProcess))
      → Found (e ∷ es) ≡ option_or (find q (lwps_in e)) (Found es)
  found-cons e es = find-append q (lwps_in e) (lwps_among es)

  -- nothing is found in those from one id on, below another one
  abbrev pub Nothing : List (ℕ × TracedProcess) → ℕ → ℕ → Type 0
  Nothing es from end =
      (other : ℕ) (p : TracedProcess) → from ≤ other → other < end → under other es ≡ Some p
      → find q (lwps_in (other, p)) ≡ None

  nothing-tail : (low : ℕ) (e : ℕ × TracedProcess) (es : List (ℕ × TracedProcess)) (from end : ℕ)
      → rises_from low (e ∷ es) ≡ true → Nothing (e ∷ es) from end → Nothing es from end
  nothing-tail low e es from end rises none other p past below there =
      elim (cases_Bool (eqb e.0 other)) [
        | inl same ↦ absurd
            (none-some p (sym (under-above (e.0 + 1) other (let is = eqb-true e.0 other same in omega arith) es
            (rises_from-tail low e es rises)) ∙ there))
        | inr apart ↦ none other p past below (rw apart there)
      ]

  -- the walk goes from one process to the next one of the set
  abbrev Step : List (ℕ × TracedProcess) → ℕ → ℕ → Type 0
  Step es from pid = Found (behind from es) ≡ option_or (found_in pid (under pid es)) (Found (behind (pid + 1) es))

  step-before : (e : ℕ × TracedProcess) (es : List (ℕ × TracedProcess)) (from pid : ℕ) → e.0 < from → from ≤ pid
      → Step es from pid → Step (e ∷ es) from pid
  step-before e es from pid before past rest =
      rw (
        lt-ltb e.0 from before,
        ne_eqb e.0 pid (λ same. absurd (omega arith)),
        lt-ltb e.0 (pid + 1) (omega arith),
      ) rest

  step-under : (e : ℕ × TracedProcess) (es : List (ℕ × TracedProcess)) (from pid : ℕ) → from ≤ e.0 → e.0 < pid
      → rises_from (e.0 + 1) es ≡ true → find q (lwps_in e) ≡ None → Step es from pid → Step (e ∷ es) from pid
  step-under e es from pid here less rises none rest =
      rw (
        le-ltb e.0 from here,
        ne_eqb e.0 pid (λ same. absurd (omega arith)),
        lt-ltb e.0 (pid + 1) (omega arith),
      )
      (found-cons e es ∙ ap (λ (o : Option (ℕ × ℕ)). option_or o (Found es)) none
      ∙ ap Found (sym (behind-all (e.0 + 1) from (omega arith) es rises)) ∙ rest)

  step-here : (e : ℕ × TracedProcess) (es : List (ℕ × TracedProcess)) (from : ℕ) → from ≤ e.0
      → rises_from (e.0 + 1) es ≡ true → Step (e ∷ es) from e.0
  step-here e es from here rises =
      rw (le-ltb e.0 from here, eq-eqb e.0 e.0 refl, lt-ltb e.0 (e.0 + 1) (omega arith))
      (found-cons e es
      ∙ ap (λ (ds : List (ℕ × TracedProcess)). option_or (find q (lwps_in e)) (Found ds))
      (sym (behind-all (e.0 + 1) (e.0 + 1) (omega arith) es rises)))

  step-above : (e : ℕ × TracedProcess) (es : List (ℕ × TracedProcess)) (from pid : ℕ) → from ≤ e.0 → pid < e.0
      → rises_from (e.0 + 1) es ≡ true → Step (e ∷ es) from pid
  step-above e es from pid here above rises =
      rw (
        le-ltb e.0 from here,
        ne_eqb e.0 pid (λ same. absurd (omega arith)),
        under-above (e.0 + 1) pid (omega arith) es rises,
        le-ltb e.0 (pid + 1) (omega arith),
      ) refl

  pub walk-step : (low : ℕ) (es : List (ℕ × TracedProcess)) (from pid : ℕ) → rises_from low es ≡ true → from ≤ pid
      → Nothing es from pid → Step es from pid
  walk-step low [] from pid rises past none = refl
  walk-step low (e ∷ es) from pid rises past none =
      let tail = rises_from-tail low e es rises in
      let rest = walk-step (e.0 + 1) es from pid tail past (nothing-tail low e es from pid rises none) in
      elim (cases_lt e.0 from) [
        | inl before ↦ step-before e es from pid before past rest
        | inr here ↦ elim (cases_lt e.0 pid) [
          | inl less ↦ step-under e es from pid here less tail
              (none e.0 e.1 here less (rw (eq-eqb e.0 e.0 refl) refl)) rest
          | inr more ↦ elim (cases_eq e.0 pid) [
            | inl same ↦ subst (λ n. Step (e ∷ es) from n) same (step-here e es from here tail)
            | inr apart ↦ step-above e es from pid here (omega arith) tail
          ]
        ]
      ]

  pub walk-end : (low : ℕ) (es : List (ℕ × TracedProcess)) (from : ℕ) → rises_from low es ≡ true
      → ((end : ℕ) → Nothing es from end) → Found (behind from es) ≡ None
  walk-end low [] from rises none = refl
  walk-end low (e ∷ es) from rises none =
      let tail = rises_from-tail low e es rises in
      let rest = walk-end (e.0 + 1) es from tail (λ end. nothing-tail low e es from end rises (none end)) in
      elim (cases_lt e.0 from) [
        | inl before ↦ rw (lt-ltb e.0 from before) rest
        | inr here ↦ rw (le-ltb e.0 from here)
            (found-cons e es
            ∙ ap (λ (o : Option (ℕ × ℕ)). option_or o (Found es))
            (none (e.0 + 1) e.0 e.1 here (omega arith) (rw (eq-eqb e.0 e.0 refl) refl))
            ∙ ap Found (sym (behind-all (e.0 + 1) from (omega arith) es tail)) ∙ rest)
      ]

-- ---- where the walk begins

module _ (answer : ℕ × ℕ → Bool) (after : Option (ℕ × ℕ)) where
  -- no lwp of a process below that one comes after it
  none-below : (pid : ℕ) → pid < first_pid after → (lwps : List (ℕ × TracedLwp))
      → find (asked_after answer after) (pairs_of pid lwps) ≡ None
  none-below pid less lwps = by after refl
    where
      each : (x : ℕ × ℕ) → pid < x.0 → (es : List (ℕ × TracedLwp))
          → find (asked_after answer (Some x)) (pairs_of pid es) ≡ None
      each x less es = none-before answer x pid less es

      by : (o : Option (ℕ × ℕ)) → after ≡ o → find (asked_after answer after) (pairs_of pid lwps) ≡ None
      by None is =
          absurd (let low : pid < first_pid None = subst (λ (a : Option (ℕ × ℕ)). pid < first_pid a) is less in
          omega arith)
      by (Some x) is =
          rw is (each x (subst (λ (a : Option (ℕ × ℕ)). pid < first_pid a) is less) lwps)

  pub walk-begins : (es : List (ℕ × TracedProcess))
      → Found (asked_after answer after) (behind (first_pid after) es) ≡ Found (asked_after answer after) es
  walk-begins [] = refl
  walk-begins (e ∷ es) =
      elim (cases_lt e.0 (first_pid after)) [
        | inl before ↦ rw (lt-ltb e.0 (first_pid after) before)
            (walk-begins es
            ∙ sym (found-cons (asked_after answer after) e es
            ∙ ap (λ (o : Option (ℕ × ℕ)). option_or o (Found (asked_after answer after) es))
            (none-in (asked_after answer after) e (none-below e.0 before e.1.lwps))))
        | inr here ↦ rw (le-ltb e.0 (first_pid after) here) refl
      ]

  -- none of the lwps of a process about which the answer is no
  pub none-asked : (pid : ℕ) (p : TracedProcess) → some_answer answer pid p ≡ false
      → find (asked_after answer after) (lwps_in (pid, p)) ≡ None
  none-asked pid p none = none-in (asked_after answer after) (pid, p) (each p.lwps none)
    where
      each : (es : List (ℕ × TracedLwp)) → list_any (is_asked answer pid) es ≡ false
          → find (asked_after answer after) (pairs_of pid es) ≡ None
      each es none = none-answered answer after pid es none
