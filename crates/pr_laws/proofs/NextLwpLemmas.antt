use Rattle.std.proofs.Common.{◌≡◌, ◌≤◌, ◌+◌, ◌||◌, ℕ, Bool, true, false, ltb, Option, Some, None, IsSome, List, [], ◌∷◌, ◌++◌, cond, refl, sym, ◌∙◌, subst, arith, inl, inr}
use Rattle.std.proofs.lemmas.Bool.{lt-ltb, eq-eqb, ne_eqb, cases_Bool}
use Rattle.std.proofs.lemmas.List.Elements.{All-nil, All-cons, All-head, All-tail, All-append}
use Rattle.std.proofs.lemmas.Option.{same_Some}
use Rattle.std.specs.Prelude.{is_none}
use Rattle.std.specs.List.{All, find, slice_index_or}
use Rattle.pr_num.proofs.ByIdLemmas.{rises_from-head, rises_from-tail}
use Rattle.pr_num.proofs.SearchLemmas.{All-find, find-passes}
use Rattle.pr_num.specs.ById.{IsRising, rises_from, under}
use Rattle.pr_laws.proofs.RepresentativeLemmas.{ids-above}
use Rattle.pr_model.specs.Lawful.{IsLawfulSystem, IsLawfulProcess}
use Rattle.pr_model.specs.Order.{pairs_of, lwps_in, lwps_among, live_lwps, is_after, IsNotBefore, IsNext, next_lwp}
use Rattle.pr_model.specs.State.{TracedSystem, TracedProcess, TracedLwp, live_process, process_of, lwp_of}

-- The next lwp after another one is live, and none of those that come after that one is before it.

-- all of these come after one, and after each of some
abbrev AreAfter : List (ℕ × ℕ) → ℕ × ℕ → Type 0
AreAfter ys x = All (λ (y : ℕ × ℕ). is_after (Some x) y ≡ true) ys

abbrev IsAfter : ℕ × ℕ → ℕ × ℕ → Type 0
IsAfter x y = is_after (Some x) y ≡ true

-- each pair comes after those before it
Sorted : List (ℕ × ℕ) → Type 0
Sorted [] = Unit {0}
Sorted (x ∷ xs) = AreAfter xs x × Sorted xs

after-process : (x y : ℕ × ℕ) → x.0 + 1 ≤ y.0 → is_after (Some x) y ≡ true
unfolding is_after
after-process x y above = rw (lt-ltb x.0 y.0 (omega arith)) refl

after-lwp : (x y : ℕ × ℕ) → y.0 ≡ x.0 → x.1 + 1 ≤ y.1 → is_after (Some x) y ≡ true
unfolding is_after
after-lwp x y same above =
    rw (eq-eqb x.0 y.0 (sym same), lt-ltb x.1 y.1 (omega arith))
    (elim (ltb x.0 y.0) as (λ b. (b || true) ≡ true) [ true ↦ refl | false ↦ refl ])

Sorted-append : (xs ys : List (ℕ × ℕ)) → Sorted xs → Sorted ys → All (AreAfter ys) xs → Sorted (xs ++ ys)
unfolding Sorted
Sorted-append [] ys _ sorted _ = sorted
Sorted-append (x ∷ xs) ys (above, rest) sorted across = (
  All-append (IsAfter x) xs ys above (All-head (AreAfter ys) x xs across),
  Sorted-append xs ys rest sorted
      (All-tail (AreAfter ys) x xs across),
)

-- ---- the lwps of one process

pairs-process : (pid : ℕ) (es : List (ℕ × TracedLwp)) → All (λ (x : ℕ × ℕ). x.0 ≡ pid) (pairs_of pid es)
pairs-process pid [] = All-nil (λ (x : ℕ × ℕ). x.0 ≡ pid)
pairs-process pid (e ∷ es) =
    All-cons (λ (x : ℕ × ℕ). x.0 ≡ pid) (pid, e.0) (pairs_of pid es) refl (pairs-process pid es)

pairs-above : (pid low : ℕ) (es : List (ℕ × TracedLwp)) → rises_from low es ≡ true
    → All (λ (x : ℕ × ℕ). low ≤ x.1) (pairs_of pid es)
pairs-above pid low [] rises = All-nil (λ (x : ℕ × ℕ). low ≤ x.1)
pairs-above pid low (e ∷ es) rises =
    let first = rises_from-head low e es rises in
    let rest = pairs-above pid (e.0 + 1) es (rises_from-tail low e es rises) in
    All-cons (λ (x : ℕ × ℕ). low ≤ x.1) (pid, e.0) (pairs_of pid es) first
    (λ k d lt. let above = rest k d lt in omega arith)

pairs-sorted : (pid low : ℕ) (es : List (ℕ × TracedLwp)) → rises_from low es ≡ true → Sorted (pairs_of pid es)
unfolding Sorted
pairs-sorted pid low [] rises = tt
pairs-sorted pid low (e ∷ es) rises =
    let tail = rises_from-tail low e es rises in (
      λ k d lt. after-lwp (pid, e.0) _ (pairs-process pid es k d lt)
          (pairs-above pid (e.0 + 1) es tail k d lt),
      pairs-sorted pid (e.0 + 1) es tail,
    )

in-process : (e : ℕ × TracedProcess) → All (λ (x : ℕ × ℕ). x.0 ≡ e.0) (lwps_in e)
unfolding lwps_in
in-process e =
    elim (is_none e.1.ended) as
    (λ b. All (λ (x : ℕ × ℕ). x.0 ≡ e.0)
    (cond b (pairs_of e.0 e.1.lwps) [])) [
      | true ↦ pairs-process e.0 e.1.lwps
      | false ↦ All-nil
          (λ (x : ℕ × ℕ). x.0 ≡ e.0)
    ]

in-sorted : (e : ℕ × TracedProcess) → IsRising e.1.lwps → Sorted (lwps_in e)
unfolding lwps_in Sorted
in-sorted e rises =
    elim (is_none e.1.ended) as
    (λ b. Sorted (cond b (pairs_of e.0 e.1.lwps) [])) [ true ↦ pairs-sorted e.0 0 e.1.lwps rises | false ↦ tt ]

-- ---- the lwps of all

among-above : (low : ℕ) (es : List (ℕ × TracedProcess)) → rises_from low es ≡ true
    → All (λ (x : ℕ × ℕ). low ≤ x.0) (lwps_among es)
among-above low [] rises = All-nil (λ (x : ℕ × ℕ). low ≤ x.0)
among-above low (e ∷ es) rises =
    let first = rises_from-head low e es rises in
    let own = in-process e in
    let rest = among-above (e.0 + 1) es (rises_from-tail low e es rises) in
    All-append (λ (x : ℕ × ℕ). low ≤ x.0) (lwps_in e) (lwps_among es) (λ k d lt. let same = own k d lt in omega arith)
    (λ k d lt. let above = rest k d lt in omega arith)

among-sorted : (low : ℕ) (es : List (ℕ × TracedProcess)) → rises_from low es ≡ true → All IsLawfulProcess es
    → Sorted (lwps_among es)
unfolding Sorted
among-sorted low [] rises lawful = tt
among-sorted low (e ∷ es) rises lawful =
    let tail = rises_from-tail low e es rises in
    let own = in-process e in
    let rest = among-above (e.0 + 1) es tail in
    let here = All-head IsLawfulProcess e es lawful in
    Sorted-append (lwps_in e) (lwps_among es) (in-sorted e here.rising)
    (among-sorted (e.0 + 1) es tail (All-tail IsLawfulProcess e es lawful))
    (λ k d lt j c less. let same = own k d lt in let above = rest j c less in after-process _ _ (omega arith))

-- ---- what is found

found-least : (after : Option (ℕ × ℕ)) (xs : List (ℕ × ℕ)) (x : ℕ × ℕ) → Sorted xs → find (is_after after) xs ≡ Some x
    → All (IsNotBefore after x) xs
unfolding Sorted
found-least after [] x sorted found = cc
found-least after (y ∷ ys) x (above, rest) found =
    elim (cases_Bool (is_after after y)) [
      | inl here ↦ let same : y ≡ x = same_Some y x (rw here at found) in All-cons
          (IsNotBefore after x) y ys (λ _ _. sym same)
          (λ k d lt _ before. let after_it = subst
          (AreAfter ys) same above k d lt in let both : true ≡ false =
          sym after_it
          ∙ before in cc)
      | inr not_here ↦ All-cons (IsNotBefore after x) y ys
          (λ is _. let both : true ≡ false = sym is
          ∙ not_here in cc) (found-least after ys x rest (rw not_here at found))
    ]

-- ---- the lwps of all live processes stand there

-- a pair of ids of a live process and of an lwp of it
Stands : TracedSystem → ℕ × ℕ → Type 0
Stands s x = (p : TracedProcess) × ((live_process s x.0 ≡ Some p) × IsSome (lwp_of p x.1))

under-each : {X : Type 0} (low : ℕ) (es : List (ℕ × X)) → rises_from low es ≡ true
    → All (λ (e : ℕ × X). under e.0 es ≡ Some e.1) es
under-each {X} low [] rises = All-nil (λ (d : ℕ × X). under d.0 [] ≡ Some d.1)
under-each {X} low (e ∷ es) rises =
    let tail = rises_from-tail low e es rises in
    let rest = under-each (e.0 + 1) es tail in
    let above = ids-above (e.0 + 1) es tail in
    All-cons (λ (d : ℕ × X). under d.0 (e ∷ es) ≡ Some d.1) e es (rw (eq-eqb e.0 e.0 refl) refl)
    (λ k d lt. let later = above k d lt in rw (ne_eqb e.0 (slice_index_or es k d).0 (λ same. absurd (omega arith)))
    (rest k d lt))

pairs-stand : (pid : ℕ) (es : List (ℕ × TracedLwp)) (P : ℕ × ℕ → Type 0) → All (λ (e : ℕ × TracedLwp). P (pid, e.0)) es
    → All P (pairs_of pid es)
pairs-stand pid [] P all = All-nil P
pairs-stand pid (e ∷ es) P all =
    All-cons P (pid, e.0) (pairs_of pid es) (All-head (λ (d : ℕ × TracedLwp). P (pid, d.0)) e es all)
    (pairs-stand pid es P (All-tail (λ (d : ℕ × TracedLwp). P (pid, d.0)) e es all))

in-stands : (s : TracedSystem) (e : ℕ × TracedProcess) → process_of s e.0 ≡ Some e.1 → IsRising e.1.lwps
    → All (Stands s) (lwps_in e)
unfolding lwps_in Stands live_process
in-stands s e here rises =
    elim (cases_Bool (is_none e.1.ended)) [
      | inl live ↦ rw live
          (let own : live_process s e.0 ≡ Some e.1 = rw
          (here, live) refl in let each =
          under-each 0 e.1.lwps rises in pairs-stand e.0 e.1.lwps (Stands s)
          (λ k d lt. (e.1, (own, rw (each k d lt) refl))))
      | inr ended ↦ rw ended (All-nil (Stands s))
    ]

among-stand : (s : TracedSystem) (es : List (ℕ × TracedProcess))
    → All (λ (e : ℕ × TracedProcess). process_of s e.0 ≡ Some e.1) es → All IsLawfulProcess es
    → All (Stands s) (lwps_among es)
among-stand s [] here lawful = All-nil (Stands s)
among-stand s (e ∷ es) here lawful =
    let own : IsLawfulProcess e = All-head IsLawfulProcess e es lawful in
    All-append (Stands s) (lwps_in e) (lwps_among es)
    (in-stands s e (All-head (λ (d : ℕ × TracedProcess). process_of s d.0 ≡ Some d.1) e es here) own.rising)
    (among-stand s es (All-tail (λ (d : ℕ × TracedProcess). process_of s d.0 ≡ Some d.1) e es here)
    (All-tail IsLawfulProcess e es lawful))

pub next-is : (s : TracedSystem) (after : Option (ℕ × ℕ)) (x : ℕ × ℕ) → IsLawfulSystem s → next_lwp s after ≡ Some x
    → IsNext s after x
unfolding next_lwp live_lwps Stands
next-is s after x lawful found =
    let there =
    All-find (Stands s) (is_after after) (lwps_among s.processes) x
    (among-stand s s.processes (under-each 0 s.processes lawful.rising) lawful.processes) found in
    record {
      process = there.0;
      live = there.1.0;
      stands = there.1.1;
      after_it = find-passes (is_after after) (lwps_among s.processes) x found;
      least =
          found-least after (lwps_among s.processes) x
          (among-sorted 0 s.processes lawful.rising lawful.processes) found;
    }

none-passes-all : {X : Type 0} (p : X → Bool) (xs : List X) → find p xs ≡ None → All (λ x. p x ≡ false) xs
none-passes-all {X} p [] none = All-nil (λ (x : X). p x ≡ false)
none-passes-all {X} p (x ∷ xs) none =
    elim (cases_Bool (p x)) [
      | inl is ↦ let found : Some x ≡ None = rw is at none in cc
      | inr is_not ↦ All-cons
          (λ (y : X). p y ≡ false) x xs is_not (none-passes-all p xs (rw is_not at none))
    ]

-- where there is no next one, no lwp comes after that one
pub next-none : (s : TracedSystem) (after : Option (ℕ × ℕ)) → next_lwp s after ≡ None
    → All (λ x. is_after after x ≡ false) (live_lwps s)
unfolding next_lwp
next-none s after none = none-passes-all (is_after after) (live_lwps s) none

pub ruleset nexts = (next-is, next-none)
