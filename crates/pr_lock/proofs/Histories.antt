-- Histories that begin others, and entries that stand in them.
use Rattle.std.proofs.Common.{◌≡◌, ℕ, zero, suc, ◌+◌, ◌<◌, ◌≤◌, Bool, true, false, List, [], ◌∷◌, ◌++◌, length, take, drop, slice_get, Some, All, cond, if◌then◌else◌, nat_lt, ◌==◌, sym, ap, refl, ◌∙◌, subst, arith, take_all, take-take, length-take, drop-drop, length-drop, add-zero, append-nil, append_assoc, ◌⊎◌, ⊎_elim, ltb-true, ltb-false}
use Rattle.std.proofs.lemmas.Bool.Decides.{nat_tests}
use Rattle.std.proofs.lemmas.Option.{none-some, slice_get_within}
use Rattle.std.specs.List.{enumerate_from}
use Rattle.std.proofs.lemmas.List.Elements.{All-nil, All-cons, All-weaker, All-push}
use Rattle.std.proofs.lemmas.List.Quantifiers.{all_pairs_push}
use Rattle.std.proofs.lemmas.List.Sums.{sum_by-cons}
use Rattle.pr_lock.specs.History.{StartsWith, StandIn, IsInOrder, added, longer, times_at}
use Rattle.pr_lock.specs.Rule.{one_if}

one_more : (n at : ℕ) → one_if (n == at) + one_if (nat_lt at n) ≡ one_if (nat_lt at (n + 1))
one_more n at = grind (arith, nat_tests)

module _ {I : Type 0} where
  pub StartsWith-itself : (xs : List I) → StartsWith xs xs
  StartsWith-itself xs = take_all (length xs) xs (omega arith)

  pub StartsWith-length : (xs seen : List I) → StartsWith xs seen → length seen ≤ length xs
  StartsWith-length xs seen h = omega (arith, length-take (length seen) xs, ap length h)

  pub StartsWith-longer : (xs ys seen : List I) → StartsWith xs seen → StartsWith ys xs → StartsWith ys seen
  StartsWith-longer xs ys seen h longer =
      sym (take-take (length seen) (length xs) ys (StartsWith-length xs seen h)) ∙ (ap (take (length seen)) longer ∙ h)

  pub StartsWith-whole : (xs seen : List I) → StartsWith xs seen → length xs ≤ length seen → seen ≡ xs
  StartsWith-whole xs seen h all = sym h ∙ take_all (length seen) xs all

  slice_get-take : (n : ℕ) (xs : List I) (k : ℕ) (x : I) → slice_get (take n xs) k ≡ Some x → slice_get xs k ≡ Some x
  slice_get-take zero xs k x e = absurd (none-some x e)
  slice_get-take (suc n) [] k x e = absurd (none-some x e)
  slice_get-take (suc n) (y ∷ ys) zero x e = e
  slice_get-take (suc n) (y ∷ ys) (suc k) x e = slice_get-take n ys k x e

  pub StandIn-longer : (xs ys : List I) (own : List (ℕ × I)) → StandIn xs own → StartsWith ys xs → StandIn ys own
  StandIn-longer xs ys own stand longer =
      All-weaker (λ e. slice_get xs e.0 ≡ Some e.1) (λ e. slice_get ys e.0 ≡ Some e.1)
      (λ e at. slice_get-take (length xs) ys e.0 e.1 (ap (λ l. slice_get l e.0) longer ∙ at)) own stand

  slice_get-drop : (n : ℕ) (xs : List I) → slice_get (drop n xs) 0 ≡ slice_get xs n
  slice_get-drop zero xs = refl
  slice_get-drop (suc n) [] = refl
  slice_get-drop (suc n) (x ∷ xs) = slice_get-drop n xs

  StandIn-enumerate_from : (history : List I) (n : ℕ) (xs : List I) → drop n history ≡ xs
      → StandIn history (enumerate_from n xs)
  StandIn-enumerate_from history n [] e = All-nil (λ e. slice_get history e.0 ≡ Some e.1)
  StandIn-enumerate_from history n (x ∷ xs) e =
      All-cons (λ e. slice_get history e.0 ≡ Some e.1) (n, x) (enumerate_from (n + 1) xs)
      (sym (slice_get-drop n history) ∙ ap (λ l. slice_get l 0) e)
      (StandIn-enumerate_from history (n + 1) xs (sym (drop-drop 1 n history) ∙ ap (drop 1) e))

  pub StandIn-added : (old history : List I) → StandIn history (added old history)
  StandIn-added old history = StandIn-enumerate_from history (length old) (drop (length old) history) refl

  times_at-enumerate_from : (at n : ℕ) (xs : List I)
      → times_at at (enumerate_from n xs) + one_if (nat_lt at n) ≡ one_if (nat_lt at (n + length xs))
  times_at-enumerate_from at n [] =
      let same : one_if (nat_lt at (n + 0)) ≡ one_if (nat_lt at n) = ap (λ k. one_if (nat_lt at k)) (add-zero n) in
      omega (arith, same)
  times_at-enumerate_from at n (x ∷ xs) =
      let here = sum_by-cons (λ (e : ℕ × I). cond (e.0 == at) 1 0) (n, x) (enumerate_from (n + 1) xs) in
      let later = times_at-enumerate_from at (n + 1) xs in
      let long : one_if (nat_lt at (n + 1 + length xs)) ≡ one_if (nat_lt at (n + length (x ∷ xs))) =
      ap (λ k. one_if (nat_lt at k)) (omega arith) in
      omega (arith, here, later, long, one_more n at)

  pub times_at-added : (at : ℕ) (old history : List I) → StartsWith history old
      → times_at at (added old history) + one_if (nat_lt at (length old)) ≡ one_if (nat_lt at (length history))
  times_at-added at old history h =
      times_at-enumerate_from at (length old) (drop (length old) history)
      ∙ ap (λ k. one_if (nat_lt at k))
      (omega (arith, length-drop (length old) history, StartsWith-length history old h))

  below_all : (n : ℕ) (own : List (ℕ × I)) (x : I) → All (λ e. e.0 < n) own
      → All (λ e. e.0 < n + 1) (own ++ (n, x) ∷ [])
  below_all n own x below =
      All-push (λ e. e.0 < n + 1) own (n, x)
      (All-weaker (λ e. e.0 < n) (λ e. e.0 < n + 1) (λ e lt. omega (arith, lt)) own below) (omega arith)

  -- entries that come behind all others keep the order
  IsInOrder-enumerate_from : (own : List (ℕ × I)) (n : ℕ) (xs : List I) → IsInOrder own → All (λ e. e.0 < n) own
      → IsInOrder (own ++ enumerate_from n xs)
  IsInOrder-enumerate_from own n [] order below = subst IsInOrder (sym (append-nil own)) order
  IsInOrder-enumerate_from own n (x ∷ xs) order below =
      subst IsInOrder (append_assoc own ((n, x) ∷ []) (enumerate_from (n + 1) xs))
      (IsInOrder-enumerate_from (own ++ (n, x) ∷ []) (n + 1) xs
      (all_pairs_push (λ one later. one.0 < later.0) own (n, x) order below) (below_all n own x below))

  pub IsInOrder-added : (old history : List I) (own : List (ℕ × I)) → StandIn old own → IsInOrder own
      → IsInOrder (own ++ added old history)
  IsInOrder-added old history own stand order =
      IsInOrder-enumerate_from own (length old) (drop (length old) history) order
      (All-weaker (λ e. slice_get old e.0 ≡ Some e.1) (λ e. e.0 < length old)
      (λ e at. slice_get_within old e.0 e.1 at) own stand)

  pub StartsWith-longer_of : (log one other : List I) → StartsWith log one → StartsWith log other
      → StartsWith log (longer one other)
  StartsWith-longer_of log one other is_one is_other = by_test (nat_lt (length one) (length other))
    where
      by_test : (test : Bool) → StartsWith log (if test then other else one)
      by_test true = is_other
      by_test false = is_one

  -- the longer one is the whole history, if one of the two is
  pub longer-whole : (log one other : List I) → StartsWith log one → StartsWith log other → (one ≡ log) ⊎ (other ≡ log)
      → longer one other ≡ log
  longer-whole log one other is_one is_other whole = by_test (nat_lt (length one) (length other)) refl
    where
      by_test : (test : Bool) → nat_lt (length one) (length other) ≡ test → (if test then other else one) ≡ log
      by_test true is =
          let shorter : length one < length other = ltb-true (length one) (length other) is in
          StartsWith-whole log other is_other
          (⊎_elim (λ e. omega (arith, ap length e, shorter)) (λ e. omega (arith, ap length e)) whole)
      by_test false is =
          let longer : length other ≤ length one = ltb-false (length one) (length other) is in
          StartsWith-whole log one is_one
          (⊎_elim (λ e. omega (arith, ap length e)) (λ e. omega (arith, ap length e, longer)) whole)
