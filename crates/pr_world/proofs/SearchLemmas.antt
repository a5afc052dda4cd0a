use Rattle.std.proofs.Common.{◌≡◌, ◌<◌, ◌≤◌, ◌+◌, ◌-◌, ℕ, suc, Bool, true, false, Option, Some, None, [], ◌∷◌, length, cond, find, ◌∙◌, ap, arith}
use Rattle.std.specs.List.{range_with_len}
use Rattle.std.specs.Option.{option_map, option_or}
use Rattle.pr_model.specs.declared.events.Actor.TheVariants.{Controller}
use Rattle.pr_world.proofs.CallerLemmas.{cores-length}
use Rattle.pr_world.specs.Worlds.{WorldState, controller_acts, first_controller, from_controller, from_lwp}

-- A search through numbers from `k` below `n`, step by step.
range-more : (k n : ℕ) → k < n → range_with_len k (n - k) ≡ k ∷ range_with_len (k + 1) (n - (k + 1))
range-more k n h = of (n - k) (omega arith)
  where
    of : (m : ℕ) → m ≡ suc (n - (k + 1)) → range_with_len k m ≡ k ∷ range_with_len (k + 1) (n - (k + 1))
    of m e = ap (range_with_len k) e

range-none : (k n : ℕ) → n ≤ k → range_with_len k (n - k) ≡ []
range-none k n h = let e : n - k ≡ 0 = omega arith in ap (range_with_len k) e

pub search-here : (q : ℕ → Bool) (k n : ℕ) → k < n → q k ≡ true → find q (range_with_len k (n - k)) ≡ Some k
search-here q k n h passes =
    ap (find q) (range-more k n h)
    ∙ ap (λ (b : Bool). cond b (Some k) (find q (range_with_len (k + 1) (n - (k + 1))))) passes

pub search-on : (q : ℕ → Bool) (k n : ℕ) → k < n → q k ≡ false
    → find q (range_with_len k (n - k)) ≡ find q (range_with_len (k + 1) (n - (k + 1)))
search-on q k n h fails =
    ap (find q) (range-more k n h)
    ∙ ap (λ (b : Bool). cond b (Some k) (find q (range_with_len (k + 1) (n - (k + 1))))) fails

pub search-end : (q : ℕ → Bool) (k n : ℕ) → n ≤ k → find q (range_with_len k (n - k)) ≡ None
search-end q k n h = ap (find q) (range-none k n h)

pub ruleset searches = (search-here, search-on, search-end)

-- Behind the last controller the lwps come.
pub no_more-controllers : (w : WorldState) (k : ℕ) → length w.controllers ≤ k → from_controller w k ≡ from_lwp w None
unfolding from_controller first_controller
no_more-controllers w k past =
    ap (λ (o : Option ℕ). option_or (option_map Controller o) (from_lwp w None))
    (search-end (controller_acts w) k (length w.controllers) past)

pub ruleset rounds = (no_more-controllers, cores-length)
