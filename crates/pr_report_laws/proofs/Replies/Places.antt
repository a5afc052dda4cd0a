use Rattle.std.proofs.Common.{◌≡◌, ◌≢◌, ◌==◌, ◌&&◌, ◌<◌, not, nat_lt, ℕ, Bool, true, false, cond, Option, Some, None, length, refl, sym, subst, ap, ap₂, ◌∙◌, inl, inr}
use Rattle.std.proofs.lemmas.Bool.{and_left, and_parts, and_right, cases_Bool, eqb-true, false≢true}
use Rattle.std.proofs.lemmas.List.{get_or-set_other, length-set}
use Rattle.std.proofs.lemmas.List.Folds.{position_or_len-set}
use Rattle.std.proofs.lemmas.List.Quantifiers.{position-Some}
use Rattle.pr_truss.specs.Openings.{with_stop_seen}
use Rattle.pr_truss.specs.Trusses.{TrussState, nobody, traced_at, with_traced}
use Rattle.pr_truss.specs.declared.processes.Traced.{Traced}
use Rattle.pr_report_laws.proofs.Replies.Orderly.{IsOrderly}
use Rattle.pr_report_laws.specs.Watching.{is_away, is_of, place_of, watches, watches_at}

-- The place of a process among those that truss traces, and whether truss watches it there.

module _ (t : TrussState) (pid : ℕ) where
  -- it has a place, or none
  pub by-place : (P : Type 0) → (place_of t pid ≡ None → P) → ((place : ℕ) → place_of t pid ≡ Some place → P) → P
  by-place P none some = by (place_of t pid) refl
    where
      by : (x : Option ℕ) → place_of t pid ≡ x → P
      by None is = none is
      by (Some place) is = some place is

  pub unwatched-none : place_of t pid ≡ None → watches t pid ≡ false
  unfolding watches
  unwatched-none at = ap (watches_at t) at

  module _ (place : ℕ) (at : place_of t pid ≡ Some place) where
    pub place-within : place < length t.traced
    place-within = let found = position-Some (is_of pid) t.traced place nobody at in found.0

    pub place-pid : (traced_at t place).pid ≡ pid
    place-pid =
        let found = position-Some (is_of pid) t.traced place nobody at in
        eqb-true (traced_at t place).pid pid found.1

    watched-at : watches t pid ≡ ((traced_at t place).attached && not (is_away t.leaving t.stage place))
    unfolding watches
    watched-at = ap (watches_at t) at

    pub unwatched-off : (traced_at t place).attached ≡ false → watches t pid ≡ false
    unwatched-off off = watched-at ∙ and_left _ _ off

    pub unwatched-away : is_away t.leaving t.stage place ≡ true → watches t pid ≡ false
    unwatched-away away = watched-at ∙ and_right (traced_at t place).attached _ (ap not away)

    pub watched-on : watches t pid ≡ true → (traced_at t place).attached ≡ true
    watched-on watched = (and_parts _ _ (sym watched-at ∙ watched)).0

    pub watched-here : watches t pid ≡ true → is_away t.leaving t.stage place ≡ false
    watched-here watched =
        by (is_away t.leaving t.stage place) (and_parts (traced_at t place).attached _ (sym watched-at ∙ watched)).1
      where
        by : (b : Bool) → not b ≡ true → b ≡ false
        by true is = sym is
        by false is = refl

    -- one that is not watched, though truss is not about to leave it, is not attached
    pub unwatched-on : ((traced_at t place).attached ≡ true → is_away t.leaving t.stage place ≡ false)
        → watches t pid ≡ false → (traced_at t place).attached ≡ false
    unwatched-on here unwatched = elim (cases_Bool (traced_at t place).attached) [
      | inl on ↦ absurd (false≢true (sym unwatched ∙ watched-at
          ∙ ap (λ b. b && not (is_away t.leaving t.stage place)) on ∙ ap not (here on)))
      | inr off ↦ off
    ]

-- a process becomes another one of the same id
pub place-set : (t : TrussState) (place pid : ℕ) (x : Traced) → x.pid ≡ (traced_at t place).pid
    → place_of (with_traced t place x) pid ≡ place_of t pid
place-set t place pid x same =
    ap₂ (λ (n m : ℕ). cond (nat_lt n m) (Some n) None)
    (position_or_len-set (is_of pid) t.traced place x nobody (ap (λ n. n == pid) same))
    (length-set t.traced place x)

-- a stop of a process was looked at
module _ (t : TrussState) (place : ℕ) where
  pub seen-places : (pid : ℕ) → place_of (with_stop_seen t place) pid ≡ place_of t pid
  unfolding with_stop_seen
  seen-places pid = place-set t place pid (record (traced_at t place) { seen = true }) refl

  pub seen-others : (other : ℕ) → other ≢ place → traced_at (with_stop_seen t place) other ≡ traced_at t other
  unfolding with_stop_seen
  seen-others other apart_from =
      get_or-set_other t.traced place other (record (traced_at t place) { seen = true }) nobody apart_from

-- in a state in order, the process at a place has that place
pub place-own : (t : TrussState) (place pid : ℕ) → IsOrderly t → place < length t.traced
    → (traced_at t place).pid ≡ pid → place_of t pid ≡ Some place
place-own t place pid orderly within own = subst (λ n. place_of t n ≡ Some place) own (orderly.one place within)

-- the place of another process is another place
pub place-other : (t : TrussState) (place other pid : ℕ) → (traced_at t place).pid ≢ pid → place_of t pid ≡ Some other
    → other ≢ place
place-other t place other pid apart at same =
    apart (subst (λ n. (traced_at t n).pid ≡ pid) same (place-pid t pid other at))
