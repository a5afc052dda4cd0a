-- The rule of the lock, over two words, one slot and what all seats know. Word 0 is 1 while a seat is between `enter`
-- and `leave`, and else 0. Where it is 0 the slot has the value, which stands for the one history; where it is 1 one
-- seat has entered that history, and nothing is said of the slot. Word 1 is 0 until the first seat has its shares, and
-- 1 from then on. So the first seat's swap finds 0, and the shares of all seats add up to the lock's from then on. Each
-- seat has seen a beginning of the history, and some seat all of it. Each place of the history is the own entry of one
-- seat, and of one alone. Where a seat has seen that the value is over, it is; and the seat that has entered knows
-- whether it is. A seat that was dropped stays among the seats.
use Rattle.std.specs.Prelude.{◌≡◌, ℕ, ◌+◌, ◌<◌, Bool, true, false, Option, None, Some, is_some, IfSome, List, [], ◌∷◌, length, sum_by, if◌then◌else◌, nat_lt}
use mathlib.Core.Option.{some}
use mathlib.Core.Option as logic
use lib.ListN.{get_elem?}
use Rattle.atomic_table.specs.Table.{State}
use Rattle.pr_lock.specs.declared.views.Origin.{Origin}
use Rattle.pr_lock.specs.declared.views.View.{View}
use Rattle.pr_lock.specs.History.{StartsWith, StandIn, times_at}

abbrev pub one_if : Bool → ℕ
one_if b = if b then 1 else 0

-- the first seat of a lock, which has no share yet
abbrev pub newcomer : {V I : Type 0} → Origin V → View V I
newcomer made =
    record { origin = Some made; fresh = true; seen = []; own = []; entered = None; over = false; shares = 0 }

module _ {V I : Type 0} where
  -- what a seat knows is true of the lock, its history, and whether its value is over
  pub record Fits (made : Origin V) (log : List I) (ended : Bool) (v : View V I) : Type 0 where
    pub source : IfSome v.origin (λ o. o ≡ made)
    pub inside : IfSome v.entered (λ l. l ≡ log)
    pub begins : StartsWith log v.seen
    pub stand : StandIn log v.own
    pub saw : v.over ≡ true → ended ≡ true
    pub knows : IfSome v.entered (λ _. v.over ≡ ended)
    -- a seat without a share does not hold, and has seen and added nothing
    pub idle : v.shares ≡ 0 → (v.entered ≡ None) × (v.own ≡ []) × (v.seen ≡ [])

  module _ (entries : V → List I) (over : V → Bool) (comes : V → V → Type 0) (made : Origin V) where
    -- the slot has the value, which stands for the whole history
    pub record IsAtHome (log : List I) (ended : Bool) (slot : logic.Option (Option V)) : Type 0 where
      pub value : V
      pub is : slot ≡ some (Some value)
      pub stands : entries value ≡ log
      pub ends : over value ≡ ended
      pub source : comes value made.first.value

    -- what is true of the table between any two steps
    pub record KeepsRule (s : State (Option V) (View V I)) : Type 0 where
      pub log : List I
      pub ended : Bool
      pub held : ℕ
      pub begun : ℕ
      pub slot : logic.Option (Option V)
      pub words : s.words ≡ held ∷ begun ∷ []
      pub homes : s.homes ≡ slot ∷ []
      pub bit : held < 2
      -- word 0 counts the seats that hold
      pub inside : sum_by (λ (v : View V I). one_if (is_some v.entered)) s.views ≡ held
      pub at_home : held ≡ 0 → IsAtHome log ended slot
      pub fits : (seat : ℕ) (v : View V I) → get_elem? s.views seat ≡ some v → Fits made log ended v
      -- some seat has seen the whole history
      pub whole : (seat : ℕ) × (v : View V I) × (get_elem? s.views seat ≡ some v) × (v.seen ≡ log)
      -- each place of the history is some one seat's own
      pub once : (place : ℕ)
          → sum_by (λ (v : View V I). times_at place v.own) s.views ≡ one_if (nat_lt place (length log))
      -- word 1 is 1 once no seat is fresh
      pub opened : sum_by (λ (v : View V I). one_if v.fresh) s.views + begun ≡ 1
      pub before : begun ≡ 0 → sum_by (λ (v : View V I). v.shares) s.views ≡ 0
      pub after : begun ≡ 1 → sum_by (λ (v : View V I). v.shares) s.views ≡ made.seats
