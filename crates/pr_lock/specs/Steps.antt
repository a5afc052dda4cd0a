-- What a step on the table makes of a seat, and what it tells it.
use Rattle.std.specs.Prelude.{◌≡◌, ℕ, ◌-◌, ◌+◌, ◌≢◌, ◌||◌, Bool, true, false, Option, None, Some, unwrap_or, IfSome, List, [], ◌∷◌, ◌++◌}
use Rattle.atomic_table.specs.Table.{Me, rest}
use Rattle.pr_lock.specs.declared.views.Origin.{Origin}
use Rattle.pr_lock.specs.declared.views.View.{View}
use Rattle.pr_lock.specs.History.{StartsWith, StandIn, IsInOrder, added, longer}

-- how many seats the lock was made for
abbrev pub shares_in : {V : Type 0} → Option (Origin V) → ℕ
shares_in None = 0
shares_in (Some made) = made.seats

module _ {V : Type 0} where
  -- whether the value that a seat holds is over
  abbrev pub carried_over : (V → Bool) → List (ℕ × Option V) → Bool
  carried_over over [] = false
  carried_over over (slot ∷ slots) = over_in slot.1
    where
      over_in : Option V → Bool
      over_in None = false
      over_in (Some value) = over value

module _ {V I : Type 0} where
  -- the first seat has all shares
  abbrev pub begun : View V I → View V I
  begun v = record v { fresh = false; shares = shares_in v.origin }

  -- the seat holds, has entered this history, and has seen whether the value is over
  abbrev pub holding : View V I → List I → Bool → View V I
  holding v log ended = record v { entered = Some log; over = ended }

  -- the seat has left with this history, what it added is its own, and it has seen whether the value is over
  abbrev pub departed : View V I → List I → Bool → View V I
  departed v log ended =
      record v { seen = log; own = v.own ++ added (unwrap_or v.entered []) log; entered = None; over = ended }

  -- a seat that gives a share away
  abbrev pub lessened : View V I → View V I
  lessened v = record v { shares = v.shares - 1 }

  -- the seat that gets it
  abbrev pub offspring : View V I → View V I
  offspring v =
      record { origin = v.origin; fresh = false; seen = v.seen; own = []; entered = None; over = v.over; shares = 1 }

  -- a seat that takes in another
  abbrev pub joined : View V I → View V I → View V I
  joined v w =
      record v
      { seen = longer v.seen w.seen; own = v.own ++ w.own; over = v.over || w.over; shares = v.shares + w.shares }

  -- what is left of the other
  abbrev pub spent : View V I
  spent = record { origin = None; fresh = false; seen = []; own = []; entered = None; over = false; shares = 0 }

  -- the first seat's step: no other came before it
  abbrev pub Begins : Me (Option V) (View V I) → ℕ → Me (Option V) (View V I) → Type 0
  Begins before found after = (found ≡ 0) × (after ≡ (begun before.0, before.1))

  -- the seat has taken the value: it stands for a history that begins with all that the seat had seen, in which the
  -- seat's own entries stand, and is over where the seat had seen that
  pub record HasTaken (entries : V → List I) (over : V → Bool) (comes : V → V → Type 0)
      (before after : Me (Option V) (View V I)) : Type 0 where
    pub value : V
    pub is : after ≡ (holding before.0 (entries value) (over value), (0, Some value) ∷ before.1)
    pub begins : StartsWith (entries value) before.0.seen
    pub stand : StandIn (entries value) before.0.own
    pub stays : before.0.over ≡ true → over value ≡ true
    pub source : IfSome before.0.origin (λ made. comes value made.first.value)

  -- a seat that tries: it has the value where it found the lock free, and else it is as it was
  pub record Tries (entries : V → List I) (over : V → Bool) (comes : V → V → Type 0) (before : Me (Option V) (View V I))
      (found : ℕ) (after : Me (Option V) (View V I)) : Type 0 where
    pub free : found ≡ 0 → HasTaken entries over comes before after
    pub taken : found ≢ 0 → after ≡ before

  -- the history of the value that the seat holds
  abbrev pub carried_entries : (V → List I) → List (ℕ × Option V) → List I
  carried_entries entries [] = []
  carried_entries entries (slot ∷ slots) = entries_in slot.1
    where
      entries_in : Option V → List I
      entries_in None = []
      entries_in (Some value) = entries value

  -- a seat that gives the value back: what it added stands behind all that it had added before
  pub record Leaves (entries : V → List I) (over : V → Bool) (before : Me (Option V) (View V I)) (found : ℕ)
      (after : Me (Option V) (View V I)) : Type 0 where
    pub is : after ≡ (departed before.0 (carried_entries entries before.1) (carried_over over before.1), rest before.1)
    pub order : IsInOrder before.0.own → IsInOrder after.0.own
