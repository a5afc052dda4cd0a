-- What contracts say of a seat and its lock.
use Rattle.std.specs.Prelude.{◌≡◌, ℕ, ◌<◌, Bool, false, None, Some, unwrap_or, List, [], ◌∷◌}
use Rattle.pr_lock.specs.declared.seats.Seat.{Seat}
use Rattle.pr_lock.specs.declared.seats.Shared.{Shared}

module _ {V I : Type 0} where
  -- the value that the lock was made with
  abbrev pub first_of : Shared V I → V
  first_of lock = lock.table.shared.key.first.value

  -- how many shares all seats of the lock have
  abbrev pub seats_of : Shared V I → ℕ
  seats_of lock = lock.table.shared.key.seats

  -- the history that the seat has seen
  abbrev pub seen_of : Seat V I → List I
  seen_of seat = seat.seat.me.0.seen

  -- the entries that the seat added, in its order, each with its place in the history; behind them those of the seats
  -- that it took in
  abbrev pub own_of : Seat V I → List (ℕ × I)
  own_of seat = seat.seat.me.0.own

  -- whether the seat has seen that the value is over
  abbrev pub saw_over : Seat V I → Bool
  saw_over seat = seat.seat.me.0.over

  -- its shares of the lock
  abbrev pub shares_of : Seat V I → ℕ
  shares_of seat = seat.seat.me.0.shares

  -- the history of the value that it was given, between `enter` and `leave`
  abbrev pub entered_of : Seat V I → List I
  entered_of seat = unwrap_or seat.seat.me.0.entered []

  -- the seat is one of this lock, and not joined into another
  pub record IsAt (seat : Seat V I) (lock : Shared V I) : Type 0 where
    pub table : seat.seat.table_id ≡ lock.table.shared.table_id
    pub words : lock.table.shared.table_id.words ≡ 2
    pub slots : lock.table.shared.table_id.slots ≡ 1
    pub source : seat.seat.me.0.origin ≡ Some lock.table.shared.key
    pub begun : seat.seat.me.0.fresh ≡ false
    pub some : 0 < seat.seat.me.0.shares

  -- it is one of this lock, and not between `enter` and `leave`
  pub record IsOutside (seat : Seat V I) (lock : Shared V I) : Type 0 where
    pub at : IsAt seat lock
    pub holds_none : seat.seat.me.0.entered ≡ None
    pub no_slot : seat.seat.me.1 ≡ []

  -- it is one of this lock, and between `enter` and `leave`
  pub record IsInside (seat : Seat V I) (lock : Shared V I) : Type 0 where
    pub at : IsAt seat lock
    pub holds : seat.seat.me.0.entered ≡ Some (entered_of seat)
    pub slot : seat.seat.me.1 ≡ (0, None) ∷ []
