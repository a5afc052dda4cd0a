use Rattle.std.proofs.Common.{◌≡◌}
use Rattle.pr_lock.proofs.seats.Shared.enter.Given as goal

abbrev pub invariant-loop : goal.invariant-loop
invariant-loop g l =
    record {
      can : (goal.iterator-loop g).can_next l.iterator';
      finite : (goal.iterator-loop g).is_finite l.iterator';
      table : l.seat.seat.table_id ≡ l.fn.seat.seat.table_id;
      me : l.seat.seat.me ≡ l.fn.seat.seat.me;
    }
