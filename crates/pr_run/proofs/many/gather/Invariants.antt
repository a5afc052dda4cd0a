use Rattle.std.proofs.Common.{◌≡◌, ◌+◌, ◌++◌, ◌||◌, All, flat_map, length}
use Rattle.std.specs.List.{list_any}
use Rattle.pr_lock.specs.Seats.{IsOutside, own_of, saw_over, shares_of}
use Rattle.pr_run.proofs.many.gather.Given as goal

-- what is to come is to be taken in
abbrev pub invariant-loop-duty : goal.invariant-loop-duty
invariant-loop-duty g l = record {
  can : (goal.iterator-loop-duty g).can_next l.duty-iterator;
  finite : (goal.iterator-loop-duty g).is_finite l.duty-iterator;
  seat : IsOutside l.seat l.lock;
  rest : All (λ duty. IsOutside duty.seat l.lock × (shares_of duty.seat ≡ 1)) l.duty-iterator.rest.items;
  shares : shares_of l.seat + length l.duty-iterator.rest.items ≡ shares_of l.fn.seat + length l.fn.duties.items;
  own : own_of l.seat ++ flat_map (λ duty. own_of duty.seat) l.duty-iterator.rest.items
      ≡ own_of l.fn.seat ++ flat_map (λ duty. own_of duty.seat) l.fn.duties.items;
  over : (saw_over l.seat || list_any (λ duty. saw_over duty.seat) l.duty-iterator.rest.items)
      ≡ (saw_over l.fn.seat || list_any (λ duty. saw_over duty.seat) l.fn.duties.items);
}
