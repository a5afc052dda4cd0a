use Rattle.std.proofs.Common.{◌≡◌, ◌+◌, [], All, vec_len}
use Rattle.pr_lock.specs.Seats.{IsOutside, own_of, shares_of}
use Rattle.pr_run.specs.ManyRuns.{IsNew}
use Rattle.pr_run.proofs.many.duties_of.Given as goal

abbrev pub invariant-loop : goal.invariant-loop
invariant-loop g l = record {
  seat : IsOutside l.seat l.lock;
  shares : shares_of l.seat + l.counter ≡ l.fn.workers + 1;
  own : own_of l.seat ≡ [];
  workers : All (IsNew l.lock) l.duties.items;
  count : vec_len l.duties ≡ l.counter;
}
