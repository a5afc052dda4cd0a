use Rattle.std.proofs.Common.{◌≡◌, ◌<◌, length}
use Rattle.pr_run.specs.ManyRuns.{AtPlaces, IsOnDuty, first_world}
use Rattle.pr_run.proofs.many.work.Given as goal

abbrev pub invariant-loop : goal.invariant-loop
invariant-loop g l = record {
  can : (goal.iterator-loop g).can_next l.iterator';
  finite : (goal.iterator-loop g).is_finite l.iterator';
  some : 0 < l.threads;
  as_many : length l.duties ≡ length l.fn.duties;
  duties : AtPlaces (IsOnDuty (first_world g.Q.Kernel.view l.lock) l.processors l.lock) l.duties;
}
