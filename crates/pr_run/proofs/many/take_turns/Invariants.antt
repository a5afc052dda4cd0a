use Rattle.pr_run.specs.ManyRuns.{IsOnDuty, first_world}
use Rattle.pr_run.proofs.many.take_turns.Given as goal

abbrev pub invariant-loop : goal.invariant-loop
invariant-loop g l = record {
  can : (goal.iterator-loop g).can_next l.iterator';
  finite : (goal.iterator-loop g).is_finite l.iterator';
  duty : IsOnDuty (first_world g.Q.Kernel.view l.lock) l.worker.processors l.lock l.worker.number l.duty;
}
