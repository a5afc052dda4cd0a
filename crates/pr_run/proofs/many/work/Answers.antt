use Rattle.std.proofs.Common.{arith, refl}
use Rattle.pr_run.proofs.ManyLemmas.{all-begin, all-stopped}
use Rattle.pr_run.specs.ManyRuns.{first_world}
use Rattle.pr_run.proofs.many.work.Goals as goal

pub loop-init : goal.loop-init
loop-init g c = record {
  can = tt;
  finite = tt;
  some = omega (arith, c.max-threads.ensures);
  as_many = refl;
  duties =
      all-begin
      (first_world g.Q.Kernel.view c.args.lock.now) c.args.processors c.args.lock.now c.args.duties.now
      c.requires.duties;
}
