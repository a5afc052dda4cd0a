use Rattle.std.proofs.Common.{arith, rules}
use Rattle.pr_io.specs.Known.{with_front}
use Rattle.pr_io.proofs.Counts.{counts}
use Rattle.pr_io.proofs.standard.StdSourceSource.TheImpl.Goals as goal

pub read-tells : goal.read-tells
unfolding with_front
read-tells g c = record {
  fits = c.ensures.fits;
  moved = search rules;
  end = search rules;
  kept = search rules;
  failed = grind (arith, counts);
  by_one = c.ensures.err;
  no_fault = c.ensures.ok;
  never_falls = grind (arith, counts);
  counted = omega arith;
}
