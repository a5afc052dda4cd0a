use Rattle.std.proofs.Common.{arith, rules}
use Rattle.pr_io.specs.Known.{with_end}
use Rattle.pr_io.proofs.Counts.{counts}
use Rattle.pr_io.proofs.standard.StdSinkSink.TheImpl.Goals as goal

pub write-tells : goal.write-tells
unfolding with_end
write-tells g c = record {
  some = c.ensures.some;
  appended = search rules;
  kept = search rules;
  failed = grind (arith, counts);
  by_one = c.ensures.err;
  no_fault = c.ensures.ok;
  never_falls = grind (arith, counts);
}
