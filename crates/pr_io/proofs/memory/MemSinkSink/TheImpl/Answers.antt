use Rattle.std.proofs.Common.{arith}
use Rattle.std.proofs.lemmas.Grind.{common_steps}
use Rattle.pr_io.proofs.Counts.{counts}
use Rattle.pr_io.proofs.Known.{with_end-Some}
use Rattle.pr_io.proofs.memory.MemSinkSink.TheImpl.Goals as goal

pub write-tells : goal.write-tells
write-tells c = record {
  some = grind (arith, common_steps);
  appended = grind (arith, with_end-Some);
  kept = grind arith;
  failed = grind (arith, counts);
  by_one = grind arith;
  no_fault = grind (arith, common_steps);
  never_falls = grind (arith, counts);
}
