use Rattle.std.proofs.Common.{arith}
use Rattle.std.proofs.lemmas.Grind.{common_steps}
use Rattle.pr_io.proofs.Counts.{counts}
use Rattle.pr_io.proofs.InMemory.{left-read}
use Rattle.pr_io.proofs.memory.MemSourceSource.TheImpl.Goals as goal

pub read-tells : goal.read-tells
read-tells c = record {
  fits = c.ensures.fits;
  moved = left-read c.result c.new.buf.now c.args.self.now c.new.self.now c.ensures.bytes c.ensures.ok;
  end = grind (arith, common_steps);
  kept = grind arith;
  failed = grind (arith, counts);
  by_one = grind arith;
  no_fault = grind (arith, common_steps);
  never_falls = grind (arith, counts);
  counted = grind (arith, counts);
}
