use Rattle.std.proofs.Common.{arith}
use Rattle.std.proofs.lemmas.Grind.{common_steps}
use Rattle.pr_io.proofs.Known.{ReadsAll-at_end, with_front-with_front}
use Rattle.pr_io.proofs.sources.read_all.Goals as goal

pub returns-then-n-eq0-clause-all : goal.returns-then-n-eq0-clause-all
returns-then-n-eq0-clause-all g c =
    let none = rw c.if-n-eq0.true at c.in_ok-n.ensures.moved in
    rw c.from_vec.ensures
    (ReadsAll-at_end _ _ _ _ c.loop-piece.invariant.front none (c.in_ok-n.ensures.end c.if-n-eq0.true))

pub loop-piece-preserved : goal.loop-piece-preserved
loop-piece-preserved g c = record {
  room = grind (arith, common_steps);
  front = grind (arith, with_front-with_front);
  faults = grind (arith, common_steps);
  reads = grind (arith, common_steps);
  bounded = omega arith;
}
