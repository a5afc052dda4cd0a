use Rattle.std.proofs.Common.{arith}
use Rattle.pr_asm.proofs.PlaceLemmas.{places-start, places-end}
use Rattle.pr_asm.proofs.places.Places.of.Goals as goal

pub loop-i-init : goal.loop-i-init
loop-i-init c = (
  omega arith,
  omega arith,
  places-start c.new-places.result c.args.first _ c.args.reads.now (omega arith) c.new-places.ensures,
)

pub returns : goal.returns
returns c =
    places-end c.loop-i.places c.loop-i.above _ c.args.first _ c.args.reads.now (omega arith) c.loop-i.invariant.2
