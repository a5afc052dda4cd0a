use Rattle.std.proofs.Common.{ap, length, nat_lt, take}
use Rattle.pr_truss.proofs.TextLemmas.{lies_in_front, front_fits, front_shown}
use Rattle.pr_truss.proofs.texts.MemoryRead.new.Goals as goal

pub invariant_of-result : goal.invariant_of-result
invariant_of-result c =
    rw c.copy_from_slice.ensures.after
    (lies_in_front (take c.min.result c.args.read.now) (front_fits c.args.read.now c.min.result c.min.ensures))

pub returns : goal.returns
returns c =
    rw c.copy_from_slice.ensures.after
    (ap (λ bytes. (bytes, nat_lt (length c.args.read.now) c.args.asked))
    (front_shown c.args.read.now _ c.min.result c.min.ensures))
