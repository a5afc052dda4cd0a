use Rattle.pr_parts.proofs.PendingLemmas.{IsPendings-without_pair}
use Rattle.pr_sig.proofs.places.Places.remove_one.Goals as goal

pub invariant_of-self-else-is_standard : goal.invariant_of-self-else-is_standard
invariant_of-self-else-is_standard c =
    rw c.remove_first.ensures (IsPendings-without_pair c.args.s _ c.self.invariant)
