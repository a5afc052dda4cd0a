use Rattle.pr_parts.specs.PendingSignals.{without_signals}
use Rattle.pr_parts.proofs.PendingLemmas.{IsPendings-without_signals}
use Rattle.pr_sig.proofs.places.Places.remove_all.Goals as goal

pub invariant_of-self : goal.invariant_of-self
unfolding without_signals
invariant_of-self c =
    rw (c.clear_places.ensures, c.remaining-self-inside.ensures, c.as_slice.ensures.value)
    (IsPendings-without_signals c.args.signals _ c.self.invariant)
