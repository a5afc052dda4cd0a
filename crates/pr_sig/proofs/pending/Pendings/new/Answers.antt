use Rattle.std.proofs.Common.{List, ◌∙◌, ap, sym}
use Rattle.pr_parts.specs.PendingSignals.{nothing_pending, pending_set}
use Rattle.pr_parts.specs.declared.signals.Queued.{Queued}
use Rattle.pr_parts.proofs.PendingLemmas.{pending_set-nothing}
use Rattle.pr_sig.proofs.pending.Pendings.new.Goals as goal

-- nothing is in the set where nothing stands
pub invariant_of-result-2 : goal.invariant_of-result-2
invariant_of-result-2 c =
    c.empty.ensures
    ∙ sym (ap (λ (q : List Queued). pending_set (record nothing_pending { queued = q })) c.new.ensures
    ∙ pending_set-nothing)
