use Rattle.std.proofs.Common.{◌∙◌, ap, sym}
use Rattle.pr_parts.specs.PendingSignals.{pending_set}
use Rattle.pr_parts.proofs.PendingLemmas.{pending_set-nothing}
use Rattle.pr_sig.proofs.pending.Pendings.clear.Goals as goal

pub invariant_of-self : goal.invariant_of-self
invariant_of-self c = c.empty-self-inside.ensures ∙ sym (ap pending_set c.clear.ensures ∙ pending_set-nothing)
