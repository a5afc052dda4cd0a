use Rattle.pr_parts.proofs.PendingLemmas.{pending-signal, pending_set-lt, pending_set-added, pending_set-without_gone, pending_set-without_left, pending_set-without_signals}
use Rattle.pr_sig.proofs.laws.pending_sets.Goals as goal

pub returns : goal.returns
returns c = record {
  members = pending-signal;
  signals = pending_set-lt;
  added = pending_set-added;
  gone = pending_set-without_gone;
  left = pending_set-without_left;
  deleted = pending_set-without_signals;
}
