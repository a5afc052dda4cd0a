use Rattle.pr_parts.proofs.SignalLemmas.{stop_signals-are, deleted_by-symmetric, deleted_by-itself, deleted_by-fault}
use Rattle.pr_sig.proofs.laws.stop_and_continue_delete_each_other.Goals as goal

pub returns : goal.returns
returns c = record {
  stop_signals = stop_signals-are;
  symmetric = deleted_by-symmetric;
  never_itself = deleted_by-itself;
  faults = deleted_by-fault;
}
