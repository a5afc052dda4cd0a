use Rattle.pr_parts.proofs.PendingLemmas.{info_of-added_alone, info_of-added_standing, info_of-added_fault, info_of-without_standard}
use Rattle.pr_sig.proofs.laws.information_of_signals.Goals as goal

pub returns : goal.returns
returns c = record {
  first = info_of-added_alone;
  stays = info_of-added_standing;
  fault = info_of-added_fault;
  taken = info_of-without_standard;
}
