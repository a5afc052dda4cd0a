use Rattle.pr_parts.proofs.PendingLemmas.{early_signal-stays}
use Rattle.pr_sig.proofs.laws.early_signals.Goals as goal

pub returns : goal.returns
returns c = early_signal-stays
