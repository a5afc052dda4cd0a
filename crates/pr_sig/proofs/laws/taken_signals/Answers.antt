use Rattle.pr_parts.proofs.SignalLemmas.{pending-taken, unheld-taken}
use Rattle.pr_sig.proofs.laws.taken_signals.Goals as goal

pub returns : goal.returns
returns c = record { pending = pending-taken; unheld = unheld-taken }
